-- Pages, differentials and the filtration of homology of groups in columns, in the coordinates of one column and modulo
-- relations. (Weibel, "An Introduction to Homological Algebra", sections 5.4 and 5.6.)
use Rattle.std.specs.Prelude.{ℕ, suc, ◌+◌, ◌-◌}
use Rattle.sf_algebra.specs.Groups.{Whole}
use Rattle.sf_chase.specs.Columns.{ColumnOf, Columned}
use Rattle.sf_chase.specs.Filtrations.{AreLinked, NearImageOf}

-- what is equal modulo relations to an element below column j
abbrev pub NearBelow : {R : Type 0} (X : Columned R) → ℕ → X.group.V → Type 0
NearBelow X j = NearImageOf X.group (λ v. v) (X.below j) X.relations

-- an element below column t whose image is below column s, modulo relations
abbrev pub FallsBelow : {R : Type 0} (X Y : Columned R) → (X.group.V → Y.group.V) → (t s : ℕ) → X.group.V → Type 0
FallsBelow X Y d t s v = X.below t v × NearBelow Y s (d v)

-- cycles of a page at column j: the columns of elements that fall below column s, modulo the relations of the column
abbrev pub ColumnCycles : {R : Type 0} (X Y : Columned R) → (X.group.V → Y.group.V) → (j s : ℕ) → (C : ColumnOf X j)
    → C.group.V → Type 0
ColumnCycles X Y d j s C = NearImageOf C.group C.taken (FallsBelow X Y d (suc j) s) C.relations

-- boundaries of a page at column j: the columns of images up to there of elements below column t
abbrev pub ColumnBoundaries : {R : Type 0} (X Y : Columned R) → (X.group.V → Y.group.V) → (t j : ℕ)
    → (C : ColumnOf Y j) → C.group.V → Type 0
ColumnBoundaries X Y d t j C = NearImageOf C.group (λ v. C.taken (d v)) (FallsBelow X Y d t (suc j)) C.relations

-- w in column i stands for the differential of u in column j: it is equal modulo boundaries to the column i of the
-- image of an element with the column u that falls to column i
abbrev pub HasColumnDifferential : {R : Type 0} (X Y : Columned R) → (X.group.V → Y.group.V) → (j i : ℕ)
    → (C : ColumnOf X j) (D : ColumnOf Y i) → C.group.V → D.group.V → Type 0
HasColumnDifferential X Y d j i C D =
    AreLinked C.group D.group C.taken (λ v. D.taken (d v)) (FallsBelow X Y d (suc j) (suc i)) C.relations
    (ColumnBoundaries X Y d j i D)

-- images modulo relations
abbrev pub ImagesModulo : {R : Type 0} (X Y : Columned R) → (X.group.V → Y.group.V) → Y.group.V → Type 0
ImagesModulo X Y d = NearImageOf Y.group d Whole Y.relations

-- cycles modulo relations that stand below column j
abbrev pub CyclesBelow : {R : Type 0} (Y W : Columned R) → (Y.group.V → W.group.V) → (j : ℕ) → Y.group.V → Type 0
CyclesBelow Y W e j v = Y.below j v × W.relations (e v)

-- the part of the homology below column j, in coordinates: combinations that are equal modulo images to a cycle there
abbrev pub IsInPart : {R V : Type 0} (X Y W : Columned R) → (X.group.V → Y.group.V) → (Y.group.V → W.group.V)
    → (V → Y.group.V) → (j : ℕ) → V → Type 0
IsInPart X Y W d e combined j c =
    NearImageOf Y.group (λ v. v) (CyclesBelow Y W e j) (ImagesModulo X Y d) (combined c)

-- z is a column j of the combination c: that of a cycle up to column j which is equal to it modulo images
abbrev pub HasColumn : {R V : Type 0} (X Y W : Columned R) → (X.group.V → Y.group.V) → (Y.group.V → W.group.V)
    → (V → Y.group.V) → (j : ℕ) → (C : ColumnOf Y j) → V → C.group.V → Type 0
HasColumn X Y W d e combined j C c z =
    AreLinked Y.group C.group (λ v. v) C.taken (CyclesBelow Y W e (suc j)) (ImagesModulo X Y d) C.relations
    (combined c) z

-- cycles of page r at column j: an element up to there falls by r columns
abbrev pub CyclesOfPage : {R : Type 0} (X Y : Columned R) → (X.group.V → Y.group.V) → (r j : ℕ) → (C : ColumnOf X j)
    → C.group.V → Type 0
CyclesOfPage X Y d r j = ColumnCycles X Y d j (suc j - r)

-- boundaries of page r at column j: they come from less than r columns higher
abbrev pub BoundariesOfPage : {R : Type 0} (X Y : Columned R) → (X.group.V → Y.group.V) → (r j : ℕ)
    → (C : ColumnOf Y j) → C.group.V → Type 0
BoundariesOfPage X Y d r j = ColumnBoundaries X Y d (j + r) j

-- the differential of page r to column i, from the column that is r columns higher
abbrev pub HasDifferentialOfPage : {R : Type 0} (X Y : Columned R) → (X.group.V → Y.group.V) → (r i : ℕ)
    → (C : ColumnOf X (i + r)) (D : ColumnOf Y i) → C.group.V → D.group.V → Type 0
HasDifferentialOfPage X Y d r i = HasColumnDifferential X Y d (i + r) i
