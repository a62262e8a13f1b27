-- The filtration of homology against a page by its number: from the page on whose number is above each column, the page
-- at a column is the part of homology there less the next lower one.
use Rattle.std.proofs.Common.{ℕ, suc, ◌+◌, ◌≤◌, sym, subst}
use Rattle.sf_algebra.specs.Groups.{Group, IsMap, Mod}
use Rattle.sf_algebra.proofs.Operators.Congruences.{Mod-inside, Mod-refl}
use Rattle.sf_algebra.proofs.Operators.Correspondences.{IsCorrespondence, IsMapOfClasses, converse}
use Rattle.sf_chase.specs.ColumnPages.{BoundariesOfPage, ColumnBoundaries, ColumnCycles, CyclesOfPage, HasColumn, ImagesModulo, IsInPart}
use Rattle.sf_chase.specs.Columns.{ColumnOf, Columned, IsColumnComplex, IsDifferential}
use Rattle.sf_chase.proofs.Columns.Numbers.{BoundariesOfPage-at_last, BoundariesOfPage-last, CyclesOfPage-at_last, CyclesOfPage-last}
use Rattle.sf_chase.proofs.Filtrations.ColumnParts.{HasColumn-classes, HasColumn-classes_back, HasColumn-correspondence, ImagesModulo-sub}
use Rattle.sf_chase.proofs.Links.{classes-within, correspondence-within}

module _ {R : Type 0} (X Y W : Columned R) (d : X.group.V → Y.group.V) (e : Y.group.V → W.group.V)
    (first : IsDifferential X Y d) (second : IsDifferential Y W e) (complex : IsColumnComplex X Y W d e) (G : Group R)
    (combined : G.V → Y.group.V) (map : IsMap G Y.group combined) (j r : ℕ) (past : suc j ≤ r) (C : ColumnOf Y j) where
  abbrev part : ℕ → G.V → Type 0
  part = IsInPart X Y W d e combined

  abbrev cycles : C.group.V → Type 0
  cycles = CyclesOfPage Y W e r j C

  abbrev boundaries : C.group.V → Type 0
  boundaries = BoundariesOfPage X Y d r j C

  pub last_page-correspondence : IsCorrespondence G C.group (IsInPart X Y W d e combined (suc j))
      (CyclesOfPage Y W e r j C)
      (HasColumn X Y W d e combined j C)
  last_page-correspondence =
      correspondence-within G C.group (part (suc j)) (part (suc j)) (ColumnCycles Y W e j 0 C) cycles
      (HasColumn X Y W d e combined j C) (λ c h. h) (CyclesOfPage-last Y W e second r j past C)
      (HasColumn-correspondence X Y W d e first second G combined map j C)

  module _ (top : ℕ) (all : (v : X.group.V) → X.below top v) where
    -- from parts of homology to the page
    pub last_page-there : top ≤ j + r
        → IsMapOfClasses (IsInPart X Y W d e combined (suc j)) (IsInPart X Y W d e combined j)
        (BoundariesOfPage X Y d r j C)
        (HasColumn X Y W d e combined j C)
    last_page-there enough =
        classes-within (part (suc j)) (part (suc j)) (part j) (part j) (ColumnBoundaries X Y d top j C) boundaries
        (HasColumn X Y W d e combined j C) (λ c h. h) (λ c h. h) (BoundariesOfPage-at_last X Y d first top r j enough C)
        (HasColumn-classes X Y W d e first second complex G combined map j top C all)

    -- and back
    pub last_page-back : ((v : Y.group.V) → W.relations (e v)
        → (c : G.V) × Mod Y.group (ImagesModulo X Y d) (combined c) v)
        → IsMapOfClasses (CyclesOfPage Y W e r j C) (BoundariesOfPage X Y d r j C) (IsInPart X Y W d e combined j)
        (converse (HasColumn X Y W d e combined j C))
    last_page-back generate =
        classes-within (ColumnCycles Y W e j 0 C) cycles (ColumnBoundaries X Y d top j C) boundaries (part j) (part j)
        (converse (HasColumn X Y W d e combined j C)) (CyclesOfPage-at_last Y W e second r j past C)
        (BoundariesOfPage-last X Y d first top r j all C) (λ c h. h)
        (HasColumn-classes_back X Y W d e first second complex G combined map j top C generate)

-- below the column 0 there is no homology
pub lowest_part : {R V : Type 0} (X Y W : Columned R) (d : X.group.V → Y.group.V) (e : Y.group.V → W.group.V)
    → IsDifferential X Y d → IsDifferential Y W e → (combined : V → Y.group.V) (c : V) → IsInPart X Y W d e combined 0 c
    → ImagesModulo X Y d (combined c)
lowest_part X Y W d e first second combined c h =
    let sub = ImagesModulo-sub X Y W d e first second in
    Mod-inside Y.group (ImagesModulo X Y d) sub (combined c) h.0 h.2
    (subst (ImagesModulo X Y d) (sym (Y.nothing_lower h.0 h.1.0)) sub.has_zero)

-- and where all columns take part there is all of it
pub highest_part : {R V : Type 0} (X Y W : Columned R) (d : X.group.V → Y.group.V) (e : Y.group.V → W.group.V)
    → IsDifferential X Y d → IsDifferential Y W e → (combined : V → Y.group.V) (top : ℕ)
    → ((v : Y.group.V) → Y.below top v) → (c : V) → W.relations (e (combined c)) → IsInPart X Y W d e combined top c
highest_part X Y W d e first second combined top all c cycle =
    let sub = ImagesModulo-sub X Y W d e first second in
    (combined c, (all (combined c), cycle), Mod-refl Y.group (ImagesModulo X Y d) sub (combined c))
