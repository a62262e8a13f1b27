-- The purity filtration of a presented module: the filtration by columns of the homology of its bidual bicomplex, in the
-- coordinates of the module itself. (Barakat, "Spectral Filtrations via Generalized Morphisms"; the coordinates are this
-- project's own.)
use Rattle.std.specs.Prelude.{ℕ, suc, pos, ◌+ℤ◌, ◌-ℤ◌}
use Rattle.sf_algebra.specs.Matrices.{Matrix}
use Rattle.sf_algebra.specs.Rings.{Ring}
use Rattle.sf_algebra.specs.Vectors.{Vector}
use Rattle.sf_groebner.specs.Presentations.{IsPresentation}
use Rattle.sf_groebner.specs.Spans.{InSpan}
use Rattle.sf_bicomplex.specs.InducedFiltrations.{HasLeadingColumn, IsOfPart}
use Rattle.sf_bicomplex.specs.Pages.{IsPage}
use Rattle.sf_bidual.specs.Bidual.{bidual, bidual_augmentation}
use Rattle.sf_bidual.specs.CartanEilenberg.{CartanEilenberg}

-- the vectors m for which m e is, modulo boundaries, a cycle of the k lowest columns; the lowest n + 1 - c columns are those
-- up to column -c, and no columns give the boundaries
abbrev pub IsOfPurity : Ring → ℕ → CartanEilenberg → (k : ℕ) → Vector → Type 0
IsOfPurity ring n x k =
    IsOfPart (bidual ring n x) (pos n +ℤ pos 1) (pos n) (pos n -ℤ pos 1) (bidual_augmentation ring n x) k

-- generators, modulo the relations of the module, of the vectors of the k lowest columns, and the relations of these
abbrev pub IsPuritySubmodule : Matrix → ℕ → CartanEilenberg → (k : ℕ) → Matrix → Matrix → Type 0
IsPuritySubmodule relations n x k =
    IsPresentation relations.ring relations.target (IsOfPurity relations.ring n x k) (InSpan relations)

-- the part of column p: the vectors of the columns up to p, modulo those of the columns below p
abbrev pub IsPurityPart : Matrix → ℕ → CartanEilenberg → (p : ℕ) → Matrix → Matrix → Type 0
IsPurityPart relations n x p =
    IsPresentation relations.ring relations.target (IsOfPurity relations.ring n x (suc p))
    (IsOfPurity relations.ring n x p)

-- the last page in column p
abbrev pub IsLastPage : Matrix → ℕ → CartanEilenberg → (p : ℕ) → Matrix → Matrix → Type 0
IsLastPage relations n x = IsPage (bidual relations.ring n x) (suc n) (pos n)

-- z is a column p of a cycle, up to there, that is equal to m e modulo boundaries
abbrev pub HasPurityColumn : Matrix → ℕ → CartanEilenberg → (p : ℕ) → Vector → Vector → Type 0
HasPurityColumn relations n x =
    HasLeadingColumn (bidual relations.ring n x) (pos n +ℤ pos 1) (pos n) (pos n -ℤ pos 1)
    (bidual_augmentation relations.ring n x)
