-- What holds of bidual bicomplexes. (Barakat, "Spectral Filtrations via Generalized Morphisms".)
use Rattle.std.specs.Prelude.{ℕ}
use Rattle.sf_algebra.specs.Matrices.{Matrix, IsMatrix}
use Rattle.sf_algebra.specs.Rings.{IsOverField}
use Rattle.sf_bicomplex.specs.Bicomplexes.{IsBicomplex}
use Rattle.sf_bidual.specs.Bidual.{IsBidualOf, bidual}
use Rattle.sf_bidual.specs.CartanEilenberg.{CartanEilenberg}

-- they are bicomplexes
abbrev pub IsBidualBicomplex : Type 0
IsBidualBicomplex =
    (relations : Matrix) (n : ℕ) (steps : ℕ → Matrix) (x : CartanEilenberg) → IsOverField relations.ring
    → IsMatrix relations → IsBidualOf relations n steps x → IsBicomplex (bidual relations.ring n x)
