-- What a call over a table has met of the plan of coordinates, at each of its exits.
use Rattle.std.proofs.Common.{◌≡◌, ◌↔◌, ℕ, [], length, Bool, if◌then◌else◌, Option, Some, None, Err, Ok, true, false, sym, ap, subst}
use Rattle.std.specs.Prelude.{IsTrue}
use Rattle.sf_algebra.specs.Matrices.{Matrix}
use Rattle.sf_algebra.specs.MatrixOperations.{stacked, vector_part}
use Rattle.sf_algebra.specs.Vectors.{Vector, IsVector}
use Rattle.sf_groebner.specs.Reductions.{IsReduction}
use Rattle.sf_matrix.specs.declared.basis.BaseFault.TheVariants.{Memory}
use Rattle.sf_matrix.specs.declared.basis.BaseFault.{BaseFault}
use Rattle.sf_matrix.specs.Meets.{Looked, Meets}
use Rattle.sf_matrix.specs.Questions.{is_zero}
use Rattle.sf_matrix.specs.Tables.{Table}
use Rattle.sf_matrix.proofs.Plans.Rules.{asks_rest, look_cut, look_fails, look_then, meets_answer}
use Rattle.sf_matrix.proofs.Zeros.{is_zero-tests}
use Rattle.sf_genmor.specs.CoordinatePlans.{SpansRelationsModulo, TellsCoordinates, coordinates_plan}
use Rattle.sf_genmor.proofs.CoordinateAnswers.{coordinates_are, same_told}

module _ {t u : Table} (g base : Matrix) (v : Vector) {stack : Matrix} (same : stack ≡ stacked g base) where
  pub coordinates_failed : {fault : BaseFault} → Looked t stack (Err fault) u
      → Meets t (coordinates_plan g base v) (Err fault) u
  unfolding coordinates_plan
  coordinates_failed {fault} h = look_fails (subst (λ m. Looked t m (Err fault) u) same h)

  module _ {o : Option ℕ} (h : Looked t stack (Ok o) u) where
    here : Looked t (stacked g base) (Ok o) u
    here = subst (λ m. Looked t m (Ok o) u) same h

    pub coordinates_cut : Meets t (coordinates_plan g base v) (Err Memory) u
    unfolding coordinates_plan
    coordinates_cut = look_cut here

    coordinates_found : {w c : Vector} (empty : Bool) → IsVector g.ring g.target v → IsReduction stack v w c
        → IsTrue empty ↔ (w.terms ≡ [])
        → Meets t (coordinates_plan g base v) (Ok (if empty then Some (vector_part 0 (length g.rows) c) else None)) u
    unfolding coordinates_plan
    coordinates_found {w} {c} empty vector reduction tells =
        look_then here (λ elements. asks_rest here vector (subst (λ m. IsReduction m v w c) same reduction)
        (meets_answer
        (ap (λ (zero : Bool). if zero then Some (vector_part 0 (length g.rows) c) else None) (same_told (w.terms ≡ []) empty (is_zero w) tells (is_zero-tests w.terms)))))

    -- nothing is left, or something
    pub coordinates_some : {w c d : Vector} → IsVector g.ring g.target v → IsReduction stack v w c
        → IsTrue true ↔ (w.terms ≡ []) → d ≡ vector_part 0 (length g.rows) c
        → Meets t (coordinates_plan g base v) (Ok (Some d)) u
    coordinates_some {w} {c} {d} vector reduction tells part =
        subst (λ e. Meets t (coordinates_plan g base v) (Ok (Some e)) u) (sym part) (coordinates_found true vector reduction tells)

    pub coordinates_none : {w c : Vector} → IsVector g.ring g.target v → IsReduction stack v w c
        → IsTrue false ↔ (w.terms ≡ []) → Meets t (coordinates_plan g base v) (Ok None) u
    coordinates_none vector reduction tells = coordinates_found false vector reduction tells

-- what was met tells the coordinates
pub coordinates_told : {t u : Table} (g base relations : Matrix) (v : Vector) {found : Option Vector}
    → base.ring ≡ g.ring → base.target ≡ g.target → SpansRelationsModulo g base relations
    → Meets t (coordinates_plan g base v) (Ok found) u → TellsCoordinates g base relations v found
coordinates_told {t} g base relations v {found} rings targets spans h =
    (coordinates_are g base relations rings targets spans v t.limit h.looked found h.run).0
