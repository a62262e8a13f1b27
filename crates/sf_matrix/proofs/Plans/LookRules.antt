-- What a look meets: one at no rows, one out of bounds, and one for which the table was asked.
use Rattle.std.proofs.Common.{◌≡◌, ℕ, ◌<◌, List, [], ◌∷◌, length, Option, Some, None, Ok, Err, refl, sym, ap, subst, arith}
use Rattle.sf_algebra.specs.Bounds.{HasSmallSize}
use Rattle.sf_algebra.specs.Matrices.{Matrix, IsMatrix}
use Rattle.sf_algebra.specs.Primes.{IsPrime}
use Rattle.sf_algebra.specs.Rings.{Ring, IsOverField, plain}
use Rattle.sf_algebra.specs.Vectors.{Vector, IsVector}
use Rattle.sf_algebra.proofs.Monomials.Weights.{field_ring, ones_positive}
use Rattle.sf_groebner.specs.Reductions.{IsReduction}
use Rattle.sf_groebner.specs.Small.{IsSmall}
use Rattle.sf_matrix.specs.declared.basis.BaseFault.TheVariants.{Memory, Large}
use Rattle.sf_matrix.specs.declared.basis.BaseFault.{BaseFault}
use Rattle.sf_matrix.specs.Tables.{Table, Opened}
use Rattle.sf_matrix.specs.Meets.{Meets, Looked, IsLookOf, without_rows, with_entry, with_fault}
use Rattle.sf_matrix.specs.Plans.{look_plan}
use Rattle.sf_matrix.specs.Runs.{Run, IsFit, large, ends, skips, looks, outgrows, refuses}
use Rattle.sf_matrix.proofs.Plans.Growth.{grown_none}
use Rattle.sf_matrix.proofs.Plans.Rules.{meets_memory}
use Rattle.sf_matrix.proofs.Plans.WithoutRows.{reduction-no_rows, zero_vector}

no_items : {X : Type 0} (xs : List X) → length xs ≡ 0 → xs ≡ []
no_items [] e = refl
no_items (x ∷ xs) e = absurd (omega arith)

-- the numbers of rows and columns
large_as : (t : Table) (m : Matrix) (rows columns : ℕ) → rows ≡ length m.rows → columns ≡ length m.target
    → {ms : List Matrix} → Run t.limit (look_plan m) ms (Err (large m))
    → Run t.limit (look_plan m) ms (Err (Large rows columns))
large_as t m rows columns same_rows same_columns {ms} run =
    subst (λ (n : ℕ × ℕ). Run t.limit (look_plan m) ms (Err (Large n.0 n.1)))
    (λ i. (sym same_rows i, sym same_columns i)) run

-- a matrix as code has it is one over a field
pub field_of : (ring : Ring) (p : ℕ) → ring ≡ plain p → IsPrime p → IsOverField ring
field_of ring p same prime =
    subst IsOverField (sym same) (record { prime = prime; weights = ones_positive })

module _ (t : Table) (m : Matrix) (field : IsOverField m.ring) where
  pub looked_none : length m.rows ≡ 0 → Looked t m (Ok None) t
  looked_none zero =
      let none = no_items m.rows zero in
      without_rows none
      (record { looked = []; run = skips (record { field = field; none = none }) ends; grown = grown_none t })

  pub looked_beyond : (rows columns : ℕ) → rows ≡ length m.rows → columns ≡ length m.target → 0 < length m.rows
      → (HasSmallSize m → ⊥) → Looked t m (Err (Large rows columns)) t
  looked_beyond rows columns same_rows same_columns row beyond =
      with_fault
      (record {
        looked = [];
        run =
            large_as t m rows columns same_rows same_columns
            (refuses (λ rowless. clash (length m.rows) row (ap length rowless.none)) (λ fit. beyond fit.size));
        grown = grown_none t;
      })
    where
      clash : (n : ℕ) → 0 < n → n ≡ 0 → ⊥
      clash n l e = omega arith

  module _ (matrix : IsMatrix m) (row : 0 < length m.rows) (size : HasSmallSize m) (u : Table) where
    fit : IsFit m
    fit = record { row = row; field = field; matrix = matrix; size = size }

    pub looked_opened : (k : ℕ) → Opened t m (Ok k) u → Looked t m (Ok (Some k)) u
    looked_opened k (opened, grown) =
        let small = subst (λ limit. IsSmall limit m opened.elements) grown.limit opened.small in
        with_entry opened.elements opened.entry
        (record { looked = m ∷ []; run = looks opened.elements fit small ends; grown = grown })

    pub looked_fails : (fault : BaseFault) → Opened t m (Err fault) u → Looked t m (Err fault) u
    looked_fails Memory same = with_fault (subst (Meets t (look_plan m) (Err Memory)) (sym same) meets_memory)
    looked_fails (Large rows columns) (same_rows, same_columns, outgrown, grown) =
        with_fault
        (record {
          looked = m ∷ [];
          run = large_as t m rows columns same_rows same_columns (outgrows fit outgrown);
          grown = grown;
        })

-- without rows a vector is what is left, and the coefficients are 0
pub reduced_none : (t : Table) (m : Matrix) → IsOverField m.ring → (o : Option ℕ) → o ≡ None → IsLookOf t m o
    → (v : Vector) → IsVector m.ring m.target v → (w : Vector) → w ≡ v → (c : Vector) → c ≡ zero_vector v.degree
    → IsReduction m v w c
reduced_none t m field o none found v vector w same c zero =
    let rowless : m.rows ≡ [] = subst (IsLookOf t m) none found in
    subst (λ (x : Vector × Vector). IsReduction m v x.0 x.1) (λ i. (sym same i, sym zero i))
    (reduction-no_rows m (field_ring field) rowless v vector)
