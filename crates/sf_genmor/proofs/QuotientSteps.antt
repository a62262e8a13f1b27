-- What `present_quotient` has met of its plan at each of its exits, and how the plan ends where the size of the matrix tells it.
use Rattle.std.proofs.Common.{◌≡◌, ◌≤◌, ◌<◌, inl, inr, ℕ, List, [], length, Ok, Err, Result, refl, sym, ◌∙◌, ap, subst, append-nil, ℤ, arith}
use Rattle.std.proofs.lemmas.Bool.{cases_lt}
use Rattle.sf_algebra.specs.Bounds.{GREATEST_SIZE, HasSmallSize}
use Rattle.sf_algebra.specs.Matrices.{Matrix}
use Rattle.sf_algebra.specs.MatrixOperations.{stacked}
use Rattle.sf_algebra.specs.Rings.{Ring, IsOverField}
use Rattle.sf_groebner.specs.MinimalGenerators.{matrix_of}
use Rattle.sf_matrix.specs.declared.basis.BaseFault.TheVariants.{Large, Memory}
use Rattle.sf_matrix.specs.declared.basis.BaseFault.{BaseFault}
use Rattle.sf_matrix.specs.Meets.{Meets}
use Rattle.sf_matrix.specs.Plans.{Plan}
use Rattle.sf_matrix.specs.Runs.{Run}
use Rattle.sf_matrix.specs.Tables.{Table}
use Rattle.sf_matrix.proofs.Plans.LookRules.{looked_beyond, looked_none}
use Rattle.sf_matrix.proofs.Plans.Rules.{look_fails, meets_fails, meets_stops, meets_then}
use Rattle.sf_genmor.specs.declared.presentation.Presentation.{Presentation}
use Rattle.sf_genmor.specs.LookPlans.{basis_plan, blocks_plan}
use Rattle.sf_genmor.specs.PresentationPlans.{IsPresentable, present_plan}
use Rattle.sf_genmor.specs.QuotientLaws.{EndsBySize}
use Rattle.sf_genmor.specs.QuotientPlans.{quotient_plan, units_over}
use Rattle.sf_genmor.proofs.GeneratorSteps.{generators_free}
use Rattle.sf_genmor.proofs.LookAnswers.{basis_look}
use Rattle.sf_genmor.proofs.LookSteps.{basis_failed, basis_none}
use Rattle.sf_genmor.proofs.Presentable.{IsMatrix-units, length-units, units_presentable}
use Rattle.sf_genmor.proofs.PresentationSteps.{relations_some, second_failed}
use Rattle.sf_genmor.proofs.UnitLeads.{unit_basis-leads}

-- what comes behind the look
abbrev quotient_rest : Matrix → Matrix → Plan Presentation
quotient_rest m base = present_plan (units_over m.ring m.target) base

-- the unit vectors that code has made
pub units_are : (m units : Matrix) (ring : Ring) (degrees : List ℤ) → m.ring ≡ ring → degrees ≡ m.target
    → units ≡ units_over ring degrees → units ≡ units_over m.ring m.target
units_are m units ring degrees same_ring same_degrees same = same ∙ (λ i. units_over (sym same_ring i) (same_degrees i))

module _ {t u : Table} (m : Matrix) where
  pub quotient_fails : {fault : BaseFault} → Meets t (basis_plan m) (Err fault) u → Meets t (quotient_plan m) (Err fault) u
  unfolding quotient_plan
  quotient_fails h = meets_fails (quotient_rest m) h

  module _ {base : Matrix} (h : Meets t (basis_plan m) (Ok base) u) where
    -- memory may be wanting for the unit vectors
    pub quotient_cut : Meets t (quotient_plan m) (Err Memory) u
    unfolding quotient_plan
    quotient_cut = meets_stops (quotient_rest m) h

    module _ {units : Matrix} (same : units ≡ units_over m.ring m.target) where
      pub quotient_presentable : IsPresentable u.limit units base
      quotient_presentable =
          let found = basis_look t.limit m h.looked base h.run in
          subst (λ n. IsPresentable u.limit n base) (sym same)
          (units_presentable m.ring found.1.field m.target u.limit m refl refl h.looked base
          (subst (λ limit. Run limit (basis_plan m) h.looked (Ok base)) (sym h.grown.limit) h.run))

      pub quotient_found : {v : Table} {r : Result Presentation BaseFault} → Meets u (present_plan units base) r v
          → Meets t (quotient_plan m) r v
      unfolding quotient_plan
      quotient_found {v} {r} k =
          meets_then (quotient_rest m) h (subst (λ n. Meets u (present_plan n base) r v) same k)

-- a look at a stack that is out of bounds
blocks_beyond : (t : Table) (a b : Matrix) → IsOverField a.ring → 0 < length (stacked a b).rows → (HasSmallSize (stacked a b) → ⊥)
    → Meets t (blocks_plan a b) (Err (Large (length (stacked a b).rows) (length a.target))) t
unfolding blocks_plan
blocks_beyond t a b field row beyond =
    look_fails (looked_beyond t (stacked a b) field (length (stacked a b).rows) (length a.target) refl refl row beyond)

module _ (t : Table) (m : Matrix) (field : IsOverField m.ring) where
  -- a matrix with rows that is out of bounds
  pub ends_at_rows : 0 < length m.rows → (HasSmallSize m → ⊥)
      → Meets t (quotient_plan m) (Err (Large (length m.rows) (length m.target))) t
  ends_at_rows row beyond =
      quotient_fails m (basis_failed (looked_beyond t m field (length m.rows) (length m.target) refl refl row beyond))

  -- where there is no row, the unit vectors of many columns are
  pub ends_at_units : length m.rows ≡ 0 → GREATEST_SIZE < length m.target
      → Meets t (quotient_plan m) (Err (Large (length m.target) (length m.target))) t
  ends_at_units none many =
      let units : Matrix = units_over m.ring m.target in
      let base : Matrix = matrix_of m.ring m.target [] in
      let size : length units.rows ≡ length m.target = length-units m.ring field m.target in
      let look : Meets t (basis_plan m) (Ok base) t = basis_none refl (looked_none t m field none) refl in
      let presentable : IsPresentable t.limit units base = quotient_presentable m look refl in
      let first : Meets t _ (Ok units) t =
      generators_free field (IsMatrix-units m.ring field m.target) tt presentable (inr (refl, unit_basis-leads m.target)) refl in
      let rows : length (stacked units base).rows ≡ length m.target = ap length (append-nil units.rows) ∙ size in
      let row : 0 < length (stacked units base).rows = omega arith in
      let beyond : HasSmallSize (stacked units base) → ⊥ = λ h. let columns = h.columns in omega arith in
      let some : length units.rows ≡ 0 → ⊥ = λ e. omega arith in
      let refused : Meets t (blocks_plan units base) (Err (Large (length m.target) (length m.target))) t =
      subst (λ n. Meets t (blocks_plan units base) (Err (Large n (length m.target))) t) rows (blocks_beyond t units base field row beyond) in
      quotient_found m look refl (second_failed units base first (relations_some units base some refused))

-- the numbers as code has them
pub ends_by_rows : (rows columns : ℕ) → (rows ≡ 0 → ⊥) → ((rows ≤ GREATEST_SIZE) × (columns ≤ GREATEST_SIZE) → ⊥)
    → EndsBySize rows columns (Large rows columns)
ends_by_rows rows columns some beyond t m field same_rows same_columns =
    subst (λ (n : ℕ × ℕ). Meets t (quotient_plan m) (Err (Large n.0 n.1)) t) (λ i. (same_rows i, same_columns i))
    (ends_at_rows t m field (positive (length m.rows) (λ e. some (sym same_rows ∙ e)))
    (λ size. beyond (subst (λ n. n ≤ GREATEST_SIZE) same_rows size.rows, subst (λ n. n ≤ GREATEST_SIZE) same_columns size.columns)))
  where
    positive : (n : ℕ) → (n ≡ 0 → ⊥) → 0 < n
    positive n h = omega (arith, h)

pub ends_by_columns : (rows columns : ℕ) → rows ≡ 0 → ((rows ≤ GREATEST_SIZE) × (columns ≤ GREATEST_SIZE) → ⊥)
    → EndsBySize rows columns (Large columns columns)
ends_by_columns rows columns none beyond t m field same_rows same_columns =
    subst (λ n. Meets t (quotient_plan m) (Err (Large n n)) t) same_columns
    (ends_at_units t m field (same_rows ∙ none) (subst (λ n. GREATEST_SIZE < n) (sym same_columns) many))
  where
    few : rows ≤ GREATEST_SIZE
    few = omega (arith, none)

    many : GREATEST_SIZE < columns
    many =
        elim (cases_lt GREATEST_SIZE columns) [
          | inl more ↦ more
          | inr within ↦ absurd (beyond (few, within))
        ]
