-- What plans of one look answer: the reduced bases of the definitions, and nothing else.
use Rattle.std.proofs.Common.{◌≡◌, ℕ, List, length, Ok, refl, sym, ◌∙◌, subst}
use Rattle.std.specs.List.{AllByRecursion}
use Rattle.sf_algebra.specs.Matrices.{Matrix, row_degrees, IsMatrix}
use Rattle.sf_algebra.specs.MatrixOperations.{stacked}
use Rattle.sf_algebra.specs.Rings.{Ring, IsRing}
use Rattle.sf_algebra.specs.Vectors.{Vector, IsVector}
use Rattle.sf_algebra.proofs.Basics.Lists.{AllByRecursion-back}
use Rattle.sf_algebra.proofs.Monomials.Weights.{field_ring}
use Rattle.sf_groebner.specs.BasisParts.{syzygies_of}
use Rattle.sf_groebner.specs.Cuts.{IsFirstBlock, first_parts}
use Rattle.sf_groebner.specs.Presentations.{IsRelation}
use Rattle.sf_groebner.specs.Spans.{InSpan, IsSyzygy}
use Rattle.sf_groebner.proofs.PartsOfBases.FirstParts.{reduced-first_parts}
use Rattle.sf_groebner.proofs.PartsOfBases.GraphParts.{reduced-span, reduced-syzygies}
use Rattle.sf_groebner.proofs.PartsOfBases.Relations.{IsRelation-blocks}
use Rattle.sf_groebner.proofs.Spanning.SameModules.{IsReducedBasis-same}
use Rattle.sf_groebner.proofs.Spanning.Modules.{IsModuleLike}
use Rattle.sf_groebner.proofs.Spanning.Spans.{relation_module, span_module, syzygy_module}
use Rattle.sf_groebner.proofs.Uniqueness.UniqueBases.{unique_reduced}
use Rattle.sf_matrix.specs.Plans.{answer}
use Rattle.sf_matrix.specs.Runs.{Run, IsLookedAt}
use Rattle.sf_matrix.specs.Tables.{graph_of}
use Rattle.sf_matrix.proofs.Plans.Readings.{answer_is, look_is}
use Rattle.sf_genmor.specs.LookPlans.{IsBasisMatrix, IsRelationMatrix, IsSyzygyMatrix, basis_plan, blocks_plan, first_blocks, syzygies_plan}

-- matrices from equal parts
pub equal_parts : (a b : Matrix) → a.ring ≡ b.ring → a.target ≡ b.target → a.rows ≡ b.rows → a ≡ b
equal_parts a b ring target rows = λ i. record { ring = ring i; target = target i; rows = rows i }

-- what each plan found
pub basis_look : (limit : ℕ) (m : Matrix) (looked : List Matrix) (b : Matrix) → Run limit (basis_plan m) looked (Ok b)
    → (elements : List Vector) × IsLookedAt m elements × (b ≡ (graph_of m elements).basis)
unfolding basis_plan
basis_look limit m looked b run =
    let found = look_is limit m (λ elements. answer (graph_of m elements).basis) looked b run in
    (found.0, found.2, answer_is limit (graph_of m found.0).basis found.1 b found.3)

pub syzygies_look : (limit : ℕ) (m : Matrix) (looked : List Matrix) (b : Matrix) → Run limit (syzygies_plan m) looked (Ok b)
    → (elements : List Vector) × IsLookedAt m elements × (b ≡ (graph_of m elements).syzygies)
unfolding syzygies_plan
syzygies_look limit m looked b run =
    let found = look_is limit m (λ elements. answer (graph_of m elements).syzygies) looked b run in
    (found.0, found.2, answer_is limit (graph_of m found.0).syzygies found.1 b found.3)

pub blocks_look : (limit : ℕ) (a base : Matrix) (looked : List Matrix) (b : Matrix)
    → Run limit (blocks_plan a base) looked (Ok b)
    → (elements : List Vector) × IsLookedAt (stacked a base) elements
    × (b ≡ first_blocks a (syzygies_of (stacked a base) elements))
unfolding blocks_plan
blocks_look limit a base looked b run =
    let next = λ (elements : List Vector). answer (first_blocks a (syzygies_of (stacked a base) elements)) in
    let found = look_is limit (stacked a base) next looked b run in
    (found.0, found.2, answer_is limit (first_blocks a (syzygies_of (stacked a base) found.0)) found.1 b found.3)

-- the reduced basis of the span
module _ (m : Matrix) (positive : IsRing m.ring) (matrix : IsMatrix m) where
  pub unique_basis : (b c : Matrix) → IsBasisMatrix m b → IsBasisMatrix m c → c ≡ b
  unique_basis b c h k =
      equal_parts c b (k.ring ∙ sym h.ring) (k.target ∙ sym h.target)
      (unique_reduced m.ring positive m.target (InSpan m) (span_module m positive matrix) c.rows b.rows k.reduced h.reduced)

pub basis_is : (limit : ℕ) (m : Matrix) (looked : List Matrix) (b : Matrix) → Run limit (basis_plan m) looked (Ok b)
    → IsBasisMatrix m b
basis_is limit m looked b run =
    let found = basis_look limit m looked b run in
    subst (IsBasisMatrix m) (sym found.2)
    (record {
      ring = refl;
      target = refl;
      reduced = reduced-span m (field_ring found.1.field) found.1.matrix found.0 found.1.reduced;
    })

-- that of the syzygies
pub unique_syzygies : (m : Matrix) → IsRing m.ring → (b c : Matrix) → IsSyzygyMatrix m b → IsSyzygyMatrix m c → c ≡ b
unique_syzygies m positive b c h k =
    equal_parts c b (k.ring ∙ sym h.ring) (k.target ∙ sym h.target)
    (unique_reduced m.ring positive (row_degrees m) (IsSyzygy m) (syzygy_module m positive) c.rows b.rows k.reduced h.reduced)

pub syzygies_is : (limit : ℕ) (m : Matrix) (looked : List Matrix) (b : Matrix) → Run limit (syzygies_plan m) looked (Ok b)
    → IsSyzygyMatrix m b
syzygies_is limit m looked b run =
    let found = syzygies_look limit m looked b run in
    subst (IsSyzygyMatrix m) (sym found.2)
    (record {
      ring = refl;
      target = refl;
      reduced = reduced-syzygies m (field_ring found.1.field) found.0 found.1.reduced;
    })

-- that of relations modulo a base
module _ (a base : Matrix) (rings : a.ring ≡ base.ring) where
  -- the base is a matrix where the rows with the base behind them are one
  pub IsMatrix-base : a.target ≡ base.target → IsMatrix (stacked a base) → IsMatrix base
  IsMatrix-base targets h =
      subst (λ (ring : Ring). AllByRecursion (IsVector ring base.target) base.rows) rings
      (subst (λ ds. AllByRecursion (IsVector a.ring ds) base.rows) targets
      (AllByRecursion-back (IsVector a.ring a.target) a.rows base.rows h))

  module _ (positive : IsRing a.ring) where
    pub unique_relations : IsMatrix base → (b c : Matrix) → IsRelationMatrix a base b → IsRelationMatrix a base c → c ≡ b
    unique_relations matrix b c h k =
        let over_base = span_module base (subst (λ q. IsRing q) rings positive) matrix in
        let inside = subst (λ q. IsModuleLike q base.target (InSpan base)) (sym rings) over_base in
        equal_parts c b (k.ring ∙ sym h.ring) (k.target ∙ sym h.target)
        (unique_reduced a.ring positive (row_degrees a) (IsRelation a (InSpan base))
        (relation_module a positive base.target (InSpan base) inside) c.rows b.rows k.reduced h.reduced)

    -- first blocks of the reduced syzygies
    pub first_blocks-relations : (syzygies : List Vector) → IsSyzygyMatrix (stacked a base) (record { ring = a.ring; target = row_degrees (stacked a base); rows = syzygies })
        → IsRelationMatrix a base (first_blocks a syzygies)
    first_blocks-relations syzygies h = record {
      ring = refl;
      target = refl;
      reduced =
          IsReducedBasis-same a.ring.weights (IsFirstBlock a base) (IsRelation a (InSpan base))
          (λ v. (IsRelation-blocks a base positive rings v).1) (λ v. (IsRelation-blocks a base positive rings v).0)
          (first_parts (length a.rows) syzygies)
          (reduced-first_parts a.ring (row_degrees (stacked a base)) (IsSyzygy (stacked a base)) (λ w k. k.coefficients)
          (length a.rows) syzygies h.reduced);
    }

pub blocks_is : (limit : ℕ) (a base : Matrix) (looked : List Matrix) (b : Matrix) → a.ring ≡ base.ring
    → Run limit (blocks_plan a base) looked (Ok b) → IsRelationMatrix a base b
blocks_is limit a base looked b rings run =
    let found = blocks_look limit a base looked b run in
    let positive = field_ring found.1.field in
    subst (IsRelationMatrix a base) (sym found.2)
    (first_blocks-relations a base rings positive (syzygies_of (stacked a base) found.0)
    (record { ring = refl; target = refl; reduced = reduced-syzygies (stacked a base) positive found.0 found.1.reduced }))
