-- Presentations and resolutions are determined by the modules.
use Rattle.std.proofs.Common.{◌≡◌, List, [], ◌∷◌, length, refl, sym, ◌∙◌, ap, subst, ℤ, arith}
use Rattle.sf_algebra.specs.Matrices.{Matrix, row_degrees, IsMatrix}
use Rattle.sf_algebra.specs.Rings.{Ring, IsRing}
use Rattle.sf_algebra.specs.Vectors.{Vector}
use Rattle.sf_groebner.specs.Homology.{IsAny}
use Rattle.sf_groebner.specs.MinimalGenerators.{AreMinimal}
use Rattle.sf_groebner.specs.Presentations.{IsZero, IsRelation, IsPresentation}
use Rattle.sf_groebner.specs.Resolutions.{IsFirstStep, IsNextStep, AreNextSteps, IsResolution}
use Rattle.sf_groebner.specs.Spans.{InSpan, IsSyzygy}
use Rattle.sf_groebner.proofs.Spanning.Modules.{IsModuleLike}
use Rattle.sf_groebner.proofs.Spanning.Spans.{IsVector-difference, relation_module, span_module, syzygy_module}
use Rattle.sf_groebner.proofs.Uniqueness.MinimalGenerators.{HasOneBasis, unique_minimal}
use Rattle.sf_groebner.proofs.Uniqueness.UniqueBases.{unique_reduced}

-- all vectors of a free module are a module
pub any_module : (ring : Ring) → IsRing ring → (degrees : List ℤ) → IsModuleLike ring degrees (IsAny ring degrees)
any_module ring positive degrees = record {
  vectors = λ v h. h;
  differences = IsVector-difference ring positive degrees;
}

pub unique_presentation : (ring : Ring) → IsRing ring → (target degrees : List ℤ) (N B : Vector → Type 0)
    → HasOneBasis ring.weights N → IsModuleLike ring degrees B
    → (g r h s : Matrix) → IsPresentation ring target N B g r → IsPresentation ring target N B h s → (g ≡ h) × (r ≡ s)
unique_presentation ring positive target degrees N B one module_like g r h s a b =
    let rows : g.rows ≡ h.rows =
    unique_minimal ring target N B one g.rows h.rows a.generators_minimal b.generators_minimal in
    let generators : g ≡ h =
    λ i. record {
      ring =
          (a.generators_ring ∙ sym b.generators_ring) i;
      target = (a.generators_target ∙ sym b.generators_target) i;
      rows = rows i;
    } in
    let relations_module = relation_module g (subst (λ q. IsRing q) (sym a.generators_ring) positive) degrees B (subst (λ q. IsModuleLike q degrees B) (sym a.generators_ring) module_like) in
    let other : AreMinimal ring (IsRelation g B) IsZero s.rows =
    subst (λ x. AreMinimal ring (IsRelation x B) IsZero s.rows) (sym generators) b.relations_minimal in
    let relations : r.rows ≡ s.rows =
    unique_minimal ring (row_degrees g) (IsRelation g B) IsZero
    (subst (λ (q : Ring). HasOneBasis q.weights (IsRelation g B)) a.generators_ring
    (unique_reduced g.ring (subst (λ q. IsRing q) (sym a.generators_ring) positive) (row_degrees g) (IsRelation g B) relations_module))
    r.rows s.rows a.relations_minimal other in (
      generators,
      (λ i. record {
        ring = (a.relations_ring ∙ sym b.relations_ring) i;
        target = (a.relations_target ∙ ap row_degrees generators ∙ sym b.relations_target) i;
        rows = relations i;
      }),
    )

pub unique_first_step : (m : Matrix) → IsRing m.ring → IsMatrix m → (a b : Matrix) → IsFirstStep m a → IsFirstStep m b
    → a ≡ b
unique_first_step m positive matrix a b h k =
    let rows = unique_minimal m.ring m.target (InSpan m) IsZero (unique_reduced m.ring positive m.target (InSpan m) (span_module m positive matrix)) a.rows b.rows h.minimal k.minimal in
    λ i. record { ring = (h.ring ∙ sym k.ring) i; target = (h.target ∙ sym k.target) i; rows = rows i }

pub unique_next_step : (m : Matrix) → IsRing m.ring → (a b : Matrix) → IsNextStep m a → IsNextStep m b → a ≡ b
unique_next_step m positive a b h k =
    let rows = unique_minimal m.ring (row_degrees m) (IsSyzygy m) IsZero (unique_reduced m.ring positive (row_degrees m) (IsSyzygy m) (syzygy_module m positive)) a.rows b.rows h.minimal k.minimal in
    λ i. record { ring = (h.ring ∙ sym k.ring) i; target = (h.target ∙ sym k.target) i; rows = rows i }

unique_next_steps : (m : Matrix) → IsRing m.ring → (xs ys : List Matrix) → length xs ≡ length ys → AreNextSteps m xs
    → AreNextSteps m ys → xs ≡ ys
unique_next_steps m positive [] [] size h k = refl
unique_next_steps m positive [] (b ∷ ys) size h k = absurd (omega arith)
unique_next_steps m positive (a ∷ xs) [] size h k = absurd (omega arith)
unique_next_steps m positive (a ∷ xs) (b ∷ ys) size h k =
    let first : a ≡ b = unique_next_step m positive a b h.0 k.0 in
    let rest =
    unique_next_steps a (subst (λ q. IsRing q) (sym h.0.ring) positive) xs ys (omega arith) h.1
    (subst (λ x. AreNextSteps x ys) (sym first) k.1) in
    λ i. first i ∷ rest i

pub unique_resolution : (m : Matrix) → IsRing m.ring → IsMatrix m → (xs ys : List Matrix) → length xs ≡ length ys
    → IsResolution m xs → IsResolution m ys → xs ≡ ys
unique_resolution m positive matrix [] [] size h k = refl
unique_resolution m positive matrix [] (b ∷ ys) size h k = absurd (omega arith)
unique_resolution m positive matrix (a ∷ xs) [] size h k = absurd (omega arith)
unique_resolution m positive matrix (a ∷ xs) (b ∷ ys) size h k =
    let first : a ≡ b = unique_first_step m positive matrix a b h.0 k.0 in
    let rest =
    unique_next_steps a (subst (λ q. IsRing q) (sym h.0.ring) positive) xs ys (omega arith) h.1
    (subst (λ x. AreNextSteps x ys) (sym first) k.1) in
    λ i. first i ∷ rest i
