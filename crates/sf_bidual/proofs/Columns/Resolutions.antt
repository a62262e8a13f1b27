-- Canonical resolutions are exact, their generators generate, and their first relations are all relations.
use Rattle.std.proofs.Common.{◌≡◌, ◌↔◌, ◌<◌, ℕ, zero, suc, List, sym, ◌∙◌, subst, ℤ}
use Rattle.sf_algebra.specs.Matrices.{Matrix, row_degrees, IsMatrix}
use Rattle.sf_algebra.specs.Rings.{Ring, IsOverField}
use Rattle.sf_algebra.specs.Vectors.{Vector}
use Rattle.sf_algebra.proofs.Monomials.Weights.{field_ring}
use Rattle.sf_groebner.specs.MinimalGenerators.{IsInSum}
use Rattle.sf_groebner.specs.Presentations.{IsZero}
use Rattle.sf_groebner.specs.Spans.{InSpan}
use Rattle.sf_groebner.proofs.Spanning.Submodules.{IsSubmodule}
use Rattle.sf_groebner.proofs.Uniqueness.PresentedModules.{IsMatrix-first_step, IsMatrix-generators, IsMatrix-next_step, IsMatrix-relations}
use Rattle.sf_groebner.proofs.Uniqueness.ReducedCoordinates.{zero_submodule}
use Rattle.sf_presented.specs.Presented.{IsPresentedBy}
use Rattle.sf_presented.proofs.Generating.{presented, presented-sums}
use Rattle.sf_presented.proofs.Steps.{spans-first_step, spans-minimal, spans-next_step}
use Rattle.sf_homotopy.specs.Exactness.{IsExactPair}
use Rattle.sf_bidual.specs.CartanEilenberg.{IsResolutionOf}

module _ (ring : Ring) (prime : IsOverField ring) (target : List ℤ) (N B : Vector → Type 0)
    (n : IsSubmodule ring target N) (b : IsSubmodule ring target B) (steps : ℕ → Matrix)
    (h : IsResolutionOf ring target N B steps) where
  pub steps-ring : (j : ℕ) → (steps j).ring ≡ ring
  steps-ring zero = h.presentation.generators_ring
  steps-ring (suc zero) = h.first.ring ∙ h.presentation.relations_ring
  steps-ring (suc (suc j)) = (h.next j).ring ∙ steps-ring (suc j)

  prime-at : (m : Matrix) → m.ring ≡ ring → IsOverField m.ring
  prime-at m e = subst IsOverField (sym e) prime

  pub IsMatrix-generating : IsMatrix (steps 0)
  IsMatrix-generating = IsMatrix-generators ring target N B (steps 0) h.relations h.presentation n.module_like.vectors

  relations-matrix : IsMatrix h.relations
  relations-matrix = IsMatrix-relations ring target N B (steps 0) h.relations h.presentation

  pub IsMatrix-first : IsMatrix (steps 1)
  IsMatrix-first =
      IsMatrix-first_step h.relations (field_ring (prime-at h.relations h.presentation.relations_ring))
      relations-matrix (steps 1) h.first

  pub IsMatrix-step : (j : ℕ) → IsMatrix (steps j)
  IsMatrix-step zero = IsMatrix-generating
  IsMatrix-step (suc zero) = IsMatrix-first
  IsMatrix-step (suc (suc j)) = IsMatrix-next_step (steps (suc j)) (steps (suc (suc j))) (h.next j)

  pub first-target : (steps 1).target ≡ row_degrees (steps 0)
  first-target = h.first.target ∙ h.presentation.relations_target

  -- what is presented is presented by the first two steps
  presented_by : IsPresentedBy N B (steps 0) h.relations
  presented_by = presented ring prime target N B n b (steps 0) h.relations h.presentation

  spans-first : (c : Vector) → InSpan (steps 1) c ↔ InSpan h.relations c
  spans-first =
      spans-first_step h.relations (steps 1) (prime-at h.relations h.presentation.relations_ring) relations-matrix
      h.first

  pub presents : IsPresentedBy N B (steps 0) (steps 1)
  presents = record {
    inside = presented_by.inside;
    generate = presented_by.generate;
    relate = λ c. (
      λ k. (spans-first c).1 ((presented_by.relate c).0 k),
      λ k. (presented_by.relate c).1 ((spans-first c).0 k),
    );
  }

  pub sums-inside : ((v : Vector) → B v → N v) → (v : Vector) → IsInSum (steps 0).ring (steps 0).rows B v → N v
  sums-inside = presented-sums ring prime target N B n b (steps 0) h.relations h.presentation

  pub exact-later : (j : ℕ) → IsExactPair (steps (suc j)) (steps (suc (suc j)))
  exact-later j = record {
    out_matrix = IsMatrix-step (suc j);
    into_matrix = IsMatrix-step (suc (suc j));
    meet = record {
      positive = (field_ring (prime-at (steps (suc (suc j))) (steps-ring (suc (suc j))))).modulus;
      rings = (h.next j).ring;
      degrees = sym (h.next j).target;
    };
    exact = λ v.
        let same = spans-next_step (steps (suc j)) (steps (suc (suc j))) (prime-at (steps (suc j)) (steps-ring (suc j)))
        (h.next j) v in
        (same.1, same.0);
  }

-- modulo 0, relations are syzygies
module _ (ring : Ring) (prime : IsOverField ring) (target : List ℤ) (N : Vector → Type 0)
    (n : IsSubmodule ring target N) (steps : ℕ → Matrix) (h : IsResolutionOf ring target N IsZero steps) where
  zeros : IsSubmodule ring target IsZero
  zeros = zero_submodule ring (field_ring prime) target

  pub spans-generating : (v : Vector) → InSpan (steps 0) v ↔ N v
  spans-generating =
      spans-minimal ring prime target N n (steps 0) h.presentation.generators_ring h.presentation.generators_target
      h.presentation.generators_minimal

  pub exact-resolution_of : (j : ℕ) → IsExactPair (steps j) (steps (suc j))
  exact-resolution_of zero =
      let p = presents ring prime target N IsZero n zeros steps h in
      record {
        out_matrix = IsMatrix-generating ring prime target N IsZero n zeros steps h;
        into_matrix = IsMatrix-first ring prime target N IsZero n zeros steps h;
        meet = record {
          positive =
              subst (λ (q : Ring). 0 < q.modulus) (sym (steps-ring ring prime target N IsZero n zeros steps h 1))
              (field_ring prime).modulus;
          rings = steps-ring ring prime target N IsZero n zeros steps h 1
              ∙ sym (steps-ring ring prime target N IsZero n zeros steps h 0);
          degrees = sym (first-target ring prime target N IsZero n zeros steps h);
        };
        exact = λ v. (
          λ k. (p.relate v).0 (record { coefficients = k.coefficients; inside = k.zero }),
          λ k. let r = (p.relate v).1 k in record { coefficients = r.coefficients; zero = r.inside },
        );
      }
  exact-resolution_of (suc j) = exact-later ring prime target N IsZero n zeros steps h j
