-- The theorems on described correspondences, for presentations by any matrices.
use Rattle.std.proofs.Common.{◌↔◌, [], ◌≡◌, List, sym, subst, ℤ}
use Rattle.sf_algebra.specs.Matrices.{Matrix, degrees_of}
use Rattle.sf_algebra.specs.MatrixOperations.{stacked}
use Rattle.sf_algebra.specs.Rings.{IsOverField, Ring}
use Rattle.sf_algebra.specs.Vectors.{IsVector, Vector}
use Rattle.sf_algebra.proofs.Operators.Correspondences.{converse}
use Rattle.sf_groebner.specs.Homology.{IsCycle}
use Rattle.sf_groebner.specs.MinimalGenerators.{matrix_of}
use Rattle.sf_groebner.specs.Presentations.{IsModuleMap, IsPresentation}
use Rattle.sf_groebner.specs.Spans.{InSpan, IsCoefficients, combined}
use Rattle.sf_presented.specs.Inverses.{AreInverseModulo}
use Rattle.sf_bicomplex.specs.Descriptions.{Describes}
use Rattle.sf_bicomplex.proofs.Spans.ClassKernels.{description-image, description-kernel}
use Rattle.sf_bicomplex.proofs.Spans.ClassMaps.{IsClassMap, description-map, description_exists, one_description, there_and_back}
use Rattle.sf_bicomplex.proofs.Spans.SpannedModules.{IsSpanned}

-- the matrices of a presentation, with the ring and the degrees as they are known
abbrev normal : Ring → List ℤ → Matrix × Matrix → Matrix × Matrix
normal ring degrees x = (matrix_of ring degrees x.0.rows, matrix_of ring (degrees_of x.0.rows) x.1.rows)

module _ (ring : Ring) (degrees : List ℤ) (N B : Vector → Type 0) where
  same_presentation : (x : Matrix × Matrix) → IsPresentation ring degrees N B x.0 x.1 → x ≡ normal ring degrees x
  same_presentation x h = λ i. (
    record { ring = h.generators_ring i; target = h.generators_target i; rows = x.0.rows },
    record { ring = h.relations_ring i; target = h.relations_target i; rows = x.1.rows },
  )

same_description : (ring : Ring) (degrees : List ℤ) (F : Vector → Vector → Type 0) (hs ss : List Vector) (g z : Matrix)
    → Describes F (matrix_of ring degrees hs) (matrix_of ring (degrees_of hs) ss) g z
    → z ≡ matrix_of ring (degrees_of hs) z.rows
same_description ring degrees F hs ss g z e =
    λ i. record { ring = e.ring i; target = e.target i; rows = z.rows }

module _ (ring : Ring) (prime : IsOverField ring) (source target : List ℤ) (N B M A : Vector → Type 0)
    (n : IsSpanned ring source N) (b : IsSpanned ring source B) (m : IsSpanned ring target M)
    (a : IsSpanned ring target A) (F : Vector → Vector → Type 0) (f : IsClassMap ring N B M A F) (g r h s : Matrix)
    (given : IsPresentation ring source N B g r) (other : IsPresentation ring target M A h s) where
  first : (g, r) ≡ normal ring source (g, r)
  first = same_presentation ring source N B (g, r) given

  second : (h, s) ≡ normal ring target (h, s)
  second = same_presentation ring target M A (h, s) other

  given_normal : IsPresentation ring source N B (matrix_of ring source g.rows) (matrix_of ring (degrees_of g.rows) r.rows)
  given_normal = subst (λ (x : Matrix × Matrix). IsPresentation ring source N B x.0 x.1) first given

  other_normal : IsPresentation ring target M A (matrix_of ring target h.rows) (matrix_of ring (degrees_of h.rows) s.rows)
  other_normal = subst (λ (x : Matrix × Matrix). IsPresentation ring target M A x.0 x.1) second other

  -- back to the matrices as they are
  as_given : (P : Matrix × Matrix → Matrix × Matrix → Type 0) → P (normal ring source (g, r)) (normal ring target (h, s))
      → P (g, r) (h, s)
  as_given P e =
      subst (λ (x : Matrix × Matrix). P x (h, s)) (sym first)
      (subst (λ (y : Matrix × Matrix). P (normal ring source (g, r)) y) (sym second) e)

  pub described : (z : Matrix) × Describes F h s g z
  described =
      as_given (λ x y. (z : Matrix) × Describes F y.0 y.1 x.0 z)
      (description_exists ring prime source target N B M A n b m a F f g.rows r.rows h.rows s.rows given_normal
      other_normal)

  pub one_described : (x y : Matrix) → Describes F h s g x → Describes F h s g y → x ≡ y
  one_described x y =
      as_given (λ u v. Describes F v.0 v.1 u.0 x → Describes F v.0 v.1 u.0 y → x ≡ y)
      (one_description ring prime source target N B M A n b m a F f g.rows r.rows h.rows s.rows given_normal
      other_normal x y)

  pub described-map : (z : Matrix) → Describes F h s g z → IsModuleMap r s z
  described-map z =
      as_given (λ x y. Describes F y.0 y.1 x.0 z → IsModuleMap x.1 y.1 z)
      (λ e. subst (IsModuleMap (matrix_of ring (degrees_of g.rows) r.rows) (matrix_of ring (degrees_of h.rows) s.rows))
      (sym (same_description ring target F h.rows s.rows (matrix_of ring source g.rows) z e))
      (description-map ring prime source target N B M A n b m a F f g.rows r.rows h.rows s.rows given_normal other_normal
      z.rows e.rows))

  pub described-inverse : IsClassMap ring M A N B (converse F) → (to from : Matrix) → Describes F h s g to
      → Describes (converse F) g r h from → AreInverseModulo r s to from
  described-inverse back to from =
      as_given (λ x y. Describes F y.0 y.1 x.0 to → Describes (converse F) x.0 x.1 y.0 from
      → AreInverseModulo x.1 y.1 to from)
      (λ e k. subst
      (λ (z : Matrix × Matrix). AreInverseModulo (matrix_of ring (degrees_of g.rows) r.rows)
      (matrix_of ring (degrees_of h.rows) s.rows) z.0 z.1)
      (λ i. (
        sym (same_description ring target F h.rows s.rows (matrix_of ring source g.rows) to e) i,
        sym (same_description ring source (converse F) g.rows r.rows (matrix_of ring target h.rows) from k) i,
      ))
      (record {
        to_map =
            description-map ring prime source target N B M A n b m a F f g.rows r.rows h.rows s.rows given_normal
            other_normal to.rows e.rows;
        from_map =
            description-map ring prime target source M A N B m a n b (converse F) back h.rows s.rows g.rows r.rows
            other_normal given_normal from.rows k.rows;
        back =
            there_and_back ring prime source target N B M A n b m a F f back g.rows r.rows h.rows s.rows given_normal
            other_normal to.rows from.rows e.rows k.rows;
        forth =
            there_and_back ring prime target source M A N B m a n b (converse F) back f h.rows s.rows g.rows r.rows
            other_normal given_normal from.rows to.rows k.rows e.rows;
      }))

  -- the kernel of the matrix, and its span with the relations
  pub described-kernel : (z : Matrix) → Describes F h s g z → (c : Vector)
      → IsCycle z s c ↔ (IsCoefficients g c × F (combined g c) (record { degree = c.degree; terms = [] }))
  described-kernel z =
      as_given (λ x y. Describes F y.0 y.1 x.0 z → (c : Vector)
      → IsCycle z y.1 c ↔ (IsCoefficients x.0 c × F (combined x.0 c) (record { degree = c.degree; terms = [] })))
      (λ e c. subst
      (λ (d : Matrix). IsCycle d (matrix_of ring (degrees_of h.rows) s.rows) c
      ↔ (IsVector ring (degrees_of g.rows) c
      × F (combined (matrix_of ring source g.rows) c) (record { degree = c.degree; terms = [] })))
      (sym (same_description ring target F h.rows s.rows (matrix_of ring source g.rows) z e))
      (description-kernel ring prime source target N B M A n b m a F f g.rows r.rows h.rows s.rows given_normal
      other_normal z.rows e.rows c))

  pub described-image : (z : Matrix) → Describes F h s g z → (c : Vector)
      → InSpan (stacked z s) c ↔ (IsCoefficients h c × (u : Vector) × F u (combined h c))
  described-image z =
      as_given (λ x y. Describes F y.0 y.1 x.0 z → (c : Vector)
      → InSpan (stacked z y.1) c ↔ (IsCoefficients y.0 c × (u : Vector) × F u (combined y.0 c)))
      (λ e c. subst
      (λ (d : Matrix). InSpan (stacked d (matrix_of ring (degrees_of h.rows) s.rows)) c
      ↔ (IsVector ring (degrees_of h.rows) c × (u : Vector) × F u (combined (matrix_of ring target h.rows) c)))
      (sym (same_description ring target F h.rows s.rows (matrix_of ring source g.rows) z e))
      (description-image ring prime source target N B M A n b m a F f g.rows r.rows h.rows s.rows given_normal
      other_normal z.rows e.rows c))
