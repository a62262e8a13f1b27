-- Modules that are the span of some matrix: those that are made of them by images, preimages and intersections are too,
-- so they have presentations modulo a prime.
use Rattle.std.proofs.Common.{◌≡◌, ◌↔◌, List, ◌++◌, sym, ap, ◌∙◌, subst, refl, ℤ}
use Rattle.sf_algebra.specs.Matrices.{IsMatrix, Matrix, degrees_of, row_degrees}
use Rattle.sf_algebra.specs.MatrixOperations.{IsComposable, matrix_product, row_combination, stacked}
use Rattle.sf_algebra.specs.Multiples.{negative}
use Rattle.sf_algebra.specs.Rings.{IsOverField, IsRing, Ring}
use Rattle.sf_algebra.specs.Terms.{Term}
use Rattle.sf_algebra.specs.VectorOperations.{row_sum, vector_difference}
use Rattle.sf_algebra.specs.Vectors.{IsCanonicalRow, IsVector, Place, Vector}
use Rattle.sf_algebra.proofs.GradedMatrices.MatrixProducts.{IsMatrix-matrix_product, row_degrees-matrix_product}
use Rattle.sf_algebra.proofs.GradedMatrices.MatrixRows.{with_terms}
use Rattle.sf_algebra.proofs.GradedMatrices.Stacks.{AllByRecursion-map, IsMatrix-stacked, degrees-with_terms}
use Rattle.sf_algebra.proofs.Monomials.Weights.{field_ring}
use Rattle.sf_algebra.proofs.Basics.Lists.{AllByRecursion-weaken}
use Rattle.sf_algebra.proofs.Vectors.Rows.{row_combination-matrix_product}
use Rattle.sf_groebner.specs.Maps.{AreEqualModulo}
use Rattle.sf_groebner.specs.MinimalGenerators.{matrix_of}
use Rattle.sf_groebner.specs.Presentations.{IsPresentation, IsRelation}
use Rattle.sf_groebner.specs.Spans.{InSpan, combined}
use Rattle.sf_groebner.proofs.Constructions.MatrixBases.{span_basis}
use Rattle.sf_groebner.proofs.Constructions.MinimalExistence.{minimal_modulo_zero}
use Rattle.sf_groebner.proofs.Constructions.PresentationExistence.{HasBasis, presentation_exists, relation_basis}
use Rattle.sf_groebner.proofs.MapsOnHomology.EqualModulo.{add-negative_again}
use Rattle.sf_groebner.proofs.PartsOfBases.StackedSpans.{InSpan-stacked, InSpan-stacked_sum}
use Rattle.sf_groebner.proofs.Spanning.SameModules.{IsReducedBasis-same}
use Rattle.sf_groebner.proofs.Spanning.SpanCombinations.{relation_submodule, span_submodule_of}
use Rattle.sf_groebner.proofs.Spanning.Submodules.{IsSubmodule}
use Rattle.sf_groebner.proofs.Uniqueness.PresentedModules.{IsPresentation-same}
use Rattle.sf_groebner.proofs.Uniqueness.Presentations.{unique_presentation}
use Rattle.sf_groebner.proofs.Uniqueness.ReducedCoordinates.{InSpan-minimal, InSpan-minimal_inside}
use Rattle.sf_groebner.proofs.Uniqueness.UniqueBases.{unique_reduced}
use Rattle.sf_presented.specs.Presented.{IsPresentedBy}
use Rattle.sf_presented.proofs.Generating.{presented}
use Rattle.sf_bicomplex.specs.Pages.{IsNear}
use Rattle.sf_bicomplex.proofs.Columns.Splits.{first_of_sum}
use Rattle.sf_bicomplex.proofs.Pages.NearVectors.{on_terms}

-- N is the span of a matrix over a free module
pub record IsSpanned (ring : Ring) (degrees : List ℤ) (N : Vector → Type 0) : Type 0 where
  pub rows : List Vector
  pub matrix : IsMatrix (matrix_of ring degrees rows)
  pub spans : (v : Vector) → N v ↔ InSpan (matrix_of ring degrees rows) v

module _ (ring : Ring) (degrees : List ℤ) where
  pub IsSpanned-same : (N P : Vector → Type 0) → ((v : Vector) → N v ↔ P v) → IsSpanned ring degrees N
      → IsSpanned ring degrees P
  IsSpanned-same N P same h = record {
    rows = h.rows;
    matrix = h.matrix;
    spans = λ v. (λ e. (h.spans v).0 ((same v).1 e), λ e. (same v).0 ((h.spans v).1 e));
  }

  pub IsSpanned-span : (m : Matrix) → m.ring ≡ ring → m.target ≡ degrees → IsMatrix m → IsSpanned ring degrees (InSpan m)
  IsSpanned-span m rings targets matrix =
      let same : m ≡ matrix_of ring degrees m.rows = λ i. record { ring = rings i; target = targets i; rows = m.rows } in
      record {
        rows = m.rows;
        matrix = subst IsMatrix same matrix;
        spans = λ v. (subst (λ x. InSpan x v) same, subst (λ x. InSpan x v) (sym same));
      }

  module _ (positive : IsRing ring) (N : Vector → Type 0) (h : IsSpanned ring degrees N) where
    pub IsSubmodule-spanned : IsSubmodule ring degrees N
    IsSubmodule-spanned =
        let span = span_submodule_of ring positive degrees (matrix_of ring degrees h.rows) refl refl h.matrix in
        record {
          module_like = record {
            vectors = λ v e. span.module_like.vectors v ((h.spans v).0 e);
            differences = λ u v e f same. (h.spans _).1
                (span.module_like.differences u v ((h.spans u).0 e) ((h.spans v).0 f) same);
          };
          combinations = λ rows inside d c e. (h.spans _).1
              (span.combinations rows (AllByRecursion-weaken _ _ (λ v k. (h.spans v).0 k) rows inside) d c e);
        }

module _ (ring : Ring) (prime : IsOverField ring) where
  positive : IsRing ring
  positive = field_ring prime

  -- the vectors that a matrix sends into a span
  pub IsSpanned-relation : (target : List ℤ) (m : Matrix) → m.ring ≡ ring → m.target ≡ target → IsMatrix m
      → (B : Vector → Type 0) → IsSpanned ring target B → IsSpanned ring (row_degrees m) (IsRelation m B)
  IsSpanned-relation target m rings targets matrix B b =
      let whole : Matrix = matrix_of ring target m.rows in
      let base : Matrix = matrix_of ring target b.rows in
      let same : m ≡ whole = λ i. record { ring = rings i; target = targets i; rows = m.rows } in
      let degrees = degrees_of m.rows in
      let N : Vector → Type 0 = IsRelation whole (InSpan base) in
      let basis = relation_basis whole base prime refl refl (subst IsMatrix same matrix) b.matrix in
      let submodule : IsSubmodule ring degrees N =
      relation_submodule whole positive target (InSpan base)
      (span_submodule_of ring positive target base refl refl b.matrix) in
      let minimal = minimal_modulo_zero ring degrees prime N (λ c k. k.coefficients) basis.0 basis.1 in
      subst (λ (x : Matrix). IsSpanned ring (row_degrees x) (IsRelation x B)) (sym same)
      (record {
        rows = minimal.generators;
        matrix = minimal.vectors;
        spans = λ v. (
          λ e. InSpan-minimal ring prime degrees N submodule minimal.generators minimal.minimal v
              (record { coefficients = e.coefficients; inside = (b.spans (combined whole v)).0 e.inside }),
          λ e.
              let k = InSpan-minimal_inside ring prime degrees N submodule minimal.generators minimal.minimal v e in
              record { coefficients = k.coefficients; inside = (b.spans (combined whole v)).1 k.inside },
        );
      })

  -- those of both
  pub IsSpanned-both : (degrees : List ℤ) (N P : Vector → Type 0) → IsSpanned ring degrees N → IsSpanned ring degrees P
      → IsSpanned ring degrees (λ v. N v × P v)
  IsSpanned-both degrees N P n p =
      let m : Matrix = matrix_of ring degrees p.rows in
      let k = IsSpanned-relation degrees m refl refl p.matrix N n in
      let few : Matrix = matrix_of ring (degrees_of p.rows) k.rows in
      let product = matrix_product few m in
      let composable : IsComposable few m = record { positive = positive.modulus; rings = refl; degrees = refl } in
      let value : (c : List (Term Place)) → row_combination ring product.rows c
      ≡ row_combination ring p.rows (row_combination ring k.rows c) =
      λ c. row_combination-matrix_product ring positive.modulus few m c refl in
      let same_degrees : degrees_of product.rows ≡ degrees_of k.rows = row_degrees-matrix_product few m in
      record {
        rows = product.rows;
        matrix = IsMatrix-matrix_product few m composable k.matrix p.matrix;
        spans = λ v. (
          λ e.
              let c = (p.spans v).0 e.1 in
              let f = (k.spans c.coefficients).0 (record {
                coefficients = c.homogeneous;
                inside = subst N (sym c.value) e.0;
              }) in
              record {
                coefficients = f.coefficients;
                homogeneous = subst (λ ds. IsVector ring ds f.coefficients) (sym same_degrees) f.homogeneous;
                value =
                    (λ i. record { degree = f.coefficients.degree; terms = value f.coefficients.terms i })
                    ∙ ap (combined m) f.value ∙ c.value;
              },
          λ e.
              let c : Vector = combined few e.coefficients in
              let inside = (k.spans c).1 (record {
                coefficients = e.coefficients;
                homogeneous = subst (λ ds. IsVector ring ds e.coefficients) same_degrees e.homogeneous;
                value = refl;
              }) in
              let there : combined m c ≡ v =
              sym (λ i. record { degree = e.coefficients.degree; terms = value e.coefficients.terms i }) ∙ e.value in (
                subst N there inside.inside,
                (p.spans v).1 (record { coefficients = c; homogeneous = inside.coefficients; value = there }),
              ),
        );
      }

  -- and those that are near the image of one of a span, under a map that keeps combinations
  pub IsSpanned-near : (source target : List ℤ) (F : List (Term Place) → List (Term Place))
      → ((rows : List Vector) (c : List (Term Place))
      → F (row_combination ring rows c) ≡ row_combination ring (with_terms F rows) c)
      → ((a : Vector) → IsVector ring source a → IsVector ring target (on_terms F a))
      → (M N : Vector → Type 0) → IsSpanned ring source M → IsSpanned ring target N
      → IsSpanned ring target (IsNear ring target (on_terms F) M N)
  IsSpanned-near source target F linear moves M N m n =
      let images : Matrix = matrix_of ring target (with_terms F m.rows) in
      let base : Matrix = matrix_of ring target n.rows in
      let images_matrix : IsMatrix images =
      AllByRecursion-map (IsVector ring target) (on_terms F) m.rows
      (AllByRecursion-weaken (IsVector ring source) _ moves m.rows m.matrix) in
      let both_matrix = IsMatrix-stacked images base refl refl images_matrix n.matrix in
      let same_degrees : degrees_of (with_terms F m.rows) ≡ degrees_of m.rows = degrees-with_terms F m.rows in
      let submodule = IsSubmodule-spanned ring target positive N n in
      let all = span_submodule_of ring positive target (stacked images base) refl refl both_matrix in
      record {
        rows = with_terms F m.rows ++ n.rows;
        matrix = both_matrix;
        spans = λ v. (
          λ e.
              let c = (m.spans e.source).0 e.inside in
              let image : Vector = on_terms F e.source in
              let canonical = (moves e.source ((IsSubmodule-spanned ring source positive M m).module_like.vectors e.source
              e.inside)).canonical in
              InSpan-stacked_sum images base positive refl v (record {
                first = vector_difference ring v image;
                second = image;
                in_module = (n.spans _).0 e.equal.difference;
                in_span = record {
                  coefficients = c.coefficients;
                  homogeneous = subst (λ ds. IsVector ring ds c.coefficients) (sym same_degrees) c.homogeneous;
                  value =
                      (λ i. record {
                        degree = c.coefficients.degree;
                        terms = sym (linear m.rows c.coefficients.terms) i;
                      })
                      ∙ ap (on_terms F) c.value;
                };
                first_degree = refl;
                second_degree = sym e.equal.degrees;
                sum = add-negative_again ring positive v.terms image.terms e.vector.canonical canonical;
              }),
          λ e.
              let s = InSpan-stacked images base positive refl v e in
              let c : Vector = s.in_span.coefficients in
              let a : Vector = combined (matrix_of ring source m.rows) c in
              let value : on_terms F a ≡ s.second =
              (λ i. record { degree = c.degree; terms = linear m.rows c.terms i }) ∙ s.in_span.value in
              let inside : M a = (m.spans a).1 (record {
                coefficients = c;
                homogeneous = subst (λ ds. IsVector ring ds c) same_degrees s.in_span.homogeneous;
                value = refl;
              }) in
              let image = moves a ((IsSubmodule-spanned ring source positive M m).module_like.vectors a inside) in
              let second_canonical = subst (λ (x : Vector). IsCanonicalRow ring x.terms) value image.canonical in
              let first = submodule.module_like.vectors s.first ((n.spans s.first).1 s.in_module) in
              let rest : s.first.terms ≡ row_sum ring v.terms (negative ring.modulus s.second.terms) =
              first_of_sum ring positive s.first.terms s.second.terms v.terms first.canonical second_canonical s.sum in
              record {
                vector = all.module_like.vectors v e;
                source = a;
                inside = inside;
                equal = subst (AreEqualModulo ring N v) (sym value) (record {
                  degrees = sym s.second_degree;
                  difference = subst N (λ i. record { degree = s.first_degree i; terms = rest i })
                      ((n.spans s.first).1 s.in_module);
                });
              },
        );
      }

  module _ (degrees : List ℤ) (N B : Vector → Type 0) (n : IsSpanned ring degrees N) (b : IsSpanned ring degrees B) where
    -- N modulo B has a presentation
    pub spanned-presentation : (g : Matrix) × (r : Matrix) × IsPresentation ring degrees N B g r
    spanned-presentation =
        let m : Matrix = matrix_of ring degrees n.rows in
        let base : Matrix = matrix_of ring degrees b.rows in
        let basis = span_basis m prime n.matrix in
        let own : HasBasis ring.weights N = (
          basis.0,
          IsReducedBasis-same ring.weights (InSpan m) N (λ v. (n.spans v).1) (λ v. (n.spans v).0) basis.0 basis.1,
        ) in
        let found =
        presentation_exists ring prime degrees N (IsSubmodule-spanned ring degrees positive N n).module_like.vectors own
        base refl refl b.matrix in (
          found.0,
          found.1,
          IsPresentation-same ring degrees N (InSpan base) found.0 found.1 found.2 N B (λ v k. k) (λ v k. k)
              (λ v. (b.spans v).1) (λ v. (b.spans v).0),
        )

    -- and no other
    pub spanned-one_presentation : (g r h s : Matrix) → IsPresentation ring degrees N B g r
        → IsPresentation ring degrees N B h s → (g ≡ h) × (r ≡ s)
    spanned-one_presentation =
        unique_presentation ring positive degrees degrees N B
        (unique_reduced ring positive degrees N (IsSubmodule-spanned ring degrees positive N n).module_like)
        (IsSubmodule-spanned ring degrees positive B b).module_like

    pub spanned-presented : (g r : Matrix) → IsPresentation ring degrees N B g r → IsPresentedBy N B g r
    spanned-presented g r =
        presented ring prime degrees N B (IsSubmodule-spanned ring degrees positive N n)
        (IsSubmodule-spanned ring degrees positive B b) g r
