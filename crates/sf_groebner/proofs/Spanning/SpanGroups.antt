-- In one degree spans, syzygies and relations are subgroups of the vectors of that degree.
use Rattle.std.proofs.Common.{◌≡◌, ap, subst, List, ℤ}
use Rattle.sf_algebra.specs.DegreeParts.{degree_part}
use Rattle.sf_algebra.specs.Groups.{IsSub, IsWithin, Whole, ImageOf, PreimageOf, KernelOf}
use Rattle.sf_algebra.specs.Matrices.{Matrix, IsMatrix, row_degrees}
use Rattle.sf_algebra.specs.MatrixOperations.{row_combination}
use Rattle.sf_algebra.specs.Rings.{Ring, IsRing}
use Rattle.sf_algebra.specs.VectorOperations.{vector_difference}
use Rattle.sf_algebra.specs.Vectors.{Vector, place_cmp, IsVector, IsCanonicalRow}
use Rattle.sf_algebra.proofs.Basics.Filters.{IsCanonical-filter}
use Rattle.sf_algebra.proofs.Operators.Coordinates.{AreCoordinates, coordinates-differ}
use Rattle.sf_algebra.proofs.Operators.Subgroups.{Whole-sub, ImageOf-sub, PreimageOf-sub, KernelOf-sub, same-sub}
use Rattle.sf_algebra.proofs.Vectors.DegreeParts.{IsHomogeneous-degree_part}
use Rattle.sf_algebra.proofs.Vectors.HomogeneousVectors.{row_combination-IsVector}
use Rattle.sf_algebra.proofs.Vectors.VectorGroups.{SpanOf, vectors_of_degree, coefficients_of_degree, values_of_degree, combined_matrix, combined_matrix-map}
use Rattle.sf_algebra.proofs.Vectors.VectorProps.{same_canonical, vector_unique}
use Rattle.sf_groebner.specs.Presentations.{IsRelation}
use Rattle.sf_groebner.specs.Spans.{InSpan, IsSyzygy}

-- the vectors of degree d that a module N has
abbrev pub of_degree : (Vector → Type 0) → (ring : Ring) (positive : IsRing ring) (degrees : List ℤ) (d : ℤ)
    → (vectors_of_degree ring positive.modulus degrees d).V → Type 0
of_degree N ring positive degrees d v = N (record { degree = d; terms = v.0 })

module _ (m : Matrix) (positive : IsRing m.ring) (d : ℤ) where
  -- coefficients of degree d that a module of coefficients has, and vectors of degree d that a module has
  abbrev pub of_coefficients : (Vector → Type 0) → (coefficients_of_degree m positive.modulus d).V → Type 0
  of_coefficients N = of_degree N m.ring positive (row_degrees m) d

  abbrev pub of_values : (Vector → Type 0) → (values_of_degree m positive.modulus d).V → Type 0
  of_values N = of_degree N m.ring positive m.target d

  module _ (is_matrix : IsMatrix m) where
    -- the vectors of degree d in the span are the combinations with coefficients of degree d
    pub InSpan-image : IsWithin (of_values (InSpan m)) (ImageOf (combined_matrix m positive.modulus d is_matrix) Whole)
    InSpan-image v h =
        let degree : (h.coefficients).degree ≡ d = ap (λ (w : Vector). w.degree) h.value in
        let c =
        subst (λ e. IsVector m.ring (row_degrees m) (record { degree = e; terms = (h.coefficients).terms })) degree h.homogeneous in
        (((h.coefficients).terms, c), tt, vector_unique m.ring m.target d _ v (ap (λ (w : Vector). w.terms) h.value))

    pub image-InSpan : IsWithin (ImageOf (combined_matrix m positive.modulus d is_matrix) Whole) (of_values (InSpan m))
    image-InSpan v h = record {
      coefficients = record { degree = d; terms = (h.0).0 };
      homogeneous = (h.0).1;
      value = λ i. record { degree = d; terms = (h.2 i).0 };
    }

    pub InSpan-sub : IsSub (values_of_degree m positive.modulus d) (of_values (InSpan m))
    InSpan-sub =
        same-sub (values_of_degree m positive.modulus d)
        (ImageOf (combined_matrix m positive.modulus d is_matrix) Whole)
        (of_values (InSpan m)) image-InSpan InSpan-image
        (ImageOf-sub (coefficients_of_degree m positive.modulus d) (values_of_degree m positive.modulus d) (combined_matrix m positive.modulus d is_matrix) (combined_matrix-map m positive.modulus d is_matrix) Whole
        (Whole-sub (coefficients_of_degree m positive.modulus d)))

    -- the syzygies of degree d are the kernel
    pub IsSyzygy-sub : IsSub (coefficients_of_degree m positive.modulus d) (of_coefficients (IsSyzygy m))
    IsSyzygy-sub =
        same-sub (coefficients_of_degree m positive.modulus d)
        (KernelOf (values_of_degree m positive.modulus d) (combined_matrix m positive.modulus d is_matrix))
        (of_coefficients (IsSyzygy m))
        (λ c h. record { coefficients = c.1; zero = λ i. (h i).0 }) (λ c h. vector_unique m.ring m.target d _ _ h.zero)
        (KernelOf-sub (coefficients_of_degree m positive.modulus d) (values_of_degree m positive.modulus d) (combined_matrix m positive.modulus d is_matrix) (combined_matrix-map m positive.modulus d is_matrix))

    module _ (B : Vector → Type 0) (sub : IsSub (values_of_degree m positive.modulus d) (of_values B)) where
      -- the relations modulo B are the coefficients whose combination is in B
      pub IsRelation-sub : IsSub (coefficients_of_degree m positive.modulus d) (of_coefficients (IsRelation m B))
      IsRelation-sub =
          same-sub (coefficients_of_degree m positive.modulus d)
          (PreimageOf (combined_matrix m positive.modulus d is_matrix) (of_values B)) (of_coefficients (IsRelation m B))
          (λ c h. record { coefficients = c.1; inside = h }) (λ c h. h.inside)
          (PreimageOf-sub (coefficients_of_degree m positive.modulus d) (values_of_degree m positive.modulus d) (combined_matrix m positive.modulus d is_matrix) (combined_matrix-map m positive.modulus d is_matrix) (of_values B) sub)

      -- two coordinates of one vector modulo B differ by a relation
      pub coordinates-relation : (v : (values_of_degree m positive.modulus d).V)
          (c e : (coefficients_of_degree m positive.modulus d).V)
          → AreCoordinates (values_of_degree m positive.modulus d) (combined_matrix m positive.modulus d is_matrix)
          (of_values B) v c
          → AreCoordinates (values_of_degree m positive.modulus d) (combined_matrix m positive.modulus d is_matrix)
          (of_values B) v e
          → IsRelation m B (vector_difference m.ring (record { degree = d; terms = c.0 })
          (record { degree = d; terms = e.0 }))
      coordinates-relation v c e h k =
          let C = coefficients_of_degree m positive.modulus d in
          record {
            coefficients = (C.plus c (C.minus e)).1;
            inside =
                coordinates-differ C (values_of_degree m positive.modulus d)
                (combined_matrix m positive.modulus d is_matrix) (combined_matrix-map m positive.modulus d is_matrix)
                (of_values B) sub v c e h k;
          }

module _ (m : Matrix) (positive : IsRing m.ring) where
  -- a vector in the span is in it with coefficients of no degree in particular
  pub InSpan-SpanOf : (v : Vector) (canonical : IsCanonicalRow m.ring v.terms) → InSpan m v
      → SpanOf m.ring positive.modulus m.rows (v.terms, canonical)
  InSpan-SpanOf v canonical h =
      (((h.coefficients).terms, (h.homogeneous).canonical), tt, same_canonical (place_cmp m.ring.weights) m.ring.modulus _ _ (ap (λ (w : Vector). w.terms) h.value))

  -- with any coefficients it is in the span: those of its degree do
  pub SpanOf-InSpan : IsMatrix m → (v : Vector) (vector : IsVector m.ring m.target v)
      → SpanOf m.ring positive.modulus m.rows (v.terms, vector.canonical) → InSpan m v
  SpanOf-InSpan is_matrix v vector h =
      let value : row_combination m.ring m.rows (h.0).0 ≡ v.terms = λ i. (h.2 i).0 in
      let c : Vector = record { degree = v.degree; terms = degree_part m.ring.weights (row_degrees m) v.degree (h.0).0 } in record {
        coefficients = c;
        homogeneous = record { canonical = IsCanonical-filter _ (place_cmp m.ring.weights) m.ring.modulus (h.0).0 (h.0).1; homogeneous = IsHomogeneous-degree_part m.ring.weights (row_degrees m) v.degree (h.0).0 };
        value = λ i. record { degree = v.degree; terms = row_combination-IsVector m positive.modulus is_matrix v vector (h.0).0 value i };
      }
