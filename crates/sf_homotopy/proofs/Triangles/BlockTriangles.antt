-- Block triangular matrices with exact blocks on the diagonal are exact: one more row of blocks at a time.
use Rattle.std.proofs.Common.{◌≡◌, ◌<◌, List, [], ◌∷◌, ◌++◌, refl, sym, ◌∙◌, subst, arith, ℤ}
use Rattle.sf_algebra.specs.Matrices.{row_degrees, IsMatrix}
use Rattle.sf_algebra.specs.MatrixOperations.{matrix_product, IsComposable}
use Rattle.sf_algebra.specs.Rings.{Ring}
use Rattle.sf_algebra.specs.Terms.{Term}
use Rattle.sf_algebra.specs.Vectors.{Place, IsHomogeneous}
use Rattle.sf_blocks.specs.MatrixSums.{zero_matrix, IsZeroMatrix}
use Rattle.sf_blocks.proofs.TwoByTwo.Triangles.{IsMatrix-triangle, IsZeroMatrix-triangles, row_degrees-triangle}
use Rattle.sf_homotopy.specs.BlockTriangles.{BlockRow, AreBlockRows, HaveExactDiagonals, block_triangle}
use Rattle.sf_homotopy.specs.Exactness.{IsExactPair}
use Rattle.sf_homotopy.proofs.Triangles.ExactTriangles.{exact_triangles}
use Rattle.sf_homotopy.proofs.Exactness.ZeroProducts.{syzygies_of_span}

-- over no generators there are no terms
no_terms : (ring : Ring) (d : ℤ) (ts : List (Term Place)) → IsHomogeneous ring.weights [] d ts → ts ≡ []
no_terms ring d [] h = refl
no_terms ring d (t ∷ ts) h = absurd (omega (arith, h.0.0))

exact_nothing : (ring : Ring) → 0 < ring.modulus → IsExactPair (zero_matrix ring [] []) (zero_matrix ring [] [])
exact_nothing ring positive =
    let nothing = zero_matrix ring [] [] in
    let meet : IsComposable nothing nothing = record { positive = positive; rings = refl; degrees = refl } in record {
      out_matrix = tt;
      into_matrix = tt;
      meet = meet;
      exact = λ v. (
        λ k. record {
          coefficients = v;
          homogeneous = k.coefficients;
          value = λ i. record {
            degree = v.degree;
            terms = (k.zero ∙ sym (no_terms ring v.degree v.terms k.coefficients.homogeneous)) i;
          };
        },
        syzygies_of_span nothing nothing meet tt refl v,
      );
    }

module _ (ring : Ring) (positive : 0 < ring.modulus) where
  IsMatrix-block_triangle : (rs ss : List BlockRow) → AreBlockRows ring rs → HaveExactDiagonals rs ss
      → IsMatrix (block_triangle ring rs)
  IsMatrix-block_triangle [] [] h e = tt
  IsMatrix-block_triangle (r ∷ rs) (s ∷ ss) h e =
      IsMatrix-triangle (block_triangle ring rs) r.below r.diagonal h.0 (IsMatrix-block_triangle rs ss h.2 e.1) h.1
      e.0.out_matrix
  IsMatrix-block_triangle [] (s ∷ ss) h e = absurd e
  IsMatrix-block_triangle (r ∷ rs) [] h e = absurd e

  IsMatrix-block_triangle_into : (rs ss : List BlockRow) → AreBlockRows ring ss → HaveExactDiagonals rs ss
      → IsMatrix (block_triangle ring ss)
  IsMatrix-block_triangle_into [] [] h e = tt
  IsMatrix-block_triangle_into (r ∷ rs) (s ∷ ss) h e =
      IsMatrix-triangle (block_triangle ring ss) s.below s.diagonal h.0 (IsMatrix-block_triangle_into rs ss h.2 e.1) h.1
      e.0.into_matrix
  IsMatrix-block_triangle_into [] (s ∷ ss) h e = absurd e
  IsMatrix-block_triangle_into (r ∷ rs) [] h e = absurd e

  ring-block_triangle : (rs : List BlockRow) → (block_triangle ring rs).ring ≡ ring
  ring-block_triangle [] = refl
  ring-block_triangle (r ∷ rs) = ring-block_triangle rs

  degrees-block_triangle : (rs ss : List BlockRow) → AreBlockRows ring rs → HaveExactDiagonals rs ss
      → row_degrees (block_triangle ring rs) ≡ (block_triangle ring ss).target
  degrees-block_triangle [] [] h e = refl
  degrees-block_triangle (r ∷ rs) (s ∷ ss) h e =
      row_degrees-triangle (block_triangle ring rs) r.below r.diagonal h.0
      ∙ (λ i. degrees-block_triangle rs ss h.2 e.1 i ++ (h.0.lower.degrees ∙ e.0.meet.degrees) i)
  degrees-block_triangle [] (s ∷ ss) h e = absurd e
  degrees-block_triangle (r ∷ rs) [] h e = absurd e

  IsComposable-block_triangles : (rs ss : List BlockRow) → AreBlockRows ring rs → HaveExactDiagonals rs ss
      → IsComposable (block_triangle ring ss) (block_triangle ring rs)
  IsComposable-block_triangles rs ss h e = record {
    positive = subst (λ (q : Ring). 0 < q.modulus) (sym (ring-block_triangle ss)) positive;
    rings = ring-block_triangle ss ∙ sym (ring-block_triangle rs);
    degrees = degrees-block_triangle rs ss h e;
  }

  pub exact_block_triangles : (rs ss : List BlockRow) → AreBlockRows ring rs → AreBlockRows ring ss
      → HaveExactDiagonals rs ss → IsZeroMatrix (matrix_product (block_triangle ring ss) (block_triangle ring rs))
      → IsExactPair (block_triangle ring rs) (block_triangle ring ss)
  exact_block_triangles [] [] h k e none = exact_nothing ring positive
  exact_block_triangles (r ∷ rs) (s ∷ ss) h k e none =
      let a = block_triangle ring rs in
      let c = block_triangle ring ss in
      let above = (IsZeroMatrix-triangles c s.below s.diagonal a r.below r.diagonal k.0 h.0
      (IsComposable-block_triangles rs ss h.2 e.1) e.0.meet (IsMatrix-block_triangle_into rs ss k.2 e.1) k.1
      e.0.into_matrix (IsMatrix-block_triangle rs ss h.2 e.1) h.1 e.0.out_matrix).0 none in
      exact_triangles a r.below r.diagonal c s.below s.diagonal h.0 k.0 h.1 k.1
      (exact_block_triangles rs ss h.2 k.2 e.1 above.0) e.0 none
  exact_block_triangles [] (s ∷ ss) h k e none = absurd e
  exact_block_triangles (r ∷ rs) [] h k e none = absurd e
