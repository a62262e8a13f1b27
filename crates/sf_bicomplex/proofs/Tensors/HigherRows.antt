-- The first page of a tensor bicomplex above row 0, where the second complex is exact: cycles are boundaries, and so there is
-- nothing.
use Rattle.std.proofs.Common.{◌≡◌, ◌<◌, ◌+◌, ℕ, zero, suc, List, [], ◌∷◌, refl, sym, ap, ◌∙◌, subst, arith, ℤ, pos, ◌+ℤ◌, ◌-ℤ◌}
use Rattle.std.proofs.lemmas.Int.{ints}
use Rattle.sf_algebra.specs.Matrices.{IsMatrix, Matrix, row_degrees}
use Rattle.sf_algebra.specs.MatrixOperations.{degree_sums, identity, kronecker, negated, row_at, row_combination}
use Rattle.sf_algebra.specs.Multiples.{negative}
use Rattle.sf_algebra.specs.Rings.{IsOverField, IsRing, Ring}
use Rattle.sf_algebra.specs.Terms.{Term}
use Rattle.sf_algebra.specs.Vectors.{IsVector, Place, Vector}
use Rattle.sf_algebra.proofs.GradedMatrices.Identities.{IsMatrix-identity, row_degrees-identity}
use Rattle.sf_algebra.proofs.GradedMatrices.ProductLaws.{matrix_product-negated}
use Rattle.sf_algebra.proofs.Monomials.Weights.{field_ring}
use Rattle.sf_algebra.proofs.Tensors.Kronecker.{IsMatrix-kronecker, row_degrees-kronecker}
use Rattle.sf_groebner.specs.MinimalGenerators.{matrix_of}
use Rattle.sf_groebner.specs.Spans.{InSpan, combined_rows}
use Rattle.sf_groebner.proofs.Spanning.SpanCombinations.{span_submodule_of}
use Rattle.sf_groebner.proofs.WorkedExamples.FreeRelations.{span-no_rows}
use Rattle.sf_presented.proofs.EqualModulo.{AreEqualModulo-equal}
use Rattle.sf_homotopy.specs.Exactness.{IsExactPair}
use Rattle.sf_bicomplex.specs.Bicomplexes.{Bicomplex}
use Rattle.sf_bicomplex.specs.Pages.{IsBoundaryOfPage, IsCycleOfPage, IsPage}
use Rattle.sf_bicomplex.specs.TensorBicomplexes.{FreeComplex, IsFreeComplex, signed, tensor_of_complexes}
use Rattle.sf_bicomplex.specs.TotalColumns.{place}
use Rattle.sf_bicomplex.proofs.Pages.FirstPages.{first_boundaries, first_cycles}
use Rattle.sf_bicomplex.proofs.Spans.NoClasses.{presentation-none}
use Rattle.sf_bicomplex.proofs.Spans.PageSpans.{IsSpanned-boundaries, IsSpanned-cycles}
use Rattle.sf_bicomplex.proofs.Spans.SpannedModules.{spanned-one_presentation}
use Rattle.sf_bicomplex.proofs.Tensors.FreeExact.{exact-free}
use Rattle.sf_bicomplex.proofs.Tensors.Multiples.{IsMatrix-signed, ring-signed, row_degrees-signed}
use Rattle.sf_bicomplex.proofs.Tensors.SignedSpans.{span-signed}
use Rattle.sf_bicomplex.proofs.Tensors.TensorPages.{no_rows-kronecker, tensor-is_bicomplex}

-- what the negative of a matrix sends to 0 the matrix does
no_negative : (p : ℕ) (ts : List (Term Place)) → negative p ts ≡ [] → ts ≡ []
no_negative p [] e = refl
no_negative p (t ∷ ts) e = cc

zero-from_negated : (ring : Ring) → 0 < ring.modulus → (m : Matrix) → m.ring ≡ ring → IsMatrix m → (v : Vector)
    → row_combination ring (negated m).rows v.terms ≡ [] → row_combination ring m.rows v.terms ≡ []
zero-from_negated ring positive m same matrix v none =
    let own : Matrix = matrix_of ring (row_degrees m) (v ∷ []) in
    let value : row_combination ring (negated m).rows v.terms ≡ negative ring.modulus (row_combination ring m.rows v.terms) =
    ap (λ (x : Matrix). row_at x.rows 0) (matrix_product-negated own m positive (sym same) matrix) in
    no_negative ring.modulus (row_combination ring m.rows v.terms) (sym value ∙ none)

zero-from_signed : (ring : Ring) → 0 < ring.modulus → (p : ℕ) (m : Matrix) → m.ring ≡ ring → IsMatrix m → (v : Vector)
    → row_combination ring (signed p m).rows v.terms ≡ [] → row_combination ring m.rows v.terms ≡ []
zero-from_signed ring positive zero m same matrix v none = none
zero-from_signed ring positive (suc p) m same matrix v none =
    zero-from_signed ring positive p m same matrix v
    (zero-from_negated ring positive (signed p m) (ring-signed p m ∙ same) (IsMatrix-signed p m matrix) v none)

module _ (c d : FreeComplex) (hc : IsFreeComplex c) (hd : IsFreeComplex d) (rings : c.ring ≡ d.ring)
    (prime : IsOverField c.ring) (exact : (q : ℕ) → IsExactPair (d.map (suc q)) (d.map (suc (suc q)))) (p : ℕ) where
  positive : IsRing c.ring
  positive = field_ring prime

  abbrev b : Bicomplex
  b = tensor_of_complexes c d

  -- the maps of the second complex, with ring and generators of their targets
  abbrev D : ℕ → Matrix
  D q = matrix_of c.ring (d.degrees q) (d.map (suc q)).rows

  D_same : (q : ℕ) → d.map (suc q) ≡ D q
  D_same q = λ i. record {
    ring = ((hd.sources (suc q)).ring_of ∙ sym rings) i;
    target = hd.targets q i;
    rows = (d.map (suc q)).rows;
  }

  abbrev X : ℕ → Matrix
  X q = kronecker (identity c.ring (c.degrees p)) (d.map (suc q))

  X_matrix : (q : ℕ) → IsMatrix (X q)
  X_matrix q =
      IsMatrix-kronecker (identity c.ring (c.degrees p)) (d.map (suc q)) positive.modulus
      (rings ∙ sym (hd.sources (suc q)).ring_of) (IsMatrix-identity c.ring prime.prime.above_one (c.degrees p))
      (hd.sources (suc q)).matrix

  X_degrees : (q : ℕ) → row_degrees (X q) ≡ degree_sums (c.degrees p) (d.degrees (suc q))
  X_degrees q =
      row_degrees-kronecker (identity c.ring (c.degrees p)) (d.map (suc q))
      ∙ (λ i. degree_sums (row_degrees-identity c.ring (c.degrees p) i) ((hd.sources (suc q)).source_of i))

  X_exact : (q : ℕ) → IsExactPair (X q) (X (suc q))
  X_exact q =
      subst (λ (x : Matrix × Matrix). IsExactPair (kronecker (identity c.ring (c.degrees p)) x.0)
      (kronecker (identity c.ring (c.degrees p)) x.1)) (λ i. (sym (D_same q) i, sym (D_same (suc q)) i))
      (exact-free c.ring prime.prime.above_one positive (d.degrees q) (d.degrees (suc q)) (d.map (suc q)).rows
      (d.map (suc (suc q))).rows
      (subst (λ (x : Matrix × Matrix). IsExactPair x.0 x.1) (λ i. (D_same q i, D_same (suc q) i)) (exact q)) (c.degrees p))

  reached : (q : ℕ) (z : Vector) → IsVector c.ring (degree_sums (c.degrees p) (d.degrees (suc q))) z
      → InSpan (b.relations p (pos q)) (combined_rows c.ring (signed p (X q)).rows z)
      → (u : Vector) × IsVector c.ring (degree_sums (c.degrees p) (d.degrees (suc (suc q)))) u
      × (z ≡ combined_rows c.ring (signed p (X (suc q))).rows u)
  reached q z v k =
      let image : Vector = combined_rows c.ring (signed p (X q)).rows z in
      let degrees = degree_sums (c.degrees p) (d.degrees q) in
      let R_none : b.relations p (pos q) ≡ matrix_of c.ring degrees [] =
      λ i. matrix_of c.ring degrees (no_rows-kronecker (identity c.ring (c.degrees p)) d.ring (d.degrees q) i) in
      let none : image.terms ≡ [] =
      span-no_rows c.ring positive degrees image (subst (λ (x : Matrix). InSpan x image) R_none k) in
      let inside : InSpan (X (suc q)) z =
      ((X_exact q).exact z).0
      (record {
        coefficients = subst (λ ds. IsVector c.ring ds z) (sym (X_degrees q)) v;
        zero = zero-from_signed c.ring positive.modulus p (X q) refl (X_matrix q) z none;
      }) in
      let s = (span-signed (X (suc q)) prime.prime.above_one positive (X_matrix (suc q)) p z).1 inside in
      let u : Vector = s.coefficients in (
        u,
        subst (λ ds. IsVector c.ring ds u) (row_degrees-signed p (X (suc q)) ∙ X_degrees (suc q))
            (subst (λ r. IsVector r (row_degrees (signed p (X (suc q)))) u) (ring-signed p (X (suc q))) s.homogeneous),
        sym (ap (λ r. combined_rows r (signed p (X (suc q))).rows u) (sym (ring-signed p (X (suc q)))) ∙ s.value),
      )

  reached_at : (q : ℕ) (q0 q1 q2 : ℤ) → q0 ≡ pos q → q1 ≡ pos (suc q) → q2 ≡ pos (suc (suc q)) → (z : Vector)
      → IsVector c.ring (b.relations p q1).target z
      → InSpan (b.relations p q0) (combined_rows c.ring (b.vertical p q1).rows z)
      → (u : Vector) × IsVector c.ring (b.relations p q2).target u × (z ≡ combined_rows c.ring (b.vertical p q2).rows u)
  reached_at q q0 q1 q2 e0 e1 e2 =
      subst (λ (x : ℤ × ℤ × ℤ). (z : Vector) → IsVector c.ring (b.relations p x.1).target z
      → InSpan (b.relations p x.0) (combined_rows c.ring (b.vertical p x.1).rows z)
      → (u : Vector) × IsVector c.ring (b.relations p x.2).target u
      × (z ≡ combined_rows c.ring (b.vertical p x.2).rows u)) (λ i. (sym e0 i, sym e1 i, sym e2 i)) (reached q)

  module _ (q : ℕ) (inside : p < c.places) where
    abbrev n : ℤ
    n = pos (p + suc q)

    abbrev Z : Vector → Type 0
    Z = IsCycleOfPage b 1 n (n -ℤ pos 1) p

    abbrev B : Vector → Type 0
    B = IsBoundaryOfPage b 1 (n +ℤ pos 1) n p

    first : n ≡ n +ℤ pos 1 -ℤ pos 1
    first = omega (arith, ints)

    bounds : (z : Vector) → Z z → B z
    bounds z e =
        let h = tensor-is_bicomplex c d hc hd rings prime in
        let both = (first_cycles b h n (n -ℤ pos 1) refl p inside z).0 e in
        let u =
        reached_at q (n -ℤ pos 1 -ℤ pos p) (n -ℤ pos p) (n +ℤ pos 1 -ℤ pos p) (omega (arith, ints)) (omega (arith, ints))
        (omega (arith, ints)) z both.0 both.1 in
        let known = h.modules p (n -ℤ pos p) in
        (first_boundaries b h (n +ℤ pos 1) n first p inside z).1
        (record {
          vector = both.0;
          source = u.0;
          inside = u.1;
          equal =
              AreEqualModulo-equal c.ring positive (place b n p).target (InSpan (place b n p))
              (span_submodule_of c.ring positive (place b n p).target (place b n p) known.ring_of refl known.matrix) z
              (combined_rows c.ring (b.vertical p (n +ℤ pos 1 -ℤ pos p)).rows u.0) both.0.canonical u.2;
        })

    pub nothing_above : (g r : Matrix) → IsPage (tensor_of_complexes c d) 1 (pos (p + suc q)) p g r
        → (g.rows ≡ []) × (r.rows ≡ [])
    nothing_above g r page =
        let h = tensor-is_bicomplex c d hc hd rings prime in
        let target = (place b n p).target in
        let spanned_z = IsSpanned-cycles b h prime n (n -ℤ pos 1) refl 1 p inside in
        let spanned_b = IsSpanned-boundaries b h prime (n +ℤ pos 1) n first 1 p inside in
        let same =
        spanned-one_presentation c.ring prime target Z B spanned_z spanned_b g r (matrix_of c.ring target [])
        (matrix_of c.ring [] []) page (presentation-none c.ring prime target Z B spanned_z bounds) in
        (ap (λ (m : Matrix). m.rows) same.0, ap (λ (m : Matrix). m.rows) same.1)
