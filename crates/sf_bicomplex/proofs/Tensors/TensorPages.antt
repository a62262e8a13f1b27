-- The first page of a tensor bicomplex in row 0: no generators stand below, and dv from row 1 is, but for a sign, the map of the
-- second complex to place 0.
use Rattle.std.proofs.Common.{◌≡◌, ◌↔◌, ◌<◌, ℕ, List, [], ◌∷◌, refl, sym, ap, ◌∙◌, subst, arith, ℤ, pos, negsuc, ◌+ℤ◌, ◌-ℤ◌}
use Rattle.std.proofs.lemmas.Int.{ints}
use Rattle.sf_algebra.specs.Matrices.{IsMatrix, Matrix, row_degrees}
use Rattle.sf_algebra.specs.MatrixOperations.{degree_sums, identity, kronecker}
use Rattle.sf_algebra.specs.Rings.{IsOverField, IsRing, Ring}
use Rattle.sf_algebra.specs.VectorOperations.{vector_difference}
use Rattle.sf_algebra.specs.Vectors.{IsVector, Vector}
use Rattle.sf_algebra.proofs.GradedMatrices.Identities.{IsMatrix-identity, row_degrees-identity}
use Rattle.sf_algebra.proofs.Monomials.Weights.{field_ring}
use Rattle.sf_algebra.proofs.Tensors.Kronecker.{IsMatrix-kronecker, row_degrees-kronecker}
use Rattle.sf_groebner.specs.Homology.{IsAny}
use Rattle.sf_groebner.specs.Maps.{AreEqualModulo}
use Rattle.sf_groebner.specs.MinimalGenerators.{matrix_of}
use Rattle.sf_groebner.specs.Presentations.{IsPresentation}
use Rattle.sf_groebner.specs.Spans.{InSpan, combined_rows}
use Rattle.sf_groebner.proofs.MapsOnHomology.EqualModulo.{AreEqualModulo-inside}
use Rattle.sf_groebner.proofs.Spanning.SpanCombinations.{span_submodule, zero-inside}
use Rattle.sf_groebner.proofs.Spanning.Submodules.{IsSubmodule}
use Rattle.sf_groebner.proofs.Uniqueness.PresentedModules.{IsPresentation-same}
use Rattle.sf_groebner.proofs.WorkedExamples.FreeRelations.{span-no_rows}
use Rattle.sf_presented.proofs.EqualModulo.{AreEqualModulo-equal, AreEqualModulo-sym}
use Rattle.sf_bicomplex.specs.Bicomplexes.{Bicomplex, IsBicomplex}
use Rattle.sf_bicomplex.specs.Pages.{IsBoundaryOfPage, IsCycleOfPage, IsNear, IsPage}
use Rattle.sf_bicomplex.specs.TensorBicomplexes.{FreeComplex, IsFreeComplex, signed, tensor_of_complexes}
use Rattle.sf_bicomplex.specs.TensorPages.{tensor_relations}
use Rattle.sf_bicomplex.specs.TotalColumns.{place}
use Rattle.sf_bicomplex.proofs.Pages.FirstPages.{first_boundaries}
use Rattle.sf_bicomplex.proofs.Pages.LowestRows.{lowest_cycles}
use Rattle.sf_bicomplex.proofs.Tensors.Factors.{tensors_of_complexes}
use Rattle.sf_bicomplex.proofs.Tensors.Multiples.{ring-signed, row_degrees-signed}
use Rattle.sf_bicomplex.proofs.Tensors.SignedSpans.{span-signed}

-- products with nothing are nothing
pub degree_sums-nothing : (ds : List ℤ) → degree_sums ds [] ≡ []
degree_sums-nothing [] = refl
degree_sums-nothing (d ∷ ds) = degree_sums-nothing ds

pub no_rows-kronecker : (a : Matrix) (ring : Ring) (target : List ℤ) → (kronecker a (matrix_of ring target [])).rows ≡ []
no_rows-kronecker a ring target = each a.rows
  where
    each : (vs : List Vector) → (kronecker (matrix_of a.ring a.target vs) (matrix_of ring target [])).rows ≡ []
    each [] = refl
    each (v ∷ vs) = each vs

module _ (c d : FreeComplex) (hc : IsFreeComplex c) (hd : IsFreeComplex d) (rings : c.ring ≡ d.ring)
    (prime : IsOverField c.ring) where
  positive : IsRing c.ring
  positive = field_ring prime

  abbrev b : Bicomplex
  b = tensor_of_complexes c d

  pub tensor-is_bicomplex : IsBicomplex (tensor_of_complexes c d)
  tensor-is_bicomplex = tensors_of_complexes c d hc hd rings prime.prime.above_one

  module _ (p : ℕ) where
    abbrev T : Matrix
    T = tensor_relations c (d.map 1) p

    abbrev degrees : List ℤ
    degrees = degree_sums (c.degrees p) (d.degrees 0)

    pub T_matrix : IsMatrix (tensor_relations c (d.map 1) p)
    T_matrix =
        let s = hd.sources 1 in
        IsMatrix-kronecker (identity c.ring (c.degrees p)) (d.map 1) positive.modulus (rings ∙ sym s.ring_of)
        (IsMatrix-identity c.ring prime.prime.above_one (c.degrees p)) s.matrix

    pub T_target : (tensor_relations c (d.map 1) p).target ≡ degree_sums (c.degrees p) (d.degrees 0)
    T_target = ap (degree_sums (c.degrees p)) (hd.targets 0)

    T_degrees : row_degrees T ≡ degree_sums (c.degrees p) (d.degrees 1)
    T_degrees =
        row_degrees-kronecker (identity c.ring (c.degrees p)) (d.map 1)
        ∙ (λ i. degree_sums (row_degrees-identity c.ring (c.degrees p) i) ((hd.sources 1).source_of i))

    pub T-submodule : IsSubmodule c.ring degrees (InSpan T)
    T-submodule = subst (λ ds. IsSubmodule c.ring ds (InSpan T)) T_target (span_submodule T positive T_matrix)

    -- the module in row 0 has no relations
    abbrev R : Matrix
    R = kronecker (identity c.ring (c.degrees p)) (matrix_of d.ring (d.degrees 0) [])

    R_none : R ≡ matrix_of c.ring degrees []
    R_none = λ i. matrix_of c.ring degrees (no_rows-kronecker (identity c.ring (c.degrees p)) d.ring (d.degrees 0) i)

    R_matrix : IsMatrix R
    R_matrix = subst IsMatrix (sym R_none) tt

    signed_degrees : row_degrees (signed p T) ≡ degree_sums (c.degrees p) (d.degrees 1)
    signed_degrees = row_degrees-signed p T ∙ T_degrees

    boundaries_there : (w : Vector)
        → IsNear c.ring degrees (λ v. combined_rows c.ring (signed p T).rows v)
        (IsVector c.ring (degree_sums (c.degrees p) (d.degrees 1))) (InSpan R) w
        ↔ InSpan T w
    boundaries_there w = (
      λ e.
          let v : Vector = e.source in
          let image : Vector = combined_rows c.ring (signed p T).rows v in
          let inside : InSpan T image =
          (span-signed T prime.prime.above_one positive T_matrix p image).0
          (record {
            coefficients = v;
            homogeneous =
                subst (λ q. IsVector q (row_degrees (signed p T)) v) (sym (ring-signed p T))
                (subst (λ ds. IsVector c.ring ds v) (sym signed_degrees) e.inside);
            value = ap (λ q. combined_rows q (signed p T).rows v) (ring-signed p T);
          }) in
          let none : (vector_difference c.ring w image).terms ≡ [] =
          span-no_rows c.ring positive degrees (vector_difference c.ring w image)
          (subst (λ (x : Matrix). InSpan x (vector_difference c.ring w image)) R_none e.equal.difference) in
          let same : AreEqualModulo c.ring (InSpan T) w image = record {
            degrees = e.equal.degrees;
            difference =
                subst (λ ts. InSpan T (record { degree = w.degree; terms = ts })) (sym none)
                (zero-inside c.ring positive degrees (InSpan T) T-submodule w.degree);
          } in
          let canonical = (T-submodule.module_like.vectors image inside).canonical in
          AreEqualModulo-inside c.ring positive degrees (InSpan T) T-submodule.module_like image w e.vector.canonical
          (AreEqualModulo-sym c.ring positive degrees (InSpan T) T-submodule w image e.vector.canonical canonical same)
          inside,
      λ k.
          let s = (span-signed T prime.prime.above_one positive T_matrix p w).1 k in
          let v : Vector = s.coefficients in
          let vector : IsVector c.ring degrees w = T-submodule.module_like.vectors w k in
          let value : w ≡ combined_rows c.ring (signed p T).rows v =
          sym (ap (λ q. combined_rows q (signed p T).rows v) (sym (ring-signed p T)) ∙ s.value) in
          record {
            vector = vector;
            source = v;
            inside =
                subst (λ ds. IsVector c.ring ds v) signed_degrees
                (subst (λ q. IsVector q (row_degrees (signed p T)) v) (ring-signed p T) s.homogeneous);
            equal = AreEqualModulo-equal c.ring positive degrees (InSpan R) (span_submodule R positive R_matrix) w
                (combined_rows c.ring (signed p T).rows v) vector.canonical value;
          },
    )

    -- by rows
    boundaries_at : (q0 q1 : ℤ) → q0 ≡ pos 0 → q1 ≡ pos 1 → (w : Vector)
        → IsNear c.ring (b.relations p q0).target (λ v. combined_rows c.ring (b.vertical p q1).rows v)
        (IsVector c.ring (b.relations p q1).target) (InSpan (b.relations p q0)) w
        ↔ InSpan T w
    boundaries_at q0 q1 e0 e1 w =
        subst (λ (x : ℤ × ℤ). IsNear c.ring (b.relations p x.0).target (λ v. combined_rows c.ring (b.vertical p x.1).rows v)
        (IsVector c.ring (b.relations p x.1).target) (InSpan (b.relations p x.0)) w ↔ InSpan T w)
        (λ i. (sym e0 i, sym e1 i)) (boundaries_there w)

    pub tensor_boundaries : p < c.places → (k n : ℤ) → n ≡ k -ℤ pos 1 → n -ℤ pos p ≡ pos 0 → (w : Vector)
        → IsBoundaryOfPage (tensor_of_complexes c d) 1 k n p w ↔ InSpan (tensor_relations c (d.map 1) p) w
    tensor_boundaries inside k n lower here w =
        let first = first_boundaries b tensor-is_bicomplex k n lower p inside w in
        let last = boundaries_at (n -ℤ pos p) (k -ℤ pos p) here (omega (arith, ints)) w in
        (λ e. last.0 (first.0 e), λ e. first.1 (last.1 e))

    pub row_degrees-there : (n : ℤ) → n -ℤ pos p ≡ pos 0
        → (place (tensor_of_complexes c d) n p).target ≡ degree_sums (c.degrees p) (d.degrees 0)
    row_degrees-there n here = ap (λ q. (b.relations p q).target) here

    pub nothing_below : (n m : ℤ) → m ≡ n -ℤ pos 1 → n -ℤ pos p ≡ pos 0
        → (place (tensor_of_complexes c d) m p).target ≡ []
    nothing_below n m lower here =
        let below : m -ℤ pos p ≡ negsuc 0 = omega (arith, ints) in
        ap (λ q. (b.relations p q).target) below ∙ degree_sums-nothing (c.degrees p)

    pub tensor_cycles : p < c.places → (n m : ℤ) → m ≡ n -ℤ pos 1 → n -ℤ pos p ≡ pos 0 → (z : Vector)
        → IsCycleOfPage (tensor_of_complexes c d) 1 n m p z ↔ IsVector c.ring (degree_sums (c.degrees p) (d.degrees 0)) z
    tensor_cycles inside n m lower here z =
        let all = lowest_cycles b tensor-is_bicomplex n m lower p inside (nothing_below n m lower here) z in (
          λ e. subst (λ ds. IsVector c.ring ds z) (row_degrees-there n here) (all.0 e),
          λ v. all.1 (subst (λ ds. IsVector c.ring ds z) (sym (row_degrees-there n here)) v),
        )

    pub first_page : p < c.places → (g r : Matrix)
        → IsPage (tensor_of_complexes c d) 1 (pos p) p g r
        ↔ IsPresentation c.ring (degree_sums (c.degrees p) (d.degrees 0))
        (IsAny c.ring (degree_sums (c.degrees p) (d.degrees 0))) (InSpan (tensor_relations c (d.map 1) p)) g r
    first_page inside g r =
        let n = pos p in
        let here : pos p -ℤ pos p ≡ pos 0 = omega (arith, ints) in
        let lower : n ≡ n +ℤ pos 1 -ℤ pos 1 = omega (arith, ints) in
        let Z : Vector → Type 0 = IsCycleOfPage b 1 n (n -ℤ pos 1) p in
        let B : Vector → Type 0 = IsBoundaryOfPage b 1 (n +ℤ pos 1) n p in
        let cycles = tensor_cycles inside n (n -ℤ pos 1) refl here in
        let boundaries = tensor_boundaries inside (n +ℤ pos 1) n lower here in
        let same = row_degrees-there n here in (
          λ e. IsPresentation-same c.ring degrees Z B g r (subst (λ ds. IsPresentation c.ring ds Z B g r) same e)
              (IsAny c.ring degrees) (InSpan T) (λ v. (cycles v).0) (λ v. (cycles v).1) (λ v. (boundaries v).0)
              (λ v. (boundaries v).1),
          λ e. subst (λ ds. IsPresentation c.ring ds Z B g r) (sym same)
              (IsPresentation-same c.ring degrees (IsAny c.ring degrees) (InSpan T) g r e Z B (λ v. (cycles v).1)
              (λ v. (cycles v).0) (λ v. (boundaries v).1) (λ v. (boundaries v).0)),
        )
