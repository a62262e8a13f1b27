-- The second page of a tensor bicomplex in row 0: cycles and boundaries of the complex C x N.
use Rattle.std.proofs.Common.{◌≡◌, ◌↔◌, ◌<◌, ℕ, zero, suc, List, [], ◌∷◌, ◌++◌, length, inl, inr, refl, sym, ap, ◌∙◌, subst, arith, ℤ, pos, ◌+ℤ◌, ◌-ℤ◌}
use Rattle.std.proofs.lemmas.Bool.{cases_lt}
use Rattle.std.proofs.lemmas.Int.{ints}
use Rattle.sf_algebra.specs.Matrices.{IsMatrix, Matrix, degrees_of, row_degrees}
use Rattle.sf_algebra.specs.MatrixOperations.{degree_sums, identity, kronecker, stacked}
use Rattle.sf_algebra.specs.Rings.{IsOverField, IsRing, Ring}
use Rattle.sf_algebra.specs.Vectors.{IsVector, Vector}
use Rattle.sf_algebra.proofs.GradedMatrices.Identities.{IsMatrix-identity, row_degrees-identity}
use Rattle.sf_algebra.proofs.Monomials.Weights.{field_ring}
use Rattle.sf_algebra.proofs.Tensors.Kronecker.{IsMatrix-kronecker, row_degrees-kronecker}
use Rattle.sf_algebra.proofs.Vectors.HomogeneousVectors.{IsVector-row_combination}
use Rattle.sf_groebner.specs.Homology.{IsCycle, IsHomology}
use Rattle.sf_groebner.specs.MinimalGenerators.{matrix_of}
use Rattle.sf_groebner.specs.Presentations.{IsPresentation}
use Rattle.sf_groebner.specs.Spans.{InSpan, combined, combined_rows}
use Rattle.sf_groebner.proofs.Spanning.SpanCombinations.{span_submodule, zero-inside}
use Rattle.sf_groebner.proofs.Uniqueness.PresentedModules.{IsPresentation-same}
use Rattle.sf_bicomplex.specs.Bicomplexes.{Bicomplex}
use Rattle.sf_bicomplex.specs.Pages.{IsBoundaryOfPage, IsCycleOfPage, IsNear, IsPage}
use Rattle.sf_bicomplex.specs.TensorBicomplexes.{FreeComplex, IsFreeComplex, tensor_of_complexes}
use Rattle.sf_bicomplex.specs.TensorPages.{tensor_beyond, tensor_place, tensor_relations}
use Rattle.sf_bicomplex.proofs.Pages.LowestRows.{second_boundaries, second_cycles}
use Rattle.sf_bicomplex.proofs.Pages.PageLaws.{last_pages}
use Rattle.sf_bicomplex.proofs.Tensors.NearStacks.{near-stacked}
use Rattle.sf_bicomplex.proofs.Tensors.TensorPages.{T_matrix, T_target, nothing_below, row_degrees-there, tensor-is_bicomplex, tensor_boundaries, tensor_cycles}
use Rattle.sf_bicomplex.proofs.TotalComplexes.TotalMaps.{no_generators}

-- no degrees, no rows
no_rows : (vs : List Vector) → degrees_of vs ≡ [] → vs ≡ []
no_rows [] e = refl
no_rows (v ∷ vs) e = absurd (omega (arith, ap length e))

module _ (c d : FreeComplex) (hc : IsFreeComplex c) (hd : IsFreeComplex d) (rings : c.ring ≡ d.ring)
    (prime : IsOverField c.ring) where
  positive : IsRing c.ring
  positive = field_ring prime

  abbrev b : Bicomplex
  b = tensor_of_complexes c d

  -- dh in row 0
  abbrev H : ℕ → Matrix
  H p = kronecker (c.map p) (identity c.ring (d.degrees 0))

  abbrev T : ℕ → Matrix
  T p = tensor_relations c (d.map 1) p

  abbrev degrees : ℕ → List ℤ
  degrees p = degree_sums (c.degrees p) (d.degrees 0)

  H_ring : (p : ℕ) → (H p).ring ≡ c.ring
  H_ring p = (hc.sources p).ring_of

  H_matrix : (p : ℕ) → IsMatrix (H p)
  H_matrix p =
      IsMatrix-kronecker (c.map p) (identity c.ring (d.degrees 0))
      (subst (λ (q : Ring). 0 < q.modulus) (sym (H_ring p)) positive.modulus) (H_ring p) (hc.sources p).matrix
      (IsMatrix-identity c.ring prime.prime.above_one (d.degrees 0))

  H_degrees : (p : ℕ) → row_degrees (H p) ≡ degrees p
  H_degrees p =
      row_degrees-kronecker (c.map p) (identity c.ring (d.degrees 0))
      ∙ (λ i. degree_sums ((hc.sources p).source_of i) (row_degrees-identity c.ring (d.degrees 0) i))

  H_value : (p : ℕ) (z : Vector) → combined (H p) z ≡ combined_rows c.ring (H p).rows z
  H_value p z = ap (λ q. combined_rows q (H p).rows z) (H_ring p)

  coefficients : (p : ℕ) (z : Vector) → IsVector c.ring (degrees p) z → IsVector (H p).ring (row_degrees (H p)) z
  coefficients p z v =
      subst (λ q. IsVector q (row_degrees (H p)) z) (sym (H_ring p))
      (subst (λ ds. IsVector c.ring ds z) (sym (H_degrees p)) v)

  vector-from : (p : ℕ) (z : Vector) → IsVector (H p).ring (row_degrees (H p)) z → IsVector c.ring (degrees p) z
  vector-from p z v =
      subst (λ ds. IsVector c.ring ds z) (H_degrees p) (subst (λ q. IsVector q (row_degrees (H p)) z) (H_ring p) v)

  -- cycles of page 2
  cycles_of : (p : ℕ) → p < c.places → (n m : ℤ) → m ≡ n -ℤ pos 1 → n -ℤ pos p ≡ pos 0 → (z : Vector)
      → IsCycleOfPage b 2 n m p z ↔ IsCycle (H p) (tensor_beyond c (d.map 1) p) z
  cycles_of zero inside n m lower here z =
      let all = tensor_cycles c d hc hd rings prime 0 inside n m lower here z in
      let last =
      (last_pages b (tensor-is_bicomplex c d hc hd rings prime) n m lower 1 2 0 (omega arith) inside z).0 (omega arith) in (
        λ e.
            let v = coefficients 0 z (all.0 (last.1 e)) in
            let target : (H 0).target ≡ [] = ap (λ ds. degree_sums ds (d.degrees 0)) hc.leaving in
            let image =
            IsVector-row_combination (H 0)
            (subst (λ (q : Ring). 0 < q.modulus) (sym (H_ring 0)) positive.modulus) (H_matrix 0) z v in
            record {
              coefficients = v;
              inside =
                  subst (λ ts. InSpan (matrix_of c.ring [] []) (record { degree = z.degree; terms = ts }))
                  (sym (no_generators (H 0).ring (combined (H 0) z)
                  (subst (λ ds. IsVector (H 0).ring ds (combined (H 0) z)) target image)))
                  (zero-inside c.ring positive [] (InSpan (matrix_of c.ring [] []))
                  (span_submodule (matrix_of c.ring [] []) positive tt) z.degree);
            },
        λ k. last.0 (all.1 (vector-from 0 z k.coefficients)),
      )
  cycles_of (suc p) inside n m lower here z =
      let below : m -ℤ pos p ≡ pos 0 = omega (arith, ints) in
      let all =
      second_cycles b (tensor-is_bicomplex c d hc hd rings prime) prime n m lower p inside
      (nothing_below c d hc hd rings prime (suc p) n m lower here) z in
      let boundary = tensor_boundaries c d hc hd rings prime p (omega arith) n m lower below in
      let there = row_degrees-there c d hc hd rings prime (suc p) n here in
      let value =
      ap (λ q. combined_rows c.ring (b.horizontal (suc p) q).rows z) here ∙ sym (H_value (suc p) z) in (
        λ e.
            let both = all.0 e in
            record {
              coefficients = coefficients (suc p) z (subst (λ ds. IsVector c.ring ds z) there both.0);
              inside = subst (InSpan (T p)) value ((boundary _).0 both.1);
            },
        λ k. all.1 (
          subst (λ ds. IsVector c.ring ds z) (sym there) (vector-from (suc p) z k.coefficients),
          (boundary _).1 (subst (InSpan (T p)) (sym value) k.inside),
        ),
      )

  -- dh into column p, with the ring and the generators of the relations there
  abbrev A : ℕ → Matrix
  A p = matrix_of c.ring (T p).target (H (suc p)).rows

  A_same : (p : ℕ) → H (suc p) ≡ A p
  A_same p = λ i. record {
    ring = H_ring (suc p) i;
    target = (ap (λ ds. degree_sums ds (d.degrees 0)) (hc.targets p) ∙ sym (T_target c d hc hd rings prime p)) i;
    rows = (H (suc p)).rows;
  }

  A_matrix : (p : ℕ) → IsMatrix (A p)
  A_matrix p = subst IsMatrix (A_same p) (H_matrix (suc p))

  module _ (p : ℕ) (k n : ℤ) (lower : n ≡ k -ℤ pos 1) (here : n -ℤ pos p ≡ pos 0) (inside : p < c.places) (w : Vector) where
    abbrev B : Vector → Type 0
    B = IsBoundaryOfPage b 1 k n p

    boundary : (v : Vector) → IsBoundaryOfPage b 1 k n p v ↔ InSpan (T p) v
    boundary = tensor_boundaries c d hc hd rings prime p inside k n lower here

    near_at : (q0 q1 : ℤ) → q0 ≡ pos 0 → q1 ≡ pos 0
        → IsNear c.ring (b.relations p q0).target (λ v. combined_rows c.ring (b.horizontal (suc p) q1).rows v)
        (IsVector c.ring (b.relations (suc p) q1).target) B w
        ↔ InSpan (stacked (A p) (T p)) w
    near_at q0 q1 e0 e1 =
        subst (λ (x : ℤ × ℤ). IsNear c.ring (b.relations p x.0).target
        (λ v. combined_rows c.ring (b.horizontal (suc p) x.1).rows v) (IsVector c.ring (b.relations (suc p) x.1).target) B w
        ↔ InSpan (stacked (A p) (T p)) w) (λ i. (sym e0 i, sym e1 i))
        (subst (λ ds. IsNear c.ring ds (λ v. combined_rows c.ring (H (suc p)).rows v) (IsVector c.ring (degrees (suc p))) B w
        ↔ InSpan (stacked (A p) (T p)) w) (T_target c d hc hd rings prime p)
        (near-stacked (T p) positive (T_matrix c d hc hd rings prime p) (H (suc p)).rows (A_matrix p) (degrees (suc p))
        (H_degrees (suc p)) B boundary w))

    boundaries_of : IsBoundaryOfPage b 2 k n p w ↔ InSpan (stacked (A p) (T p)) w
    boundaries_of = elim (cases_lt (suc p) c.places) [
      | inl more ↦
          let right : k -ℤ pos (suc p) ≡ pos 0 = omega (arith, ints) in
          let all =
          second_boundaries b (tensor-is_bicomplex c d hc hd rings prime) prime k n lower p more
          (nothing_below c d hc hd rings prime (suc p) k n lower right) w in
          let near = near_at (n -ℤ pos p) (k -ℤ pos (suc p)) here right in
          (λ e. near.0 (all.0 e), λ e. all.1 (near.1 e))
      | inr past ↦
          let last =
          (last_pages b (tensor-is_bicomplex c d hc hd rings prime) k n lower 1 2 p (omega arith) inside w).1
          (omega arith) in
          let none : (H (suc p)).rows ≡ [] =
          no_rows (H (suc p)).rows
          (H_degrees (suc p) ∙ ap (λ ds. degree_sums ds (d.degrees 0)) (hc.outside (suc p) (omega arith))) in
          let same : stacked (A p) (T p) ≡ T p = λ i. matrix_of c.ring (T p).target (none i ++ (T p).rows) in (
            λ e. subst (λ (x : Matrix). InSpan x w) (sym same) ((boundary w).0 (last.1 e)),
            λ e. last.0 ((boundary w).1 (subst (λ (x : Matrix). InSpan x w) same e)),
          )
    ]

  pub second_page : (p : ℕ) → p < c.places → (g r : Matrix)
      → IsPage (tensor_of_complexes c d) 2 (pos p) p g r ↔ IsHomology (tensor_place c (d.map 1) p) g r
  second_page p inside g r =
      let n = pos p in
      let here : pos p -ℤ pos p ≡ pos 0 = omega (arith, ints) in
      let lower : n ≡ n +ℤ pos 1 -ℤ pos 1 = omega (arith, ints) in
      let Z : Vector → Type 0 = IsCycleOfPage b 2 n (n -ℤ pos 1) p in
      let B : Vector → Type 0 = IsBoundaryOfPage b 2 (n +ℤ pos 1) n p in
      let C : Vector → Type 0 = IsCycle (H p) (tensor_beyond c (d.map 1) p) in
      let S : Vector → Type 0 = InSpan (stacked (A p) (T p)) in
      let cycles = cycles_of p inside n (n -ℤ pos 1) refl here in
      let boundaries = boundaries_of p (n +ℤ pos 1) n lower here inside in
      let same = row_degrees-there c d hc hd rings prime p n here ∙ sym (T_target c d hc hd rings prime p) in
      let target = (T p).target in
      -- the place as it is written with the generators of the map
      let written : IsPresentation c.ring target C S g r ≡ IsHomology (tensor_place c (d.map 1) p) g r =
      (λ i. IsPresentation c.ring target C (InSpan (stacked (sym (A_same p) i) (T p))) g r)
      ∙ (λ i. IsPresentation c.ring target
      (IsCycle (kronecker (c.map p) (identity c.ring (sym (hd.targets 0) i))) (tensor_beyond c (d.map 1) p))
      (InSpan (stacked (kronecker (c.map (suc p)) (identity c.ring (sym (hd.targets 0) i))) (T p))) g r) in (
        λ e. subst (λ (X : Type 0). X) written
            (IsPresentation-same c.ring target Z B g r (subst (λ ds. IsPresentation c.ring ds Z B g r) same e) C S
            (λ v. (cycles v).0) (λ v. (cycles v).1) (λ v. (boundaries v).0) (λ v. (boundaries v).1)),
        λ e. subst (λ ds. IsPresentation c.ring ds Z B g r) (sym same)
            (IsPresentation-same c.ring target C S g r (subst (λ (X : Type 0). X) (sym written) e) Z B
            (λ v. (cycles v).1) (λ v. (cycles v).0) (λ v. (boundaries v).1) (λ v. (boundaries v).0)),
      )
