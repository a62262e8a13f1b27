-- The tensor product with a free module of one generator changes degrees alone, so it keeps exact pairs.
use Rattle.std.proofs.Common.{◌≡◌, ◌↔◌, ◌<◌, ◌+◌, ◌*◌, ℕ, zero, suc, List, [], ◌∷◌, map, length, refl, sym, ap, ◌∙◌, subst, arith, append-nil, zero-mul, ℤ, ◌+ℤ◌, neg_ℤ}
use Rattle.std.proofs.lemmas.Int.{ints}
use Rattle.sf_algebra.specs.Matrices.{IsMatrix, degrees_of}
use Rattle.sf_algebra.specs.MatrixOperations.{identity, kronecker, moved, row_at, row_combination}
use Rattle.sf_algebra.specs.Multiples.{combination, place_product}
use Rattle.sf_algebra.specs.Rings.{Ring}
use Rattle.sf_algebra.specs.Terms.{Term}
use Rattle.sf_algebra.specs.Vectors.{IsHomogeneous, IsVector, Place, Vector, generator_degree, place_cmp}
use Rattle.sf_algebra.proofs.Tensors.KroneckerFactors.{moved_rows, rows-kronecker_identity_first}
use Rattle.sf_groebner.specs.MinimalGenerators.{matrix_of}
use Rattle.sf_groebner.specs.Spans.{InSpan, IsSyzygy}
use Rattle.sf_homotopy.specs.Exactness.{IsExactPair}

moved-none : (by : ℕ) → by ≡ 0 → (ts : List (Term Place)) → moved by ts ≡ ts
moved-none by none [] = refl
moved-none by none (t ∷ ts) =
    let same : by + t.at.position ≡ t.at.position = omega arith in
    λ i. record { at = record { position = same i; monomial = t.at.monomial }; coefficient = t.coefficient }
    ∷ moved-none by none ts i

module _ (d : ℤ) where
  -- rows whose degrees are higher by d
  abbrev pub shifted : List Vector → List Vector
  shifted ws = map (λ (w : Vector). record { degree = d +ℤ w.degree; terms = w.terms }) ws

  moved_rows-none : (by : ℕ) → by ≡ 0 → (ws : List Vector) → moved_rows d by ws ≡ shifted ws
  moved_rows-none by none [] = refl
  moved_rows-none by none (w ∷ ws) =
      λ i. record { degree = d +ℤ w.degree; terms = moved-none by none w.terms i } ∷ moved_rows-none by none ws i

  row_at-shifted : (ws : List Vector) (i : ℕ) → row_at (shifted ws) i ≡ row_at ws i
  row_at-shifted [] i = refl
  row_at-shifted (w ∷ ws) zero = refl
  row_at-shifted (w ∷ ws) (suc i) = row_at-shifted ws i

  combination-shifted : (ring : Ring) (ws : List Vector) (c : List (Term Place))
      → row_combination ring (shifted ws) c ≡ row_combination ring ws c
  combination-shifted ring ws c =
      λ i. combination (place_cmp ring.weights) place_product ring.modulus (λ (k : Place). k.monomial)
      (λ (k : Place). row_at-shifted ws k.position i) c

  degrees-shifted : (ws : List Vector) → degrees_of (shifted ws) ≡ map (λ e. d +ℤ e) (degrees_of ws)
  degrees-shifted [] = refl
  degrees-shifted (w ∷ ws) = ap (λ es. (d +ℤ w.degree) ∷ es) (degrees-shifted ws)

  generator-shifted : (ds : List ℤ) (i : ℕ) → i < length ds
      → generator_degree (map (λ e. d +ℤ e) ds) i ≡ d +ℤ generator_degree ds i
  generator-shifted [] i h = absurd (omega (arith, h))
  generator-shifted (e ∷ ds) zero h = refl
  generator-shifted (e ∷ ds) (suc i) h = generator-shifted ds i (omega (arith, h))

  length-shifted : (ds : List ℤ) → length (map (λ e. d +ℤ e) ds) ≡ length ds
  length-shifted [] = refl
  length-shifted (e ∷ ds) = let rest = length-shifted ds in omega (arith, rest)

  IsVector-shifted : (ring : Ring) (ds : List ℤ) (e : ℤ) (ts : List (Term Place))
      → IsVector ring ds (record { degree = e; terms = ts })
      → IsVector ring (map (λ e. d +ℤ e) ds) (record { degree = d +ℤ e; terms = ts })
  IsVector-shifted ring ds e ts h = record { canonical = h.canonical; homogeneous = each ts h.homogeneous }
    where
      each : (us : List (Term Place)) → IsHomogeneous ring.weights ds e us
          → IsHomogeneous ring.weights (map (λ e. d +ℤ e) ds) (d +ℤ e) us
      each [] k = tt
      each (u ∷ us) k =
          let size = length-shifted ds in
          let own = generator-shifted ds u.at.position k.0.0 in
          ((omega (arith, size, k.0.0), omega (arith, ints, own, k.0.1)), each us k.1)

  pub one-shifted : (ring : Ring) (es : List ℤ) (xs : List Vector) → 0 < ring.modulus → IsMatrix (matrix_of ring es xs)
      → kronecker (identity ring (d ∷ [])) (matrix_of ring es xs)
      ≡ matrix_of ring (map (λ e. d +ℤ e) es) (shifted xs)
  one-shifted ring es xs positive matrix =
      let rows = rows-kronecker_identity_first (d ∷ []) (matrix_of ring es xs) positive matrix
      ∙ append-nil (moved_rows d (0 * length es) xs)
      ∙ moved_rows-none (0 * length es) (zero-mul (length es)) xs in
      λ i. matrix_of ring (append-nil (map (λ e. d +ℤ e) es) i) (rows i)

-- degrees back
back : (d : ℤ) (ds : List ℤ) → map (λ e. neg_ℤ d +ℤ e) (map (λ e. d +ℤ e) ds) ≡ ds
back d [] = refl
back d (e ∷ ds) = let same : neg_ℤ d +ℤ (d +ℤ e) ≡ e = omega (arith, ints) in λ i. same i ∷ back d ds i

module _ (d : ℤ) (ring : Ring) (fs es : List ℤ) (xs ys : List Vector)
    (pair : IsExactPair (matrix_of ring fs xs) (matrix_of ring es ys)) where
  lowered : (v : Vector) (ws : List Vector) → IsVector ring (degrees_of (shifted d ws)) v
      → IsVector ring (degrees_of ws) (record { degree = neg_ℤ d +ℤ v.degree; terms = v.terms })
  lowered v ws h =
      subst (λ ds. IsVector ring ds (record { degree = neg_ℤ d +ℤ v.degree; terms = v.terms })) (back d (degrees_of ws))
      (IsVector-shifted (neg_ℤ d) ring (map (λ e. d +ℤ e) (degrees_of ws)) v.degree v.terms
      (subst (λ ds. IsVector ring ds v) (degrees-shifted d ws) h))

  raised : (e : ℤ) (f : ℤ) (ts : List (Term Place)) (ws : List Vector) → d +ℤ e ≡ f
      → IsVector ring (degrees_of ws) (record { degree = e; terms = ts })
      → IsVector ring (degrees_of (shifted d ws)) (record { degree = f; terms = ts })
  raised e f ts ws same h =
      subst (λ g. IsVector ring (degrees_of (shifted d ws)) (record { degree = g; terms = ts })) same
      (subst (λ ds. IsVector ring ds (record { degree = d +ℤ e; terms = ts })) (sym (degrees-shifted d ws))
      (IsVector-shifted d ring (degrees_of ws) e ts h))

  pub exact-shifted : (v : Vector) → IsSyzygy (matrix_of ring (map (λ e. d +ℤ e) fs) (shifted d xs)) v
      ↔ InSpan (matrix_of ring (map (λ e. d +ℤ e) es) (shifted d ys)) v
  exact-shifted v = (
    λ h.
        let u : Vector = record { degree = neg_ℤ d +ℤ v.degree; terms = v.terms } in
        let s = (pair.exact u).0
        (record {
          coefficients = lowered v xs h.coefficients;
          zero = sym (combination-shifted d ring xs v.terms) ∙ h.zero;
        }) in
        let y : Vector = s.coefficients in
        let degree : y.degree ≡ neg_ℤ d +ℤ v.degree = ap (λ (w : Vector). w.degree) s.value in
        let same : d +ℤ y.degree ≡ v.degree = omega (arith, ints, degree) in
        record {
          coefficients = record { degree = v.degree; terms = y.terms };
          homogeneous = raised y.degree v.degree y.terms ys same s.homogeneous;
          value = λ i. record {
            degree = v.degree;
            terms = (combination-shifted d ring ys y.terms ∙ ap (λ (w : Vector). w.terms) s.value) i;
          };
        },
    λ s.
        let y : Vector = s.coefficients in
        let degree : y.degree ≡ v.degree = ap (λ (w : Vector). w.degree) s.value in
        let u : Vector = record { degree = neg_ℤ d +ℤ v.degree; terms = v.terms } in
        let k = (pair.exact u).1
        (record {
          coefficients = record { degree = neg_ℤ d +ℤ y.degree; terms = y.terms };
          homogeneous = lowered y ys s.homogeneous;
          value = λ i. record {
            degree = neg_ℤ d +ℤ degree i;
            terms = (sym (combination-shifted d ring ys y.terms) ∙ ap (λ (w : Vector). w.terms) s.value) i;
          };
        }) in
        record {
          coefficients =
              raised (neg_ℤ d +ℤ v.degree) v.degree v.terms xs (omega (arith, ints)) k.coefficients;
          zero = combination-shifted d ring xs v.terms ∙ k.zero;
        },
  )
