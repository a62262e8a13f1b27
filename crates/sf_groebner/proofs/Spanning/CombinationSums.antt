-- Combinations of those of some vectors that coefficients meet, where each of these is a combination of rows; and
-- combinations of rows to which others are added.
use Rattle.std.proofs.Common.{◌≡◌, ℕ, ◌<◌, List, [], ◌∷◌, ◌++◌, length, refl, sym, ◌∙◌, ap, subst, arith, ℤ}
use Rattle.std.proofs.lemmas.Int.{ints}
use Rattle.std.proofs.lemmas.List.{length-append, length-map, map-append}
use Rattle.std.specs.List.{AllByRecursion}
use Rattle.sf_algebra.specs.Matrices.{degrees_of}
use Rattle.sf_algebra.specs.MatrixOperations.{row_at, row_combination}
use Rattle.sf_algebra.specs.Monomials.{one}
use Rattle.sf_algebra.specs.Rings.{Ring, IsRing}
use Rattle.sf_algebra.specs.Terms.{Term}
use Rattle.sf_algebra.specs.VectorOperations.{row_sum, row_multiple}
use Rattle.sf_algebra.specs.Vectors.{Place, Vector, generator_degree, IsTermOfDegree, IsHomogeneous}
use Rattle.sf_algebra.proofs.Basics.Lists.{AllByRecursion-append, AllByRecursion-weaken}
use Rattle.sf_algebra.proofs.Vectors.Rows.{row_combination-append, row_combination-nil, row_combination-one}
use Rattle.sf_groebner.proofs.PairLoops.GrowingRows.{row_combination-more_rows}
use Rattle.sf_groebner.proofs.PairTheorems.Multiplied.{constant_term}
use Rattle.sf_groebner.proofs.PartsOfBases.PairedVectors.{first_degrees}
use Rattle.sf_groebner.proofs.Spanning.Generators.{IsCombination, IsCombination-trans}

-- the row at a position, with its degree
abbrev pub row_vector : List Vector → ℕ → Vector
row_vector rows i = record { degree = generator_degree (degrees_of rows) i; terms = row_at rows i }

row_vector-last : (rows : List Vector) (v : Vector) → row_vector (rows ++ v ∷ []) (length rows) ≡ v
row_vector-last [] v = refl
row_vector-last (w ∷ ws) v = row_vector-last ws v

module _ (ring : Ring) (positive : IsRing ring) (rows : List Vector) where
  pub IsCombination-none : (d : ℤ) → IsCombination ring rows (record { degree = d; terms = [] })
  IsCombination-none d =
      record { coefficients = []; homogeneous = tt; value = row_combination-nil ring positive.modulus rows }

  pub IsCombination-sum : (d : ℤ) (us vs : List (Term Place)) → IsCombination ring rows (record { degree = d; terms = us })
      → IsCombination ring rows (record { degree = d; terms = vs })
      → IsCombination ring rows (record { degree = d; terms = row_sum ring us vs })
  IsCombination-sum d us vs h k = record {
    coefficients = h.coefficients ++ k.coefficients;
    homogeneous = AllByRecursion-append _ h.coefficients k.coefficients h.homogeneous k.homogeneous;
    value = row_combination-append ring positive.modulus rows h.coefficients k.coefficients
        ∙ (λ i. row_sum ring (h.value i) (k.value i));
  }

  module _ (vs : List Vector) (d : ℤ) where
    IsCombination-term : (t : Term Place) → IsTermOfDegree ring.weights (degrees_of vs) d t
        → IsCombination ring rows (row_vector vs t.at.position)
        → IsCombination ring rows (record { degree = d; terms = row_combination ring vs (t ∷ []) })
    IsCombination-term t term h =
        let v : Vector = row_vector vs t.at.position in
        let s : Term Place =
        record { at = record { position = 0; monomial = t.at.monomial }; coefficient = t.coefficient } in
        IsCombination-trans ring rows positive (v ∷ []) (h, tt)
        (record { degree = d; terms = row_combination ring vs (t ∷ []) })
        (record {
          coefficients = s ∷ [];
          homogeneous = ((omega arith, term.1), tt);
          value = row_combination-one ring positive.modulus (v ∷ []) s
              ∙ sym (row_combination-one ring positive.modulus vs t);
        })

    -- each vector that the coefficients meet is a combination of the rows
    pub IsCombination-through : (c : List (Term Place)) → IsHomogeneous ring.weights (degrees_of vs) d c
        → AllByRecursion (λ (t : Term Place). IsCombination ring rows (row_vector vs t.at.position)) c
        → IsCombination ring rows (record { degree = d; terms = row_combination ring vs c })
    IsCombination-through [] h each =
        subst (λ us. IsCombination ring rows (record { degree = d; terms = us }))
        (sym (row_combination-nil ring positive.modulus vs)) (IsCombination-none d)
    IsCombination-through (t ∷ ts) h each =
        subst (λ us. IsCombination ring rows (record { degree = d; terms = us }))
        (sym (row_combination-append ring positive.modulus vs (t ∷ []) ts))
        (IsCombination-sum d (row_combination ring vs (t ∷ [])) (row_combination ring vs ts) (IsCombination-term t h.0 each.0)
        (IsCombination-through ts h.1 each.1))

  -- a combination is one of more rows
  pub IsCombination-more : (more : List Vector) (v : Vector) → IsCombination ring rows v
      → IsCombination ring (rows ++ more) v
  IsCombination-more more v h = record {
    coefficients = h.coefficients;
    homogeneous =
        subst (λ ds. IsHomogeneous ring.weights ds v.degree h.coefficients)
        (sym (map-append (λ (w : Vector). w.degree) rows more))
        (first_degrees (degrees_of rows) (degrees_of more) v.degree ring.weights h.coefficients h.homogeneous);
    value =
        row_combination-more_rows rows more ring positive h.coefficients
        (AllByRecursion-weaken _ _ (λ t k. within t k.0) h.coefficients h.homogeneous)
        ∙ h.value;
  }
    where
      within : (t : Term Place) → t.at.position < length (degrees_of rows) → t.at.position < length rows
      within t k = simp length-map at k

  -- a multiple of the last row is one
  pub IsCombination-last : (v : Vector) (x : ℕ)
      → IsCombination ring (rows ++ v ∷ []) (record { degree = v.degree; terms = row_multiple ring (constant_term x) v.terms })
  IsCombination-last v x =
      let t : Term Place = record { at = record { position = length rows; monomial = one }; coefficient = x } in
      let last = row_vector-last rows v in
      let own : generator_degree (degrees_of (rows ++ v ∷ [])) (length rows) ≡ v.degree = ap (λ (w : Vector). w.degree) last in
      record {
        coefficients = t ∷ [];
        homogeneous = ((rw (length-map, length-append) (omega arith), omega (arith, ints)), tt);
        value =
            row_combination-one ring positive.modulus (rows ++ v ∷ []) t
            ∙ ap (λ (w : Vector). row_multiple ring (constant_term x) w.terms) last;
      }
