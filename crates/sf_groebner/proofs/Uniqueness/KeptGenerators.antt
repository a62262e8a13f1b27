-- Minimal generators may be chosen by the generators kept before: what was left out is in the sum of their span and B.
use Rattle.std.proofs.Common.{◌≡◌, inl, inr, ℕ, zero, suc, ◌+◌, List, [], ◌∷◌, ◌++◌, length, refl, sym, ◌∙◌, ap, subst, ℤ, arith}
use Rattle.std.proofs.lemmas.List.{length-append, length-map, map-append}
use Rattle.sf_algebra.specs.Matrices.{degrees_of}
use Rattle.sf_algebra.specs.MatrixOperations.{row_at, row_combination, part_terms}
use Rattle.sf_algebra.specs.Rings.{Ring, IsRing}
use Rattle.sf_algebra.specs.Terms.{Term}
use Rattle.sf_algebra.specs.VectorOperations.{row_sum}
use Rattle.sf_algebra.specs.Vectors.{Place, Vector, IsVector}
use Rattle.sf_algebra.proofs.GradedMatrices.MatrixRows.{StandsWithin}
use Rattle.sf_algebra.proofs.GradedMatrices.PartTerms.{IsVector-part_terms}
use Rattle.sf_algebra.proofs.GradedMatrices.Ranges.{slice_range-first, slice_range-second}
use Rattle.sf_algebra.proofs.Vectors.HomogeneousVectors.{IsVector-add, IsVector-nil, IsVector-row_combination}
use Rattle.sf_algebra.proofs.Vectors.RowSums.{row_sum-comm, row_sum-assoc, row_sum-nil}
use Rattle.sf_algebra.proofs.Vectors.Rows.{IsCanonical-row_combination, row_combination-add, row_combination-add_rows, row_combination-nil}
use Rattle.sf_algebra.proofs.Vectors.StackedRows.{row_combination-stacked}
use Rattle.sf_groebner.specs.MinimalGenerators.{IsInSum, matrix_of, AreKept, AreChosen}
use Rattle.sf_groebner.proofs.PartsOfBases.GraphParts.{IsWithin-coefficients}
use Rattle.sf_groebner.proofs.PartsOfBases.PairedVectors.{paired_terms, paired_terms-parts, IsVector-pair}
use Rattle.sf_groebner.proofs.Spanning.SumsAndMultiples.{HasSumsAndMultiples, row_matrix, row_combination-scaled}

module _ (ring : Ring) (target : List ℤ) (B : Vector → Type 0) where
  -- the terms ts are those of a sum of a vector of B and a combination of the rows, all of degree d
  pub record IsSumAt (rows : List Vector) (d : ℤ) (ts : List (Term Place)) : Type 0 where
    pub first : List (Term Place)
    pub coefficients : List (Term Place)
    pub inside : B (record { degree = d; terms = first })
    pub vector : IsVector ring (degrees_of rows) (record { degree = d; terms = coefficients })
    pub sum : row_sum ring first (row_combination ring rows coefficients) ≡ ts

  pub IsSumAt-from : (rows : List Vector) (v : Vector) → IsInSum ring rows B v → IsSumAt rows v.degree v.terms
  IsSumAt-from rows v h =
      let c = (h.in_span).coefficients in
      let degree : c.degree ≡ v.degree = ap (λ x. x.degree) (h.in_span).value ∙ h.second_degree in
      record {
        first = h.first.terms;
        coefficients = c.terms;
        inside = subst (λ d. B (record { degree = d; terms = h.first.terms })) h.first_degree h.in_module;
        vector =
            subst (λ d. IsVector ring (degrees_of rows) (record { degree = d; terms = c.terms })) degree
            (h.in_span).homogeneous;
        sum = ap (λ x. row_sum ring h.first.terms x.terms) (h.in_span).value ∙ h.sum;
      }

  pub IsSumAt-to : (rows : List Vector) (v : Vector) → IsSumAt rows v.degree v.terms → IsInSum ring rows B v
  IsSumAt-to rows v h = record {
    first = record { degree = v.degree; terms = h.first };
    second = record { degree = v.degree; terms = row_combination ring rows h.coefficients };
    in_module = h.inside;
    in_span = record { coefficients = record { degree = v.degree; terms = h.coefficients }; homogeneous = h.vector; value = refl };
    first_degree = refl;
    second_degree = refl;
    sum = h.sum;
  }

  module _ (positive : IsRing ring) where
    add-left : (x l y : List (Term Place)) → row_sum ring x (row_sum ring l y) ≡ row_sum ring l (row_sum ring x y)
    add-left x l y =
        sym (row_sum-assoc ring positive.modulus x l y)
        ∙ ap (λ z. row_sum ring z y) (row_sum-comm ring positive.modulus x l)
        ∙ row_sum-assoc ring positive.modulus l x y

    add-regroup : (a x l y : List (Term Place))
        → row_sum ring (row_sum ring a x) (row_sum ring l y) ≡ row_sum ring a (row_sum ring l (row_sum ring x y))
    add-regroup a x l y =
        row_sum-assoc ring positive.modulus a x (row_sum ring l y) ∙ ap (row_sum ring a) (add-left x l y)

    -- coefficients of the rows and of one row more
    module _ (rows : List Vector) (v : Vector) where
      pushed-degrees : degrees_of (rows ++ v ∷ []) ≡ degrees_of rows ++ v.degree ∷ []
      pushed-degrees = map-append (λ (x : Vector). x.degree) rows (v ∷ [])

      push : (d : ℤ) (c e : List (Term Place)) → IsVector ring (degrees_of rows) (record { degree = d; terms = c })
          → IsVector ring (v.degree ∷ []) (record { degree = d; terms = e })
          → IsVector ring (degrees_of (rows ++ v ∷ [])) (record { degree = d; terms = paired_terms (length rows) c e })
      push d c e h k =
          subst (λ n. IsVector ring (degrees_of (rows ++ v ∷ [])) (record { degree = d; terms = paired_terms n c e }))
          (length-map rows (λ (x : Vector). x.degree))
          (subst (λ ds. IsVector ring ds (record { degree = d; terms = paired_terms (length (degrees_of rows)) c e })) (sym pushed-degrees)
          (IsVector-pair (degrees_of rows) (v.degree ∷ []) d ring c e h k))

      row_combination-push_row : (d : ℤ) (c e : List (Term Place))
          → IsVector ring (degrees_of rows) (record { degree = d; terms = c })
          → row_combination ring (rows ++ v ∷ []) (paired_terms (length rows) c e)
          ≡ row_sum ring (row_combination ring rows c) (row_combination ring (v ∷ []) e)
      row_combination-push_row d c e h =
          row_combination-stacked ring positive.modulus rows (v ∷ []) c e
          (IsWithin-coefficients (matrix_of ring target rows) (record { degree = d; terms = c }) h)

      -- coefficients of the rows and one more, taken apart
      pub record IsPushed (d : ℤ) (c : List (Term Place)) : Type 0 where
        pub front : List (Term Place)
        pub last : List (Term Place)
        pub front_vector : IsVector ring (degrees_of rows) (record { degree = d; terms = front })
        pub last_vector : IsVector ring (v.degree ∷ []) (record { degree = d; terms = last })
        pub value : row_combination ring (rows ++ v ∷ []) c
            ≡ row_sum ring (row_combination ring rows front) (row_combination ring (v ∷ []) last)

      pushed : (d : ℤ) (c : List (Term Place))
          → IsVector ring (degrees_of (rows ++ v ∷ [])) (record { degree = d; terms = c }) → IsPushed d c
      pushed d c h =
          let n = length rows in
          let w : Vector = record { degree = d; terms = c } in
          let size : length (rows ++ v ∷ []) ≡ n + 1 = rw length-append refl in
          let within : StandsWithin (n + 1) c =
          subst (λ k. StandsWithin k c) size (IsWithin-coefficients (matrix_of ring target (rows ++ v ∷ [])) w h) in
          let vector : IsVector ring (degrees_of rows ++ v.degree ∷ []) w = subst (λ ds. IsVector ring ds w) pushed-degrees h in
          let front = subst (λ ds. IsVector ring ds (record { degree = d; terms = part_terms 0 n c }))
          (slice_range-first (degrees_of rows) (v.degree ∷ []) n (length-map rows (λ (x : Vector). x.degree)))
          (IsVector-part_terms ring (degrees_of rows ++ v.degree ∷ []) 0 n w vector) in
          let last = subst (λ ds. IsVector ring ds (record { degree = d; terms = part_terms n (n + 1) c }))
          (slice_range-second (degrees_of rows) (v.degree ∷ []) n (n + 1) (length-map rows (λ (x : Vector). x.degree)) (omega arith))
          (IsVector-part_terms ring (degrees_of rows ++ v.degree ∷ []) n (n + 1) w vector) in
          record {
            front = part_terms 0 n c;
            last = part_terms n (n + 1) c;
            front_vector = front;
            last_vector = last;
            value =
                ap (row_combination ring (rows ++ v ∷ []))
                (sym (paired_terms-parts ring.weights n 1 c h.canonical.descending within))
                ∙ row_combination-push_row d (part_terms 0 n c) (part_terms n (n + 1) c) front;
          }

    -- one row more
    IsSumAt-push : (rows : List Vector) (v : Vector) (d : ℤ) (ts : List (Term Place)) → IsSumAt rows d ts
        → (e : List (Term Place)) → IsVector ring (v.degree ∷ []) (record { degree = d; terms = e })
        → IsSumAt (rows ++ v ∷ []) d (row_sum ring ts (row_combination ring (v ∷ []) e))
    IsSumAt-push rows v d ts h e k = record {
      first = h.first;
      coefficients = paired_terms (length rows) h.coefficients e;
      inside = h.inside;
      vector = push rows v d h.coefficients e h.vector k;
      sum = ap (row_sum ring h.first) (row_combination-push_row rows v d h.coefficients e h.vector)
          ∙ sym (row_sum-assoc ring positive.modulus h.first (row_combination ring rows h.coefficients) (row_combination ring (v ∷ []) e))
          ∙ ap (λ us. row_sum ring us (row_combination ring (v ∷ []) e)) h.sum;
    }

    -- where the sums of one list are sums of another, they are so with one row more
    IsSumAt-both : (rows others : List Vector) (v : Vector)
        → ((d : ℤ) (ts : List (Term Place)) → IsSumAt rows d ts → IsSumAt others d ts)
        → (d : ℤ) (ts : List (Term Place)) → IsSumAt (rows ++ v ∷ []) d ts → IsSumAt (others ++ v ∷ []) d ts
    IsSumAt-both rows others v f d ts h =
        let c = pushed rows v d h.coefficients h.vector in
        let near : IsSumAt rows d (row_sum ring h.first (row_combination ring rows c.front)) =
        record { first = h.first; coefficients = c.front; inside = h.inside; vector = c.front_vector; sum = refl } in
        subst (IsSumAt (others ++ v ∷ []) d)
        (row_sum-assoc ring positive.modulus h.first (row_combination ring rows c.front) (row_combination ring (v ∷ []) c.last)
        ∙ ap (row_sum ring h.first) (sym c.value) ∙ h.sum)
        (IsSumAt-push others v d _ (f d _ near) c.last c.last_vector)

    IsSumAt-more : (rows : List Vector) (v : Vector) (d : ℤ) (ts : List (Term Place)) → IsSumAt rows d ts
        → IsSumAt (rows ++ v ∷ []) d ts
    IsSumAt-more rows v d ts h = record {
      first = h.first;
      coefficients = paired_terms (length rows) h.coefficients [];
      inside = h.inside;
      vector = push rows v d h.coefficients [] h.vector (IsVector-nil ring (v.degree ∷ []) d);
      sum = ap (row_sum ring h.first) (row_combination-push_row rows v d h.coefficients [] h.vector
          ∙ ap (row_sum ring (row_combination ring rows h.coefficients))
          (row_combination-nil ring positive.modulus (v ∷ []))
          ∙ row_sum-nil ring positive.modulus (row_combination ring rows h.coefficients)
          (IsCanonical-row_combination ring positive.modulus rows h.coefficients))
          ∙ h.sum;
    }

    module _ (closed : HasSumsAndMultiples ring B) where
      -- a row that is itself such a sum adds nothing
      IsSumAt-absorb : (rows : List Vector) (v : Vector) → IsSumAt rows v.degree v.terms
          → (d : ℤ) (ts : List (Term Place)) → IsSumAt (rows ++ v ∷ []) d ts → IsSumAt rows d ts
      IsSumAt-absorb rows v k d ts h =
          let c = pushed rows v d h.coefficients h.vector in
          let last : Vector = record { degree = d; terms = c.last } in
          let b : Vector = record { degree = v.degree; terms = k.first } in
          let e : Vector = record { degree = v.degree; terms = k.coefficients } in
          let x = row_combination ring (b ∷ []) c.last in
          let y = row_combination ring (e ∷ []) c.last in
          let row : row_combination ring (v ∷ []) c.last ≡ row_sum ring x (row_combination ring rows y) =
          row_combination-add_rows ring positive.modulus (v ∷ []) (b ∷ [])
          (record { degree = v.degree; terms = row_combination ring rows k.coefficients } ∷ []) (rows_agree k) c.last
          ∙ ap (row_sum ring x) (row_combination-scaled (matrix_of ring target rows) positive e last) in
          record {
            first = row_sum ring h.first x;
            coefficients = row_sum ring c.front y;
            inside = closed.sums d h.first x h.inside (closed.multiples b last k.inside c.last_vector);
            vector =
                IsVector-add ring (degrees_of rows) positive.modulus d c.front y c.front_vector
                (IsVector-row_combination (row_matrix ring (degrees_of rows) e) positive.modulus (k.vector, tt) last c.last_vector);
            sum = ap (row_sum ring (row_sum ring h.first x)) (row_combination-add ring positive.modulus rows c.front y)
                ∙ add-regroup h.first x (row_combination ring rows c.front) (row_combination ring rows y)
                ∙ ap (λ us. row_sum ring h.first (row_sum ring (row_combination ring rows c.front) us)) (sym row)
                ∙ ap (row_sum ring h.first) (sym c.value)
                ∙ h.sum;
          }
        where
          rows_agree : (k : IsSumAt rows v.degree v.terms) (i : ℕ)
              → row_at (v ∷ []) i ≡ row_sum ring (row_at (record { degree = v.degree; terms = k.first } ∷ []) i)
              (row_at (record { degree = v.degree; terms = row_combination ring rows k.coefficients } ∷ []) i)
          rows_agree k zero = sym k.sum
          rows_agree k (suc i) = sym (row_sum-nil ring positive.modulus [] (record { descending = tt; residues = tt }))

      -- two lists of rows have the same sums with B
      pub record HasSameSums (rows others : List Vector) : Type 0 where
        pub to : (d : ℤ) (ts : List (Term Place)) → IsSumAt rows d ts → IsSumAt others d ts
        pub from : (d : ℤ) (ts : List (Term Place)) → IsSumAt others d ts → IsSumAt rows d ts

      same_in : (rows others : List Vector) → HasSameSums rows others → (v : Vector) → IsInSum ring rows B v
          → IsInSum ring others B v
      same_in rows others h v k = IsSumAt-to others v (h.to v.degree v.terms (IsSumAt-from rows v k))

      back : (rows others : List Vector) → HasSameSums rows others → HasSameSums others rows
      back rows others h = record { to = h.from; from = h.to }

      pub left_out : (rows others : List Vector) (v : Vector) → HasSameSums rows others → IsInSum ring rows B v
          → HasSameSums (rows ++ v ∷ []) others
      left_out rows others v h k = record {
        to = λ d ts s. h.to d ts (IsSumAt-absorb rows v (IsSumAt-from rows v k) d ts s);
        from = λ d ts s. IsSumAt-more rows v d ts (h.from d ts s);
      }

      pub taken_in : (rows others : List Vector) (v : Vector) → HasSameSums rows others
          → HasSameSums (rows ++ v ∷ []) (others ++ v ∷ [])
      taken_in rows others v h = record {
        to = IsSumAt-both rows others v h.to;
        from = IsSumAt-both others rows v h.from;
      }

      chosen_from_kept : (earlier before vs kept : List Vector) → HasSameSums earlier before
          → AreKept ring B earlier vs kept → AreChosen ring B before vs kept
      chosen_from_kept earlier before [] kept h k = k
      chosen_from_kept earlier before (v ∷ vs) kept h (inl k) =
          inl (same_in earlier before h v k.0, chosen_from_kept (earlier ++ v ∷ []) before vs kept (left_out earlier before v h k.0) k.1)
      chosen_from_kept earlier before (v ∷ vs) kept h (inr k) = inr (
        λ l. k.0 (same_in before earlier (back earlier before h) v l),
        (k.1.0, k.1.1, chosen_from_kept (earlier ++ v ∷ []) (before ++ v ∷ []) vs k.1.0 (taken_in earlier before v h) k.1.2),
      )

      kept_from_chosen : (earlier before vs kept : List Vector) → HasSameSums earlier before
          → AreChosen ring B before vs kept → AreKept ring B earlier vs kept
      kept_from_chosen earlier before [] kept h k = k
      kept_from_chosen earlier before (v ∷ vs) kept h (inl k) =
          let inside = same_in before earlier (back earlier before h) v k.0 in
          inl (inside, kept_from_chosen (earlier ++ v ∷ []) before vs kept (left_out earlier before v h inside) k.1)
      kept_from_chosen earlier before (v ∷ vs) kept h (inr k) = inr (
        λ l. k.0 (same_in earlier before h v l),
        (k.1.0, k.1.1, kept_from_chosen (earlier ++ v ∷ []) (before ++ v ∷ []) vs k.1.0 (taken_in earlier before v h) k.1.2),
      )

      pub AreKept-chosen : (vs kept : List Vector)
          → (AreKept ring B [] vs kept → AreChosen ring B [] vs kept)
          × (AreChosen ring B [] vs kept → AreKept ring B [] vs kept)
      AreKept-chosen vs kept =
          let same : HasSameSums [] [] = record { to = λ d ts h. h; from = λ d ts h. h } in
          (chosen_from_kept [] [] vs kept same, kept_from_chosen [] [] vs kept same)
