-- The vectors below the two highest columns are the span of the transposed factor.
use Rattle.std.proofs.Common.{◌≡◌, ◌-◌, ℕ, suc, List, [], map, refl, sym, ◌∙◌, ap, subst, arith, ℤ, pos, neg_ℤ, ◌+ℤ◌, ◌-ℤ◌}
use Rattle.std.proofs.lemmas.Int.{ints}
use Rattle.sf_algebra.specs.Matrices.{IsMatrix, Matrix, degrees_of, row_degrees}
use Rattle.sf_algebra.specs.MatrixOperations.{negated, row_combination, transposed}
use Rattle.sf_algebra.specs.Multiples.{negative}
use Rattle.sf_algebra.specs.Rings.{IsOverField, IsRing, Ring}
use Rattle.sf_algebra.specs.Terms.{Term}
use Rattle.sf_algebra.specs.VectorOperations.{row_sum}
use Rattle.sf_algebra.specs.Vectors.{IsVector, Place, Vector, place_cmp}
use Rattle.sf_algebra.proofs.GradedMatrices.MatrixProducts.{row_degrees-matrix_product}
use Rattle.sf_algebra.proofs.GradedMatrices.Transposes.{IsMatrix-transposed, map-neg-neg, row_degrees-transposed}
use Rattle.sf_algebra.proofs.Monomials.Weights.{field_ring}
use Rattle.sf_algebra.proofs.Multiplying.Keys.{place_keys}
use Rattle.sf_algebra.proofs.Operators.Groups.{difference-equal}
use Rattle.sf_algebra.proofs.Terms.Negatives.{add-negative}
use Rattle.sf_algebra.proofs.Vectors.HomogeneousVectors.{HasCanonicalRows-from_IsMatrix}
use Rattle.sf_algebra.proofs.Vectors.RowParts.{row_combination-negated}
use Rattle.sf_algebra.proofs.Vectors.Rows.{IsCanonical-row_combination}
use Rattle.sf_algebra.proofs.Vectors.VectorGroups.{vectors, vectors_of_degree}
use Rattle.sf_algebra.proofs.Vectors.VectorProps.{same_canonical, vector_unique}
use Rattle.sf_groebner.specs.MinimalGenerators.{matrix_of}
use Rattle.sf_groebner.specs.Spans.{InSpan}
use Rattle.sf_groebner.proofs.Spanning.Spans.{span_module}
use Rattle.sf_chase.specs.ColumnPages.{CyclesBelow, ImagesModulo}
use Rattle.sf_chase.specs.Columns.{Columned}
use Rattle.sf_chase.specs.Filtrations.{NearImageOf}
use Rattle.sf_bicomplex.specs.Bicomplexes.{Bicomplex, IsBicomplex}
use Rattle.sf_bicomplex.specs.TotalColumns.{place, total_degrees}
use Rattle.sf_bicomplex.proofs.Filtrations.PartVectors.{combination, part-same}
use Rattle.sf_bicomplex.proofs.TotalComplexes.TotalGroups.{total_group, total_image}
use Rattle.sf_bidual.specs.Bidual.{IsBidualOf, bidual, bidual_across, bidual_degrees, bidual_down, dual_across, dual_degrees, dual_down, dual_maps}
use Rattle.sf_bidual.specs.CartanEilenberg.{CartanEilenberg, IsCochainComplex, column_degrees, column_steps, horizontal_step}
use Rattle.sf_bidual.specs.FactorLaws.{HasFactoredPart, IsFactorOfFirst}
use Rattle.sf_bidual.specs.Purity.{IsOfPurity}
use Rattle.sf_bidual.proofs.Augmented.Augmentations.{IsAugmentedBy, set}
use Rattle.sf_bidual.proofs.Augmented.FreeTotals.{relation-zero}
use Rattle.sf_bidual.proofs.Augmented.Homology.{set-terms}
use Rattle.sf_bidual.proofs.BidualSpots.Bicomplex.{dual_complex}
use Rattle.sf_bidual.proofs.BidualSpots.Homology.{augmentation, cycles_of_vectors, degrees, dual, h, k, over, same_augmentation}
use Rattle.sf_bidual.proofs.HighestColumns.HighestColumn.{no_boundaries}
use Rattle.sf_bidual.proofs.HorizontalMaps.Squares.{IsMatrix-horizontal}
use Rattle.sf_bidual.proofs.LowerColumns.Factors.{factor_spans, spanned_by_factor}
use Rattle.sf_bidual.proofs.LowerColumns.TwoColumns.{InLowerPart, lower-back, lower-there}
use Rattle.sf_bidual.proofs.PurityParts.Presented.{augmentation-degrees, augmentation-matrix}

-- a combination and one of negative rows add up to zero exactly where the two combinations are equal
module _ (m : Matrix) (positive : IsRing m.ring) (matrix : IsMatrix m) (rows : List Vector)
    (us ts : List (Term Place)) where
  abbrev first : List (Term Place)
  first = row_combination m.ring rows us

  abbrev image : List (Term Place)
  image = row_combination m.ring m.rows ts

  image_negative : row_combination m.ring (negated m).rows ts ≡ negative m.ring.modulus image
  image_negative = row_combination-negated m positive.modulus (HasCanonicalRows-from_IsMatrix m matrix) ts

  pub equal-from_sum : row_sum m.ring first (row_combination m.ring (negated m).rows ts) ≡ [] → first ≡ image
  equal-from_sum none =
      let G = vectors m.ring positive.modulus in
      let u : G.V = (first, IsCanonical-row_combination m.ring positive.modulus rows us) in
      let v : G.V = (image, IsCanonical-row_combination m.ring positive.modulus m.rows ts) in
      ap (λ (w : G.V). w.0)
      (difference-equal G u v (same_canonical (place_cmp m.ring.weights) m.ring.modulus (G.plus u (G.minus v)) G.zero
      (ap (row_sum m.ring first) (sym image_negative) ∙ none)))

  pub sum-from_equal : first ≡ image → row_sum m.ring first (row_combination m.ring (negated m).rows ts) ≡ []
  sum-from_equal same =
      (λ i. row_sum m.ring (same i) (image_negative i))
      ∙ add-negative (place_keys m.ring.weights) m.ring.modulus positive.modulus image
      (IsCanonical-row_combination m.ring positive.modulus m.rows ts)

module _ (relations : Matrix) (p : ℕ) (steps : ℕ → Matrix) (x : CartanEilenberg) (prime : IsOverField relations.ring)
    (matrix : IsMatrix relations) (d : IsBidualOf relations (suc p) steps x) where
  abbrev ring : Ring
  ring = relations.ring

  positive : IsRing relations.ring
  positive = field_ring prime

  abbrev b : Bicomplex
  b = bidual relations.ring (suc p) x

  abbrev here : ℤ
  here = pos (suc p)

  abbrev above : ℤ
  above = pos (suc p) +ℤ pos 1

  abbrev below : ℤ
  below = pos (suc p) -ℤ pos 1

  up : pos (suc p) ≡ pos (suc p) +ℤ pos 1 -ℤ pos 1
  up = omega (arith, ints)

  -- what stands in the two columns
  highest_row : pos (suc p) +ℤ pos 1 -ℤ pos (suc p) ≡ pos 1
  highest_row = omega (arith, ints)

  next_row : pos (suc p) +ℤ pos 1 -ℤ pos p ≡ pos 2
  next_row = omega (arith, ints)

  highest_place : suc (suc p) - suc p ≡ 1
  highest_place = omega arith

  next_place : suc (suc p) - p ≡ 2
  next_place = omega arith

  highest_degrees : (place b above (suc p)).target ≡ map neg_ℤ (column_degrees x 1 0)
  highest_degrees = ap (bidual_degrees (suc p) x (suc p)) highest_row ∙ ap (dual_degrees x 1) highest_place

  next_degrees : (place b above p).target ≡ map neg_ℤ (column_degrees x 2 1)
  next_degrees = ap (bidual_degrees (suc p) x p) next_row ∙ ap (dual_degrees x 2) next_place

  highest_down : b.vertical (suc p) (above -ℤ pos (suc p)) ≡ transposed (horizontal_step relations.ring x 0 0)
  highest_down = ap (bidual_down relations.ring (suc p) x (suc p)) highest_row ∙ ap (dual_down relations.ring x 0) highest_place

  next_down : b.vertical p (above -ℤ pos p) ≡ negated (transposed (horizontal_step relations.ring x 1 1))
  next_down = ap (bidual_down relations.ring (suc p) x p) next_row ∙ ap (dual_down relations.ring x 1) next_place

  highest_left : b.horizontal (suc p) (above -ℤ pos (suc p)) ≡ transposed (column_steps x 1 1)
  highest_left =
      ap (bidual_across relations.ring (suc p) x (suc p)) highest_row
      ∙ ap (dual_across relations.ring x 1 (dual_degrees x 1 (suc (suc p) - (suc p - 1)))) highest_place

  -- the rows of the augmentation
  abbrev rows : List Vector
  rows = (transposed (column_steps x 0 0)).rows

  -- the bicomplex, and what it is augmented by
  abbrev H : IsBicomplex b
  H = h relations (suc p) steps x prime matrix d

  abbrev set_degrees : ℤ → List ℤ
  set_degrees = degrees relations (suc p) steps x prime matrix d

  abbrev set_rows : ℤ → Matrix
  set_rows = augmentation relations (suc p) steps x prime matrix d

  abbrev set_maps : ℤ → Matrix
  set_maps = dual relations (suc p) steps x prime matrix d

  abbrev K : IsAugmentedBy b (suc p) set_degrees set_rows set_maps
  K = k relations (suc p) steps x prime matrix d

  module _ (m : Vector) (vector : IsVector relations.ring relations.target m) where
    abbrev element : (vectors_of_degree ring H.is_ring.modulus (set_degrees (here -ℤ pos (suc p))) m.degree).V
    element = (m.terms, over relations (suc p) steps x prime matrix d m vector)

    abbrev coefficients : (vectors_of_degree ring H.is_ring.modulus (degrees_of rows) m.degree).V
    coefficients = (
      m.terms,
      subst (λ ds. IsVector ring ds m) (sym (augmentation-degrees relations (suc p) steps x prime matrix d)) vector,
    )

    abbrev X : Columned ⊥
    X = total_group b H above m.degree

    abbrev Y : Columned ⊥
    Y = total_group b H here m.degree

    abbrev W : Columned ⊥
    W = total_group b H below m.degree

    abbrev forth : X.group.V → Y.group.V
    forth = total_image b H above here up m.degree

    abbrev on : Y.group.V → W.group.V
    on = total_image b H here below refl m.degree

    abbrev IsNearPart : Y.group.V → Type 0
    IsNearPart = NearImageOf Y.group (λ v. v) (CyclesBelow Y W on p) (ImagesModulo X Y forth)

    abbrev placed : Y.group.V
    placed = set b H (suc p) set_degrees set_rows set_maps K m.degree here element

    known-matrix : IsMatrix (matrix_of ring (total_degrees b here) rows)
    known-matrix = augmentation-matrix relations (suc p) steps x prime matrix d

    abbrev combined_rows_there : Y.group.V
    combined_rows_there = combination b H above here below up refl rows known-matrix m.degree coefficients

    placed-same : placed ≡ combined_rows_there
    placed-same =
        vector_unique ring (total_degrees b here) m.degree _ _
        (set-terms b H (suc p) set_degrees set_rows set_maps K here m.degree element
        ∙ ap (λ (a : Matrix). row_combination ring a.rows m.terms)
        (same_augmentation relations (suc p) steps x prime matrix d))

    lower_there : IsOfPurity relations.ring (suc p) x p m
        → InLowerPart b H p set_degrees set_rows set_maps K above here below up refl m.degree element
    lower_there part =
        lower-there b H p set_degrees set_rows set_maps K above here below up refl m.degree element
        (subst IsNearPart (sym placed-same)
        ((part-same b H above here below up refl rows known-matrix m.degree p).there coefficients part))

    cycle : on placed ≡ W.group.zero
    cycle =
        ap on placed-same
        ∙ vector_unique ring (total_degrees b below) m.degree _ _
        (relation-zero b H K.free below _
        (cycles_of_vectors relations (suc p) steps x prime matrix d m vector).inside)

    lower_back : InLowerPart b H p set_degrees set_rows set_maps K above here below up refl m.degree element
        → IsOfPurity relations.ring (suc p) x p m
    lower_back found =
        (part-same b H above here below up refl rows known-matrix m.degree p).back coefficients
        (subst IsNearPart placed-same
        (lower-back b H p set_degrees set_rows set_maps K above here below up refl m.degree element found cycle))

  module _ (none : (x.homology 0 0).rows ≡ []) (g xs : List Vector)
      (factor : IsFactorOfFirst relations.ring (dual_maps steps) g xs) where
    abbrev factors : Matrix
    factors = matrix_of ring (degrees_of g) xs

    abbrev horizontal : Matrix
    horizontal = transposed (horizontal_step relations.ring x 1 1)

    complex : IsCochainComplex relations.ring (dual_maps steps)
    complex = dual_complex relations (suc p) steps x prime matrix d

    horizontal-matrix : IsMatrix (transposed (horizontal_step relations.ring x 1 1))
    horizontal-matrix =
        IsMatrix-transposed (horizontal_step relations.ring x 1 1)
        (IsMatrix-horizontal relations.ring (dual_maps steps) x prime complex d.cartan 1 1)

    generators : map neg_ℤ (row_degrees (dual_maps steps 0)) ≡ relations.target
    generators =
        ap (map neg_ℤ) (row_degrees-transposed (steps 0)) ∙ map-neg-neg (steps 0).target ∙ d.first.target

    left_down : (us ts : List (Term Place))
        → row_sum ring (row_combination ring (transposed (column_steps x 1 1)).rows us)
        (row_combination ring (negated horizontal).rows ts)
        ≡ row_sum ring (row_combination ring (b.horizontal (suc p) (above -ℤ pos (suc p))).rows us)
        (row_combination ring (b.vertical p (above -ℤ pos p)).rows ts)
    left_down us ts =
        λ i. row_sum ring (row_combination ring (sym highest_left i).rows us)
        (row_combination ring (sym next_down i).rows ts)

    spanned : (m : Vector) → IsOfPurity relations.ring (suc p) x p m → InSpan (transposed factors) m
    spanned m part =
        let vector : IsVector ring relations.target m =
        subst (λ ds. IsVector ring ds m) (augmentation-degrees relations (suc p) steps x prime matrix d)
        part.coefficients in
        let found = lower_there m vector part in
        let u : Vector = record { degree = m.degree; terms = found.0.0 } in
        let w : Vector = record { degree = m.degree; terms = found.1.0 } in
        spanned_by_factor relations.ring (dual_maps steps) x prime complex d.cartan
        (no_boundaries relations (suc p) steps x prime matrix d none) none g xs factor u w m
        (subst (λ ds. IsVector ring ds u) highest_degrees found.0.1)
        (subst (λ ds. IsVector ring ds m) (sym generators) vector)
        (λ i. record {
          degree = m.degree;
          terms = (ap (λ (a : Matrix). row_combination ring a.rows u.terms) (sym highest_down)
              ∙ found.2
              ∙ ap (λ (a : Matrix). row_combination ring a.rows m.terms)
              (same_augmentation relations (suc p) steps x prime matrix d)) i;
        })
        (equal-from_sum horizontal positive horizontal-matrix (transposed (column_steps x 1 1)).rows u.terms w.terms
        (left_down u.terms w.terms ∙ found.3))

    inside_part : (m : Vector) → InSpan (transposed factors) m → IsOfPurity relations.ring (suc p) x p m
    inside_part m s =
        let degrees_of_factors : row_degrees factors ≡ row_degrees (dual_maps steps 0) =
        sym (row_degrees-matrix_product factors (matrix_of ring (row_degrees (dual_maps steps 1)) g))
        ∙ ap row_degrees factor.product in
        let vector : IsVector ring relations.target m =
        subst (λ ds. IsVector ring ds m) (ap (map neg_ℤ) degrees_of_factors ∙ generators)
        ((span_module (transposed factors) positive (IsMatrix-transposed factors factor.matrix)).vectors m s) in
        let found =
        factor_spans relations.ring (dual_maps steps) x prime complex d.cartan
        (no_boundaries relations (suc p) steps x prime matrix d none) none g xs factor m s in
        let u : Vector = found.0 in
        let w : Vector = found.1 in
        let over_degree : (v : Vector) (ds es : List ℤ) → v.degree ≡ m.degree → ds ≡ es → IsVector ring es v
        → IsVector ring ds (record { degree = m.degree; terms = v.terms }) =
        λ v ds es e f hv.
        subst (λ y. IsVector ring ds (record { degree = y; terms = v.terms })) e
        (subst (λ cs. IsVector ring cs v) (sym f) hv) in
        lower_back m vector (
          (
            u.terms,
            over_degree u (place b above (suc p)).target (map neg_ℤ (column_degrees x 1 0))
                (ap (λ (v : Vector). v.degree) found.5) highest_degrees found.2,
          ),
          (w.terms, over_degree w (place b above p).target (map neg_ℤ (column_degrees x 2 1)) found.4 next_degrees found.3),
          ap (λ (a : Matrix). row_combination ring a.rows u.terms) highest_down
              ∙ ap (λ (v : Vector). v.terms) found.5
              ∙ ap (λ (a : Matrix). row_combination ring a.rows m.terms)
              (sym (same_augmentation relations (suc p) steps x prime matrix d)),
          sym (left_down u.terms w.terms)
              ∙ sum-from_equal horizontal positive horizontal-matrix (transposed (column_steps x 1 1)).rows u.terms w.terms
              found.6,
        )

pub factored_part : HasFactoredPart
factored_part relations p steps x prime matrix d none g xs factor m = (
  spanned relations p steps x prime matrix d none g xs factor m,
  inside_part relations p steps x prime matrix d none g xs factor m,
)
