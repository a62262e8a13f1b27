-- Cycles and boundaries of pages, and parts of homology, are spans.
use Rattle.std.proofs.Common.{◌≡◌, ℕ, suc, ◌+◌, ◌-◌, ◌<◌, ◌≤◌, List, [], sym, ap, ◌∙◌, subst, refl, arith, ℤ, pos, ◌-ℤ◌, slice_range}
use Rattle.std.specs.List.{AllByRecursion}
use Rattle.sf_algebra.specs.Matrices.{IsMatrix, Matrix, degrees_of, row_degrees}
use Rattle.sf_algebra.specs.MatrixOperations.{part_terms, row_combination, stacked, unit_rows}
use Rattle.sf_algebra.specs.Rings.{IsOverField, IsRing, Ring}
use Rattle.sf_algebra.specs.Terms.{Term}
use Rattle.sf_algebra.specs.Vectors.{IsVector, Place, Vector}
use Rattle.sf_algebra.proofs.Basics.Lists.{AllByRecursion-weaken}
use Rattle.sf_algebra.proofs.GradedMatrices.Columns.{AllByRecursion-always}
use Rattle.sf_algebra.proofs.GradedMatrices.Identities.{IsMatrix-identity, row_degrees-identity}
use Rattle.sf_algebra.proofs.GradedMatrices.MatrixRows.{with_terms}
use Rattle.sf_algebra.proofs.GradedMatrices.PartTerms.{IsVector-part_terms}
use Rattle.sf_algebra.proofs.GradedMatrices.ProductParts.{part_terms-row_combination}
use Rattle.sf_algebra.proofs.GradedMatrices.Stacks.{AllByRecursion-map, IsMatrix-stacked, degrees-with_terms, with_terms-same, with_terms-with_terms}
use Rattle.sf_algebra.proofs.Monomials.Weights.{field_ring}
use Rattle.sf_algebra.proofs.Vectors.HomogeneousVectors.{row_combination-identity}
use Rattle.sf_algebra.proofs.Vectors.Rows.{row_combination-matrix_product, row_combination-nil}
use Rattle.sf_groebner.specs.Homology.{IsCycle}
use Rattle.sf_groebner.specs.MinimalGenerators.{matrix_of}
use Rattle.sf_groebner.specs.Presentations.{IsRelation, IsZero}
use Rattle.sf_groebner.specs.Spans.{InSpan}
use Rattle.sf_groebner.proofs.PartsOfBases.PartLeads.{part_terms-past}
use Rattle.sf_groebner.proofs.WorkedExamples.FreeRelations.{span-no_rows}
use Rattle.sf_bicomplex.specs.Bicomplexes.{Bicomplex, IsBicomplex}
use Rattle.sf_bicomplex.specs.InducedFiltrations.{IsCycleBelow, IsOfPart, IsTotalBoundary}
use Rattle.sf_bicomplex.specs.Pages.{FallsBelow, IsBoundaryOfPage, IsCycleOfPage, IsNear}
use Rattle.sf_bicomplex.specs.TotalColumns.{StandsBelow, column_start, place, total_degrees, total_map, total_module}
use Rattle.sf_bicomplex.proofs.Columns.ColumnParts.{IsVector-taken}
use Rattle.sf_bicomplex.proofs.Spans.SpannedModules.{IsSpanned, IsSpanned-both, IsSpanned-near, IsSpanned-relation, IsSpanned-same, IsSpanned-span}
use Rattle.sf_bicomplex.proofs.TotalComplexes.Diagonals.{IsMatrix-total_map, total_map-rows}
use Rattle.sf_bicomplex.proofs.TotalComplexes.TotalGroups.{IsMatrix-total_module, total_image, total_ring}
use Rattle.sf_bicomplex.proofs.TotalComplexes.TotalLaws.{behind-part_terms}
use Rattle.sf_bicomplex.proofs.TotalComplexes.TotalModules.{IsRange-column}

-- the vectors 0 are spanned by no rows
pub IsSpanned-zero : (ring : Ring) → IsRing ring → (degrees : List ℤ) → IsSpanned ring degrees IsZero
IsSpanned-zero ring positive degrees = record {
  rows = [];
  matrix = tt;
  spans = λ v. (
    λ e. record {
      coefficients = record { degree = v.degree; terms = [] };
      homogeneous = record { canonical = record { descending = tt; residues = tt }; homogeneous = tt };
      value = λ i. record { degree = v.degree; terms = (row_combination-nil ring positive.modulus [] ∙ sym e) i };
    },
    span-no_rows ring positive degrees v,
  );
}

-- those from a position on
pub IsSpanned-from : (ring : Ring) → IsOverField ring → (degrees : List ℤ) (n : ℕ)
    → IsSpanned ring degrees (λ v. IsVector ring degrees v × AllByRecursion (λ t. n ≤ t.at.position) v.terms)
IsSpanned-from ring prime degrees n =
    let positive : IsRing ring = field_ring prime in
    let units = unit_rows 0 degrees in
    let first : List Vector = with_terms (part_terms 0 n) units in
    let m : Matrix = matrix_of ring (slice_range degrees 0 n) first in
    let unit_matrix = IsMatrix-identity ring prime.prime.above_one degrees in
    let matrix : IsMatrix m =
    AllByRecursion-map _ _ units
    (AllByRecursion-weaken _ _ (λ v e. IsVector-part_terms ring degrees 0 n v e) units unit_matrix) in
    let sources : degrees_of first ≡ degrees = degrees-with_terms (part_terms 0 n) units ∙ row_degrees-identity ring degrees in
    let value : (v : Vector) → IsVector ring degrees v → row_combination ring first v.terms ≡ part_terms 0 n v.terms =
    λ v e. sym (part_terms-row_combination ring positive.modulus 0 n units v.terms)
    ∙ ap (part_terms 0 n) (row_combination-identity ring positive.modulus degrees v e) in
    let kernel =
    subst (λ ds. IsSpanned ring ds (IsRelation m IsZero)) sources
    (IsSpanned-relation ring prime (slice_range degrees 0 n) m refl refl matrix IsZero
    (IsSpanned-zero ring positive (slice_range degrees 0 n))) in
    IsSpanned-same ring degrees (IsRelation m IsZero) _
    (λ v. (
      λ e.
          let vector = subst (λ ds. IsVector ring ds v) sources e.coefficients in (
            vector,
            behind-part_terms 0 n v.terms (AllByRecursion-always _ (λ t. omega arith) v.terms)
                (sym (value v vector) ∙ e.inside),
          ),
      λ e. record {
        coefficients = subst (λ ds. IsVector ring ds v) (sym sources) e.0;
        inside = value v e.0 ∙ part_terms-past n v.terms e.1;
      },
    ))
    kernel

-- nothing done to terms keeps combinations
same_rows : (rows : List Vector) → rows ≡ with_terms (λ ts. ts) rows
same_rows rows = sym (with_terms-same (λ ts. ts) rows (AllByRecursion-always _ (λ v. refl) rows))

module _ (b : Bicomplex) (h : IsBicomplex b) (prime : IsOverField b.ring) where
  pub IsSpanned-stands : (n : ℤ) (k : ℕ) → IsSpanned b.ring (total_degrees b n) (StandsBelow b n k)
  IsSpanned-stands n k =
      IsSpanned-same b.ring (total_degrees b n) _ (StandsBelow b n k)
      (λ v. (λ e. record { vector = e.0; below = e.1 }, λ e. (e.vector, e.below)))
      (IsSpanned-from b.ring prime (total_degrees b n) (column_start b n k))

  IsSpanned-module : (n : ℤ) → IsSpanned b.ring (total_degrees b n) (InSpan (total_module b n))
  IsSpanned-module n =
      IsSpanned-span b.ring (total_degrees b n) (total_module b n) (total_ring b h n (pos 0)) refl
      (IsMatrix-total_module b h n (pos 0))

  pub IsSpanned-place : (n : ℤ) (p : ℕ) → IsSpanned b.ring (place b n p).target (InSpan (place b n p))
  IsSpanned-place n p =
      let known = h.modules p (n -ℤ pos p) in
      IsSpanned-span b.ring (place b n p).target (place b n p) known.ring_of refl known.matrix

  -- the vectors near those of a span
  near_itself : (degrees : List ℤ) (M N : Vector → Type 0) → IsSpanned b.ring degrees M → IsSpanned b.ring degrees N
      → IsSpanned b.ring degrees (IsNear b.ring degrees (λ v. v) M N)
  near_itself degrees M N =
      IsSpanned-near b.ring prime degrees degrees (λ ts. ts) (λ rows c. ap (λ x. row_combination b.ring x c) (same_rows rows))
      (λ a e. e) M N

  module _ (n m : ℤ) (lower : m ≡ n -ℤ pos 1) where
    -- the vectors that the map sends into a span
    sent : (B : Vector → Type 0) → IsSpanned b.ring (total_degrees b m) B
        → IsSpanned b.ring (total_degrees b n) (IsRelation (total_map b n m) B)
    sent B h' =
        subst (λ ds. IsSpanned b.ring ds (IsRelation (total_map b n m) B)) (total_map-rows b h n m lower)
        (IsSpanned-relation b.ring prime (total_degrees b m) (total_map b n m) refl refl (IsMatrix-total_map b h n m lower)
        B h')

    as_coefficients : (v : Vector) → IsVector b.ring (total_degrees b n) v
        → IsVector b.ring (degrees_of (total_map b n m).rows) v
    as_coefficients v = subst (λ ds. IsVector b.ring ds v) (sym (total_map-rows b h n m lower))

    pub IsSpanned-falls : (t s : ℕ) → IsSpanned b.ring (total_degrees b n) (FallsBelow b n m t s)
    IsSpanned-falls t s =
        let B : Vector → Type 0 = IsNear b.ring (total_degrees b m) (λ w. w) (StandsBelow b m s) (InSpan (total_module b m)) in
        IsSpanned-same b.ring (total_degrees b n) _ (FallsBelow b n m t s)
        (λ v. (
          λ e. record { stands = e.0; falls = e.1.inside },
          λ e. (e.stands, record { coefficients = as_coefficients v e.stands.vector; inside = e.falls }),
        ))
        (IsSpanned-both b.ring prime (total_degrees b n) (StandsBelow b n t) (IsRelation (total_map b n m) B)
        (IsSpanned-stands n t)
        (sent B (near_itself (total_degrees b m) (StandsBelow b m s) (InSpan (total_module b m)) (IsSpanned-stands m s)
        (IsSpanned-module m))))

    module _ (r p : ℕ) (inside : p < b.columns) where
      pub IsSpanned-cycles : IsSpanned b.ring (place b n p).target (IsCycleOfPage b r n m p)
      IsSpanned-cycles =
          IsSpanned-near b.ring prime (total_degrees b n) (place b n p).target
          (part_terms (column_start b n (suc p)) (column_start b n p))
          (part_terms-row_combination b.ring h.is_ring.modulus (column_start b n (suc p)) (column_start b n p))
          (λ a e. IsVector-taken b.ring h.is_ring (total_degrees b n) (place b n p).target (column_start b n (suc p))
          (column_start b n p) (IsRange-column b n p inside) a.degree a.terms e)
          (FallsBelow b n m (suc p) (suc p - r)) (InSpan (place b n p)) (IsSpanned-falls (suc p) (suc p - r))
          (IsSpanned-place n p)

      -- the column of the image keeps combinations
      pub image_column-linear : (rows : List Vector) (c : List (Term Place))
          → part_terms (column_start b m (suc p)) (column_start b m p)
          (row_combination b.ring (total_map b n m).rows (row_combination b.ring rows c))
          ≡ row_combination b.ring
          (with_terms (λ ts. part_terms (column_start b m (suc p)) (column_start b m p)
          (row_combination b.ring (total_map b n m).rows ts)) rows) c
      image_column-linear rows c =
          let from = column_start b m (suc p) in
          let to = column_start b m p in
          let f : List (Term Place) → List (Term Place) = row_combination b.ring (total_map b n m).rows in
          ap (part_terms from to)
          (sym (row_combination-matrix_product b.ring h.is_ring.modulus (matrix_of b.ring (total_degrees b n) rows)
          (total_map b n m) c refl))
          ∙ part_terms-row_combination b.ring h.is_ring.modulus from to (with_terms f rows) c
          ∙ ap (λ x. row_combination b.ring x c) (with_terms-with_terms (part_terms from to) f rows)

      pub IsSpanned-boundaries : IsSpanned b.ring (place b m p).target (IsBoundaryOfPage b r n m p)
      IsSpanned-boundaries =
          IsSpanned-near b.ring prime (total_degrees b n) (place b m p).target
          (λ ts. part_terms (column_start b m (suc p)) (column_start b m p)
          (row_combination b.ring (total_map b n m).rows ts)) image_column-linear
          (λ a e. IsVector-taken b.ring h.is_ring (total_degrees b m) (place b m p).target (column_start b m (suc p))
          (column_start b m p) (IsRange-column b m p inside) a.degree
          (row_combination b.ring (total_map b n m).rows a.terms) (total_image b h n m lower a.degree (a.terms, e)).1)
          (FallsBelow b n m (p + r) (suc p)) (InSpan (place b m p)) (IsSpanned-falls (p + r) (suc p)) (IsSpanned-place m p)

    pub IsSpanned-cycles_below : (k : ℕ) → IsSpanned b.ring (total_degrees b n) (IsCycleBelow b n m k)
    IsSpanned-cycles_below k =
        IsSpanned-same b.ring (total_degrees b n) _ (IsCycleBelow b n m k)
        (λ v. (
          λ e. record { stands = e.0; cycle = e.1.inside },
          λ e. (e.stands, record { coefficients = as_coefficients v e.stands.vector; inside = e.cycle }),
        ))
        (IsSpanned-both b.ring prime (total_degrees b n) (StandsBelow b n k)
        (IsRelation (total_map b n m) (InSpan (total_module b m))) (IsSpanned-stands n k)
        (sent (InSpan (total_module b m)) (IsSpanned-module m)))

    -- cycles of the total complex
    pub IsSpanned-total_cycles : IsSpanned b.ring (total_degrees b n) (IsCycle (total_map b n m) (total_module b m))
    IsSpanned-total_cycles = sent (InSpan (total_module b m)) (IsSpanned-module m)

    -- and its boundaries one degree lower
    pub IsSpanned-all_boundaries : IsSpanned b.ring (total_degrees b m) (IsTotalBoundary b n m)
    IsSpanned-all_boundaries =
        IsSpanned-span b.ring (total_degrees b m) (stacked (total_map b n m) (total_module b m)) refl refl
        (IsMatrix-stacked (total_map b n m) (total_module b m) (sym (total_ring b h m (pos 0))) refl
        (IsMatrix-total_map b h n m lower) (IsMatrix-total_module b h m (pos 0)))

  module _ (above n below : ℤ) (first : n ≡ above -ℤ pos 1) (last : below ≡ n -ℤ pos 1) (g : Matrix)
      (rings : g.ring ≡ b.ring) (targets : g.target ≡ total_degrees b n) (matrix : IsMatrix g) where
    pub IsSpanned-parts : (k : ℕ) → IsSpanned b.ring (row_degrees g) (IsOfPart b above n below g k)
    IsSpanned-parts k =
        let B : Vector → Type 0 = IsNear b.ring (total_degrees b n) (λ v. v) (IsCycleBelow b n below k)
        (IsTotalBoundary b above n) in
        IsSpanned-same b.ring (row_degrees g) (IsRelation g B) (IsOfPart b above n below g k)
        (λ c. (
          λ e. record { coefficients = e.coefficients; near = e.inside },
          λ e. record { coefficients = e.coefficients; inside = e.near },
        ))
        (IsSpanned-relation b.ring prime (total_degrees b n) g rings targets matrix B
        (near_itself (total_degrees b n) (IsCycleBelow b n below k) (IsTotalBoundary b above n)
        (IsSpanned-cycles_below n below last k) (IsSpanned-all_boundaries above n first)))
