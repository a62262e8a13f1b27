-- What is read off from sums over falling places: the vector that they stand for, made monic.
use Rattle.std.proofs.Common.{◌≡◌, ◌↔◌, ℕ, zero, suc, ◌%◌, ◌<◌, ◌≤◌, List, [], ◌∷◌, ◌++◌, length, map, get_or, refl, sym, ◌∙◌, ap, subst, arith, append_assoc, length-append}
use Rattle.std.proofs.Math.Seq.{get_or-append_seam}
use Rattle.std.specs.List.{AllByRecursion}
use Rattle.sf_algebra.specs.Monomials.{one}
use Rattle.sf_algebra.specs.Multiples.{place_product, term_product, multiple}
use Rattle.sf_algebra.specs.Primes.{IsPrime}
use Rattle.sf_algebra.specs.Residues.{product_mod}
use Rattle.sf_algebra.specs.Rings.{ones}
use Rattle.sf_algebra.specs.Terms.{Term, IsCanonical}
use Rattle.sf_algebra.specs.Vectors.{Place, place_cmp}
use Rattle.sf_algebra.proofs.Arithmetic.Inverses.{inverse_nonzero}
use Rattle.sf_algebra.proofs.Arithmetic.Residues.{product_mod-comm}
use Rattle.sf_algebra.proofs.Basics.Lists.{AllByRecursion-weaken}
use Rattle.sf_algebra.proofs.GradedMatrices.Stacks.{AllByRecursion-map}
use Rattle.sf_algebra.proofs.Monomials.Orders.{place_cmp_linear}
use Rattle.sf_algebra.proofs.Monomials.Places.{place_product-one}
use Rattle.sf_algebra.proofs.Multiplying.Keys.{place_keys}
use Rattle.sf_algebra.proofs.Multiplying.Multiples.{IsCanonical-multiple}
use Rattle.sf_algebra.proofs.Multiplying.PrimeMultiples.{multiple-map}
use Rattle.sf_algebra.proofs.Terms.Normal.{EachPlace, IsCanonical-normal}
use Rattle.sf_groebner.specs.ReducedBases.{IsMonic}
use Rattle.sf_groebner.proofs.PairTheorems.Multiplied.{constant_term}
use Rattle.sf_variables.specs.Columns.{AreFalling}
use Rattle.sf_dense.specs.Entries.{Entry, column_at, placed, dense}
use Rattle.sf_dense.specs.MonicEntries.{put_entry, residue_entries, scaled_entry, AreMonicEntries, AreWithin, AreRising}
use Rattle.sf_dense.proofs.DenseSums.Residues.{dense-residues}

-- the entry of one of the sums whose residue isn't 0
pub record IsResidueEntry (p : ℕ) (cs : List ℕ) (e : Entry) : Type 0 where
  pub cell : e.cell < length cs
  pub coefficient : e.coefficient ≡ get_or cs e.cell 0 % p
  pub nonzero : 0 < e.coefficient

module _ (p : ℕ) where
  put_entry-each : (P : Entry → Type 0) (i c : ℕ) (es : List Entry)
      → (0 < c → P (record { cell = i; coefficient = c })) → AllByRecursion P es → AllByRecursion P (put_entry i c es)
  put_entry-each P i zero es here each = each
  put_entry-each P i (suc c) es here each = (here (omega arith), each)

  residue_entries-behind : (front cs : List ℕ) (i : ℕ) → i ≡ length front
      → AllByRecursion (IsResidueEntry p (front ++ cs)) (residue_entries p i cs)
  unfolding residue_entries
  residue_entries-behind front [] i here = tt
  residue_entries-behind front (c ∷ cs) i here =
      put_entry-each (IsResidueEntry p (front ++ c ∷ cs)) i (c % p) (residue_entries p (suc i) cs)
      (λ nonzero. record {
        cell = omega (arith, length-append front (c ∷ cs));
        coefficient = ap (λ n. n % p) (sym (get_or-append_seam front c cs 0)
            ∙ ap (λ n. get_or (front ++ c ∷ cs) n 0) (sym here));
        nonzero = nonzero;
      })
      (subst (λ whole. AllByRecursion (IsResidueEntry p whole) (residue_entries p (suc i) cs))
      (append_assoc front (c ∷ []) cs)
      (residue_entries-behind (front ++ c ∷ []) cs (suc i) (omega (arith, length-append front (c ∷ [])))))

  -- each entry that is read off is that of one of the sums
  pub residue_entries-each : (cs : List ℕ) → AllByRecursion (IsResidueEntry p cs) (residue_entries p 0 cs)
  residue_entries-each cs = residue_entries-behind [] cs 0 refl

  put_entry-rising : (i c : ℕ) (es : List Entry) → AllByRecursion (λ (e : Entry). i < e.cell) es → AreRising es
      → AreRising (put_entry i c es)
  put_entry-rising i zero es above rising = rising
  put_entry-rising i (suc c) es above rising = (above, rising)

  residue_entries-from : (i j : ℕ) (cs : List ℕ) → i ≤ j
      → AllByRecursion (λ (e : Entry). i ≤ e.cell) (residue_entries p j cs)
  unfolding residue_entries
  residue_entries-from i j [] from = tt
  residue_entries-from i j (c ∷ cs) from =
      put_entry-each (λ (e : Entry). i ≤ e.cell) j (c % p) (residue_entries p (suc j) cs) (λ nonzero. from)
      (residue_entries-from i (suc j) cs (omega arith))

  -- their numbers rise
  pub residue_entries-rising : (i : ℕ) (cs : List ℕ) → AreRising (residue_entries p i cs)
  unfolding residue_entries
  residue_entries-rising i [] = tt
  residue_entries-rising i (c ∷ cs) =
      put_entry-rising i (c % p) (residue_entries p (suc i) cs)
      (AllByRecursion-weaken _ _ (λ e above. omega arith) _ (residue_entries-from (suc i) (suc i) cs (omega arith)))
      (residue_entries-rising (suc i) cs)

  put_entry-none : (i c : ℕ) (es : List Entry) → put_entry i c es ≡ [] → (c ≡ 0) × (es ≡ [])
  put_entry-none i zero es none = (refl, none)
  put_entry-none i (suc c) es none = cc

  -- nothing is read off exactly where each residue is 0
  pub residue_entries-none : (i : ℕ) (cs : List ℕ) → residue_entries p i cs ≡ [] → AllByRecursion (λ c. c % p ≡ 0) cs
  unfolding residue_entries
  residue_entries-none i [] none = tt
  residue_entries-none i (c ∷ cs) none =
      let parts : (c % p ≡ 0) × (residue_entries p (suc i) cs ≡ []) = put_entry-none i (c % p) _ none in
      (parts.0, residue_entries-none (suc i) cs parts.1)

  pub residue_entries-zeros : (i : ℕ) (cs : List ℕ) → AllByRecursion (λ c. c % p ≡ 0) cs → residue_entries p i cs ≡ []
  unfolding residue_entries
  residue_entries-zeros i [] zeros = refl
  residue_entries-zeros i (c ∷ cs) zeros =
      ap (λ n. put_entry i n (residue_entries p (suc i) cs)) zeros.0 ∙ residue_entries-zeros (suc i) cs zeros.1

-- entries x times stand for the terms x times
pub placed-scaled : (p x : ℕ) (ks : List Place) (es : List Entry)
    → placed ks (map (scaled_entry p x) es) ≡ map (term_product place_product p (constant_term x)) (placed ks es)
placed-scaled p x ks [] = refl
placed-scaled p x ks (e ∷ es) =
    let at : column_at ks e.cell ≡ place_product one (column_at ks e.cell) = sym (place_product-one (column_at ks
    e.cell)) in
    λ i. record { at = at i; coefficient = product_mod p x e.coefficient } ∷ placed-scaled p x ks es i

-- where each sum is 0 modulo p, and only there, the vector is 0
pub dense-none : (p : ℕ) → 0 < p → (ks : List Place) (cs : List ℕ) → AreFalling ones ks → length ks ≡ length cs
    → AllByRecursion (λ c. c % p ≡ 0) cs ↔ (dense p ks cs ≡ [])
dense-none p positive ks cs falling same = (
  λ zeros. dense-residues p positive ks cs falling same ∙ ap (placed ks) (residue_entries-zeros p 0 cs zeros),
  λ none. residue_entries-none p 0 cs (unplaced _ (sym (dense-residues p positive ks cs falling same) ∙ none)),
)
  where
    unplaced : (es : List Entry) → placed ks es ≡ [] → es ≡ []
    unplaced [] none = refl
    unplaced (e ∷ es) none = cc

module _ (p : ℕ) (prime : IsPrime p) (ks : List Place) (cs : List ℕ) (es : List Entry) (falling : AreFalling ones ks)
    (same : length ks ≡ length cs) (read : AreMonicEntries p cs es) where
  positive : 0 < p
  positive = omega (arith, prime.above_one)

  -- the lead of the vector is where the first entry is
  pub dense-lead : dense p ks cs
      ≡ record { at = column_at ks read.first.cell; coefficient = read.first.coefficient } ∷ placed ks read.others
  dense-lead = dense-residues p positive ks cs falling same ∙ ap (placed ks) read.residues

  -- the entries stand for the multiple by the inverse of the lead's coefficient
  pub placed-monic_entries : placed ks es
      ≡ multiple (place_cmp ones) place_product p (constant_term read.inverse) (dense p ks cs)
  placed-monic_entries =
      ap (placed ks) (read.entries ∙ ap (map (scaled_entry p read.inverse)) (sym read.residues))
      ∙ placed-scaled p read.inverse ks (residue_entries p 0 cs)
      ∙ ap (map (term_product place_product p (constant_term read.inverse))) (sym (dense-residues p positive ks cs
      falling same))
      ∙ sym (multiple-map (place_keys ones) p (constant_term read.inverse) prime
      (inverse_nonzero p read.first.coefficient read.inverse read.product, read.residue)
      (dense p ks cs)
      (IsCanonical-normal (place_cmp ones) (place_cmp_linear ones) p positive _))

  pub IsCanonical-monic_entries : IsCanonical (place_cmp ones) p (placed ks es)
  IsCanonical-monic_entries =
      subst (IsCanonical (place_cmp ones) p) (sym placed-monic_entries)
      (IsCanonical-multiple (place_keys ones) p positive (constant_term read.inverse) (dense p ks cs))

  pub IsMonic-monic_entries : IsMonic (placed ks es)
  IsMonic-monic_entries =
      subst (λ l. IsMonic (placed ks l)) (sym read.entries) (product_mod-comm p read.inverse read.first.coefficient
      ∙ read.product)

-- facts of entries that are read off
module _ (p : ℕ) (cs : List ℕ) (es : List Entry) (read : AreMonicEntries p cs es) where
  monic_entries-scaled : (P : Entry → Type 0) → ((e : Entry) → IsResidueEntry p cs e → P (scaled_entry p read.inverse e))
      → AllByRecursion P es
  monic_entries-scaled P f =
      subst (AllByRecursion P) (sym (read.entries ∙ ap (map (scaled_entry p read.inverse)) (sym read.residues)))
      (AllByRecursion-map P (scaled_entry p read.inverse) (residue_entries p 0 cs)
      (AllByRecursion-weaken _ _ f (residue_entries p 0 cs) (residue_entries-each p cs)))

  pub AreWithin-monic_entries : AreWithin (length cs) es
  AreWithin-monic_entries = monic_entries-scaled (λ (e : Entry). e.cell < length cs) (λ e entry. entry.cell)

  -- a fact of each column whose sum isn't 0 modulo p is one of each term
  pub EachPlace-monic_entries : (ks : List Place) (P : Place → Type 0)
      → ((i : ℕ) → i < length cs → 0 < get_or cs i 0 % p → P (column_at ks i)) → EachPlace P (placed ks es)
  EachPlace-monic_entries ks P f =
      AllByRecursion-map (λ (t : Term Place). P t.at) _ es
      (monic_entries-scaled (λ (e : Entry). P (column_at ks e.cell)) (λ e entry. f e.cell entry.cell (omega (
        arith,
        entry.nonzero,
        entry.coefficient,
      ))))
