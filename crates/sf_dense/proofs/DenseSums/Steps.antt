-- One step of the program's loops over entries and over sums, and their ends.
use Rattle.std.proofs.Common.{◌≡◌, ◌≢◌, ℕ, zero, suc, ◌+◌, ◌*◌, ◌%◌, ◌^◌, ◌<◌, ◌≤◌, inl, inr, List, [], ◌∷◌, ◌++◌, length, drop, get_or, set, map, refl, sym, ◌∙◌, ap, arith, add-one, get_or-set_same, get_or-set_other, append_assoc}
use Rattle.std.proofs.lemmas.Bool.{cases_eq, cases_lt}
use Rattle.std.proofs.lemmas.List.{append-nil, drop_all, set_past}
use Rattle.std.proofs.Math.Nat.{mul-le-mul_left}
use Rattle.std.proofs.Math.Seq.{drop-cons}
use Rattle.sf_algebra.specs.Residues.{product_mod}
use Rattle.sf_algebra.proofs.Arithmetic.Residues.{product_mod-comm}
use Rattle.sf_dense.specs.Entries.{Entry, added}
use Rattle.sf_dense.specs.MonicEntries.{put_entry, residue_entries, scaled_entry}

drop-item : {X : Type 0} (xs : List X) (i : ℕ) (x : X) → i < length xs → x ≡ get_or xs i x
    → drop i xs ≡ x ∷ drop (i + 1) xs
drop-item xs i x within e = rw add-one (drop-cons xs i x within ∙ ap (λ y. y ∷ drop (suc i) xs) (sym e))

-- the first entry that is left is added
pub added-next : (a : ℕ) (cs : List ℕ) (es : List Entry) (i : ℕ) (e : Entry) → i < length es → e ≡ get_or es i e
    → added a cs (drop i es) ≡ added a (set cs e.cell (get_or cs e.cell 0 + a * e.coefficient)) (drop (i + 1) es)
unfolding added
added-next a cs es i e within item = ap (added a cs) (drop-item es i e within item)

-- a number past the last sum changes nothing
pub added-past : (a : ℕ) (cs : List ℕ) (es : List Entry) (i : ℕ) (e : Entry) → i < length es → e ≡ get_or es i e
    → length cs ≤ e.cell → added a cs (drop i es) ≡ added a cs (drop (i + 1) es)
added-past a cs es i e within item past =
    added-next a cs es i e within item ∙ ap (λ ds. added a ds (drop (i + 1) es)) (set_past cs e.cell _ past)

pub added-end : (a : ℕ) (cs : List ℕ) (es : List Entry) (i : ℕ) → length es ≤ i → added a cs (drop i es) ≡ cs
unfolding added
added-end a cs es i past = ap (added a cs) (drop_all i es past)

-- a sum that is raised grows by no more than that, and the others stay
pub set-raised : (cs : List ℕ) (i n k : ℕ) → get_or (set cs i (get_or cs i 0 + n)) k 0 ≤ get_or cs k 0 + n
set-raised cs i n k = elim (cases_eq k i) [
  | inl here ↦ elim (cases_lt i (length cs)) [
    | inl inside ↦ rw (here, get_or-set_same cs i (get_or cs i 0 + n) 0 inside) (omega arith)
    | inr past ↦ rw (set_past cs i (get_or cs i 0 + n) past) (omega arith)
  ]
  | inr apart ↦ rw (get_or-set_other cs i k (get_or cs i 0 + n) 0 apart) (omega arith)
]

-- two numbers of 16 bits
pub product-room : (a b : ℕ) → a < 2 ^ 16 → b < 2 ^ 16 → a * b ≤ 2 ^ 32
product-room a b a_below b_below =
    let least : b ≤ 2 ^ 16 = omega arith in omega (arith, mul-le-mul_left a least)

residue_entries-next : (p : ℕ) (cs : List ℕ) (i r : ℕ) → i < length cs → r ≡ get_or cs i 0 % p
    → residue_entries p i (drop i cs) ≡ put_entry i r (residue_entries p (i + 1) (drop (i + 1) cs))
unfolding residue_entries
residue_entries-next p cs i r within residue =
    ap (residue_entries p i) (drop-cons cs i 0 within)
    ∙ (λ j. put_entry i (sym residue j) (residue_entries p (sym (add-one i) j) (drop (sym (add-one i) j) cs)))

-- the first sum that is left gives an entry
pub residue_entries-some : (p : ℕ) (cs : List ℕ) (i r : ℕ) → i < length cs → r ≡ get_or cs i 0 % p → r ≢ 0
    → residue_entries p i (drop i cs)
    ≡ record { cell = i; coefficient = r } ∷ residue_entries p (i + 1) (drop (i + 1) cs)
residue_entries-some p cs i r within residue nonzero =
    residue_entries-next p cs i r within residue ∙ put_entry-some r nonzero
  where
    put_entry-some : (c : ℕ) → c ≢ 0
        → put_entry i c (residue_entries p (i + 1) (drop (i + 1) cs))
        ≡ record { cell = i; coefficient = c } ∷ residue_entries p (i + 1) (drop (i + 1) cs)
    put_entry-some zero nonzero = absurd (nonzero refl)
    put_entry-some (suc c) nonzero = refl

-- or none
pub residue_entries-skipped : (p : ℕ) (cs : List ℕ) (i r : ℕ) → i < length cs → r ≡ get_or cs i 0 % p → r ≡ 0
    → residue_entries p i (drop i cs) ≡ residue_entries p (i + 1) (drop (i + 1) cs)
residue_entries-skipped p cs i r within residue none =
    residue_entries-next p cs i r within residue
    ∙ ap (λ c. put_entry i c (residue_entries p (i + 1) (drop (i + 1) cs))) none

pub residue_entries-end : (p : ℕ) (cs : List ℕ) (i j : ℕ) → length cs ≤ i → residue_entries p j (drop i cs) ≡ []
unfolding residue_entries
residue_entries-end p cs i j past = ap (residue_entries p j) (drop_all i cs past)

module _ (p x : ℕ) (cs : List ℕ) where
  -- the first entry, made monic
  pub monic-begun : (e : Entry)
      → residue_entries p 0 cs ≡ e ∷ residue_entries p (e.cell + 1) (drop (e.cell + 1) cs)
      → product_mod p e.coefficient x ≡ 1
      → record { cell = e.cell; coefficient = 1 } ∷ map (scaled_entry p x) (residue_entries p (e.cell + 1) (drop
      (e.cell + 1) cs))
      ≡ map (scaled_entry p x) (residue_entries p 0 cs)
  monic-begun e first inverse =
      let one : 1 ≡ product_mod p x e.coefficient = sym inverse ∙ product_mod-comm p e.coefficient x in
      (λ i. record { cell = e.cell; coefficient = one i } ∷ map (scaled_entry p x) (residue_entries p (e.cell + 1)
      (drop (e.cell + 1) cs)))
      ∙ ap (map (scaled_entry p x)) (sym first)

  module _ (front whole : List Entry) (i : ℕ)
      (kept : front ++ map (scaled_entry p x) (residue_entries p i (drop i cs)) ≡ whole) where
    -- one more entry, or none, of a sum
    pub monic-next : (r : ℕ) → i < length cs → r ≡ get_or cs i 0 % p → r ≢ 0
        → (front ++ record { cell = i; coefficient = product_mod p x r } ∷ [])
        ++ map (scaled_entry p x) (residue_entries p (i + 1) (drop (i + 1) cs)) ≡ whole
    monic-next r within residue nonzero =
        append_assoc front _ _
        ∙ ap (λ es. front ++ map (scaled_entry p x) es) (sym (residue_entries-some p cs i r within residue nonzero))
        ∙ kept

    pub monic-skipped : (r : ℕ) → i < length cs → r ≡ get_or cs i 0 % p → r ≡ 0
        → front ++ map (scaled_entry p x) (residue_entries p (i + 1) (drop (i + 1) cs)) ≡ whole
    monic-skipped r within residue none =
        ap (λ es. front ++ map (scaled_entry p x) es) (sym (residue_entries-skipped p cs i r within residue none)) ∙ kept

    pub monic-end : length cs ≤ i → front ≡ whole
    monic-end past =
        sym (append-nil front)
        ∙ ap (λ es. front ++ map (scaled_entry p x) es) (sym (residue_entries-end p cs i i past))
        ∙ kept
