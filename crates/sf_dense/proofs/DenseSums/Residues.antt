-- The vector that sums over falling places stand for: its terms are the residues other than 0 of the sums, one place after
-- the other.
use Rattle.std.proofs.Common.{◌≡◌, ℕ, zero, suc, ◌%◌, ◌<◌, List, [], ◌∷◌, ◌++◌, length, refl, sym, ◌∙◌, ap, arith, append_assoc, length-append}
use Rattle.std.proofs.Math.Nat.{mod-lt}
use Rattle.std.proofs.Math.Seq.{get_or-append_seam}
use Rattle.std.specs.declared.cmp.Ordering.TheVariants.{Less}
use Rattle.std.specs.List.{AllByRecursion}
use Rattle.sf_algebra.specs.Residues.{sum_mod}
use Rattle.sf_algebra.specs.Rings.{ones}
use Rattle.sf_algebra.specs.Sums.{put}
use Rattle.sf_algebra.specs.Terms.{Term, IsDescending, IsNonzeroResidue}
use Rattle.sf_algebra.specs.Vectors.{Place, place_cmp}
use Rattle.sf_algebra.proofs.Arithmetic.Residues.{sum_mod-first}
use Rattle.sf_algebra.proofs.Monomials.Orders.{place_cmp_linear}
use Rattle.sf_algebra.proofs.Terms.Normal.{EachPlace, EachPlace-put, IsDescending-put, residues-put}
use Rattle.sf_algebra.proofs.Terms.SameTotals.{SameTotals, SameTotals-refl, normal-SameTotals}
use Rattle.sf_algebra.proofs.Terms.Sums.{normal-canonical}
use Rattle.sf_algebra.proofs.Terms.Totals.{additive-reduced, total-cons, total-put}
use Rattle.sf_variables.specs.Columns.{AreFalling}
use Rattle.sf_dense.specs.Entries.{Entry, column_at, placed, cell_terms, dense}
use Rattle.sf_dense.specs.MonicEntries.{put_entry, residue_entries}

-- the residues other than 0 of the sums, each at its place
unfoldable pub residue_terms : ℕ → List Place → List ℕ → List (Term Place)
residue_terms p [] cs = []
residue_terms p (k ∷ ks) [] = []
residue_terms p (k ∷ ks) (c ∷ cs) = put k (c % p) (residue_terms p ks cs)

module _ (p : ℕ) where
  EachPlace-residue_terms : (P : Place → Type 0) (ks : List Place) (cs : List ℕ) → AllByRecursion P ks
      → EachPlace P (residue_terms p ks cs)
  unfolding residue_terms
  EachPlace-residue_terms P [] cs each = tt
  EachPlace-residue_terms P (k ∷ ks) [] each = tt
  EachPlace-residue_terms P (k ∷ ks) (c ∷ cs) each =
      EachPlace-put P k (c % p) _ each.0 (EachPlace-residue_terms P ks cs each.1)

  IsDescending-residue_terms : (ks : List Place) (cs : List ℕ) → AreFalling ones ks
      → IsDescending (place_cmp ones) (residue_terms p ks cs)
  unfolding residue_terms
  IsDescending-residue_terms [] cs falling = tt
  IsDescending-residue_terms (k ∷ ks) [] falling = tt
  IsDescending-residue_terms (k ∷ ks) (c ∷ cs) falling =
      IsDescending-put (place_cmp ones) k (c % p) (residue_terms p ks cs)
      (EachPlace-residue_terms (λ l. place_cmp ones l k ≡ Less) ks cs falling.0)
      (IsDescending-residue_terms ks cs falling.1)

  SameTotals-residue_terms : (ks : List Place) (cs : List ℕ) → SameTotals p (cell_terms ks cs) (residue_terms p ks cs)
  unfolding cell_terms residue_terms
  SameTotals-residue_terms [] cs = SameTotals-refl p []
  SameTotals-residue_terms (k ∷ ks) [] = SameTotals-refl p []
  SameTotals-residue_terms (k ∷ ks) (c ∷ cs) = record {
    totals = λ g additive.
        total-cons p g _ (cell_terms ks cs)
        ∙ sym (sum_mod-first p _ _)
        ∙ (λ i. sum_mod p (sym (additive-reduced p g additive k c) i) ((SameTotals-residue_terms ks cs).totals g
        additive i))
        ∙ sum_mod-first p _ _
        ∙ sym (total-put p g additive k (c % p) (residue_terms p ks cs));
  }

  placed-put_entry : (ks : List Place) (i c : ℕ) (es : List Entry)
      → placed ks (put_entry i c es) ≡ put (column_at ks i) c (placed ks es)
  placed-put_entry ks i zero es = refl
  placed-put_entry ks i (suc c) es = refl

  -- the places of the entries' numbers
  placed-residues_behind : (front ks : List Place) (cs : List ℕ) (i : ℕ) → i ≡ length front → length ks ≡ length cs
      → placed (front ++ ks) (residue_entries p i cs) ≡ residue_terms p ks cs
  unfolding residue_entries residue_terms
  placed-residues_behind front [] [] i here same = refl
  placed-residues_behind front [] (c ∷ cs) i here same = absurd (omega arith)
  placed-residues_behind front (k ∷ ks) [] i here same = absurd (omega arith)
  placed-residues_behind front (k ∷ ks) (c ∷ cs) i here same =
      placed-put_entry (front ++ k ∷ ks) i (c % p) (residue_entries p (suc i) cs)
      ∙ (λ j. put (at j) (c % p) (placed (whole j) (residue_entries p (suc i) cs)))
      ∙ ap (put k (c % p))
      (placed-residues_behind (front ++ k ∷ []) ks cs (suc i) (omega (arith, length-append front (k ∷ []))) (omega arith))
    where
      at : column_at (front ++ k ∷ ks) i ≡ k
      at = ap (column_at (front ++ k ∷ ks)) here ∙ get_or-append_seam front k ks _

      whole : front ++ k ∷ ks ≡ (front ++ k ∷ []) ++ ks
      whole = sym (append_assoc front (k ∷ []) ks)

module _ (p : ℕ) (positive : 0 < p) where
  residues-residue_terms : (ks : List Place) (cs : List ℕ) → AllByRecursion (IsNonzeroResidue p) (residue_terms p ks cs)
  unfolding residue_terms
  residues-residue_terms [] cs = tt
  residues-residue_terms (k ∷ ks) [] = tt
  residues-residue_terms (k ∷ ks) (c ∷ cs) =
      residues-put p k (c % p) (residue_terms p ks cs) (mod-lt c positive) (residues-residue_terms ks cs)

  -- the vector that sums stand for
  pub dense-residue_terms : (ks : List Place) (cs : List ℕ) → AreFalling ones ks → dense p ks cs ≡ residue_terms p ks cs
  dense-residue_terms ks cs falling =
      normal-SameTotals (place_cmp ones) (place_cmp_linear ones) p positive (SameTotals-residue_terms p ks cs)
      ∙ normal-canonical (place_cmp ones) (place_cmp_linear ones) p positive (residue_terms p ks cs)
      (record { descending = IsDescending-residue_terms p ks cs falling; residues = residues-residue_terms ks cs })

  -- and its entries
  pub dense-residues : (ks : List Place) (cs : List ℕ) → AreFalling ones ks → length ks ≡ length cs
      → dense p ks cs ≡ placed ks (residue_entries p 0 cs)
  dense-residues ks cs falling same =
      dense-residue_terms ks cs falling ∙ sym (placed-residues_behind p [] ks cs 0 refl same)
