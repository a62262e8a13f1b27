-- Tails that are reduced, by the flags of their places.
use Rattle.std.proofs.Common.{◌≡◌, Bool, true, false, not, IsTrue, IsFalse, ◌-◌, List, [], ◌∷◌, length, map, take, drop, slice_index_or, refl, ◌∙◌, subst, arith}
use Rattle.std.proofs.lemmas.List.{take_all}
use Rattle.std.specs.List.{AllByRecursion, list_any}
use Rattle.sf_algebra.specs.Monomials.{Monomial, one}
use Rattle.sf_algebra.specs.Terms.{Term}
use Rattle.sf_algebra.specs.Vectors.{Place, Vector}
use Rattle.sf_algebra.proofs.Monomials.Places.{place_product-one}
use Rattle.sf_groebner.specs.Divisions.{tail_of}
use Rattle.sf_groebner.specs.Leads.{place_divides}
use Rattle.sf_groebner.specs.ReducedBases.{IsMonic, IsReducedBy}
use Rattle.sf_groebner.proofs.Constructions.LeadDivisors.{is_divided-lead_places, lead_places}
use Rattle.sf_dense.specs.Entries.{Entry, column_at, placed}
use Rattle.sf_dense.specs.MonicEntries.{AreWithin}
use Rattle.sf_dense.specs.Walks.{times_monomial}
use Rattle.sf_buchberger.proofs.DegreeBases.Flags.{flag_at}

-- once the terms are the terms
times_one : (ts : List (Term Place)) → map (times_monomial one) ts ≡ ts
times_one [] = refl
times_one (t ∷ ts) = λ i. record { at = place_product-one t.at i; coefficient = t.coefficient } ∷ times_one ts i

-- what a slice behind the first term has
tail_slice : (ts : List (Term Place)) → take (length ts - 1) (drop 1 ts) ≡ tail_of ts
tail_slice [] = refl
tail_slice (t ∷ ts) = take_all (length (t ∷ ts) - 1) ts (omega arith)

-- whether a lead of the rows divides a place
abbrev pub lead_flag : List Vector → Place → Bool
lead_flag rows k = list_any (λ j. place_divides j k) (lead_places rows)

module _ (ks : List Place) (rows : List Vector) (monic : AllByRecursion (λ (v : Vector). IsMonic v.terms) rows) where
  placed_reduced : (es : List Entry) → AreWithin (length ks) es
      → AllByRecursion (λ (e : Entry). IsFalse (slice_index_or (map (lead_flag rows) ks) e.cell true)) es
      → IsReducedBy rows (placed ks es)
  placed_reduced [] within free = tt
  placed_reduced (e ∷ es) within free = (
    is_divided-lead_places rows (column_at ks e.cell) monic
        ∙ flag_at (lead_flag rows) ks e.cell (record { position = 0; monomial = one }) within.0 free.0,
    placed_reduced es within.1 free.1,
  )

  -- no flag of the places of a tail is raised
  pub tail_reduced : (flags : List Bool) → flags ≡ map (lead_flag rows) ks → (es read : List Entry) → read ≡ es
      → AreWithin (length ks) es
      → (raised : Bool) → (IsFalse raised → AllByRecursion (λ (e : Entry). IsFalse (slice_index_or flags e.cell true)) read)
      → (ts us : List (Term Place)) → us ≡ ts → (a : Monomial) → a ≡ one
      → placed ks es ≡ map (times_monomial a) (take (length us - 1) (drop 1 us))
      → IsTrue (not raised) → IsReducedBy rows (tail_of ts)
  tail_reduced flags same es read es_read within true free ts us us_read a first placed_as answer = cc
  tail_reduced flags same es read es_read within false free ts us us_read a first placed_as answer =
      let each : AllByRecursion (λ (e : Entry). IsFalse (slice_index_or (map (lead_flag rows) ks) e.cell true)) es =
      subst (λ (fs : List Bool). AllByRecursion (λ (e : Entry). IsFalse (slice_index_or fs e.cell true)) es) same
      (subst (AllByRecursion (λ (e : Entry). IsFalse (slice_index_or flags e.cell true))) es_read (free refl)) in
      let whole : placed ks es ≡ tail_of ts =
      placed_as ∙ (λ i. map (times_monomial (first i)) (take (length (us_read i) - 1) (drop 1 (us_read i)))) ∙ times_one _ ∙ tail_slice ts in
      subst (IsReducedBy rows) whole (placed_reduced es within each)
