-- Rows whose tails are reduced by the leads of all rows. (Cox, Little, O'Shea, "Using Algebraic Geometry", chapter 5,
-- section 2.)
use Rattle.std.proofs.Common.{◌≡◌, false, ◌||◌, ℕ, suc, List, [], ◌∷◌, length, refl, sym, ◌∙◌, ap, subst, ℤ}
use Rattle.std.specs.List.{AllByRecursion}
use Rattle.sf_algebra.specs.MatrixOperations.{row_combination}
use Rattle.sf_algebra.specs.Multiples.{negative}
use Rattle.sf_algebra.specs.Rings.{Ring, Weights, IsRing, IsOverField}
use Rattle.sf_algebra.specs.Terms.{Term}
use Rattle.sf_algebra.specs.VectorOperations.{row_sum, vector_difference}
use Rattle.sf_algebra.specs.Vectors.{Place, Vector, IsVector, IsCanonicalRow}
use Rattle.sf_algebra.proofs.Basics.Lists.{AllByRecursion-weaken}
use Rattle.sf_algebra.proofs.Multiplying.Keys.{place_keys}
use Rattle.sf_algebra.proofs.Vectors.Rows.{IsCanonical-row_combination}
use Rattle.sf_groebner.specs.Criterion.{lead_place}
use Rattle.sf_groebner.specs.Divisions.{IsDivided, tail_of}
use Rattle.sf_groebner.specs.Leads.{place_divides}
use Rattle.sf_groebner.specs.ReducedBases.{AreApart, IsApart, IsMonic, IsReducedBy, is_divided, lead_divides}
use Rattle.sf_groebner.specs.Small.{HasLeadUpTo}
use Rattle.sf_groebner.proofs.Basics.Items.{AllByRecursion-both, AllByRecursion-from_items, AllByRecursion-item}
use Rattle.sf_groebner.proofs.Constructions.Antichains.{AreIncomparable, IsAntichain}
use Rattle.sf_groebner.proofs.Constructions.Completions.{IsMonicIn}
use Rattle.sf_groebner.proofs.Constructions.Divisions.{IsVector-tail, divide}
use Rattle.sf_groebner.proofs.Constructions.LeadDivisors.{is_divided-none, lead_divides-lead_place}
use Rattle.sf_groebner.proofs.Constructions.MonicVectors.{IsMonicVector}
use Rattle.sf_groebner.proofs.PairTheorems.MonicRows.{IsMonic-shape}
use Rattle.sf_groebner.proofs.Spanning.Submodules.{IsSubmodule}
use Rattle.sf_groebner.proofs.Uniqueness.Subtractions.{add-first, add-negative_front}

-- the lead has the coefficient 1, and no lead of the rows divides a term behind it
pub record IsReducedRow (rows : List Vector) (v : Vector) : Type 0 where
  pub tail : List (Term Place)
  pub terms : v.terms ≡ record { at = lead_place v.terms; coefficient = 1 } ∷ tail
  pub free : IsReducedBy rows tail

pub IsMonic-IsReducedRow : (rows : List Vector) (v : Vector) → IsReducedRow rows v → IsMonic v.terms
IsMonic-IsReducedRow rows v h = subst IsMonic (sym h.terms) refl

-- the rows have the same leads, one by one
abbrev pub HaveSameLeads : List Vector → List Vector → Type 0
HaveSameLeads [] [] = Unit {0}
HaveSameLeads [] (w ∷ ws) = ⊥
HaveSameLeads (v ∷ vs) [] = ⊥
HaveSameLeads (v ∷ vs) (w ∷ ws) = (lead_place w.terms ≡ lead_place v.terms) × HaveSameLeads vs ws

abbrev AreMonic : List Vector → Type 0
AreMonic = AllByRecursion (λ (v : Vector). IsMonic v.terms)

lead_divides-same : (ts us : List (Term Place)) (k : Place) → IsMonic ts → IsMonic us → lead_place us ≡ lead_place ts
    → lead_divides us k ≡ lead_divides ts k
lead_divides-same ts us k h l same =
    lead_divides-lead_place us k l ∙ ap (λ j. place_divides j k) same ∙ sym (lead_divides-lead_place ts k h)

-- such rows divide the same places
pub is_divided-same : (vs ws : List Vector) (k : Place) → AreMonic vs → AreMonic ws → HaveSameLeads vs ws
    → is_divided ws k ≡ is_divided vs k
is_divided-same [] [] k h l same = refl
is_divided-same [] (w ∷ ws) k h l same = absurd same
is_divided-same (v ∷ vs) [] k h l same = absurd same
is_divided-same (v ∷ vs) (w ∷ ws) k h l same = λ i. lead_divides-same v.terms w.terms k h.0 l.0 same.0 i || is_divided-same vs ws k h.1 l.1 same.1 i

AreIncomparable-same : (v w : Vector) → IsMonic v.terms → IsMonic w.terms → lead_place w.terms ≡ lead_place v.terms
    → (vs ws : List Vector) → AreMonic vs → AreMonic ws → HaveSameLeads vs ws
    → AllByRecursion (AreIncomparable v) vs → AllByRecursion (AreIncomparable w) ws
AreIncomparable-same v w hv hw first [] [] h l same far = tt
AreIncomparable-same v w hv hw first [] (y ∷ ys) h l same far = absurd same
AreIncomparable-same v w hv hw first (x ∷ xs) [] h l same far = absurd same
AreIncomparable-same v w hv hw first (x ∷ xs) (y ∷ ys) h l same far = (
  (
    ap (lead_divides w.terms) same.0 ∙ lead_divides-same v.terms w.terms (lead_place x.terms) hv hw first ∙ far.0.0,
    ap (lead_divides y.terms) first ∙ lead_divides-same x.terms y.terms (lead_place v.terms) h.0 l.0 same.0 ∙ far.0.1,
  ),
  AreIncomparable-same v w hv hw first xs ys h.1 l.1 same.1 far.1,
)

IsAntichain-same : (vs ws : List Vector) → AreMonic vs → AreMonic ws → HaveSameLeads vs ws → IsAntichain vs
    → IsAntichain ws
IsAntichain-same [] [] h l same far = tt
IsAntichain-same [] (w ∷ ws) h l same far = absurd same
IsAntichain-same (v ∷ vs) [] h l same far = absurd same
IsAntichain-same (v ∷ vs) (w ∷ ws) h l same far =
    (AreIncomparable-same v w h.0 l.0 same.0 vs ws h.1 l.1 same.1 far.0, IsAntichain-same vs ws h.1 l.1 same.1 far.1)

-- what no lead of the rows divides, the lead of w doesn't
abbrev DividesNoMore : List Vector → Vector → Type 0
DividesNoMore rows w = (k : Place) → is_divided rows k ≡ false → lead_divides w.terms k ≡ false

reduced_by_one : (rows : List Vector) (v w : Vector) → IsReducedRow rows v → DividesNoMore rows w
    → lead_divides w.terms (lead_place v.terms) ≡ false → IsReducedBy (w ∷ []) v.terms
reduced_by_one rows v w h fewer far =
    subst (IsReducedBy (w ∷ [])) (sym h.terms)
    (ap (λ b. b || false) far, AllByRecursion-weaken _ _ (λ t none. ap (λ b. b || false) (fewer t.at none)) h.tail h.free)

IsApart-reduced : (rows vs : List Vector) → AllByRecursion (IsReducedRow rows) vs
    → AllByRecursion (DividesNoMore rows) vs → IsAntichain vs → IsApart vs
IsApart-reduced rows [] h fewer far = tt
IsApart-reduced rows (v ∷ vs) h fewer far = (
  AllByRecursion-both (AreIncomparable v) (λ w. IsReducedRow rows w × DividesNoMore rows w) (AreApart v)
      (λ w a b. (reduced_by_one rows v w h.0 b.1 a.1, reduced_by_one rows w v b.0 fewer.0 a.0))
      vs far.0
      (AllByRecursion-both (IsReducedRow rows) (DividesNoMore rows) (λ w. IsReducedRow rows w × DividesNoMore rows w) (λ w a b. (a, b)) vs h.1 fewer.1),
  IsApart-reduced rows vs h.1 fewer.1 far.1,
)

-- w has the lead of v, and behind it the rest of what stands behind the lead of v
pub record HasReducedTail (ring : Ring) (target : List ℤ) (rows : List Vector) (v w : Vector) : Type 0 where
  pub rest : List (Term Place)
  pub quotients : List (Term Place)
  pub divided : IsDivided ring target rows v.degree (tail_of v.terms) rest quotients
  pub row : w ≡ record { degree = v.degree; terms = record { at = lead_place v.terms; coefficient = 1 } ∷ rest }

-- one by one
abbrev pub HaveReducedTails : Ring → List ℤ → List Vector → List Vector → List Vector → Type 0
HaveReducedTails ring target rows [] [] = Unit {0}
HaveReducedTails ring target rows [] (w ∷ ws) = ⊥
HaveReducedTails ring target rows (v ∷ vs) [] = ⊥
HaveReducedTails ring target rows (v ∷ vs) (w ∷ ws) =
    HasReducedTail ring target rows v w × HaveReducedTails ring target rows vs ws

-- as many rows
pub HaveReducedTails-length : (ring : Ring) (target : List ℤ) (rows vs ws : List Vector)
    → HaveReducedTails ring target rows vs ws → length ws ≡ length vs
HaveReducedTails-length ring target rows [] [] h = refl
HaveReducedTails-length ring target rows [] (w ∷ ws) h = absurd h
HaveReducedTails-length ring target rows (v ∷ vs) [] h = absurd h
HaveReducedTails-length ring target rows (v ∷ vs) (w ∷ ws) h =
    ap suc (HaveReducedTails-length ring target rows vs ws h.1)

-- leads that are the same, low where the others are
pub HaveReducedTails-low : (ring : Ring) (target : List ℤ) (weights : Weights) (limit : ℕ) (rows vs ws : List Vector)
    → AllByRecursion (λ (v : Vector). IsMonic v.terms) vs → HaveReducedTails ring target rows vs ws
    → AllByRecursion (λ (v : Vector). HasLeadUpTo weights limit v.terms) vs
    → AllByRecursion (λ (v : Vector). HasLeadUpTo weights limit v.terms) ws
HaveReducedTails-low ring target weights limit rows [] [] monic h low = tt
HaveReducedTails-low ring target weights limit rows [] (w ∷ ws) monic h low = absurd h
HaveReducedTails-low ring target weights limit rows (v ∷ vs) [] monic h low = absurd h
HaveReducedTails-low ring target weights limit rows (v ∷ vs) (w ∷ ws) monic h low = (
  subst (λ (x : Vector). HasLeadUpTo weights limit x.terms) (sym h.0.row)
      (subst (HasLeadUpTo weights limit) (IsMonic-shape v.terms monic.0) low.0),
  HaveReducedTails-low ring target weights limit rows vs ws monic.1 h.1 low.1,
)

-- rows with their tails reduced by monic rows of the module whose leads don't divide each other
module _ (ring : Ring) (positive : IsRing ring) (target : List ℤ) (N : Vector → Type 0)
    (submodule : IsSubmodule ring target N)
    (rows : List Vector) (monic : AllByRecursion (IsMonicIn N) rows) where
  row_with_rest : (v w : Vector) → N v → IsMonic v.terms → HasReducedTail ring target rows v w
      → N w × IsReducedRow rows w × (lead_place w.terms ≡ lead_place v.terms)
  row_with_rest v w h one e =
      let lead : Term Place = record { at = lead_place v.terms; coefficient = 1 } in
      let us = tail_of v.terms in
      let rest = e.rest in
      let shape : v.terms ≡ lead ∷ us = IsMonic-shape v.terms one in
      let vector : IsVector ring target (record { degree = v.degree; terms = lead ∷ us }) = subst (λ ts. IsVector ring target (record { degree = v.degree; terms = ts })) shape (submodule.module_like.vectors v h) in
      let multiples : Vector = record { degree = v.degree; terms = row_combination ring rows e.quotients } in
      let canonical : IsCanonicalRow ring (lead ∷ rest) = record {
        descending = ((e.divided.below lead.at vector.canonical.descending.0).0, e.divided.vector.canonical.descending);
        residues = (vector.canonical.residues.0, e.divided.vector.canonical.residues);
      } in
      let back : row_sum ring us (negative ring.modulus multiples.terms) ≡ rest =
      ap (λ ts. row_sum ring ts (negative ring.modulus multiples.terms)) (sym e.divided.sum)
      ∙ add-negative_front
      (place_keys ring.weights) ring.modulus positive.modulus rest multiples.terms e.divided.vector.canonical
      (IsCanonical-row_combination ring positive.modulus rows e.quotients) in
      let terms : row_sum ring v.terms (negative ring.modulus multiples.terms) ≡ lead ∷ rest =
      ap (λ ts. row_sum ring ts (negative ring.modulus multiples.terms)) shape
      ∙ add-first (place_keys ring.weights) ring.modulus positive.modulus lead us
      (negative ring.modulus multiples.terms) rest canonical back in
      let same : vector_difference ring v multiples ≡ w =
      (λ i. record { degree = v.degree; terms = terms i }) ∙ sym e.row in (
        subst N same
            (submodule.module_like.differences v multiples h (submodule.combinations rows (AllByRecursion-weaken _ _ (λ x k. k.0) rows monic) v.degree e.quotients e.divided.homogeneous) refl),
        subst (IsReducedRow rows) (sym e.row) (record { tail = rest; terms = refl; free = e.divided.reduced }),
        ap (λ (x : Vector). lead_place x.terms) e.row,
      )

  rows_with_rests : (vs ws : List Vector) → AllByRecursion (IsMonicIn N) vs → HaveReducedTails ring target rows vs ws
      → AllByRecursion N ws × AllByRecursion (IsReducedRow rows) ws × HaveSameLeads vs ws
  rows_with_rests [] [] h e = (tt, tt, tt)
  rows_with_rests [] (w ∷ ws) h e = absurd e
  rows_with_rests (v ∷ vs) [] h e = absurd e
  rows_with_rests (v ∷ vs) (w ∷ ws) h e =
      let first = row_with_rest v w h.0.0 h.0.1 e.0 in
      let others = rows_with_rests vs ws h.1 e.1 in
      ((first.0, others.0), (first.1, others.1), (first.2, others.2))

  -- are in the module, monic and apart, and divide the same
  module _ (ws : List Vector) (tails : HaveReducedTails ring target rows rows ws) where
    found : AllByRecursion N ws × AllByRecursion (IsReducedRow rows) ws × HaveSameLeads rows ws
    found = rows_with_rests rows ws monic tails

    old : AreMonic rows
    old = AllByRecursion-weaken _ _ (λ v h. h.1) rows monic

    pub reduced_rows-inside : AllByRecursion N ws
    reduced_rows-inside = found.0

    pub reduced_rows-monic : AllByRecursion (λ (v : Vector). IsMonic v.terms) ws
    reduced_rows-monic = AllByRecursion-weaken _ _ (λ w h. IsMonic-IsReducedRow rows w h) ws found.1

    pub reduced_rows-divide : (k : Place) → is_divided ws k ≡ is_divided rows k
    reduced_rows-divide k = is_divided-same rows ws k old reduced_rows-monic found.2

    pub reduced_rows-apart : IsAntichain rows → IsApart ws
    reduced_rows-apart far =
        IsApart-reduced rows ws found.1
        (AllByRecursion-from_items (DividesNoMore rows) ws (λ w item k none. AllByRecursion-item (λ (x : Vector). lead_divides x.terms k ≡ false) ws w (is_divided-none ws k (reduced_rows-divide k ∙ none)) item))
        (IsAntichain-same rows ws old reduced_rows-monic found.2 far)

-- over a field there are such rows
module _ (ring : Ring) (prime : IsOverField ring) (target : List ℤ) (rows : List Vector)
    (monic : AllByRecursion (IsMonicVector ring target) rows) where
  reduced_tail : (v : Vector) → IsMonicVector ring target v → (w : Vector) × HasReducedTail ring target rows v w
  reduced_tail v h =
      let lead : Term Place = record { at = lead_place v.terms; coefficient = 1 } in
      let us = tail_of v.terms in
      let vector : IsVector ring target (record { degree = v.degree; terms = lead ∷ us }) = subst (λ ts. IsVector ring target (record { degree = v.degree; terms = ts })) (IsMonic-shape v.terms h.monic) h.vector in
      let e = divide ring prime target rows monic (record { degree = v.degree; terms = us }) (IsVector-tail ring target v.degree lead us vector) in
      (record { degree = v.degree; terms = lead ∷ e.rest }, record { rest = e.rest; quotients = e.quotients; divided = e.divided; row = refl })

  reduce_each : (vs : List Vector) → AllByRecursion (IsMonicVector ring target) vs
      → (ws : List Vector) × HaveReducedTails ring target rows vs ws
  reduce_each [] h = ([], tt)
  reduce_each (v ∷ vs) h =
      let first = reduced_tail v h.0 in let others = reduce_each vs h.1 in (first.0 ∷ others.0, (first.1, others.1))

  pub reduced_tails : (ws : List Vector) × HaveReducedTails ring target rows rows ws
  reduced_tails = reduce_each rows monic
