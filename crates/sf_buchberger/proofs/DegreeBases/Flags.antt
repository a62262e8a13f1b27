-- Flags for the places of a list: raised where a lead divides.
use Rattle.std.proofs.Common.{◌≡◌, ◌↔◌, inl, inr, cond, Bool, true, false, IsTrue, IsFalse, ℕ, zero, suc, ◌+◌, ◌<◌, List, [], ◌∷◌, ◌++◌, length, map, filter, take, slice_index_or, Option, Some, None, is_some, IsNone, IsSome, IfSome, HoldsAt, refl, sym, ◌∙◌, ap, arith}
use Rattle.std.proofs.lemmas.List.{map-append, take_more}
use Rattle.std.specs.List.{list_any}
use Rattle.sf_algebra.specs.Vectors.{Place}
use Rattle.sf_groebner.specs.Leads.{PlaceDivides, place_divides}
use Rattle.sf_groebner.proofs.Basics.Items.{IsItem, list_any-from_item}
use Rattle.sf_groebner.proofs.Basics.PlaceDivisors.{Decides-place_divides}

-- an item by its place
item_at : {X : Type 0} (xs : List X) (k : ℕ) (d : X) → k < length xs → IsItem (slice_index_or xs k d) xs
item_at [] k d h = absurd (omega arith)
item_at (x ∷ xs) zero d h = inl refl
item_at (x ∷ xs) (suc k) d h = inr (item_at xs k d (omega arith))

-- a search for a divisor decides whether there is one
pub divisor_decides : (k : Place) (leads : List Place) (found : Option ℕ)
    → (IsNone found → list_any (λ j. place_divides j k) leads ≡ false) → IfSome found (λ i. i < length leads)
    → IfSome found (λ i. HoldsAt (λ (j : Place). PlaceDivides j k) leads i)
    → IsTrue (list_any (λ j. place_divides j k) leads) ↔ IsSome found
divisor_decides k leads None none within divides = (λ h. let no = none refl in cc, λ h. cc)
divisor_decides k leads (Some i) none within divides =
    let j : Place = slice_index_or leads i k in
    (λ h. refl, λ h. list_any-from_item (λ l. place_divides l k) leads j (item_at leads i k within) ((Decides-place_divides j k).1 (divides k)))

-- as many flags are raised as places pass
pub length-filter_map : {X : Type 0} (test : X → Bool) (xs : List X)
    → length (filter (λ b. b) (map test xs)) ≡ length (filter test xs)
length-filter_map test [] = refl
length-filter_map test (x ∷ xs) = chosen (test x) (length-filter_map test xs)
  where
    chosen : (b : Bool) → length (filter (λ c. c) (map test xs)) ≡ length (filter test xs)
        → length (filter (λ c. c) (b ∷ map test xs)) ≡ length (cond b (x ∷ filter test xs) (filter test xs))
    chosen true e = ap suc e
    chosen false e = e

-- a flag that isn't raised at a place within
pub flag_at : {X : Type 0} (test : X → Bool) (xs : List X) (i : ℕ) (d : X) → i < length xs
    → IsFalse (slice_index_or (map test xs) i true) → test (slice_index_or xs i d) ≡ false
flag_at test [] i d within free = absurd (omega arith)
flag_at test (x ∷ xs) zero d within free = free
flag_at test (x ∷ xs) (suc i) d within free = flag_at test xs i d (omega arith) free

-- one flag more
pub flags_more : {X : Type 0} (test : X → Bool) (xs : List X) (i : ℕ) (x : X) (flags more : List Bool) (b : Bool)
    → i < length xs → x ≡ slice_index_or xs i x → flags ≡ map test (take i xs) → more ≡ flags ++ b ∷ [] → b ≡ test x
    → more ≡ map test (take (i + 1) xs)
flags_more test xs i x flags more b within read before pushed same =
    pushed ∙ (λ j. before j ++ same j ∷ []) ∙ sym (ap (map test) (take_more xs i x within ∙ ap (λ y. take i xs ++ y ∷ []) (sym read)) ∙ map-append test (take i xs) (x ∷ []))

-- a test for what was found answers what the search decides
pub same_flag : (b : Bool) (found : Option ℕ) → (IsTrue b ↔ IsSome found) → is_some found ≡ b
same_flag true found decides = decides.0 refl
same_flag false None decides = refl
same_flag false (Some i) decides = let no = decides.1 refl in cc
