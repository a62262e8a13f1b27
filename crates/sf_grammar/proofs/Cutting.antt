-- A text is cut at its first separator.
use Rattle.std.proofs.Common.{◌≡◌, ℕ, List, [], ◌∷◌, ◌++◌, Bool, true, false, refl, ap, IsTrue}
use Rattle.std.specs.List.{slice_split}
use Rattle.std.proofs.lemmas.Bool.{or_from, or_parts}
use Rattle.sf_grammar.specs.Parts.{either}
use Rattle.sf_grammar.specs.Reaches.{Free}

pub Free-append : (p : ℕ → Bool) (xs ys : List ℕ) → Free p xs → Free p ys → Free p (xs ++ ys)
Free-append p [] ys front back = back
Free-append p (x ∷ xs) ys front back = (front.0, Free-append p xs ys front.1 back)

pub Free_left : (p : ℕ → Bool) (xs ys : List ℕ) → Free p (xs ++ ys) → Free p xs
Free_left p [] ys free = tt
Free_left p (x ∷ xs) ys free = (free.0, Free_left p xs ys free.1)

pub Free_right : (p : ℕ → Bool) (xs ys : List ℕ) → Free p (xs ++ ys) → Free p ys
Free_right p [] ys free = free
Free_right p (x ∷ xs) ys free = Free_right p xs ys free.1

pub Free-either : (p q : ℕ → Bool) (xs : List ℕ) → Free p xs → Free q xs → Free (either p q) xs
Free-either p q [] no_p no_q = tt
Free-either p q (x ∷ xs) no_p no_q = (or_from (p x) (q x) no_p.0 no_q.0, Free-either p q xs no_p.1 no_q.1)

pub Free_either_left : (p q : ℕ → Bool) (xs : List ℕ) → Free (either p q) xs → Free p xs
Free_either_left p q [] free = tt
Free_either_left p q (x ∷ xs) free = ((or_parts (p x) (q x) free.0).0, Free_either_left p q xs free.1)

pub Free_either_right : (p q : ℕ → Bool) (xs : List ℕ) → Free (either p q) xs → Free q xs
Free_either_right p q [] free = tt
Free_either_right p q (x ∷ xs) free = ((or_parts (p x) (q x) free.0).1, Free_either_right p q xs free.1)

-- a text has no separator, or a part without one, a separator and a rest
pub data Cut (separates : ℕ → Bool) (text : List ℕ) : Type 0 where
  whole : Free separates text → Cut separates text
  parted : (part : List ℕ) (byte : ℕ) (rest : List ℕ) → text ≡ part ++ byte ∷ rest → Free separates part
      → IsTrue (separates byte) → Cut separates text

pub cut : (separates : ℕ → Bool) (text : List ℕ) → Cut separates text
cut separates [] = whole tt
cut separates (b ∷ bs) = by (separates b) refl (cut separates bs)
  where
    by : (x : Bool) → separates b ≡ x → Cut separates bs → Cut separates (b ∷ bs)
    by true e others = parted [] b bs refl tt e
    by false e (whole free) = whole (e, free)
    by false e (parted part byte rest split free separated) =
        parted (b ∷ part) byte rest (ap (λ xs. b ∷ xs) split) (e, free) separated

pub slice_split-whole : (separates : ℕ → Bool) (text : List ℕ) → Free separates text
    → slice_split separates text ≡ text ∷ []
slice_split-whole separates [] free = refl
slice_split-whole separates (b ∷ bs) free = rw (free.0, slice_split-whole separates bs free.1) refl

pub slice_split-parted : (separates : ℕ → Bool) (part : List ℕ) (byte : ℕ) (rest : List ℕ) → Free separates part
    → IsTrue (separates byte) → slice_split separates (part ++ byte ∷ rest) ≡ part ∷ slice_split separates rest
slice_split-parted separates [] byte rest free separated = rw separated refl
slice_split-parted separates (b ∷ bs) byte rest free separated =
    rw (free.0, slice_split-parted separates bs byte rest free.1 separated) refl

-- there is always a first part
pub record Filled (parts : List (List ℕ)) : Type 0 where
  pub first : List ℕ
  pub others : List (List ℕ)
  pub are : parts ≡ first ∷ others

pub slice_split-filled : (separates : ℕ → Bool) (text : List ℕ) → Filled (slice_split separates text)
slice_split-filled separates [] = record { first = []; others = []; are = refl }
slice_split-filled separates (b ∷ bs) = by (separates b) refl (slice_split-filled separates bs)
  where
    by : (x : Bool) → separates b ≡ x → Filled (slice_split separates bs) → Filled (slice_split separates (b ∷ bs))
    by true e f = record { first = []; others = slice_split separates bs; are = rw e refl }
    by false e f = record { first = b ∷ f.first; others = f.others; are = rw (e, f.are) refl }

-- where a text has a byte b behind a part, one of its beginnings ends within the part or goes beyond b
pub data Front (more less part : List ℕ) (b : ℕ) (rest : List ℕ) : Type 0 where
  within : (gap : List ℕ) → part ≡ more ++ gap → Front more less part b rest
  beyond : (others : List ℕ) → more ≡ part ++ b ∷ others → rest ≡ others ++ less → Front more less part b rest

pub front : (more less part : List ℕ) (b : ℕ) (rest : List ℕ) → part ++ b ∷ rest ≡ more ++ less
    → Front more less part b rest
front [] less part b rest e = within part refl
front (m ∷ more) less [] b rest e = beyond more same cc
  where
    same : m ∷ more ≡ b ∷ more
    same = cc
front (m ∷ more) less (c ∷ part) b rest e = by (front more less part b rest tails)
  where
    tails : part ++ b ∷ rest ≡ more ++ less
    tails = cc

    by : Front more less part b rest → Front (m ∷ more) less (c ∷ part) b rest
    by (within gap fits) = within gap (shorter gap fits)
      where
        shorter : (gap : List ℕ) → part ≡ more ++ gap → c ∷ part ≡ m ∷ (more ++ gap)
        shorter gap fits = cc
    by (beyond others goes left) = beyond others (longer others goes) left
      where
        longer : (others : List ℕ) → more ≡ part ++ b ∷ others → m ∷ more ≡ c ∷ (part ++ b ∷ others)
        longer others goes = cc
