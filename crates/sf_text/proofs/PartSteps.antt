-- One part more of a text that is read part by part.
use Rattle.std.proofs.Common.{◌≡◌, ℕ, ◌+◌, List, [], ◌∷◌, length, Bool, false, Option, refl, ap, ◌∙◌}
use Rattle.std.specs.List.{slice_split}
use Rattle.std.specs.Option.{option_map_or}
use Rattle.sf_grammar.specs.Parts.{Machine, runs, accepts, parts_reach, reach_of}
use Rattle.sf_grammar.proofs.Cutting.{Filled, slice_split-filled}

module _ {S : Type 0} (machine : Machine S) (separates : ℕ → Bool) (reach : S → List ℕ → ℕ) (s : S)
    (left part : List ℕ) where
  -- the only part of a text
  pub accepts-last : slice_split separates left ≡ part ∷ [] → accepts machine separates s left ≡ machine.last s part
  accepts-last cut = ap (runs machine s) cut

  pub reach_of-last : slice_split separates left ≡ part ∷ [] → reach_of machine separates reach s left ≡ reach s part
  reach_of-last cut = ap (parts_reach machine reach s) cut

  module _ (rest : List ℕ) (cut : slice_split separates left ≡ part ∷ slice_split separates rest) (after : Option S)
      (goes : machine.next s part ≡ after) where
    runs-filled : (parts : List (List ℕ)) → Filled parts
        → (runs machine s (part ∷ parts) ≡ option_map_or (λ t. runs machine t parts) after false)
        × (parts_reach machine reach s (part ∷ parts)
        ≡ option_map_or (λ t. length part + 1 + parts_reach machine reach t parts) after (reach s part))
    runs-filled parts f = rw (f.are, goes) (refl, refl)

    -- a part with others behind it
    pub accepts-more : accepts machine separates s left ≡ option_map_or (λ t. accepts machine separates t rest) after false
    accepts-more =
        ap (runs machine s) cut ∙ (runs-filled (slice_split separates rest) (slice_split-filled separates rest)).0

    pub reach_of-more : reach_of machine separates reach s left
        ≡ option_map_or (λ t. length part + 1 + reach_of machine separates reach t rest) after (reach s part)
    reach_of-more =
        ap (parts_reach machine reach s) cut ∙ (runs-filled (slice_split separates rest) (slice_split-filled separates rest)).1
