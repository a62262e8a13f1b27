-- Maps that are looked up one after another.
use Rattle.std.proofs.Common.{◌≡◌, refl, sym, ap, ◌∙◌, ℕ, List, [], ◌∷◌, ◌++◌, append_assoc, Result, Ok, Err}
use Rattle.sf_object.specs.declared.map.Map.{Map}
use Rattle.sf_script.specs.Names.{Env}
use Rattle.sf_script.specs.Refusals.{◌>>=◌, map_named, maps_named}
use Rattle.sf_script.specs.declared.fault.LineFault.{LineFault}

-- maps that are there already, and those that are found behind them
abbrev pub maps_behind : List Map → Result (List Map) LineFault → Result (List Map) LineFault
maps_behind fs (Ok gs) = Ok (fs ++ gs)
maps_behind fs (Err fault) = Err fault

-- one more of them
behind_one : (fs : List Map) (f : Map) (r : Result (List Map) LineFault)
    → maps_behind (fs ++ f ∷ []) r ≡ maps_behind fs (do
      others ← r
      Ok (f ∷ others))
behind_one fs f (Ok gs) = ap Ok (append_assoc fs (f ∷ []) gs)
behind_one fs f (Err fault) = refl

-- one more is found
pub maps_behind-next : (env : Env) (client name : List ℕ) (names : List (List ℕ)) (fs : List Map) (f : Map)
    → map_named env client name ≡ Ok f
    → maps_behind (fs ++ f ∷ []) (maps_named env client names) ≡ maps_behind fs (maps_named env client (name ∷ names))
maps_behind-next env client name names fs f found =
    behind_one fs f (maps_named env client names)
    ∙ ap (λ (r : Result Map LineFault). maps_behind fs (do
      g ← r
      others ← maps_named env client names
      Ok (g ∷ others))) (sym found)
