-- What holds of the value, or of the error, of a result.
use Rattle.std.proofs.Common.{Result, Ok, Err, MatchResult}

pub MatchResult-weaker : {X Y : Type 0} (r : Result X Y) (P Q : X → Type 0) (R S : Y → Type 0) → ((x : X) → P x → Q x)
    → ((y : Y) → R y → S y) → MatchResult r P R → MatchResult r Q S
MatchResult-weaker (Ok x) P Q R S f g h = f x h
MatchResult-weaker (Err y) P Q R S f g h = g y h
