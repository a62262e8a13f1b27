-- What holds of a value that may be found, from two facts of it.
use Rattle.std.specs.Prelude.{Option, Some, None, Result, Ok, Err, IfOk, IfSome, MatchOption}

pub IfSome-both : {X E : Type 0} (P Q R : X → Type 0) → ((x : X) → P x → Q x → R x) → (r : Result (Option X) E)
    → IfOk r (λ found. IfSome found P) → IfOk r (λ found. IfSome found Q) → IfOk r (λ found. IfSome found R)
IfSome-both P Q R f (Ok (Some x)) h k = f x h k
IfSome-both P Q R f (Ok None) h k = tt
IfSome-both P Q R f (Err e) h k = tt

pub IfSome-match : {X E : Type 0} (N : Type 0) (P : X → Type 0) (r : Result (Option X) E)
    → IfOk r (λ found. MatchOption found N P) → IfOk r (λ found. IfSome found P)
IfSome-match N P (Ok (Some x)) h = h
IfSome-match N P (Ok None) h = tt
IfSome-match N P (Err e) h = tt
