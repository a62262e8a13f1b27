use Rattle.std.proofs.Common.{◌≡◌, ◌≤◌, Bool, length, filter, take}
use Rattle.sf_buchberger.proofs.counted.columns.raised.Given as goal

abbrev pub invariant-loop-flag : goal.invariant-loop-flag
invariant-loop-flag l =
    (l.count ≡ length (filter (λ (b : Bool). b) (take l.flag-index l.flags))) × (l.count ≤ l.flag-index)
