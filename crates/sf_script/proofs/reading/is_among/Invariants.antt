use Rattle.std.proofs.Common.{◌≡◌, List, map, drop, Bor, ℕ}
use Rattle.sf_script.specs.Grammar.{is_among}
use Rattle.sf_script.proofs.reading.is_among.Given as goal

abbrev pub invariant-loop-other : goal.invariant-loop-other
invariant-loop-other l =
    is_among (map (λ (w : Bor (List ℕ)). w.now) (drop l.other-index l.words)) l.word
    ≡ is_among (map (λ (w : Bor (List ℕ)). w.now) l.words) l.word
