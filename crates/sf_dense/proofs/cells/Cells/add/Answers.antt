use Rattle.std.proofs.Common.{◌≡◌, ℕ, ◌≤◌, List, None, get_or, arith, sym, ◌∙◌, subst}
use Rattle.sf_dense.proofs.cells.Cells.add.Goals as goal
use Rattle.sf_dense.proofs.cells.Cells.add.Goals.{in-None, in_default}

pub returns-in-None-bound-clause-room : goal.returns-in-None-bound-clause-room
returns-in-None-bound-clause-room c n each room = elim c.match-raised.branch [
  | in-None w ↦
      let none : w.raised-bound.result ≡ None = sym w.bound-is ∙ c.in-None-bound.is in
      let full = rw none at w.raised-bound.ensures in
      let sums : c.args.self.now ≡ w.deref.result.now = sym c.self.view_is ∙ sym w.deref.ensures.value in
      let below : w.greatest.result ≤ n = w.greatest.ensures.least n (subst (λ (cs : List ℕ). (k : ℕ)
      → get_or cs k 0 ≤ n) sums each) in
      absurd (omega arith)
  | in_default w ↦ absurd (w.in_default.not-None (sym w.bound-is ∙ c.in-None-bound.is))
]
