use Rattle.std.proofs.Common.{sym, subst}
use Rattle.sf_buchberger.specs.GrowthSteps.{CanDivide}
use Rattle.sf_buchberger.proofs.growth.state.Growth.divide_pair.Goals as goal

pub s_sum-requires-clause-first : goal.s_sum-requires-clause-first
s_sum-requires-clause-first c = c.requires.can.first

pub s_sum-requires-clause-second : goal.s_sum-requires-clause-second
s_sum-requires-clause-second c = c.requires.can.pair.later

pub s_sum-requires-clause-monic : goal.s_sum-requires-clause-monic
s_sum-requires-clause-monic c = c.requires.can.divide.monic

pub s_sum-requires-clause-positions : goal.s_sum-requires-clause-positions
s_sum-requires-clause-positions c = c.requires.can.pair.positions

pub s_sum-requires-clause-degree : goal.s_sum-requires-clause-degree
s_sum-requires-clause-degree c = c.requires.can.lcm_degree

pub s_sum-requires-clause-room : goal.s_sum-requires-clause-room
s_sum-requires-clause-room c = c.requires.can.divide.room

pub grow-requires-clause-can : goal.grow-requires-clause-can
grow-requires-clause-can c = subst (CanDivide c.args.limit c.args.self.now) (sym c.in_ok-sum.ensures.sum) c.requires.can.divide
