use Rattle.sf_buchberger.proofs.growth.state.Growth.handle_pair.Goals as goal

pub is_chained-requires-clause-first : goal.is_chained-requires-clause-first
is_chained-requires-clause-first c = c.requires.can.first

pub is_chained-requires-clause-second : goal.is_chained-requires-clause-second
is_chained-requires-clause-second c = c.requires.can.pair.later

pub is_chained-requires-clause-monic : goal.is_chained-requires-clause-monic
is_chained-requires-clause-monic c = c.requires.can.divide.monic

pub is_chained-requires-clause-room : goal.is_chained-requires-clause-room
is_chained-requires-clause-room c = c.requires.can.lcm_room
