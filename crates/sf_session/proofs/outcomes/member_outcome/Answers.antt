use Rattle.sf_session.proofs.outcomes.member_outcome.Goals as goal

pub is_in_span-requires-clause-vector : goal.is_in_span-requires-clause-vector
is_in_span-requires-clause-vector g c = rw c.relations.ensures.relations c.requires.vector
