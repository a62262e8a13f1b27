use Rattle.std.proofs.Common.{refl, ◌∙◌, ◌≡◌, to_z, of_z, w32, rules}
use Rattle.sf_buchberger.specs.declared.counted.state.Counting.{Counting}
use Rattle.sf_buchberger.proofs.DegreeBases.NewRows.{element_degree, element_room, new_element}
use Rattle.sf_buchberger.proofs.counted.state.Counting.push_element.Goals as goal

pub push_pairs-requires-clause-room : goal.push_pairs-requires-clause-room
push_pairs-requires-clause-room c =
    element_room c.args.limit c.requires.limit c.args.m.now c.facts.ensures.weights c.args.self.now c.requires.finding c.args.row c.requires.graph c.requires.variables c.in-Some.lead.now c.in-Some.ensures.first (c.takes.ensures.taken c.if-not-takes.false)

pub push_pairs-requires-clause-degree : goal.push_pairs-requires-clause-degree
push_pairs-requires-clause-degree c =
    let same : to_z w32 (of_z w32 c.degree.result) ≡ c.degree.result = search rules in
    same ∙ c.degree.ensures.degree
    ∙ element_degree c.args.limit c.requires.limit c.args.m.now c.facts.ensures.weights c.args.self.now c.requires.finding c.args.row c.requires.graph c.requires.variables c.in-Some.lead.now c.in-Some.ensures.first (c.takes.ensures.taken c.if-not-takes.false)

pub returns-clause-more : goal.returns-clause-more
returns-clause-more c = λ answer.
    let after : Counting = record {
      variables = c.args.self.now.variables;
      rows = c.push_row.new.self;
      leads = c.push.new.self;
      pairs = c.push_pairs.new.pairs;
      waiting = c.args.self.now.waiting;
      full = c.args.self.now.full;
    } in
    new_element c.args.limit c.requires.limit c.args.m.now c.facts.ensures.weights c.args.self.now c.requires.finding c.args.row c.requires.graph c.requires.variables c.in-Some.lead.now c.in-Some.ensures.first (c.takes.ensures.taken c.if-not-takes.false)
    after refl refl c.in_ok-push_row.ensures.ok c.in_ok-push.ensures.ok
