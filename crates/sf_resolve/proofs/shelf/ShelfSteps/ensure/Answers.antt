use Rattle.std.proofs.Common.{slice_set, ap}
use Rattle.sf_resolve.proofs.ShelfSteps.{entry_here, shelf_enough, shelf_found, shelf_grew, shelf_meets, shelf_there}
use Rattle.sf_resolve.proofs.shelf.ShelfSteps.ensure.Goals as goal

pub returns-clause-meets : goal.returns-clause-meets
returns-clause-meets g c =
    let here =
    entry_here c.args.self.now c.self.inside.entries.items c.args.id c.requires.module c.index_mut-entry.result.now _
    c.self.view_is c.index_mut-entry.ensures.value in
    shelf_meets c.args.self.now _ c.args.id c.args.k c.index_mut-entry.result.now c.ensure.new.self here
    (ap (λ es. slice_set es c.args.id c.ensure.new.self) c.self.view_is) c.ensure.ensures.same_module c.ensure.ensures.more
    c.ensure.result c.ensure.ensures.meets

pub returns-clause-there : goal.returns-clause-there
returns-clause-there g c =
    let here =
    entry_here c.args.self.now c.self.inside.entries.items c.args.id c.requires.module c.index_mut-entry.result.now _
    c.self.view_is c.index_mut-entry.ensures.value in
    shelf_enough c.ensure.result _ c.args.id c.args.k c.ensure.new.self
    (shelf_there c.args.self.now _ c.args.id c.args.k c.index_mut-entry.result.now c.ensure.new.self here
    (ap (λ es. slice_set es c.args.id c.ensure.new.self) c.self.view_is) c.ensure.ensures.same_module c.ensure.ensures.more)
    c.ensure.ensures.there

pub returns-clause-found : goal.returns-clause-found
returns-clause-found g c =
    let here =
    entry_here c.args.self.now c.self.inside.entries.items c.args.id c.requires.module c.index_mut-entry.result.now _
    c.self.view_is c.index_mut-entry.ensures.value in
    shelf_found _ _ c.ensure.result c.args.self.now _ c.args.id c.args.k c.index_mut-entry.result.now c.ensure.new.self here
    (ap (λ es. slice_set es c.args.id c.ensure.new.self) c.self.view_is) c.ensure.ensures.found

pub returns-clause-grew : goal.returns-clause-grew
returns-clause-grew g c =
    let here =
    entry_here c.args.self.now c.self.inside.entries.items c.args.id c.requires.module c.index_mut-entry.result.now _
    c.self.view_is c.index_mut-entry.ensures.value in
    shelf_grew c.args.self.now _ c.args.id c.args.k c.index_mut-entry.result.now c.ensure.new.self here
    (ap (λ es. slice_set es c.args.id c.ensure.new.self) c.self.view_is) c.ensure.ensures.same_module c.ensure.ensures.more
    c.ensure.ensures.meets c.requires.grew c.ensure.ensures.kept
