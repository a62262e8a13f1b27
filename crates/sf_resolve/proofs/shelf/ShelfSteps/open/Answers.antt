use Rattle.std.proofs.Common.{◌≡◌, false, ◌++◌, ◌∷◌, [], length, rules}
use Rattle.sf_matrix.specs.Tables.{is_among}
use Rattle.sf_object.specs.Shelves.{modules_of}
use Rattle.sf_object.proofs.Shelves.{fresh}
use Rattle.sf_resolve.proofs.ShelfSteps.{opened_new}
use Rattle.sf_resolve.proofs.shelf.ShelfSteps.open.Goals as goal

pub returns : goal.returns
returns c =
    let missing : is_among c.args.m.now (modules_of c.args.self.now) ≡ false = search rules in
    let added : c.push.new.self.items ≡ c.args.self.now ++ fresh c.args.m.now ∷ [] = search rules in
    let last : c.len-id.result ≡ length c.args.self.now = search rules in
    opened_new c.args.self.now _ c.args.m.now c.len-id.result missing added last
