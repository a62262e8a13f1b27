use Rattle.std.proofs.Common.{rules, ◌≡◌, Some, ap, ◌∙◌}
use Rattle.std.specs.Prelude.{slice_get}
use Rattle.std.specs.Map.{values_of}
use Rattle.std.specs.Str.{bytes_eq}
use Rattle.indexmap.specs.IndexMap.{insert_entry, set_value_at}
use Rattle.sf_script.specs.Names.{Env, with_name}
use Rattle.sf_script.proofs.PutNames.{set_value_at-same, set_value_at-put}
use Rattle.sf_script.proofs.env.Env.put.Goals as goal

pub returns-in_err-insert-clause-kept : goal.returns-in_err-insert-clause-kept
returns-in_err-insert-clause-kept c =
    let clients = c.self.inside.clients.entries in
    let found : slice_get (values_of clients) c.in-Some.place ≡ Some c.insert.new.self.entries = search rules in
    let same : set_value_at clients c.in-Some.place c.insert.new.self.entries ≡ clients =
    set_value_at-same clients c.in-Some.place c.insert.new.self.entries found in
    search (same, rules)

pub returns-clause-put : goal.returns-clause-put
returns-clause-put c =
    let clients = c.self.inside.clients.entries in
    let found : Some c.in-Some-get_index_mut.names.now ≡ slice_get (values_of clients) c.in-Some.place = search rules in
    let entries :
    c.insert.new.self.entries ≡ insert_entry bytes_eq c.in-Some-get_index_mut.names.now c.args.name c.args.what =
    search rules in
    let put =
    set_value_at-put clients c.args.client.now c.args.name c.args.what c.in-Some.place _ _ c.in-Some.ensures.index
    c.in-Some.ensures.value found entries in
    ap (λ l. record { heads = c.self.inside.heads; clients = l }) put
    ∙ ap (λ (e : Env). with_name c.args.client.now c.args.name c.args.what e) c.self.view_is
