use Rattle.std.proofs.Common.{◌≡◌, ◌<◌, Some, length, slice_get, sym, ◌∙◌, ap, arith}
use Rattle.std.proofs.lemmas.Option.{slice_get-get_or}
use Rattle.sf_algebra.proofs.GradedMatrices.Equality.{Decides-same_matrix}
use Rattle.sf_store.specs.declared.looked.Looked.{Looked}
use Rattle.sf_store.proofs.Entries.{slice_get-matrices}
use Rattle.sf_store.proofs.looks.number_of.Goals as goal

pub returns-then-eq-clause-found : goal.returns-then-eq-clause-found
returns-then-eq-clause-found c =
    let l : Looked = c.index-items-k.result in
    let k = c.loop-k.k in
    let within : k < length c.args.items.now = omega (arith, c.loop-k-test.true) in
    let there : slice_get c.args.items.now k ≡ Some l =
    slice_get-get_or c.args.items.now k l within ∙ ap Some (sym c.index-items-k.is) in
    slice_get-matrices c.args.items.now k l there
    ∙ ap Some (sym ((Decides-same_matrix c.args.m.now l.matrix).0 (sym c.eq.ensures ∙ c.if-eq.true)))
