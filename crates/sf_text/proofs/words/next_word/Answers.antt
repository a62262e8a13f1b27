use Rattle.std.proofs.Common.{rules, ◌≡◌, ◌∷◌, ◌∙◌, sym, length, false, position, unwrap_or}
use Rattle.std.proofs.lemmas.Bool.Decides.{nat_tests}
use Rattle.sf_grammar.specs.Words.{is_space}
use Rattle.sf_text.proofs.Cuts.{words-first}
use Rattle.sf_text.proofs.words.next_word.Goals as goal

pub returns-then-first-ne32-clause-cut : goal.returns-then-first-ne32-clause-cut
returns-then-first-ne32-clause-cut c =
    let line = c.loop-first.rest.now in
    let starts : line ≡ c.in-Some.first.now ∷ c.in-Some.others.now = search rules in
    let solid : is_space c.in-Some.first.now ≡ false = search (rules, nat_tests) in
    let ends : c.unwrap_or-end.result ≡ unwrap_or (position is_space line) (length line) = search rules in
    rw (c.split_at.ensures.front, c.split_at.ensures.back)
    (sym c.loop-first.invariant.same ∙ words-first line c.in-Some.first.now c.unwrap_or-end.result c.in-Some.others.now starts solid ends)
