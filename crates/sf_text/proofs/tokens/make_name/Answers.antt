use Rattle.sf_text.proofs.Names.{IsUtf8-name}
use Rattle.sf_text.proofs.tokens.make_name.Goals as goal

pub unreachable-requires : goal.unreachable-requires
unreachable-requires c = c.in-Err.ensures.cases.0 (IsUtf8-name c.args.word.now c.requires)
