use Rattle.std.proofs.Common.{sym, subst}
use Rattle.sf_buchberger.specs.Eliminations.{GoesOn}
use Rattle.sf_buchberger.proofs.DegreeBases.Kept.{GoesOn-trans}
use Rattle.sf_buchberger.proofs.counted.elimination.Elimination.take_pairs.Goals as goal
use Rattle.sf_buchberger.proofs.counted.elimination.Elimination.take_pairs.Goals.{in-Some+in_ok-found+else-not-tell, in_default}

pub loop-preserved : goal.loop-preserved
loop-preserved g c =
    elim c.match-next.branch [
      | in-Some+in_ok-found+else-not-tell w ↦
          subst (GoesOn c.args.m.now c.args.self.now) (sym w.self-is)
          (GoesOn-trans c.args.m.now c.loop.invariant w.take_pair.ensures.goes_on)
      | in_default w ↦ subst (GoesOn c.args.m.now c.args.self.now) (sym w.self-is) c.loop.invariant
    ]
