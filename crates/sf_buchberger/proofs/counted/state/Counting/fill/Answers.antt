use Rattle.std.proofs.Common.{◌≡◌, sym, subst, to_z, of_z, w32, rules, ◌<ℤ◌, ℤ}
use Rattle.std.specs.List.{AllByRecursion}
use Rattle.std.specs.Prelude.{IfSome}
use Rattle.sf_algebra.specs.Matrices.{Matrix}
use Rattle.sf_algebra.specs.Vectors.{Vector}
use Rattle.sf_buchberger.specs.Eliminations.{IsEliminationOf}
use Rattle.sf_buchberger.proofs.counted.state.Counting.fill.Goals as goal

pub finish-requires-clause-below : goal.finish-requires-clause-below
finish-requires-clause-below g c =
    let d : ℤ = c.in-Ok.degree in
    let own : to_z w32 (of_z w32 d) ≡ d = search rules in
    let found : IsEliminationOf c.args.self.now.variables (to_z w32 (of_z w32 d)) c.args.m.now c.in-Some-2.elimination =
    subst (λ o. IfSome o (IsEliminationOf c.args.self.now.variables (to_z w32 (of_z w32 d)) c.args.m.now)) c.in-Some-2.is
    c.in_ok-elimination.ensures.elimination in
    let same = c.in_ok-elimination.ensures.same in
    let below : AllByRecursion (λ (v : Vector). v.degree <ℤ to_z w32 (of_z w32 d)) c.args.self.now.rows.rows =
    c.if-not-is_below.ensures.below (search rules) in
    subst (λ (e : ℤ). AllByRecursion (λ (v : Vector). v.degree <ℤ e) c.eliminated.new.self.rows.rows) (sym found.degree)
    (subst (λ (x : Matrix). AllByRecursion (λ (v : Vector). v.degree <ℤ to_z w32 (of_z w32 d)) x.rows) (sym same.rows) below)
