use Rattle.std.proofs.Common.{rules, ◌≤◌, length, ◌≡◌, ℕ, ◌+◌, ◌<◌, get_or, take, ℤ, pos, ◌+ℤ◌, ◌-ℤ◌, ◌<ℤ◌, to_z, of_z, w32, w64, arith, sym, ◌∙◌, ap, subst}
use Rattle.std.proofs.lemmas.Int.{ints}
use Rattle.std.proofs.lemmas.Bool.{OnTrue_at}
use mir.Val.{SFits}
use lib.IntN.{nat_abs}
use Rattle.sf_algebra.specs.Monomials.{Monomial}
use Rattle.sf_algebra.specs.Rings.{ones}
use Rattle.sf_algebra.specs.Vectors.{Place}
use Rattle.sf_variables.specs.Columns.{AreColumns}
use Rattle.sf_dense.proofs.PlacesOfDegree.Generators.{AreColumns-next_add, AreColumns-next_skip}
use Rattle.sf_dense.proofs.columns.columns_of.Goals as goal
use Rattle.sf_dense.proofs.columns.columns_of.Goals.{then-above-ge0+in_ok-push_multiples+else-not-branch, else-above-ge0}

abbrev generator : ℕ → Monomial → Place
generator i a = record { position = i; monomial = a }

pub loop-i-preserved : goal.loop-i-preserved
loop-i-preserved c =
    let kept = c.loop-i.invariant in
    let d = to_z w32 (of_z w32 c.args.degree) in
    let gs = c.args.target.now.degrees in
    let i = c.loop-i.i in
    let read = get_or c.as_slice-generator-items.result.now i (pos 0) in
    let fits : SFits w32 (get_or c.as_slice-generator-items.result.now c.loop-i.i (pos 0)) = search rules in
    let same : read ≡ get_or gs i (pos 0) = ap (λ l. get_or l i (pos 0)) c.as_slice-generator-items.ensures.items in
    let inside : i < length gs = omega (arith, ap length c.as_slice-generator-items.ensures.items) in
    elim c.if-above-ge0.branch [
      | then-above-ge0+in_ok-push_multiples+else-not-branch w ↦
          let above : ℤ = to_z w64 (of_z w64 (to_z w64 (of_z w64 d) -ℤ to_z w64 (of_z w64 (to_z w32 (of_z w32 read))))) in
          let test = w.if-above-ge0.true in
          let degree : d ≡ read +ℤ pos (nat_abs above) = grind (arith, ints) in
          let all = OnTrue_at w.if-not-branch.false w.in_ok-push_multiples.ensures.all in
          let few = OnTrue_at w.if-not-branch.false w.in_ok-push_multiples.ensures.few in
          subst (λ v. AreColumns ones c.args.variables (take (i + 1) gs) d v.items × (length v.items ≤ c.args.most))
          (sym w.places-is) (
            AreColumns-next_add c.args.variables gs i (pos 0) d c.loop-i.places.items inside kept.0 (nat_abs above)
                w.one.result w.push_multiples.new.places.items c.requires.variables
                (degree ∙ ap (λ e. e +ℤ pos (nat_abs above)) same) w.one.ensures.one all,
            few,
          )
      | else-above-ge0 w ↦
          let above = w.if-above-ge0.false in
          let below : d <ℤ read = grind (arith, ints) in
          subst (λ v. AreColumns ones c.args.variables (take (i + 1) gs) d v.items × (length v.items ≤ c.args.most))
          (sym w.places-is) (
            AreColumns-next_skip c.args.variables gs i (pos 0) d c.loop-i.places.items inside kept.0
                (subst (λ e. d <ℤ e) same below),
            kept.1,
          )
    ]
