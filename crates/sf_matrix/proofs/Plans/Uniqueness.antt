-- Two runs of a plan agree, the first of which came to its end.
use Rattle.std.proofs.Common.{◌≡◌, ◌<◌, ℕ, List, [], ◌∷◌, length, Result, Ok, Err, refl, sym, ap, subst, arith}
use Rattle.sf_algebra.specs.Matrices.{Matrix}
use Rattle.sf_algebra.specs.Vectors.{Vector}
use Rattle.sf_algebra.proofs.Monomials.Weights.{field_ring}
use Rattle.sf_groebner.specs.Small.{IsSmall}
use Rattle.sf_groebner.specs.Spans.{IsGraphVector, graph_degrees}
use Rattle.sf_groebner.proofs.Spanning.Spans.{graph_module}
use Rattle.sf_groebner.proofs.Uniqueness.UniqueBases.{unique_reduced}
use Rattle.sf_matrix.specs.declared.basis.BaseFault.TheVariants.{Memory, Large}
use Rattle.sf_matrix.specs.declared.basis.BaseFault.{BaseFault}
use Rattle.sf_matrix.specs.Plans.{Plan, answer, look, ask}
use Rattle.sf_matrix.specs.Runs.{Run, IsRowless, IsFit, IsWhole, Agrees, ends, stops, skips, looks, outgrows, refuses, asks, strays}
use Rattle.sf_matrix.proofs.Plans.OneAnswer.{answer_unique}

pub same_elements : (limit : ℕ) (m : Matrix) → IsFit m → (es fs : List Vector) → IsSmall limit m es → IsSmall limit m fs
    → es ≡ fs
same_elements limit m fit es fs h k =
    unique_reduced m.ring (field_ring fit.field) (graph_degrees m) (IsGraphVector m)
    (graph_module m (field_ring fit.field)) es fs h.reduced k.reduced

-- what has no rows isn't fit
rowless_fit : (m : Matrix) → IsRowless m → IsFit m → ⊥
rowless_fit m rowless fit = clash (length m.rows) (ap length rowless.none) fit.row
  where
    clash : (n : ℕ) → n ≡ 0 → 0 < n → ⊥
    clash n e l = omega arith

-- behind one more look
Agrees-looked : {A : Type 0} (m : Matrix) (ms ns : List Matrix) (r s : Result A BaseFault) → Agrees ms r ns s
    → Agrees (m ∷ ms) r (m ∷ ns) s
Agrees-looked m ms ns r (Ok a) h = (ap (λ ks. m ∷ ks) h.0, h.1)
Agrees-looked m ms ns r (Err Memory) h = (h.0, ap (λ ks. m ∷ ks) h.1)
Agrees-looked m ms ns r (Err (Large rows columns)) h = (ap (λ ks. m ∷ ks) h.0, h.1)

pub run_unique : {A : Type 0} (limit : ℕ) (plan : Plan A) (ms ns : List Matrix) (r s : Result A BaseFault)
    → Run limit plan ms r → IsWhole r → Run limit plan ns s → Agrees ms r ns s
run_unique limit (answer a) ms ns r s ends whole ends = (refl, refl)
run_unique limit plan ms ns r s run whole stops = (ms, refl)
run_unique limit plan ms ns r s stops whole other = absurd whole
run_unique limit (look m next) ms ns r s (skips h run) whole (skips k other) =
    run_unique limit (next []) ms ns r s run whole other
run_unique limit (look m next) ms ns r s (skips h run) whole (looks fs fit small other) = absurd (rowless_fit m h fit)
run_unique limit (look m next) ms ns r s (skips h run) whole (outgrows fit outgrown) = absurd (rowless_fit m h fit)
run_unique limit (look m next) ms ns r s (skips h run) whole (refuses some_row unfit) = absurd (some_row h)
run_unique limit (look m next) ms ns r s (looks es fit small run) whole (skips k other) = absurd (rowless_fit m k fit)
run_unique limit (look m next) ms ns r s (looks {looked = ks} es fit small run) whole (looks {looked = ls} fs also low other) =
    let same = same_elements limit m fit es fs small low in
    Agrees-looked m ks ls r s
    (run_unique limit (next es) ks ls r s run whole (subst (λ gs. Run limit (next gs) ls s) (sym same) other))
run_unique limit (look m next) ms ns r s (looks es fit small run) whole (outgrows other_fit outgrown) = absurd (outgrown es small)
run_unique limit (look m next) ms ns r s (looks es fit small run) whole (refuses some_row unfit) = absurd (unfit fit)
run_unique limit (look m next) ms ns r s (outgrows fit outgrown) whole (skips k other) = absurd (rowless_fit m k fit)
run_unique limit (look m next) ms ns r s (outgrows fit outgrown) whole (looks fs other_fit small other) = absurd (outgrown fs small)
run_unique limit (look m next) ms ns r s (outgrows fit outgrown) whole (outgrows other_fit other) = (refl, refl)
run_unique limit (look m next) ms ns r s (outgrows fit outgrown) whole (refuses some_row unfit) = absurd (unfit fit)
run_unique limit (look m next) ms ns r s (refuses some_row unfit) whole (skips k other) = absurd (some_row k)
run_unique limit (look m next) ms ns r s (refuses some_row unfit) whole (looks fs fit small other) = absurd (unfit fit)
run_unique limit (look m next) ms ns r s (refuses some_row unfit) whole (outgrows fit outgrown) = absurd (unfit fit)
run_unique limit (look m next) ms ns r s (refuses some_row unfit) whole (refuses other_row other) = (refl, refl)
run_unique limit (ask q next) ms ns r s (asks x sensible holds run) whole (asks y other_sensible other_holds other) =
    run_unique limit (next x) ms ns r s run whole
    (subst (λ z. Run limit (next z) ns s) (sym (answer_unique q sensible x y holds other_holds)) other)
run_unique limit (ask q next) ms ns r s (asks x sensible holds run) whole (strays fails) = absurd (fails sensible)
run_unique limit (ask q next) ms ns r s (strays fails) whole (asks y sensible holds other) = absurd (fails sensible)
run_unique limit (ask q next) ms ns r s (strays fails) whole (strays others_fail) = (refl, refl)
