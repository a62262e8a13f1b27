-- Matrices side by side, stacks and zeros, modulo relations.
use Rattle.std.proofs.Common.{◌≡◌, ◌↔◌, ◌++◌, List, [], ◌∷◌, length, map, ℤ, sym, ◌∙◌, subst}
use Rattle.std.specs.List.{AllByRecursion}
use Rattle.sf_algebra.specs.Matrices.{Matrix, row_degrees, degrees_of, IsMatrix}
use Rattle.sf_algebra.specs.MatrixOperations.{moved, stacked}
use Rattle.sf_algebra.specs.Rings.{IsRing}
use Rattle.sf_algebra.specs.Terms.{Term}
use Rattle.sf_algebra.specs.Vectors.{Place, Vector, IsVector}
use Rattle.sf_algebra.proofs.Basics.Lists.{AllByRecursion-append}
use Rattle.sf_algebra.proofs.Vectors.HomogeneousVectors.{IsVector-nil}
use Rattle.sf_algebra.proofs.Vectors.Rows.{row_combination-nil}
use Rattle.sf_groebner.specs.Spans.{InSpan}
use Rattle.sf_blocks.specs.DirectSums.{direct_sum, AreRelations, IsZeroModulo}
use Rattle.sf_blocks.specs.MatrixSums.{row_by_row, IsZeroMatrix}
use Rattle.sf_blocks.specs.SideBySide.{AreBeside, beside}
use Rattle.sf_blocks.proofs.DirectSums.SummandSpans.{InSpan-direct_sum, InSpan-summands}

-- what follows for the rows of two lists from what is known of the rows made of both
made_of_both : (f : List (Term Place) → List (Term Place) → List (Term Place)) (A B P Q R : Vector → Type 0)
    → ((d : ℤ) (us vs : List (Term Place)) → A (record { degree = d; terms = us })
    → B (record { degree = d; terms = vs }) → R (record { degree = d; terms = f us vs })
    ↔ (P (record { degree = d; terms = us }) × Q (record { degree = d; terms = vs })))
    → (us vs : List Vector) → degrees_of us ≡ degrees_of vs → AllByRecursion A us → AllByRecursion B vs
    → AllByRecursion R (row_by_row f us vs) ↔ (AllByRecursion P us × AllByRecursion Q vs)
made_of_both f A B P Q R parts [] [] e h k = (λ all. (tt, tt), λ all. tt)
made_of_both f A B P Q R parts [] (v ∷ vs) e h k = cc
made_of_both f A B P Q R parts (u ∷ us) [] e h k = cc
made_of_both f A B P Q R parts (u ∷ us) (v ∷ vs) e h k =
    let same : u.degree ≡ v.degree = cc in
    let others : degrees_of us ≡ degrees_of vs = cc in
    let first = parts u.degree u.terms v.terms h.0
    (subst (λ d. B (record { degree = d; terms = v.terms })) (sym same) k.0) in
    let rest = made_of_both f A B P Q R parts us vs others h.1 k.1 in (
      λ all. (
        ((first.0 all.0).0, (rest.0 all.1).0),
        (subst (λ d. Q (record { degree = d; terms = v.terms })) same (first.0 all.0).1, (rest.0 all.1).1),
      ),
      λ all. (
        first.1 (all.0.0, subst (λ d. Q (record { degree = d; terms = v.terms })) (sym same) all.1.0),
        rest.1
            (all.0.1, all.1.1),
      ),
    )

pub IsZeroModulo-beside : (r q a b : Matrix) → IsRing a.ring → AreBeside a b → AreRelations r a → AreRelations q b
    → IsMatrix a → IsMatrix b
    → IsZeroModulo (direct_sum r q) (beside a b) ↔ (IsZeroModulo r a × IsZeroModulo q b)
IsZeroModulo-beside r q a b is_ring h x y ma mb =
    subst (λ ds. AllByRecursion (InSpan (direct_sum r q))
    (row_by_row (λ us vs. us ++ moved (length ds) vs) a.rows b.rows) ↔ (IsZeroModulo r a × IsZeroModulo q b)) x.targets
    (made_of_both (λ us vs. us ++ moved (length r.target) vs) (IsVector r.ring r.target) (IsVector r.ring q.target)
    (InSpan r) (InSpan q) (InSpan (direct_sum r q))
    (λ d us vs hu hv. (
      InSpan-summands r q ring_r rings x.matrix y.matrix d us vs hu hv,
      λ both. InSpan-direct_sum r q
          ring_r rings x.matrix y.matrix d us vs hu hv both.0 both.1,
    ))
    a.rows b.rows h.degrees
    (subst (λ p. AllByRecursion (IsVector p r.target) a.rows) (sym x.rings)
    (subst (λ ds. AllByRecursion (IsVector a.ring ds) a.rows) (sym x.targets) ma))
    (subst (λ p. AllByRecursion (IsVector p q.target) b.rows) (sym rings)
    (subst (λ ds. AllByRecursion (IsVector q.ring ds) b.rows) (sym y.targets)
    (subst (λ p. AllByRecursion (IsVector p b.target) b.rows) (sym y.rings) mb))))
  where
    ring_r : IsRing r.ring
    ring_r = subst IsRing (sym x.rings) is_ring

    rings : r.ring ≡ q.ring
    rings = x.rings ∙ h.rings ∙ sym y.rings

both_parts : (P : Vector → Type 0) (us vs : List Vector) → AllByRecursion P (us ++ vs)
    → AllByRecursion P us × AllByRecursion P vs
both_parts P [] vs h = (tt, h)
both_parts P (u ∷ us) vs h = let rest = both_parts P us vs h.1 in ((h.0, rest.0), rest.1)

pub IsZeroModulo-stacked : (r a b : Matrix) → IsZeroModulo r (stacked a b) ↔ (IsZeroModulo r a × IsZeroModulo r b)
IsZeroModulo-stacked r a b =
    (both_parts (InSpan r) a.rows b.rows, λ h. AllByRecursion-append (InSpan r) a.rows b.rows h.0 h.1)

pub IsZeroModulo-zero : (r m : Matrix) → IsRing r.ring → IsZeroMatrix m → IsZeroModulo r m
IsZeroModulo-zero r m is_ring h = subst (IsZeroModulo r) (sym h) (go (row_degrees m))
  where
    go : (ds : List ℤ) → AllByRecursion (InSpan r) (map (λ (d : ℤ). record { degree = d; terms = [] }) ds)
    go [] = tt
    go (d ∷ ds) = (
      record {
        coefficients = record { degree = d; terms = [] };
        homogeneous = IsVector-nil r.ring (row_degrees r) d;
        value = λ i. record { degree = d; terms = row_combination-nil r.ring is_ring.modulus r.rows i };
      },
      go ds,
    )
