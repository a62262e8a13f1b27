use Rattle.std.proofs.Common.{◌≡◌, length}
use Rattle.std.specs.List.{AllByRecursion}
use Rattle.sf_algebra.specs.Rings.{IsRing}
use Rattle.sf_groebner.proofs.Constructions.LeadDivisors.{lead_places}
use Rattle.sf_minimal.specs.Spaces.{IsSpace}
use Rattle.sf_minimal.proofs.States.{IsState}
use Rattle.sf_minimal.proofs.steps.pivots_of.Given as goal

abbrev pub invariant-loop-l : goal.invariant-loop-l
invariant-loop-l l =
    (positive : IsRing l.cands.ring) × IsState l.cands l.base positive l.pivots l.l 0 0
    × (l.taken ≡ lead_places l.pivots.rows)
    × AllByRecursion (IsSpace l.cands) l.spaces.items

abbrev pub invariant-loop-j : goal.invariant-loop-j
invariant-loop-j l =
    (positive : IsRing l.cands.ring) × IsState l.cands l.base positive l.pivots (length l.base.rows) l.j 0
    × (l.taken ≡ lead_places l.pivots.rows)
    × AllByRecursion (IsSpace l.cands) l.spaces.items

abbrev pub invariant-loop-i : goal.invariant-loop-i
invariant-loop-i l =
    (positive : IsRing l.cands.ring) × IsState l.cands l.base positive l.pivots (length l.base.rows) l.j l.i
    × (l.taken ≡ lead_places l.pivots.rows)
    × AllByRecursion (IsSpace l.cands) l.spaces.items
