-- What the tests of a line make known, where none refuses it.
use Rattle.std.proofs.Common.{◌≡◌, Bool, true, false, Option, Some, None, Result, Ok, Err, refl, ap}
use Rattle.sf_script.specs.Refusals.{◌>>=◌, otherwise, unless_some, provided}
use Rattle.sf_script.specs.declared.fault.LineFault.{LineFault}

-- where two steps end well, both do
pub both_ok : {A B : Type 0} (r : Result A LineFault) (further : A → Result B LineFault) (b : B) → (r >>= further) ≡ Ok b
    → (a : A) × (r ≡ Ok a) × (further a ≡ Ok b)
both_ok (Ok a) further b e = (a, refl, e)
both_ok (Err fault) further b e = cc

pub otherwise_ok : {A : Type 0} (fault : LineFault) (o : Option A) (a : A) → otherwise fault o ≡ Ok a → o ≡ Some a
otherwise_ok fault None a e = cc
otherwise_ok fault (Some x) a e = let same : x ≡ a = cc in ap Some same

pub provided_ok : (fault : LineFault) (b : Bool) (u : Unit {0}) → provided fault b ≡ Ok u → b ≡ true
provided_ok fault true u e = refl
provided_ok fault false u e = cc

pub unless_some_ok : {A : Type 0} (fault : A → LineFault) (o : Option A) (u : Unit {0}) → unless_some fault o ≡ Ok u → o ≡ None
unless_some_ok fault None u e = refl
unless_some_ok fault (Some x) u e = cc

-- what was accepted
abbrev pub accepted : {A : Type 0} → A → Result A LineFault
accepted a = Ok a

pub same_accepted : {A : Type 0} (x y : A) → accepted x ≡ accepted y → x ≡ y
same_accepted x y e = cc
