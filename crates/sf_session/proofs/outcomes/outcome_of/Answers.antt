use Rattle.std.proofs.Common.{refl}
use Rattle.sf_matrix.proofs.Plans.Rules.{meets_answer, meets_memory}
use Rattle.sf_script.specs.declared.checked.Checked.TheVariants.{Shows}
use Rattle.sf_session.proofs.Settling.{grew_settled, settled, settles_exit}
use Rattle.sf_session.proofs.outcomes.outcome_of.Goals as goal

pub returns-in-Opens-clause-settles : goal.returns-in-Opens-clause-settles
returns-in-Opens-clause-settles g c = rw c.in-Opens.is (settled _ tt (meets_answer refl) refl)

pub returns-in-Enters-clause-settles : goal.returns-in-Enters-clause-settles
returns-in-Enters-clause-settles g c = rw c.in-Enters.is (settled _ tt (meets_answer refl) refl)

pub returns-in-Limits-clause-settles : goal.returns-in-Limits-clause-settles
returns-in-Limits-clause-settles g c = rw c.in-Limits.is (settled _ tt (meets_answer refl) refl)

pub returns-in-Defines-clause-settles : goal.returns-in-Defines-clause-settles
returns-in-Defines-clause-settles g c = rw c.in-Defines.is (settled _ tt (meets_answer refl) refl)

pub returns-in_ok-shown-in-Shows-clause-settles : goal.returns-in_ok-shown-in-Shows-clause-settles
returns-in_ok-shown-in-Shows-clause-settles g c =
    rw (c.in-Shows.is, c.in_ok-shown-in-Shows.ensures) (settled _ tt (meets_answer refl) refl)

pub returns-in_err-shown-in-Shows-clause-settles : goal.returns-in_err-shown-in-Shows-clause-settles
returns-in_err-shown-in-Shows-clause-settles g c =
    rw c.in-Shows.is (settles_exit (Shows c.in-Shows.what) c.from_residual.ensures.1 meets_memory)

pub returns-in-Maps-clause-grew : goal.returns-in-Maps-clause-grew
returns-in-Maps-clause-grew g c = grew_settled _ _ c.map_outcome.ensures c.requires.grew

pub returns-in-Chains-clause-grew : goal.returns-in-Chains-clause-grew
returns-in-Chains-clause-grew g c = grew_settled _ _ c.complex_outcome.ensures c.requires.grew

pub returns-in-Lets-clause-grew : goal.returns-in-Lets-clause-grew
returns-in-Lets-clause-grew g c = grew_settled _ _ c.let_outcome.ensures c.requires.grew

pub returns-in-Asks-clause-grew : goal.returns-in-Asks-clause-grew
returns-in-Asks-clause-grew g c = grew_settled _ _ c.asked_outcome.ensures c.requires.grew

pub returns-in-Basis-clause-grew : goal.returns-in-Basis-clause-grew
returns-in-Basis-clause-grew g c = grew_settled _ _ c.basis_outcome.ensures c.requires.grew

pub returns-in-Syz-clause-grew : goal.returns-in-Syz-clause-grew
returns-in-Syz-clause-grew g c = grew_settled _ _ c.syzygies_outcome.ensures c.requires.grew

pub returns-in-Member-clause-grew : goal.returns-in-Member-clause-grew
returns-in-Member-clause-grew g c = grew_settled _ _ c.member_outcome.ensures c.requires.grew

pub returns-in-Lift-clause-grew : goal.returns-in-Lift-clause-grew
returns-in-Lift-clause-grew g c = grew_settled _ _ c.lift_outcome.ensures c.requires.grew
