-- What comes of a line, by what was found: its text, and the state after it.
use Rattle.std.specs.Prelude.{ℕ, ◌+◌, List, [], ◌∷◌, map, Some, None}
use Rattle.sf_algebra.specs.Matrices.{row_degrees}
use Rattle.sf_groebner.specs.MinimalGenerators.{matrix_of}
use Rattle.sf_object.specs.declared.map.Map as maps
use Rattle.sf_reply.specs.Texts.{reply_text, fault_text}
use Rattle.sf_reply.specs.declared.reply.Reply.TheVariants as told
use Rattle.sf_reply.specs.declared.reply.Reply.{Reply}
use Rattle.sf_script.specs.Headings.{limited, ring_entered}
use Rattle.sf_script.specs.Names.{with_name}
use Rattle.sf_script.specs.declared.checked.Checked.TheVariants as checks
use Rattle.sf_script.specs.declared.checked.Checked.{Checked}
use Rattle.sf_script.specs.declared.command.Command.TheVariants.{Spectral, Ring, Limit, Module, Map, Complex, Let, Ask, Show, Basis, Syz, Member, Lift, Resolve, Later}
use Rattle.sf_script.specs.declared.command.Command.{Command}
use Rattle.sf_script.specs.declared.fault.LineFault.TheVariants.{NotMap, NotComplex, NotInSpan}
use Rattle.sf_script.specs.declared.fault.LineFault.{LineFault}
use Rattle.sf_script.specs.declared.heads.Heads.TheVariants as heads
use Rattle.sf_script.specs.declared.named.Named.TheVariants as named
use Rattle.sf_script.specs.declared.named.Named.{Named}
use Rattle.sf_session.specs.State.{State, noted_state, with_heads}
use Rattle.sf_session.specs.Tasks.{Found}
use Rattle.sf_session.specs.declared.outcome.Outcome.TheVariants.{Tells, Opens, Enters, Limits, Defines, Refuses, Bars}
use Rattle.sf_session.specs.declared.outcome.Outcome.{Outcome}

-- what `show` tells of a module, a map or a complex
abbrev pub shown : Named → Reply
shown (named.Module m) = told.ShowModule m
shown (named.Mapping f) = told.ShowMap f.matrix
shown (named.Chain c) = told.Differentials (map (λ (f : maps.Map). f.matrix) c.maps)

-- what comes of what was found. The relations of the source are counted from 1.
abbrev pub outcome : (c : Checked) → Found c → Outcome
outcome checks.Opens a = Opens
outcome (checks.Enters ring) a = Enters ring
outcome (checks.Limits limit) a = Limits limit
outcome (checks.Defines name m) a = Defines name (named.Module m)
outcome (checks.Maps name f) None = Defines name (named.Mapping f)
outcome (checks.Maps name f) (Some relation) = Refuses (NotMap (relation + 1))
outcome (checks.Chains name c) None = Defines name (named.Chain c)
outcome (checks.Chains name c) (Some place) = Refuses (NotComplex place)
outcome (checks.Lets name q) p = Defines name (named.Module p.rels)
outcome (checks.Asks q) p = Tells (told.Pair p.gens p.rels)
outcome (checks.Shows what) a = Tells (shown what)
outcome (checks.Basis m) b = Tells (told.Basis b)
outcome (checks.Syz m) b = Tells (told.Syz b)
outcome (checks.Member m v) inside = Tells (told.Member inside)
outcome (checks.Lift m v) None = Refuses NotInSpan
outcome (checks.Lift m v) (Some c) = Tells (told.Lift (matrix_of m.ring (row_degrees m) (c ∷ [])))
outcome (checks.Resolves m k) steps = Tells (told.Differentials steps)

-- what comes of a command that is refused before anything was looked at
abbrev pub refused : Command → LineFault → Outcome
refused (Spectral version) fault = Refuses fault
refused (Ring modulus names) fault = Refuses fault
refused (Limit limit) fault = Bars fault
refused (Module name degrees relations) fault = Refuses fault
refused (Map name source target matrix) fault = Refuses fault
refused (Complex name maps) fault = Refuses fault
refused (Let name query) fault = Refuses fault
refused (Ask query) fault = Refuses fault
refused (Show name) fault = Refuses fault
refused (Basis name) fault = Refuses fault
refused (Syz name) fault = Refuses fault
refused (Member name vector) fault = Refuses fault
refused (Lift name vector) fault = Refuses fault
refused (Resolve name steps) fault = Refuses fault
refused Later fault = Refuses fault

-- the text, where the ring's variables have these names
abbrev pub outcome_text : List (List ℕ) → Outcome → List ℕ
outcome_text names (Tells reply) = reply_text names reply
outcome_text names Opens = reply_text names told.Accepted
outcome_text names (Enters ring) = reply_text names told.Accepted
outcome_text names (Limits limit) = reply_text names told.Accepted
outcome_text names (Defines name what) = reply_text names told.Accepted
outcome_text names (Refuses fault) = fault_text fault
outcome_text names (Bars fault) = fault_text fault

-- the state after it
abbrev pub state_after : List ℕ → Outcome → State → State
state_after client (Tells reply) old = noted_state old
state_after client Opens old = with_heads heads.Opened old
state_after client (Enters ring) old = with_heads (ring_entered ring) old
state_after client (Limits limit) old = with_heads (limited limit old.env.heads) old
state_after client (Defines name what) old = noted_state (record old { env = with_name client name what old.env })
state_after client (Refuses fault) old = noted_state old
state_after client (Bars fault) old = old
