-- What a session keeps when it takes over what comes of a line.
use Rattle.std.proofs.Common.{◌≡◌, ℕ, List, [], ◌∷◌, refl, sym, ap, ◌∙◌, subst}
use Rattle.sf_algebra.specs.Matrices.{Matrix}
use Rattle.sf_matrix.specs.Tables.{Entry, Table, matrices_of}
use Rattle.sf_object.specs.Shelves.{GrewOver, Shelved}
use Rattle.sf_object.proofs.Shelves.{grew_none}
use Rattle.sf_script.specs.Headings.{limited, noted}
use Rattle.sf_script.specs.Names.{Env, with_name}
use Rattle.sf_script.specs.declared.heads.Heads.TheVariants.{Unopened, Opened, Within}
use Rattle.sf_script.specs.declared.heads.Heads.{Heads}
use Rattle.sf_script.specs.declared.named.Named.{Named}
use Rattle.sf_session.specs.Sound.{HasLowNames, HasLowRelations, IsSound}
use Rattle.sf_session.specs.State.{LooksOnceNoted, limit_of}
use Rattle.sf_session.proofs.NamesIn.{with_name_all}
use Rattle.sf_session.proofs.SessionSteps.{limit_noted}

-- what a session keeps of its names, its shelf and its table
abbrev pub IsKept : Env → List Shelved → Table → Type 0
IsKept env shelf t =
    IsSound env
    × HasLowNames env.clients
    × (t.limit ≡ limit_of env.heads)
    × LooksOnceNoted env.heads (matrices_of t.entries)
    × GrewOver shelf t

pub no_entries : (es : List Entry) → matrices_of es ≡ [] → es ≡ []
no_entries [] f = refl
no_entries (x ∷ xs) f = cc

pub once_noted : (heads : Heads) (ms : List Matrix) → LooksOnceNoted heads ms → LooksOnceNoted (noted heads) ms
once_noted Unopened ms h = h
once_noted Opened ms h = h
once_noted (Within setting) ms h = λ e. cc

-- a name is defined
pub kept_defined : (env : Env) (shelf : List Shelved) (t : Table) (client name : List ℕ) (what : Named) (after : Env)
    → after ≡ record (with_name client name what env) { heads = noted env.heads } → IsSound after → HasLowRelations what
    → IsKept env shelf t → IsKept after shelf t
kept_defined env shelf t client name what after e sound low h = (
  sound,
  subst (λ (new : Env). HasLowNames new.clients) (sym e) (with_name_all HasLowRelations client name what env low h.1),
  h.2 ∙ sym (limit_noted env.heads) ∙ ap (λ (new : Env). limit_of new.heads) (sym e),
  subst (λ (new : Env). LooksOnceNoted new.heads (matrices_of t.entries)) (sym e) (once_noted env.heads (matrices_of t.entries) h.3),
  h.4,
)

-- a limit is given
pub kept_limited : (env : Env) (shelf : List Shelved) (t u : Table) (limit : ℕ) (after : Env) → after ≡ record env { heads = limited limit env.heads }
    → u ≡ record { limit = limit; entries = [] } → IsSound after → (within : limit_of (limited limit env.heads) ≡ limit)
    → IsKept env shelf t → IsKept after [] u
kept_limited env shelf t u limit after e f sound within h = (
  sound,
  subst (λ (new : Env). HasLowNames new.clients) (sym e) h.1,
  ap (λ (v : Table). v.limit) f ∙ sym within ∙ ap (λ (new : Env). limit_of new.heads) (sym e),
  none after.heads (matrices_of u.entries) (ap (λ (v : Table). matrices_of v.entries) f),
  grew_none u,
)
  where
    none : (heads : Heads) (ms : List Matrix) → ms ≡ [] → LooksOnceNoted heads ms
    none Unopened ms e = e
    none Opened ms e = e
    none (Within setting) ms e = λ n. e
