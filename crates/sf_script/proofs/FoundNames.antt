-- What is known of all names is known of one that is found.
use Rattle.std.proofs.Common.{◌≡◌, ℕ, Bool, true, false, cond, List, [], ◌∷◌, Option, Some, None, refl, subst}
use Rattle.std.specs.List.{AllByRecursion}
use Rattle.std.specs.Map.{lookup}
use Rattle.std.specs.Option.{unwrap_or}
use Rattle.std.specs.Str.{bytes_eq}
use Rattle.sf_script.specs.Names.{Env, named}
use Rattle.sf_script.specs.Refusals.{HasWrittenDegrees, HasWrittenModules}
use Rattle.sf_script.specs.declared.named.Named.{Named}

-- what holds of each value of a map holds of one that is found
pub lookup-holds : {K X : Type 0} (test : K → Bool) (P : X → Type 0) (es : List (K × X)) (x : X)
    → AllByRecursion (λ (e : K × X). P e.1) es → lookup test es ≡ Some x → P x
lookup-holds test P [] x h e = cc
lookup-holds {K} {X} test P (f ∷ es) x h e = by (test f.0) e (lookup-holds test P es x h.1)
  where
    by : (b : Bool) → cond b (Some f.1) (lookup test es) ≡ Some x → (lookup test es ≡ Some x → P x) → P x
    by true same others = let value : f.1 ≡ x = cc in subst P value h.0
    by false same others = others same

abbrev HaveWrittenDegrees : List (List ℕ × Named) → Type 0
HaveWrittenDegrees names = AllByRecursion (λ (n : List ℕ × Named). HasWrittenDegrees n.1) names

-- the degrees of a module that is found have at most six digits
pub HasWrittenDegrees-named : (env : Env) (client name : List ℕ) (found : Named) → HasWrittenModules env
    → named client env name ≡ Some found → HasWrittenDegrees found
HasWrittenDegrees-named env client name found all =
    lookup-holds (bytes_eq name) HasWrittenDegrees _ found
    (by (lookup (bytes_eq client) env.clients)
    (λ names. lookup-holds (bytes_eq client) HaveWrittenDegrees env.clients names all))
  where
    by : (o : Option (List (List ℕ × Named)))
        → ((names : List (List ℕ × Named)) → o ≡ Some names → HaveWrittenDegrees names)
        → HaveWrittenDegrees (unwrap_or o [])
    by None h = tt
    by (Some names) h = h names refl
