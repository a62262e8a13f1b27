-- What names stand for, found and added.
use Rattle.std.proofs.Common.{◌≡◌, ℕ, Bool, true, false, List, [], ◌∷◌, Option, Some, None, refl, subst, inl, inr}
use Rattle.std.proofs.lemmas.Bool.{cases_Bool}
use Rattle.std.specs.List.{AllByRecursion}
use Rattle.std.specs.Map.{lookup}
use Rattle.std.specs.Option.{unwrap_or}
use Rattle.std.specs.Str.{bytes_eq}
use Rattle.indexmap.specs.IndexMap.{insert_entry}
use Rattle.sf_script.specs.Names.{Env, named, names_of, with_name}
use Rattle.sf_script.specs.declared.named.Named.{Named}

module _ {X : Type 0} (P : X → Type 0) where
  abbrev pub All : List (List ℕ × X) → Type 0
  All es = AllByRecursion (λ (e : List ℕ × X). P e.1) es

  pub lookup_all : (name : List ℕ) (es : List (List ℕ × X)) (x : X) → lookup (bytes_eq name) es ≡ Some x → All es → P x
  lookup_all name [] x e h = cc
  lookup_all name (entry ∷ es) x e h =
      elim (cases_Bool (bytes_eq name entry.0)) [
        | inl hit ↦ subst P (same entry.1 (rw hit at e)) h.0
        | inr miss ↦ lookup_all name es x (rw miss at e) h.1
      ]
    where
      same : (y : X) → Some y ≡ Some x → y ≡ x
      same y f = cc

  pub insert_all : (name : List ℕ) (x : X) (es : List (List ℕ × X)) → P x → All es → All (insert_entry bytes_eq es name x)
  insert_all name x [] p h = (p, tt)
  insert_all name x (entry ∷ es) p h = by (bytes_eq name entry.0) refl (insert_all name x es p h.1)
    where
      by : (b : Bool) → bytes_eq name entry.0 ≡ b → All (insert_entry bytes_eq es name x)
          → All (insert_entry bytes_eq (entry ∷ es) name x)
      by true e others = rw e (p, h.1)
      by false e others = rw e (h.0, others)

module _ (P : Named → Type 0) where
  abbrev pub AllNames : List (List ℕ × List (List ℕ × Named)) → Type 0
  AllNames clients = All (All P) clients

  pub names_all : (client : List ℕ) (clients : List (List ℕ × List (List ℕ × Named))) → AllNames clients
      → All P (names_of client clients)
  names_all client clients h = by (lookup (bytes_eq client) clients) refl
    where
      by : (o : Option (List (List ℕ × Named))) → lookup (bytes_eq client) clients ≡ o → All P (unwrap_or o [])
      by None e = tt
      by (Some names) e = lookup_all (All P) client clients names e h

  -- what a name stands for
  pub named_all : (client name : List ℕ) (env : Env) (what : Named) → named client env name ≡ Some what
      → AllNames env.clients → P what
  named_all client name env what e h = lookup_all P name (names_of client env.clients) what e (names_all client env.clients h)

  -- one name more, or another thing for a name
  pub with_name_all : (client name : List ℕ) (what : Named) (env : Env) → P what → AllNames env.clients
      → AllNames (with_name client name what env).clients
  with_name_all client name what env p h =
      insert_all (All P) client (insert_entry bytes_eq (names_of client env.clients) name what) env.clients
      (insert_all P name what (names_of client env.clients) p (names_all client env.clients h)) h
