-- A ring that a line gives has a variable.
use Rattle.std.proofs.Common.{◌≡◌, ℕ, ◌≤◌, Bool, true, false, List, [], ◌∷◌, Option, Some, None, length, refl, subst, inl, inr, ◌||◌, arith}
use Rattle.std.proofs.lemmas.Bool.{cases_Bool}
use Rattle.std.specs.List.{AllByRecursion}
use Rattle.std.specs.Option.{option_map, option_map_or, option_and_then}
use Rattle.std.specs.Prelude.{codes, if◌then◌else◌}
use Rattle.std.specs.Str.{bytes_eq}
use Rattle.sf_grammar.specs.FormValues.{Values, values, first_of, after}
use Rattle.sf_grammar.specs.Words.{words, begins_with}
use Rattle.sf_script.specs.Grammar.{Row, IsWritten, Silent, Malformed, Read, row_reading, reading, built, queries, later_words, later_queries, is_among, named_query, definition, command_of, is_silent, without_client, line_of}
use Rattle.sf_script.specs.Kinds.{Value, word_value}
use Rattle.sf_script.specs.declared.command.Command.TheVariants.{Spectral, Ring, Limit, Module, Map, Complex, Let, Ask, Show, Basis, Syz, Member, Lift, Resolve, Later}
use Rattle.sf_script.specs.declared.command.Command.{Command}
use Rattle.sf_script.specs.declared.command.Line.{Line}
use Rattle.sf_script.specs.declared.command.Query.{Query}
use Rattle.sf_script.specs.declared.forms.Kind.TheVariants.{Name}

abbrev pub HasVariables : Command → Type 0
HasVariables (Spectral version) = Unit {0}
HasVariables (Ring modulus names) = 1 ≤ length names
HasVariables (Limit limit) = Unit {0}
HasVariables (Module name degrees relations) = Unit {0}
HasVariables (Map name source target matrix) = Unit {0}
HasVariables (Complex name maps) = Unit {0}
HasVariables (Let name query) = Unit {0}
HasVariables (Ask query) = Unit {0}
HasVariables (Show name) = Unit {0}
HasVariables (Basis name) = Unit {0}
HasVariables (Syz name) = Unit {0}
HasVariables (Member name vector) = Unit {0}
HasVariables (Lift name vector) = Unit {0}
HasVariables (Resolve name steps) = Unit {0}
HasVariables Later = Unit {0}

-- what is read by a row of a table is what the row makes of some values
made_by : {C : Type 0} (P : C → Type 0) (row : Row C) → ((v : Values Value row.items) → P (row.build v)) → (ws : List (List ℕ)) (c : C)
    → row_reading row ws ≡ Some c → P c
made_by P row made ws c e = by (values Value word_value row.items ws) e
  where
    by : (o : Option (Values Value row.items)) → option_map row.build o ≡ Some c → P c
    by None f = cc
    by (Some v) f = let same : row.build v ≡ c = cc in subst P same (made v)

reading_all : {C : Type 0} (P : C → Type 0) (rows : List (Row C))
    → AllByRecursion (λ (row : Row C). (v : Values Value row.items) → P (row.build v)) rows
    → (first : List ℕ) (ws : List (List ℕ)) (c : C) → reading rows first ws ≡ Some c → P c
reading_all P [] made first ws c e = cc
reading_all P (row ∷ rows) made first ws c e =
    elim (cases_Bool (bytes_eq first row.spelling)) [
      | inl hit ↦ made_by P row made.0 ws c (rw hit at e)
      | inr miss ↦ reading_all P rows made.1 first ws c (rw miss at e)
    ]

built_have : AllByRecursion (λ (row : Row Command). (v : Values Value row.items) → HasVariables (row.build v)) built
built_have = (
  λ v. tt,
  (
    λ v. omega arith,
    (
      λ v. tt,
      (
        λ v. tt,
        (
          λ v. tt,
          (
            λ v. tt,
            (
              λ v. tt,
              (
                λ v. tt,
                (
                  λ v. tt,
                  (
                    λ v. tt,
                    (
                      λ v. tt,
                      (
                        λ v. tt,
                        (λ v. tt, (λ v. tt, (λ v. tt, tt))),
                      ),
                    ),
                  ),
                ),
              ),
            ),
          ),
        ),
      ),
    ),
  ),
)

named_has : (name : List ℕ) (ws : List (List ℕ)) (c : Command) → named_query name ws ≡ Some c → HasVariables c
named_has name [] c e = cc
named_has name (query ∷ ws) c e = by (is_among later_queries query) (reading queries query ws) e
  where
    by : (b : Bool) (o : Option Query) → (if b then Some Later else option_map (λ asked. Let name asked) o) ≡ Some c → HasVariables c
    by true o f = let same : Later ≡ c = cc in subst HasVariables same tt
    by false None f = cc
    by false (Some q) f = let same : Let name q ≡ c = cc in subst HasVariables same tt

definition_has : (ws : List (List ℕ)) (c : Command) → definition ws ≡ Some c → HasVariables c
definition_has ws c e = by (first_of (word_value Name) ws) e
  where
    queried : (name : List ℕ) (o : Option (List (List ℕ))) → option_and_then (λ query. named_query name query) o ≡ Some c
        → HasVariables c
    queried name None f = cc
    queried name (Some query) f = named_has name query c f

    by : (o : Option (List ℕ × List (List ℕ)))
        → option_and_then (λ named. option_and_then (λ query. named_query named.0 query) (after (codes "=") named.1)) o ≡ Some c
        → HasVariables c
    by None f = cc
    by (Some named) f = queried named.0 (after (codes "=") named.1) f

command_has : (ws : List (List ℕ)) (c : Command) → command_of ws ≡ Some c → HasVariables c
command_has [] c e = cc
command_has (first ∷ ws) c e =
    by (begins_with 64 first || is_among later_words first) (bytes_eq first (codes "let")) e
  where
    by : (later defines : Bool)
        → (if later then Some Later else (if defines then definition ws else reading built first ws)) ≡ Some c → HasVariables c
    by true defines f = let same : Later ≡ c = cc in subst HasVariables same tt
    by false true f = definition_has ws c f
    by false false f = reading_all HasVariables built built_have first ws c f

-- so it is with the command of a line
pub line_has : (line : List ℕ) (l : Line) → line_of line ≡ Read l → HasVariables l.command
line_has line l e = by (is_silent line) (begins_with 32 line) (command_of (words line)) (command_has (words line)) e
  where
    by : (silent spaced : Bool) (o : Option Command) → ((c : Command) → o ≡ Some c → HasVariables c)
        → (if silent then Silent else option_map_or Read (if spaced then None else option_map without_client o) Malformed) ≡ Read l
        → HasVariables l.command
    by true spaced o has f = cc
    by false true o has f = cc
    by false false None has f = cc
    by false false (Some c) has f =
        let same : without_client c ≡ l = cc in subst (λ (k : Line). HasVariables k.command) same (has c refl)

-- what is read has it too
pub variables_written : (command : Command) → IsWritten command → HasVariables command
variables_written (Spectral version) h = tt
variables_written (Ring modulus names) h = h
variables_written (Limit limit) h = tt
variables_written (Module name degrees relations) h = tt
variables_written (Map name source target matrix) h = tt
variables_written (Complex name maps) h = tt
variables_written (Let name query) h = tt
variables_written (Ask query) h = tt
variables_written (Show name) h = tt
variables_written (Basis name) h = tt
variables_written (Syz name) h = tt
variables_written (Member name vector) h = tt
variables_written (Lift name vector) h = tt
variables_written (Resolve name steps) h = tt
variables_written Later h = tt
