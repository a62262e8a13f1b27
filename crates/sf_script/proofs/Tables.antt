-- A line asks for something exactly where it is in the grammar.
use Rattle.std.proofs.Common.{◌≡◌, ℕ, List, [], ◌∷◌, ◌++◌, map, Bool, true, false, cond, not, ◌||◌, ◌&&◌, Option, Some, None, is_some, option_map, option_and_then, codes, bytes_eq, refl, sym, ap, ap₂, ◌∙◌, subst}
use Rattle.std.specs.List.{list_any}
use Rattle.std.specs.Option.{option_map_or}
use Rattle.std.proofs.lemmas.Bool.{and_parts, or_parts, or_from, not-true}
use Rattle.std.proofs.lemmas.Slice.Eq.{bytes_eq-Decides}
use Rattle.sf_grammar.proofs.FormValues.{values-some, fits-anything}
use Rattle.sf_grammar.specs.FormValues.{values, after}
use Rattle.sf_grammar.specs.Forms.{Item, fits}
use Rattle.sf_grammar.specs.Forms.Item.{word, one, anything}
use Rattle.sf_grammar.specs.Words.{words, begins_with, is_name}
use Rattle.sf_script.proofs.KindReaches.{readable}
use Rattle.sf_script.specs.Grammar.{Row, row_reading, reading, queries, built, later_words, later_queries, is_among, later_items, named_query, definition, command_of, without_client, written_line, form_of, definition_form, query_forms, forms, is_line}
use Rattle.sf_script.specs.declared.command.Command.TheVariants as commands
use Rattle.sf_script.specs.Kinds.{Value, word_value, kinds}
use Rattle.sf_script.specs.declared.command.Command.{Command}
use Rattle.sf_script.specs.declared.command.Query.{Query}
use Rattle.sf_script.specs.declared.forms.Kind.TheVariants.{Name, Client}
use Rattle.sf_script.specs.declared.forms.Kind.{Kind}

is_some-map : {X Y : Type 0} (f : X → Y) (o : Option X) → is_some (option_map f o) ≡ is_some o
is_some-map f None = refl
is_some-map f (Some x) = refl

list_any-append : {X : Type 0} (p : X → Bool) (xs ys : List X) → list_any p (xs ++ ys) ≡ (list_any p xs || list_any p ys)
list_any-append p [] ys = refl
list_any-append p (x ∷ xs) ys = by (p x) (list_any-append p xs ys)
  where
    by : (b : Bool) → list_any p (xs ++ ys) ≡ (list_any p xs || list_any p ys)
        → (b || list_any p (xs ++ ys)) ≡ ((b || list_any p xs) || list_any p ys)
    by true others = refl
    by false others = others

list_any-map : {X Y : Type 0} (p : Y → Bool) (f : X → Y) (xs : List X) → list_any p (map f xs) ≡ list_any (λ x. p (f x)) xs
list_any-map p f [] = refl
list_any-map p f (x ∷ xs) = ap (λ b. p (f x) || b) (list_any-map p f xs)

list_any-same : {X : Type 0} (p q : X → Bool) → ((x : X) → p x ≡ q x) → (xs : List X) → list_any p xs ≡ list_any q xs
list_any-same p q same [] = refl
list_any-same p q same (x ∷ xs) = ap₂ (λ a b. a || b) (same x) (list_any-same p q same xs)

list_any-none : {X : Type 0} (p : X → Bool) → ((x : X) → p x ≡ false) → (xs : List X) → list_any p xs ≡ false
list_any-none p none_of [] = refl
list_any-none p none_of (x ∷ xs) = or_from (p x) (list_any p xs) (none_of x) (list_any-none p none_of xs)

-- no two rows have the same first word
abbrev are_apart : {C : Type 0} → List (Row C) → Bool
are_apart [] = true
are_apart (row ∷ rows) = not (list_any (λ other. bytes_eq row.spelling other.spelling) rows) && are_apart rows

-- the words of a line of a row
abbrev fits_row : {C : Type 0} → List ℕ → List (List ℕ) → Row C → Bool
fits_row first ws row = fits kinds (form_of row) (first ∷ ws)

fits_row-other : {C : Type 0} (first : List ℕ) (ws : List (List ℕ)) (row : Row C) → bytes_eq first row.spelling ≡ false
    → fits_row first ws row ≡ false
fits_row-other first ws row e = rw e refl

fits_row-same : {C : Type 0} (first : List ℕ) (ws : List (List ℕ)) (row : Row C) → bytes_eq first row.spelling ≡ true
    → fits_row first ws row ≡ fits kinds row.items ws
fits_row-same first ws row e = rw e refl

none_spelled : {C : Type 0} (first : List ℕ) (ws : List (List ℕ)) (rows : List (Row C))
    → list_any (λ other. bytes_eq first other.spelling) rows ≡ false → list_any (fits_row first ws) rows ≡ false
none_spelled first ws [] e = refl
none_spelled first ws (row ∷ rows) e =
    let parts = or_parts (bytes_eq first row.spelling) (list_any (λ other. bytes_eq first other.spelling) rows) e in
    or_from (fits_row first ws row) (list_any (fits_row first ws) rows) (fits_row-other first ws row parts.0)
    (none_spelled first ws rows parts.1)

-- a table reads the lines of its rows
reading-some : {C : Type 0} (first : List ℕ) (ws : List (List ℕ)) (rows : List (Row C)) → are_apart rows ≡ true
    → is_some (reading rows first ws) ≡ list_any (fits_row first ws) rows
reading-some first ws [] e = refl
reading-some first ws (row ∷ rows) e =
    by (bytes_eq first row.spelling) refl (reading-some first ws rows parts.1)
  where
    parts : (not (list_any (λ other. bytes_eq row.spelling other.spelling) rows) ≡ true) × (are_apart rows ≡ true)
    parts = and_parts (not (list_any (λ other. bytes_eq row.spelling other.spelling) rows)) (are_apart rows) e

    by : (x : Bool) → bytes_eq first row.spelling ≡ x → is_some (reading rows first ws) ≡ list_any (fits_row first ws) rows
        → is_some (cond x (row_reading row ws) (reading rows first ws)) ≡ (fits_row first ws row || list_any (fits_row first ws) rows)
    by true at later =
        let same : first ≡ row.spelling = (bytes_eq-Decides first row.spelling).0 at in
        let others : list_any (fits_row first ws) rows ≡ false =
        none_spelled first ws rows (subst (λ w. list_any (λ other. bytes_eq w other.spelling) rows ≡ false) (sym same)
        (not-true (list_any (λ other. bytes_eq row.spelling other.spelling) rows) parts.0)) in
        let here : is_some (row_reading row ws) ≡ fits kinds row.items ws =
        is_some-map row.build (values Value word_value row.items ws) ∙ values-some kinds Value word_value readable row.items ws in
        here ∙ (sym (fits_row-same first ws row at) ∙ rw others (unit (fits_row first ws row)))
      where
        unit : (b : Bool) → b ≡ (b || false)
        unit true = refl
        unit false = refl
    by false at later = rw (fits_row-other first ws row at) later

-- the lines that aren't built, whatever stands behind their first word
fits-later : (first : List ℕ) (ws : List (List ℕ)) (spelling : List ℕ)
    → fits kinds (later_items spelling) (first ∷ ws) ≡ bytes_eq first spelling
fits-later first ws spelling = by (bytes_eq first spelling)
  where
    by : (x : Bool) → option_map_or (λ left. fits kinds left ws) (cond x (Some (anything ∷ [])) None) false ≡ x
    by true = fits-anything kinds Value word_value readable [] ws
    by false = refl

any-later : (first : List ℕ) (ws : List (List ℕ)) (spellings : List (List ℕ))
    → list_any (λ spelling. fits kinds (later_items spelling) (first ∷ ws)) spellings ≡ is_among spellings first
any-later first ws spellings = list_any-same _ (bytes_eq first) (fits-later first ws) spellings

-- a query that a name is given to
named_query-some : (name : List ℕ) (ws : List (List ℕ))
    → is_some (named_query name ws) ≡ list_any (λ query. fits kinds query ws) query_forms
named_query-some name [] = refl
named_query-some name (query ∷ ws) =
    by (is_among later_queries query) (reading queries query ws)
    ∙ sym (list_any-append (λ form. fits kinds form (query ∷ ws)) (map (λ (row : Row Query). form_of row) queries)
    (map later_items later_queries)
    ∙ ap₂ (λ a b. a || b)
    (list_any-map (λ form. fits kinds form (query ∷ ws)) (λ (row : Row Query). form_of row) queries
    ∙ sym (reading-some query ws queries refl))
    (list_any-map (λ form. fits kinds form (query ∷ ws)) later_items later_queries ∙ any-later query ws later_queries))
  where
    by : (x : Bool) (o : Option Query)
        → is_some (cond x (Some commands.Later) (option_map (λ asked. commands.Let name asked) o)) ≡ (is_some o || x)
    by true None = refl
    by true (Some q) = refl
    by false None = refl
    by false (Some q) = refl

list_any-and : {X : Type 0} (a : Bool) (p : X → Bool) (xs : List X) → list_any (λ x. a && p x) xs ≡ (a && list_any p xs)
list_any-and true p xs = refl
list_any-and false p xs = list_any-none (λ x. false) (λ x. refl) xs

-- what stands behind `let`: a name, `=` and a query
fits-named : (name equals : List ℕ) (ws : List (List ℕ)) (query : List (Item Kind))
    → fits kinds (one Name ∷ word (codes "=") ∷ query) (name ∷ equals ∷ ws)
    ≡ ((is_name name && bytes_eq equals (codes "=")) && fits kinds query ws)
fits-named name equals ws query = by (is_name name) (bytes_eq equals (codes "=")) refl
  where
    by : (x y : Bool) → bytes_eq equals (codes "=") ≡ y
        → option_map_or (λ left. fits kinds left (equals ∷ ws)) (cond x (Some (word (codes "=") ∷ query)) None) false
        ≡ ((x && y) && fits kinds query ws)
    by true true e = rw e refl
    by true false e = rw e refl
    by false y e = refl

definition-named : (name equals : List ℕ) (ws : List (List ℕ))
    → is_some (definition (name ∷ equals ∷ ws))
    ≡ ((is_name name && bytes_eq equals (codes "=")) && is_some (named_query name ws))
definition-named name equals ws = by (is_name name) (bytes_eq equals (codes "=")) refl
  where
    by : (x y : Bool) → bytes_eq equals (codes "=") ≡ y
        → is_some (option_and_then {T = List ℕ × List (List ℕ)}
        (λ named. option_and_then (named_query named.0) (after (codes "=") named.1))
        (option_map (λ v. (v, equals ∷ ws)) (cond x (Some name) None)))
        ≡ ((x && y) && is_some (named_query name ws))
    by true true e = rw e refl
    by true false e = rw e refl
    by false y e = refl

definition-some : (ws : List (List ℕ))
    → is_some (definition ws) ≡ list_any (λ query. fits kinds (one Name ∷ word (codes "=") ∷ query) ws) query_forms
definition-some [] = refl
definition-some (name ∷ []) =
    by (is_name name)
    ∙ sym (list_any-none (λ query. fits kinds (one Name ∷ word (codes "=") ∷ query) (name ∷ [])) (λ query. none_behind (is_name name) query)
    query_forms)
  where
    by : (x : Bool)
        → is_some (option_and_then {T = List ℕ × List (List ℕ)}
        (λ named. option_and_then (named_query named.0) (after (codes "=") named.1))
        (option_map (λ v. (v, [])) (cond x (Some name) None))) ≡ false
    by true = refl
    by false = refl

    none_behind : (x : Bool) (query : List (Item Kind))
        → option_map_or (λ left. fits kinds left []) (cond x (Some (word (codes "=") ∷ query)) None) false ≡ false
    none_behind true query = refl
    none_behind false query = refl
definition-some (name ∷ equals ∷ ws) =
    definition-named name equals ws
    ∙ (ap (λ b. (is_name name && bytes_eq equals (codes "=")) && b) (named_query-some name ws)
    ∙ (sym (list_any-and (is_name name && bytes_eq equals (codes "=")) (λ query. fits kinds query ws) query_forms)
    ∙ list_any-same (λ query. (is_name name && bytes_eq equals (codes "=")) && fits kinds query ws)
    (λ query. fits kinds (one Name ∷ word (codes "=") ∷ query) (name ∷ equals ∷ ws))
    (λ query. sym (fits-named name equals ws query)) query_forms))

-- the lines that begin with `let`
fits-let : (first : List ℕ) (ws : List (List ℕ)) (query : List (Item Kind))
    → fits kinds (definition_form query) (first ∷ ws)
    ≡ (bytes_eq first (codes "let") && fits kinds (one Name ∷ word (codes "=") ∷ query) ws)
fits-let first ws query = by (bytes_eq first (codes "let"))
  where
    by : (x : Bool)
        → option_map_or (λ left. fits kinds left ws) (cond x (Some (one Name ∷ word (codes "=") ∷ query)) None) false
        ≡ (x && fits kinds (one Name ∷ word (codes "=") ∷ query) ws)
    by true = refl
    by false = refl

any-let : (first : List ℕ) (ws : List (List ℕ))
    → list_any (λ form. fits kinds form (first ∷ ws)) (map definition_form query_forms)
    ≡ (bytes_eq first (codes "let") && is_some (definition ws))
any-let first ws =
    list_any-map (λ form. fits kinds form (first ∷ ws)) definition_form query_forms
    ∙ (list_any-same (λ query. fits kinds (definition_form query) (first ∷ ws))
    (λ query. bytes_eq first (codes "let") && fits kinds (one Name ∷ word (codes "=") ∷ query) ws) (fits-let first ws) query_forms
    ∙ (list_any-and (bytes_eq first (codes "let")) (λ query. fits kinds (one Name ∷ word (codes "=") ∷ query) ws) query_forms
    ∙ ap (λ b. bytes_eq first (codes "let") && b) (sym (definition-some ws))))

-- no other line begins with `let`
built-let : (first : List ℕ) (ws : List (List ℕ)) → bytes_eq first (codes "let") ≡ true
    → is_some (reading built first ws) ≡ false
built-let first ws e =
    subst (λ w. is_some (reading built w ws) ≡ false) (sym ((bytes_eq-Decides first (codes "let")).0 e)) refl

fits-client : (first : List ℕ) (ws : List (List ℕ))
    → fits kinds (one Client ∷ anything ∷ []) (first ∷ ws) ≡ begins_with 64 first
fits-client first ws = by (begins_with 64 first)
  where
    by : (x : Bool) → option_map_or (λ left. fits kinds left ws) (cond x (Some (anything ∷ [])) None) false ≡ x
    by true = fits-anything kinds Value word_value readable [] ws
    by false = refl

-- the words of a line are a command exactly where they fit a form
command-some : (ws : List (List ℕ)) → is_some (command_of ws) ≡ list_any (λ form. fits kinds form ws) forms
command-some [] = refl
command-some (first ∷ ws) =
    by (begins_with 64 first) (is_among later_words first) (bytes_eq first (codes "let")) refl
    ∙ sym (ap₂ (λ a b. a || b) (fits-client first ws)
    (list_any-append (λ form. fits kinds form (first ∷ ws)) (map later_items later_words) (map (λ (row : Row Command). form_of row) built ++ map definition_form query_forms)
    ∙ ap₂ (λ a b. a || b)
    (list_any-map (λ form. fits kinds form (first ∷ ws)) later_items later_words ∙ any-later first ws later_words)
    (list_any-append (λ form. fits kinds form (first ∷ ws)) (map (λ (row : Row Command). form_of row) built) (map definition_form query_forms)
    ∙ ap₂ (λ a b. a || b)
    (list_any-map (λ form. fits kinds form (first ∷ ws)) (λ (row : Row Command). form_of row) built ∙ sym (reading-some first ws built refl))
    (any-let first ws))))
  where
    or_unit : (b : Bool) → b ≡ (b || false)
    or_unit true = refl
    or_unit false = refl

    by : (x y z : Bool) → bytes_eq first (codes "let") ≡ z
        → is_some (cond (x || y) (Some commands.Later) (cond z (definition ws) (reading built first ws)))
        ≡ (x || (y || (is_some (reading built first ws) || (z && is_some (definition ws)))))
    by true y z e = refl
    by false true z e = refl
    by false false true e = rw (built-let first ws e) refl
    by false false false e = or_unit (is_some (reading built first ws))

-- a line asks for something exactly where it is in the grammar
pub written-some : (line : List ℕ) → is_some (written_line line) ≡ is_line line
written-some line = by (begins_with 32 line)
  where
    by : (x : Bool)
        → is_some (cond x None (option_map without_client (command_of (words line))))
        ≡ list_any (λ form. not x && fits kinds form (words line)) forms
    by true = sym (list_any-none (λ form. false) (λ form. refl) forms)
    by false = is_some-map without_client (command_of (words line)) ∙ command-some (words line)
