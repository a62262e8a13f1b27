-- Lines, their words and how far they reach.
use Rattle.std.proofs.Common.{◌≡◌, ℕ, ◌+◌, max, map, List, [], ◌∷◌, ◌++◌, length, sym, ap, ◌∙◌, refl, arith, length-append, ◌==◌, true, subst, eqb-true}
use Rattle.std.specs.List.{slice_split, join_with_byte, list_all, AllByRecursion}
use Rattle.std.proofs.lemmas.Bool.{and_parts}
use Rattle.std.proofs.lemmas.List.Splits.{join_with_byte-slice_split}
use Rattle.sf_grammar.proofs.Cutting.{Filled, slice_split-filled}
use Rattle.sf_grammar.proofs.Forms.{lines_reached}
use Rattle.sf_grammar.proofs.Greatest.{greatest_by-three}
use Rattle.sf_grammar.specs.Forms.Item.{one, anything}
use Rattle.sf_grammar.specs.Forms.{Item, form_reach, line_reach}
use Rattle.sf_grammar.specs.Reaches.{IsColumn}
use Rattle.sf_grammar.specs.Words.{is_space}
use Rattle.sf_script.proofs.KindReaches.{right_kinds}
use Rattle.sf_script.specs.Grammar.{Row, built, later_words, later_items, form_of, definition_form, query_forms, forms, is_line}
use Rattle.sf_script.specs.Kinds.{kinds}
use Rattle.sf_script.specs.declared.command.Command.{Command}
use Rattle.sf_script.specs.declared.forms.Kind.TheVariants.{Client}
use Rattle.sf_script.specs.declared.forms.Kind.{Kind}

join-more : (part : List ℕ) (parts : List (List ℕ)) → Filled parts
    → join_with_byte 32 (part ∷ parts) ≡ part ++ 32 ∷ join_with_byte 32 parts
join-more part parts f = rw f.are refl

-- a first part, a space and the rest
pub length-cut : (text part rest : List ℕ) → slice_split is_space text ≡ part ∷ slice_split is_space rest
    → length part + 1 + length rest ≡ length text
length-cut text part rest cut =
    let whole : text ≡ part ++ 32 ∷ rest =
    sym (join_with_byte-slice_split 32 text)
    ∙ (ap (join_with_byte 32) cut
    ∙ (join-more part (slice_split is_space rest) (slice_split-filled is_space rest)
    ∙ ap (λ xs. part ++ 32 ∷ xs) (join_with_byte-slice_split 32 rest))) in
    let size = ap length whole ∙ length-append part (32 ∷ rest) in
    omega (arith, size)

-- the forms of the lines that don't begin with @ and are read to their end
abbrev read_forms : List (List (Item Kind))
read_forms = map (λ (row : Row Command). form_of row) built ++ map definition_form query_forms

-- how far a text reaches into the lines of the grammar
pub line_reach-forms : (text : List ℕ)
    → line_reach kinds forms text
    ≡ max (max (form_reach kinds (one Client ∷ anything ∷ []) text) (line_reach kinds (map later_items later_words) text))
    (line_reach kinds read_forms text)
line_reach-forms text =
    greatest_by-three (λ form. form_reach kinds form text) (one Client ∷ anything ∷ []) (map later_items later_words) read_forms

-- so the column at which a line leaves the grammar is known
pub line_column : (text : List ℕ) → IsColumn is_line text (1 + line_reach kinds forms text)
line_column text = (
  line_reach kinds forms text,
  lines_reached kinds right_kinds (one Client ∷ anything ∷ []) (map later_items later_words ++ read_forms) refl text,
  refl,
)

-- columns that were computed
pub columns_hold : (given : List (List ℕ × ℕ))
    → list_all (λ (line : List ℕ × ℕ). 1 + line_reach kinds forms line.0 == line.1) given ≡ true
    → AllByRecursion (λ (line : List ℕ × ℕ). IsColumn is_line line.0 line.1) given
columns_hold [] e = tt
columns_hold (line ∷ lines) e =
    let parts = and_parts (1 + line_reach kinds forms line.0 == line.1)
    (list_all (λ (l : List ℕ × ℕ). 1 + line_reach kinds forms l.0 == l.1) lines) e in (
      subst (IsColumn is_line line.0) (eqb-true (1 + line_reach kinds forms line.0) line.1 parts.0) (line_column line.0),
      columns_hold lines parts.1,
    )
