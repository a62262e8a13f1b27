-- The items of a form as the code has them.
use Rattle.std.specs.Prelude.{List, map}
use Rattle.sf_grammar.specs.Forms.Item.{word, one, many, anything}
use Rattle.sf_grammar.specs.Forms.{Item}
use Rattle.sf_script.specs.declared.forms.Item.TheVariants.{Word, One, Many, Anything}
use Rattle.sf_script.specs.declared.forms.Item.{Item as Written}
use Rattle.sf_script.specs.declared.forms.Kind.{Kind}

-- an item; the code borrows its word
abbrev pub item_of : Written → Item Kind
item_of (Word spelling) = word spelling.now
item_of (One kind) = one kind
item_of (Many kind) = many kind
item_of Anything = anything

-- those of a form
abbrev pub items_of : List Written → List (Item Kind)
items_of items = map item_of items
