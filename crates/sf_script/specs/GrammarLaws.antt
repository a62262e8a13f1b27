-- A line asks for something exactly where it is in the grammar, and the columns at which some lines leave it. (The language is
-- this project's own.)
use Rattle.std.specs.Prelude.{◌≡◌, ℕ, is_some, List, [], ◌∷◌, codes}
use Rattle.std.specs.List.{AllByRecursion}
use Rattle.sf_grammar.specs.Reaches.{IsColumn}
use Rattle.sf_script.specs.Grammar.{written_line, is_line}

-- the command of a line is read exactly where the line is of one of the forms
abbrev pub ReadsTheGrammar : Type 0
ReadsTheGrammar = (line : List ℕ) → is_some (written_line line) ≡ is_line line

-- lines that aren't in the grammar, each with its column
abbrev pub malformed_lines : List (List ℕ × ℕ)
malformed_lines =
    (codes "foo", 2)
    ∷ (codes " show K", 1)
    ∷ (codes "show", 5)
    ∷ (codes "show 1", 6)
    ∷ (codes "show K L", 8)
    ∷ (codes "showK", 5)
    ∷ (codes "SHOW K", 1)
    ∷ (codes "spectral", 9)
    ∷ (codes "spectral one", 10)
    ∷ (codes "spectral -", 11)
    ∷ (codes "spectral 1234567", 16)
    ∷ (codes "spectral 1 2", 12)
    ∷ (codes "ring 101", 9)
    ∷ (codes "ring x y", 6)
    ∷ (codes "ring -101 x", 6)
    ∷ (codes "ring 1234567890123456789 x", 24)
    ∷ (codes "ring 101 x 2y", 12)
    ∷ (codes "ring 101 x y_ _", 15)
    ∷ (codes "limit 40 x", 10)
    ∷ (codes "module K", 9)
    ∷ (codes "module K degree 0 relations [x]", 16)
    ∷ (codes "module K degrees 0 1", 21)
    ∷ (codes "module K degrees 0 relations [x;", 33)
    ∷ (codes "module K degrees 0 relations [x]]", 33)
    ∷ (codes "module K degrees 0 relations [x ;y]", 32)
    ∷ (codes "module K degrees 0x relations [x]", 19)
    ∷ (codes "module K degrees 0 relation [x]", 28)
    ∷ (codes "module abcdefghijklmnopqrstuvwxyzABCDEFG degrees 0 relations [x]", 40)
    ∷ (codes "map f K [x]", 9)
    ∷ (codes "map f K L x", 11)
    ∷ (codes "map f K L [x,]", 14)
    ∷ (codes "basis K [x]", 9)
    ∷ (codes "member K", 9)
    ∷ (codes "member K [x^1234]", 16)
    ∷ (codes "member K [a*b*c*d*e*f*g]", 22)
    ∷ (codes "lift K [3*x*4]", 13)
    ∷ (codes "lift K [x--y]", 11)
    ∷ (codes "lift K [+x]", 9)
    ∷ (codes "lift K []]", 10)
    ∷ (codes "syz -K", 5)
    ∷ (codes "kernel f g", 10)
    ∷ (codes "image", 6)
    ∷ (codes "let F kernel f", 7)
    ∷ (codes "let F = show K", 9)
    ∷ (codes "let F = kernel", 15)
    ∷ (codes "let F = homs K L", 12)
    ∷ (codes "letter F = kernel f", 4)
    ∷ (codes "works", 5)
    ∷ (codes "pages K 1 0 0", 5)
    ∷ (codes "bicomplexes", 10)
    ∷ []

-- each leaves the grammar at its column
abbrev pub HasColumns : Type 0
HasColumns = AllByRecursion (λ (given : List ℕ × ℕ). IsColumn is_line given.0 given.1) malformed_lines
