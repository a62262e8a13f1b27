-- How each reply is written. Its text ends with an LF.
use Rattle.std.specs.Prelude.{ℕ, suc, true, false, List, [], ◌∷◌, ◌++◌, codes, decimal}
use Rattle.sf_algebra.specs.Matrices.{Matrix}
use Rattle.sf_algebra.specs.Printing.{degrees_text, matrix_text}
use Rattle.sf_script.specs.declared.fault.LineFault.TheVariants as faults
use Rattle.sf_script.specs.declared.fault.LineFault.{LineFault}
use Rattle.sf_reply.specs.declared.reply.Reply.TheVariants.{Accepted, ShowModule, ShowMap, Basis, Syz, Lift, Member, Differentials, Pair}
use Rattle.sf_reply.specs.declared.reply.Reply.{Reply}

-- a name behind these words
abbrev pub name_text : List ℕ → List ℕ → List ℕ
name_text words name = words ++ name ++ codes "\n"

-- a number behind these words
abbrev pub number_text : List ℕ → ℕ → List ℕ
number_text words n = words ++ decimal n ++ codes "\n"

-- the numbers of rows and columns of the matrix that is looked at
abbrev pub large_text : ℕ → ℕ → List ℕ
large_text rows cols = codes "error large " ++ decimal rows ++ codes " " ++ decimal cols ++ codes "\n"

-- the place from which two maps of a complex aren't zero one after the other, in the one row that a complex has
abbrev pub square_text : ℕ → List ℕ
square_text place = codes "error square " ++ decimal place ++ codes " 0\n"

-- the reply to a line that is refused for this reason
abbrev pub fault_text : LineFault → List ℕ
fault_text (faults.Syntax col) = number_text (codes "error syntax ") col
fault_text faults.Later = codes "error later\n"
fault_text faults.Ring = codes "error ring\n"
fault_text (faults.Unknown name) = name_text (codes "error name ") name
fault_text (faults.Kind name) = name_text (codes "error kind ") name
fault_text (faults.Taken name) = name_text (codes "error taken ") name
fault_text faults.Shape = codes "error shape\n"
fault_text (faults.Degree row) = number_text (codes "error degree ") row
fault_text (faults.NotMap relation) = number_text (codes "error map ") relation
fault_text (faults.NotComplex place) = square_text place
fault_text faults.Range = codes "error range\n"
fault_text faults.NotInSpan = codes "error none\n"
fault_text (faults.Large rows cols) = large_text rows cols

-- a matrix behind these words, in variables of these names
abbrev pub rows_text : List ℕ → List (List ℕ) → Matrix → List ℕ
rows_text words names m = words ++ matrix_text names m ++ codes "\n"

-- the words before the matrix that arrives at the place before this one
abbrev pub step_words : ℕ → List ℕ
step_words place = codes "d" ++ decimal place ++ codes " "

-- the matrices of a complex, the first of which leaves from this place
abbrev pub steps_text : List (List ℕ) → ℕ → List Matrix → List ℕ
steps_text names place [] = []
steps_text names place (m ∷ ms) = rows_text (step_words place) names m ++ steps_text names (suc place) ms

-- a module: the degrees of its generators, and its relations
abbrev pub module_text : List (List ℕ) → Matrix → List ℕ
module_text names relations =
    codes "degrees " ++ degrees_text relations.target ++ codes "\n" ++ rows_text (codes "rels ") names relations

-- the text of a reply
abbrev pub reply_text : List (List ℕ) → Reply → List ℕ
reply_text names Accepted = codes "ok\n"
reply_text names (ShowModule relations) = module_text names relations
reply_text names (ShowMap m) = rows_text (codes "map ") names m
reply_text names (Basis m) = rows_text (codes "basis ") names m
reply_text names (Syz m) = rows_text (codes "syz ") names m
reply_text names (Lift m) = rows_text (codes "lift ") names m
reply_text names (Member true) = codes "member yes\n"
reply_text names (Member false) = codes "member no\n"
reply_text names (Differentials steps) = steps_text names 1 steps
reply_text names (Pair gens rels) = rows_text (codes "gens ") names gens ++ rows_text (codes "rels ") names rels
