use Rattle.sf_grammar.proofs.WordReaches.{name_reached, number_reached, integer_reached, word_reached}
use Rattle.sf_grammar.proofs.reaches.words_reach.Goals as goal

pub returns-clause-names : goal.returns-clause-names
returns-clause-names c = name_reached

pub returns-clause-numbers : goal.returns-clause-numbers
returns-clause-numbers c = number_reached

pub returns-clause-integers : goal.returns-clause-integers
returns-clause-integers c = integer_reached

pub returns-clause-words : goal.returns-clause-words
returns-clause-words c = word_reached
