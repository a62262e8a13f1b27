-- What is read keeps to small exponents.
use Rattle.std.specs.List.{AllByRecursion}
use Rattle.sf_algebra.specs.Matrices.{Matrix}
use Rattle.sf_algebra.specs.Vectors.{Vector}
use Rattle.sf_text.specs.Placed.{IsWrittenTerm}
use Rattle.sf_script.specs.declared.checked.Checked.TheVariants.{Opens, Enters, Limits, Defines, Maps, Chains, Lets, Asks, Shows, Basis, Syz, Member, Lift, Resolves}
use Rattle.sf_script.specs.declared.checked.Checked.{Checked}

-- the exponents of each term of a vector have a small sum
abbrev pub HasWrittenTerms : Vector → Type 0
HasWrittenTerms v = AllByRecursion IsWrittenTerm v.terms

-- so it is with each row of a matrix
abbrev pub HasWrittenRows : Matrix → Type 0
HasWrittenRows m = AllByRecursion HasWrittenTerms m.rows

-- so it is with the matrix and the vectors that a line itself writes
abbrev pub HasSmallTerms : Checked → Type 0
HasSmallTerms Opens = Unit {0}
HasSmallTerms (Enters ring) = Unit {0}
HasSmallTerms (Limits limit) = Unit {0}
HasSmallTerms (Defines name m) = HasWrittenRows m
HasSmallTerms (Maps name f) = Unit {0}
HasSmallTerms (Chains name c) = Unit {0}
HasSmallTerms (Lets name query) = Unit {0}
HasSmallTerms (Asks query) = Unit {0}
HasSmallTerms (Shows found) = Unit {0}
HasSmallTerms (Basis m) = Unit {0}
HasSmallTerms (Syz m) = Unit {0}
HasSmallTerms (Member m v) = HasWrittenTerms v
HasSmallTerms (Lift m v) = HasWrittenTerms v
HasSmallTerms (Resolves m k) = Unit {0}
