-- Vectors of one degree of a graph as sums over its places, while each is cleared at the leads of others. (Lazard, "Gröbner
-- bases, Gaussian elimination and resolution of systems of algebraic equations", EUROCAL 1983.)
use Rattle.std.specs.Prelude.{◌≡◌, ℕ, List, length, ℤ}
use Rattle.std.specs.List.{AllByRecursion}
use Rattle.sf_algebra.specs.Matrices.{Matrix}
use Rattle.sf_algebra.specs.Vectors.{Place}
use Rattle.sf_counting.specs.Counts.{AreGraphColumns}
use Rattle.sf_counting.proofs.Counting.GraphLeads.{InGraph}
use Rattle.sf_dense.specs.Entries.{Entry, dense, placed}
use Rattle.sf_dense.specs.MonicEntries.{AreWithin}
use Rattle.sf_buchberger.specs.declared.counted.elimination.Elimination.{Elimination}

-- entries that stand for a vector of degree d of the graph of m over n variables
pub record IsGraphList (n : ℕ) (m : Matrix) (d : ℤ) (ks : List Place) (es : List Entry) : Type 0 where
  pub inside : InGraph n m d (placed ks es)
  pub within : AreWithin (length ks) es

-- the sum and the lists stand for vectors of the graph of m
pub record IsElimination (m : Matrix) (e : Elimination) : Type 0 where
  pub columns : AreGraphColumns e.variables m e.degree e.columns.items
  pub size : length e.cells ≡ length e.columns.items
  pub sum : InGraph e.variables m e.degree (dense m.ring.modulus e.columns.items e.cells)
  pub lists : AllByRecursion (IsGraphList e.variables m e.degree e.columns.items) e.lists.items

-- they do so still, of the same degree
pub record GoesOn (m : Matrix) (before after : Elimination) : Type 0 where
  pub elimination : IsElimination m after
  pub variables : after.variables ≡ before.variables
  pub degree : after.degree ≡ before.degree
  pub columns : after.columns ≡ before.columns

-- they stand for vectors of degree d over n variables
pub record IsEliminationOf (n : ℕ) (d : ℤ) (m : Matrix) (e : Elimination) : Type 0 where
  pub elimination : IsElimination m e
  pub variables : e.variables ≡ n
  pub degree : e.degree ≡ d
