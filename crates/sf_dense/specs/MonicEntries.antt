-- What is read off from sums over the places of a list: the residues other than 0 with the numbers of their places, and the
-- same with the coefficient 1 first. (Textbook: a row of a matrix over a field is made monic at its first column.)
use Rattle.std.specs.Prelude.{◌≡◌, ℕ, zero, suc, ◌<◌, ◌%◌, List, [], ◌∷◌, map}
use Rattle.std.specs.List.{AllByRecursion}
use Rattle.sf_algebra.specs.Residues.{product_mod}
use Rattle.sf_dense.specs.Entries.{Entry}

-- the entry for a coefficient, unless this is 0
abbrev pub put_entry : ℕ → ℕ → List Entry → List Entry
put_entry i zero es = es
put_entry i (suc c) es = record { cell = i; coefficient = suc c } ∷ es

-- the entries of the sums modulo p, where the first sum has the number i
unfoldable pub residue_entries : ℕ → ℕ → List ℕ → List Entry
residue_entries p i [] = []
residue_entries p i (c ∷ cs) = put_entry i (c % p) (residue_entries p (suc i) cs)

-- an entry x times modulo p
abbrev pub scaled_entry : ℕ → ℕ → Entry → Entry
scaled_entry p x e = record { cell = e.cell; coefficient = product_mod p x e.coefficient }

-- these are the entries of the sums modulo p, times the inverse of the first
pub record AreMonicEntries (p : ℕ) (cs : List ℕ) (es : List Entry) : Type 0 where
  pub first : Entry
  pub others : List Entry
  pub residues : residue_entries p 0 cs ≡ first ∷ others
  pub inverse : ℕ
  pub residue : inverse < p
  pub product : product_mod p first.coefficient inverse ≡ 1
  pub entries : es ≡ map (scaled_entry p inverse) (first ∷ others)

-- each entry's number is below n
abbrev pub AreWithin : ℕ → List Entry → Type 0
AreWithin n es = AllByRecursion (λ (e : Entry). e.cell < n) es

-- each entry comes before those after it
abbrev pub AreRising : List Entry → Type 0
AreRising [] = Unit {0}
AreRising (e ∷ es) = AllByRecursion (λ (f : Entry). e.cell < f.cell) es × AreRising es
