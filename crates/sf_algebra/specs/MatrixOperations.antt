-- What is made of graded matrices. A matrix acts on row vectors from the right. (Textbook; homalg's convention.)
use Rattle.std.specs.Prelude.{ℕ, zero, suc, ◌+◌, ◌-◌, ◌*◌, nat_le, nat_lt, ◌&&◌, List, [], ◌∷◌, ◌++◌, length, map, slice_range, ℤ, ◌+ℤ◌, neg_ℤ, ◌≡◌, ◌<◌}
use Rattle.std.specs.List.{filter, flat_map}
use Rattle.sf_algebra.specs.Matrices.{Matrix, row_degrees}
use Rattle.sf_algebra.specs.Monomials.{Monomial, one}
use Rattle.sf_algebra.specs.Multiples.{place_product, negative, combination}
use Rattle.sf_algebra.specs.Polynomials.{polynomial_sum, polynomial_product}
use Rattle.sf_algebra.specs.Rings.{Ring}
use Rattle.sf_algebra.specs.Terms.{Term}
use Rattle.sf_algebra.specs.Vectors.{Place, Vector, place_cmp, entry}

-- the terms of the row at a position; none where there is no row
abbrev pub row_at : List Vector → ℕ → List (Term Place)
row_at [] i = []
row_at (v ∷ vs) zero = v.terms
row_at (v ∷ vs) (suc i) = row_at vs i

-- c M: the combination of the rows of M with the coefficients c
abbrev pub row_combination : Ring → List Vector → List (Term Place) → List (Term Place)
row_combination ring rows c = combination (place_cmp ring.weights) place_product ring.modulus (λ k. k.monomial) (λ k. row_at rows k.position) c

-- the sum, over rows that stand from position i on, of the products of the entries of c at their positions and their
-- entries at j
abbrev pub entry_products : Ring → ℕ → List (Term Place) → ℕ → List Vector → List (Term Monomial)
entry_products ring j c i [] = []
entry_products ring j c i (v ∷ vs) =
    polynomial_sum ring (polynomial_product ring (entry i c) (entry j v.terms)) (entry_products ring j c (suc i) vs)

-- the unit vector of a generator of degree d at position i
abbrev pub unit_vector : ℤ → ℕ → Vector
unit_vector d i = record {
  degree = d;
  terms = record { at = record { position = i; monomial = one }; coefficient = 1 } ∷ [];
}

-- the unit vectors of generators of these degrees, the first of which stands at position i
abbrev pub unit_rows : ℕ → List ℤ → List Vector
unit_rows i [] = []
unit_rows i (d ∷ ds) = unit_vector d i ∷ unit_rows (suc i) ds

abbrev pub identity : Ring → List ℤ → Matrix
identity ring degrees = record { ring = ring; target = degrees; rows = unit_rows 0 degrees }

-- the rows of a, then those of b
abbrev pub stacked : Matrix → Matrix → Matrix
stacked a b = record { ring = a.ring; target = a.target; rows = a.rows ++ b.rows }

-- the ring is one, with a positive modulus, and the rows of b stand for the columns of a
pub record IsComposable (a b : Matrix) : Type 0 where
  pub positive : 0 < a.ring.modulus
  pub rings : a.ring ≡ b.ring
  pub degrees : row_degrees b ≡ a.target

-- each row of a times b
abbrev pub matrix_product : Matrix → Matrix → Matrix
matrix_product a b = record {
  ring = a.ring;
  target = b.target;
  rows = map (λ (v : Vector). record { degree = v.degree; terms = row_combination a.ring b.rows v.terms }) a.rows;
}

abbrev pub negated : Matrix → Matrix
negated m = record {
  ring = m.ring;
  target = m.target;
  rows = map (λ (v : Vector). record { degree = v.degree; terms = negative m.ring.modulus v.terms }) m.rows;
}

-- the terms of a polynomial at a position
abbrev pub at_position : ℕ → List (Term Monomial) → List (Term Place)
at_position i ts =
    map (λ (t : Term Monomial). record { at = record { position = i; monomial = t.at }; coefficient = t.coefficient }) ts

-- column j, the first of whose entries stands at position i
abbrev pub column_terms : ℕ → ℕ → List Vector → List (Term Place)
column_terms j i [] = []
column_terms j i (v ∷ vs) = at_position i (entry j v.terms) ++ column_terms j (suc i) vs

-- the columns from j on as rows, of the negatives of their degrees
abbrev pub column_rows : List Vector → ℕ → List ℤ → List Vector
column_rows rows j [] = []
column_rows rows j (d ∷ ds) = record { degree = neg_ℤ d; terms = column_terms j 0 rows } ∷ column_rows rows (suc j) ds

-- the columns as rows; degrees change sign
abbrev pub transposed : Matrix → Matrix
transposed m = record { ring = m.ring; target = map neg_ℤ (row_degrees m); rows = column_rows m.rows 0 m.target }

-- terms, so many positions further on
abbrev pub moved : ℕ → List (Term Place) → List (Term Place)
moved by ts =
    map (λ (t : Term Place). record { at = record { position = by + t.at.position; monomial = t.at.monomial }; coefficient = t.coefficient }) ts

-- the tensor product of a vector v and a vector w of a free module with n generators
abbrev pub kronecker_terms : Ring → ℕ → List (Term Place) → List (Term Place) → List (Term Place)
kronecker_terms ring n v w = combination (place_cmp ring.weights) place_product ring.modulus (λ k. k.monomial) (λ k. moved (k.position * n) w) v

-- the sums of a degree of the first list and one of the second, the first list's degree changing last
abbrev pub degree_sums : List ℤ → List ℤ → List ℤ
degree_sums ds es = flat_map (λ d. map (λ e. d +ℤ e) es) ds

-- the Kronecker product: each row of a with each row of b
abbrev pub kronecker : Matrix → Matrix → Matrix
kronecker a b = record {
  ring = a.ring;
  target = degree_sums a.target b.target;
  rows =
      flat_map (λ (v : Vector). map (λ (w : Vector). record { degree = v.degree +ℤ w.degree; terms = kronecker_terms a.ring (length b.target) v.terms w.terms }) b.rows) a.rows;
}

-- the terms at the positions from `from` to before `to`, counted from `from`
abbrev pub part_terms : ℕ → ℕ → List (Term Place) → List (Term Place)
part_terms from to ts =
    map (λ (t : Term Place). record { at = record { position = t.at.position - from; monomial = t.at.monomial }; coefficient = t.coefficient })
    (filter (λ (t : Term Place). nat_le from t.at.position && nat_lt t.at.position to) ts)

-- the part of a vector at these positions, which keeps the degree
abbrev pub vector_part : ℕ → ℕ → Vector → Vector
vector_part from to v = record { degree = v.degree; terms = part_terms from to v.terms }

-- the rows from r0 to before r1 in the columns from c0 to before c1
abbrev pub part : ℕ → ℕ → ℕ → ℕ → Matrix → Matrix
part r0 r1 c0 c1 m = record {
  ring = m.ring;
  target = slice_range m.target c0 c1;
  rows = map (vector_part c0 c1) (slice_range m.rows r0 r1);
}
