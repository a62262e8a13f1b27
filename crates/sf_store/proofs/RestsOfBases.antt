-- A vector divided by the elements of a graph's basis: it has room, and the parts of the rest are its reduction.
use Rattle.std.proofs.Common.{ℕ, List, subst, arith, ℤ, pos, ◌+ℤ◌, ◌≤ℤ◌}
use Rattle.std.proofs.lemmas.Int.{ints}
use Rattle.sf_algebra.specs.Bounds.{HasSmallSize, IsSmallDegree}
use Rattle.sf_algebra.specs.Matrices.{Matrix, IsMatrix, row_degrees}
use Rattle.sf_algebra.specs.Multiples.{negative}
use Rattle.sf_algebra.specs.Rings.{Ring, IsOverField}
use Rattle.sf_algebra.specs.Terms.{Term}
use Rattle.sf_algebra.specs.Vectors.{Place, Vector, IsCanonicalRow, IsVector}
use Rattle.sf_algebra.proofs.Basics.Lists.{AllByRecursion-append, AllByRecursion-weaken}
use Rattle.sf_groebner.specs.BasisParts.{value_part}
use Rattle.sf_groebner.specs.Divisions.{IsDivided}
use Rattle.sf_groebner.specs.Reductions.{IsReduction}
use Rattle.sf_groebner.specs.Spans.{coefficient_terms, graph_degrees}
use Rattle.sf_matrix.specs.Bounds.{DegreeFits}
use Rattle.sf_matrix.specs.Tables.{GREATEST_REDUCED_DEGREE}
use Rattle.sf_buchberger.specs.WholeBases.{IsWholeBasis}
use Rattle.sf_buchberger.specs.declared.whole.GraphBasis.{GraphBasis}
use Rattle.sf_store.proofs.GraphRests.{graph_reduction}

-- a degree up to the greatest has room above small degrees
room_above : (d e : ℤ) → d ≤ℤ GREATEST_REDUCED_DEGREE → IsSmallDegree e → d ≤ℤ (e +ℤ pos 65535)
room_above d e up small = let lower = small.0 in omega (arith, ints)

pub DegreeFits-small : (m : Matrix) → HasSmallSize m → (d : ℤ) → d ≤ℤ GREATEST_REDUCED_DEGREE
    → DegreeFits (graph_degrees m) d
DegreeFits-small m size d up =
    AllByRecursion-weaken IsSmallDegree (λ (e : ℤ). d ≤ℤ (e +ℤ pos 65535)) (λ e small. room_above d e up small) (graph_degrees m)
    (AllByRecursion-append IsSmallDegree m.target (row_degrees m) size.column_degrees size.row_degrees)

module _ (limit : ℕ) (m : Matrix) (b : GraphBasis) (h : IsWholeBasis limit m b) (v : Vector)
    (rest quotients : List (Term Place))
    (divided : IsDivided b.elements.ring b.elements.target b.elements.rows v.degree v.terms rest quotients) where
  -- over the ring and the free module of the graph of m
  divided_graph : IsDivided m.ring (graph_degrees m) b.elements.rows v.degree v.terms rest quotients
  divided_graph =
      subst (λ (x : Ring × List ℤ). IsDivided x.0 x.1 b.elements.rows v.degree v.terms rest quotients)
      (λ i. (h.ring i, h.target i)) divided

  pub rest_canonical : IsCanonicalRow m.ring rest
  rest_canonical = divided_graph.vector.canonical

  pub basis_reduction : IsOverField m.ring → IsMatrix m → IsVector m.ring m.target v
      → IsReduction m v (value_part m (record { degree = v.degree; terms = rest }))
      (record { degree = v.degree; terms = negative m.ring.modulus (coefficient_terms m rest) })
  basis_reduction prime matrix vector =
      graph_reduction m prime matrix b.elements.rows h.small.reduced v vector rest quotients divided_graph
