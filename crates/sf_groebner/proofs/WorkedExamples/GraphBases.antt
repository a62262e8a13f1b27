-- A list that begins with the graph's own rows, each a row of the matrix and a unit vector, is the reduced basis of the
-- graph where its pairs reduce to zero.
use Rattle.std.proofs.Common.{◌≡◌, ℕ, ◌+◌, ◌<◌, List, ◌++◌, length, map, sym, ◌∙◌, ap, subst}
use Rattle.std.specs.List.{AllByRecursion}
use Rattle.sf_algebra.specs.Matrices.{Matrix, row_degrees, IsMatrix}
use Rattle.sf_algebra.specs.MatrixOperations.{row_combination, unit_rows}
use Rattle.sf_algebra.specs.Rings.{IsRing}
use Rattle.sf_algebra.specs.Terms.{Term}
use Rattle.sf_algebra.specs.Vectors.{Place, Vector, IsVector}
use Rattle.sf_algebra.proofs.Basics.Lists.{AllByRecursion-front, AllByRecursion-weaken}
use Rattle.sf_algebra.proofs.GradedMatrices.MatrixRows.{with_terms, StandsWithin}
use Rattle.sf_algebra.proofs.GradedMatrices.ProductParts.{part_terms-row_combination}
use Rattle.sf_algebra.proofs.GradedMatrices.Stacks.{degrees-with_terms}
use Rattle.sf_algebra.proofs.Vectors.HomogeneousVectors.{IsVector-row_combination}
use Rattle.sf_algebra.proofs.Vectors.UnitRows.{row_combination-unit_rows}
use Rattle.sf_groebner.specs.Criterion.{HaveLeadsAtOnePosition, IsForRows, IsMonicRow, ReducesToZero}
use Rattle.sf_groebner.specs.ReducedBases.{HasDividedLead, IsApart, IsMonic, IsSorted, IsGraphBasis}
use Rattle.sf_groebner.specs.Spans.{IsCoefficients, graph_degrees, value_terms, coefficient_terms, IsGraphVector}
use Rattle.sf_groebner.proofs.PairLoops.GrowingRows.{length-more, row_combination-more_rows}
use Rattle.sf_groebner.proofs.PairTheorems.Buchberger.{buchberger}
use Rattle.sf_groebner.proofs.PartsOfBases.GraphParts.{IsWithin-IsVector, IsWithin-coefficients, length-graph_degrees, graph_coefficients}
use Rattle.sf_groebner.proofs.PartsOfBases.PairedVectors.{paired_terms, paired_terms-parts}

-- what is asked of the list: the graph's own rows, then more
pub record IsGraphCandidate (m : Matrix) (rows more : List Vector) : Type 0 where
  -- the values of the first rows are the matrix, their coefficients the unit vectors
  pub values : with_terms (value_terms m) rows ≡ m.rows
  pub units : with_terms (coefficient_terms m) rows ≡ unit_rows 0 (row_degrees m)
  pub inside : AllByRecursion (IsGraphVector m) (rows ++ more)
  pub monic : AllByRecursion (IsMonicRow m.ring) (rows ++ more)
  pub pairs : (i j : ℕ) → i < j → j < length (rows ++ more) → HaveLeadsAtOnePosition (rows ++ more) i j
      → ReducesToZero m.ring (rows ++ more) i j
  pub apart : IsApart (rows ++ more)
  pub sorted : IsSorted m.ring.weights (rows ++ more)

module _ (m : Matrix) (positive : IsRing m.ring) (rows more : List Vector) (h : IsGraphCandidate m rows more) where
  -- the first rows as a matrix over the graph's module
  abbrev over_graph : Matrix
  over_graph = record { ring = m.ring; target = graph_degrees m; rows = rows }

  IsMatrix-over_graph : IsMatrix over_graph
  IsMatrix-over_graph =
      AllByRecursion-weaken _ _ (λ v k. k.vector) rows (AllByRecursion-front (IsGraphVector m) rows more h.inside)

  row_degrees-over_graph : row_degrees over_graph ≡ row_degrees m
  row_degrees-over_graph = sym (degrees-with_terms (value_terms m) rows) ∙ ap (map (λ (v : Vector). v.degree)) h.values

  module _ (w : Vector) (of_graph : IsGraphVector m w) where
    abbrev own : List (Term Place)
    own = coefficient_terms m w.terms

    abbrev combination : List (Term Place)
    combination = row_combination m.ring rows own

    IsCoefficients-over_graph : IsCoefficients over_graph (record { degree = w.degree; terms = own })
    IsCoefficients-over_graph =
        subst (λ ds. IsVector m.ring ds (record { degree = w.degree; terms = own })) (sym row_degrees-over_graph)
        (graph_coefficients m w of_graph)

    IsVector-combination : IsVector m.ring (graph_degrees m) (record { degree = w.degree; terms = combination })
    IsVector-combination =
        IsVector-row_combination over_graph positive.modulus IsMatrix-over_graph
        (record { degree = w.degree; terms = own }) IsCoefficients-over_graph

    within : (v : Vector) → IsVector m.ring (graph_degrees m) v → StandsWithin (length m.target + length m.rows) v.terms
    within v k =
        subst (λ n. StandsWithin n v.terms) (length-graph_degrees m) (IsWithin-IsVector m.ring (graph_degrees m) v k)

    value_terms-combination : value_terms m combination ≡ value_terms m w.terms
    value_terms-combination =
        part_terms-row_combination m.ring positive.modulus 0 (length m.target) rows own
        ∙ ap (λ vs. row_combination m.ring vs own) h.values
        ∙ sym of_graph.value

    coefficient_terms-combination : coefficient_terms m combination ≡ own
    coefficient_terms-combination =
        let of_rows = graph_coefficients m w of_graph in
        part_terms-row_combination m.ring positive.modulus (length m.target) (length m.target + length m.rows) rows own
        ∙ ap (λ vs. row_combination m.ring vs own) h.units
        ∙ row_combination-unit_rows m.ring positive.modulus (row_degrees m) own of_rows.canonical
        (IsWithin-IsVector m.ring (row_degrees m) _ of_rows)

    -- a vector of the graph is the combination of the first rows with its coefficients
    combination-graph : combination ≡ w.terms
    combination-graph =
        sym (paired_terms-parts m.ring.weights (length m.target) (length m.rows) combination IsVector-combination.canonical.descending (within _ IsVector-combination))
        ∙ (λ i. paired_terms (length m.target) (value_terms-combination i) (coefficient_terms-combination i))
        ∙ paired_terms-parts m.ring.weights (length m.target)
        (length m.rows) w.terms of_graph.vector.canonical.descending (within w of_graph.vector)

    for_rows : AllByRecursion (IsForRows rows) own
    for_rows = IsWithin-coefficients over_graph (record { degree = w.degree; terms = own }) IsCoefficients-over_graph

    HasDividedLead-graph : HasDividedLead (rows ++ more) w.terms
    HasDividedLead-graph =
        subst (HasDividedLead (rows ++ more))
        (row_combination-more_rows rows more m.ring positive own for_rows ∙ combination-graph)
        (buchberger m.ring positive (rows ++ more) h.monic h.pairs own
        (AllByRecursion-weaken _ _ (λ t k. length-more rows more t.at.position k) own for_rows))

  pub reduced_graph : IsGraphBasis m (rows ++ more)
  reduced_graph = record {
    inside = h.inside;
    monic = AllByRecursion-weaken (IsMonicRow m.ring) (λ v. IsMonic v.terms) (λ v k. k.monic) (rows ++ more) h.monic;
    complete = λ w k. HasDividedLead-graph w k;
    apart = h.apart;
    sorted = h.sorted;
  }
