-- Past the last columns nothing changes, so page 3 and the homology of page 2 are page 2, and the matrices between them the
-- identity; the generators lead the cycles by which they are cycles of the page.
use Rattle.std.proofs.Common.{◌↔◌, [], ◌∷◌, refl, sym, subst, arith, pos}
use Rattle.std.proofs.lemmas.Int.{ints}
use Rattle.sf_algebra.specs.MatrixOperations.{unit_vector}
use Rattle.sf_algebra.specs.Multiples.{combination, combination_terms}
use Rattle.sf_algebra.specs.Residues.{negative_mod, product_mod, sum_mod}
use Rattle.sf_algebra.specs.Rings.{plain}
use Rattle.sf_algebra.specs.Sums.{add, insert, normal}
use Rattle.sf_algebra.specs.Vectors.{IsVector, Vector}
use Rattle.sf_groebner.specs.Examples.{term, vector}
use Rattle.sf_groebner.specs.Presentations.{IsRelation}
use Rattle.sf_groebner.specs.Spans.{combined}
use Rattle.sf_groebner.proofs.Spanning.Submodules.{IsSubmodule}
use Rattle.sf_groebner.proofs.Uniqueness.PresentedModules.{IsPresentation-same}
use Rattle.sf_presented.proofs.EqualModulo.{AreEqualModulo-equal}
use Rattle.sf_bicomplex.specs.Descriptions.{Describes}
use Rattle.sf_bicomplex.specs.InducedFiltrations.{HasLeadingColumn}
use Rattle.sf_bicomplex.specs.NextPages.{HasPageCoordinates}
use Rattle.sf_bicomplex.specs.Pages.{IsBoundaryOfPage, IsCycleOfPage}
use Rattle.sf_bicomplex.specs.TensorExample.{HasIdentityFromHomology, HasIdentityToHomology, HasLastResiduePage, HasResidueLeadingColumns, HasResiduePageHomology, pair_generators, pair_relations, paired_cycles, residue_bicomplex}
use Rattle.sf_bicomplex.proofs.Examples.FreeSpots.{plain_ring}
use Rattle.sf_bicomplex.proofs.Examples.PairRelations.{pair-span}
use Rattle.sf_bicomplex.proofs.Examples.TailPages.{field}
use Rattle.sf_bicomplex.proofs.Examples.TensorPages.{B, Z, all_cycles, generators_combined, residue-page}
use Rattle.sf_bicomplex.proofs.Examples.TensorSpots.{residue-bicomplex}
use Rattle.sf_bicomplex.proofs.Pages.PageLaws.{last_pages}
use Rattle.sf_bicomplex.proofs.Spans.PageSpans.{IsSpanned-boundaries}
use Rattle.sf_bicomplex.proofs.Spans.SpannedModules.{IsSubmodule-spanned}

abbrev Z' : Vector → Type 0
Z' = IsCycleOfPage residue_bicomplex 3 (pos 1) (pos 0) 1

abbrev B' : Vector → Type 0
B' = IsBoundaryOfPage residue_bicomplex 3 (pos 2) (pos 1) 1

same_cycles : (v : Vector) → Z v ↔ Z' v
same_cycles v =
    (last_pages residue_bicomplex residue-bicomplex (pos 1) (pos 0) refl 2 3 1 (omega arith) (omega arith) v).0
    (omega arith)

same_boundaries : (v : Vector) → B v ↔ B' v
same_boundaries v =
    (last_pages residue_bicomplex residue-bicomplex (pos 2) (pos 1) refl 2 3 1 (omega arith) (omega arith) v).1
    (omega arith)

pub last-residue_page : HasLastResiduePage
last-residue_page =
    IsPresentation-same (plain 101) (pos 1 ∷ pos 1 ∷ []) Z B pair_generators pair_relations residue-page Z' B'
    (λ v. (same_cycles v).0) (λ v. (same_cycles v).1) (λ v. (same_boundaries v).0) (λ v. (same_boundaries v).1)

-- coordinates in the generators are the vectors themselves
to_coordinates : (N : Vector → Type 0) → ((v : Vector) → N v → IsVector (plain 101) (pos 1 ∷ pos 1 ∷ []) v)
    → (v : Vector) → N v → IsRelation pair_generators N v
to_coordinates N vectors v h = record {
  coefficients = vectors v h;
  inside = subst N (sym (generators_combined v (vectors v h))) h;
}

from_coordinates : (N : Vector → Type 0) (v : Vector) → IsRelation pair_generators N v → N v
from_coordinates N v h = subst N (generators_combined v h.coefficients) h.inside

pub residue-page_homology : HasResiduePageHomology
residue-page_homology =
    IsPresentation-same (plain 101) (pos 1 ∷ pos 1 ∷ []) Z' B' pair_generators pair_relations last-residue_page
    (IsRelation pair_generators Z') (IsRelation pair_generators B') (to_coordinates Z' (λ v h. h.vector))
    (from_coordinates Z') (to_coordinates B' (λ v h. h.vector)) (from_coordinates B')

last_boundaries : IsSubmodule (plain 101) (pos 1 ∷ pos 1 ∷ []) B'
last_boundaries =
    IsSubmodule-spanned (plain 101) (pos 1 ∷ pos 1 ∷ []) plain_ring B'
    (IsSpanned-boundaries residue_bicomplex residue-bicomplex field (pos 2) (pos 1) refl 3 1 (omega arith))

own_coordinates : (v : Vector) → IsVector (plain 101) (pos 1 ∷ pos 1 ∷ []) v
    → HasPageCoordinates residue_bicomplex 2 (pos 1) 1 pair_generators v v
own_coordinates v h = record {
  cycle = (same_cycles v).0 (all_cycles v h);
  coefficients = h;
  same =
      AreEqualModulo-equal (plain 101) plain_ring (pos 1 ∷ pos 1 ∷ []) B' last_boundaries v
      (combined pair_generators v) h.canonical (sym (generators_combined v h));
}

-- the generators are reduced, so what corresponds to itself among them is described by the identity
described : (F : Vector → Vector → Type 0) → F (unit_vector (pos 1) 0) (unit_vector (pos 1) 0)
    → F (unit_vector (pos 1) 1) (unit_vector (pos 1) 1)
    → Describes F pair_generators pair_relations pair_generators pair_generators
described F h k = record {
  ring = refl;
  target = refl;
  rows =
      let first : IsVector (plain 101) (pos 1 ∷ pos 1 ∷ []) (unit_vector (pos 1) 0) = search (arith, ints) in
      let second : IsVector (plain 101) (pos 1 ∷ pos 1 ∷ []) (unit_vector (pos 1) 1) = search (arith, ints) in (
        record {
          coefficients = first;
          reduced = record { basis = pair_relations.rows; reduced_basis = pair-span; reduced = search arith };
          corresponds = subst (F (unit_vector (pos 1) 0)) (sym (generators_combined (unit_vector (pos 1) 0) first)) h;
        },
        (
          record {
            coefficients = second;
            reduced = record { basis = pair_relations.rows; reduced_basis = pair-span; reduced = search arith };
            corresponds = subst (F (unit_vector (pos 1) 1)) (sym (generators_combined (unit_vector (pos 1) 1) second)) k;
          },
          tt,
        ),
      );
}

first_coordinates : HasPageCoordinates residue_bicomplex 2 (pos 1) 1 pair_generators (unit_vector (pos 1) 0) (unit_vector (pos 1) 0)
first_coordinates = own_coordinates (unit_vector (pos 1) 0) (search (arith, ints))

second_coordinates : HasPageCoordinates residue_bicomplex 2 (pos 1) 1 pair_generators (unit_vector (pos 1) 1) (unit_vector (pos 1) 1)
second_coordinates = own_coordinates (unit_vector (pos 1) 1) (search (arith, ints))

pub identity-to_homology : HasIdentityToHomology
identity-to_homology =
    described (HasPageCoordinates residue_bicomplex 2 (pos 1) 1 pair_generators) first_coordinates second_coordinates

pub identity-from_homology : HasIdentityFromHomology
identity-from_homology =
    described (λ c v. HasPageCoordinates residue_bicomplex 2 (pos 1) 1 pair_generators v c) first_coordinates
    second_coordinates

-- the generators lead the cycles
first_leads : HasLeadingColumn residue_bicomplex (pos 2) (pos 1) (pos 0) paired_cycles 1 (unit_vector (pos 1) 0) (unit_vector (pos 1) 0)
unfolding add combination combination_terms normal insert sum_mod product_mod negative_mod
first_leads = record {
  coefficients = search (arith, ints);
  vector = search (arith, ints);
  cycle = vector 1 (term 1 0 [] ∷ term 100 2 [] ∷ []);
  inside = record {
    stands = record { vector = search (arith, ints); below = search (arith, ints) };
    cycle = record { coefficients = vector 1 []; homogeneous = search (arith, ints); value = refl };
  };
  same = record {
    degrees = refl;
    difference = record { coefficients = vector 1 []; homogeneous = search (arith, ints); value = refl };
  };
  column = record {
    degrees = refl;
    difference = record { coefficients = vector 1 []; homogeneous = search (arith, ints); value = refl };
  };
}

second_leads : HasLeadingColumn residue_bicomplex (pos 2) (pos 1) (pos 0) paired_cycles 1 (unit_vector (pos 1) 1) (unit_vector (pos 1) 1)
unfolding add combination combination_terms normal insert sum_mod product_mod negative_mod
second_leads = record {
  coefficients = search (arith, ints);
  vector = search (arith, ints);
  cycle = vector 1 (term 1 1 [] ∷ term 100 3 [] ∷ []);
  inside = record {
    stands = record { vector = search (arith, ints); below = search (arith, ints) };
    cycle = record { coefficients = vector 1 []; homogeneous = search (arith, ints); value = refl };
  };
  same = record {
    degrees = refl;
    difference = record { coefficients = vector 1 []; homogeneous = search (arith, ints); value = refl };
  };
  column = record {
    degrees = refl;
    difference = record { coefficients = vector 1 []; homogeneous = search (arith, ints); value = refl };
  };
}

pub residue-leading_columns : HasResidueLeadingColumns
residue-leading_columns =
    described (HasLeadingColumn residue_bicomplex (pos 2) (pos 1) (pos 0) paired_cycles 1) first_leads second_leads
