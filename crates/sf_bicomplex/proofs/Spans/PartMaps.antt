-- Leading columns are a map of classes from a part of homology to the last page, and so are they the other way round.
use Rattle.std.proofs.Common.{◌≡◌, ℕ, suc, ◌<◌, ◌≤◌, List, [], ◌∷◌, sym, ◌∙◌, subst, refl, ℤ, pos, ◌-ℤ◌}
use Rattle.std.specs.List.{AllByRecursion}
use Rattle.sf_algebra.specs.Matrices.{IsMatrix, Matrix, degrees_of}
use Rattle.sf_algebra.specs.MatrixOperations.{part_terms, row_combination}
use Rattle.sf_algebra.specs.Rings.{IsOverField}
use Rattle.sf_algebra.specs.Terms.{Term}
use Rattle.sf_algebra.specs.Vectors.{IsHomogeneous, IsVector, Place, Vector}
use Rattle.sf_algebra.proofs.GradedMatrices.MatrixRows.{with_terms}
use Rattle.sf_algebra.proofs.GradedMatrices.PartTerms.{IsCanonical-part_terms}
use Rattle.sf_algebra.proofs.GradedMatrices.ProductParts.{part_terms-row_combination}
use Rattle.sf_algebra.proofs.GradedMatrices.Stacks.{degrees-with_terms}
use Rattle.sf_algebra.proofs.Operators.Correspondences.{converse}
use Rattle.sf_algebra.proofs.Vectors.RowParts.{HasCanonicalRows}
use Rattle.sf_algebra.proofs.Vectors.Rows.{row_combination-matrix_product}
use Rattle.sf_groebner.specs.Homology.{IsCycle}
use Rattle.sf_groebner.specs.Maps.{AreEqualModulo}
use Rattle.sf_groebner.specs.MinimalGenerators.{matrix_of}
use Rattle.sf_groebner.specs.Spans.{InSpan}
use Rattle.sf_groebner.proofs.Spanning.Submodules.{IsSubmodule}
use Rattle.sf_presented.specs.Presented.{IsPresentedBy}
use Rattle.sf_presented.proofs.EqualRows.{AreEqualRows, EqualRows-combined}
use Rattle.sf_bicomplex.specs.Bicomplexes.{Bicomplex, IsBicomplex}
use Rattle.sf_bicomplex.specs.InducedFiltrations.{HasLeadingColumn, IsCycleBelow, IsOfPart, IsTotalBoundary}
use Rattle.sf_bicomplex.specs.Pages.{IsBoundaryOfPage, IsCycleOfPage}
use Rattle.sf_bicomplex.specs.TotalColumns.{column_start, place, total_degrees, total_map, total_module}
use Rattle.sf_bicomplex.proofs.Filtrations.PartLaws.{class_changed, column-degree, column_changed, leading_columns, parts_as_last_page}
use Rattle.sf_bicomplex.proofs.Filtrations.TotalBoundaries.{boundaries-submodule}
use Rattle.sf_bicomplex.proofs.Spans.ClassMaps.{Correspond, IsClassMap}
use Rattle.sf_bicomplex.proofs.Spans.DifferentialMaps.{IsVector-combined}
use Rattle.sf_bicomplex.proofs.Spans.PageSpans.{IsSpanned-cycles_below, IsSpanned-place}
use Rattle.sf_bicomplex.proofs.Spans.SpannedModules.{IsSubmodule-spanned}

module _ (b : Bicomplex) (h : IsBicomplex b) (prime : IsOverField b.ring) (above n below : ℤ) (first : n ≡ above -ℤ pos 1)
    (last : below ≡ n -ℤ pos 1) (rows : List Vector) (matrix : IsMatrix (matrix_of b.ring (total_degrees b n) rows))
    (relations : Matrix)
    (presented : IsPresentedBy (IsCycle (total_map b n below) (total_module b below)) (IsTotalBoundary b above n)
    (matrix_of b.ring (total_degrees b n) rows) relations) (r p : ℕ) (enough : b.columns ≤ r) (inside : p < b.columns) where
  abbrev g : Matrix
  g = matrix_of b.ring (total_degrees b n) rows

  abbrev F : Vector → Vector → Type 0
  F = HasLeadingColumn b above n below (matrix_of b.ring (total_degrees b n) rows) p

  abbrev column_terms : List (Term Place) → List (Term Place)
  column_terms = part_terms (column_start b n (suc p)) (column_start b n p)

  place_module : IsSubmodule b.ring (place b n p).target (InSpan (place b n p))
  place_module =
      IsSubmodule-spanned b.ring (place b n p).target h.is_ring (InSpan (place b n p)) (IsSpanned-place b h prime n p)

  cycles_module : IsSubmodule b.ring (total_degrees b n) (IsCycleBelow b n below (suc p))
  cycles_module =
      IsSubmodule-spanned b.ring (total_degrees b n) h.is_ring (IsCycleBelow b n below (suc p))
      (IsSpanned-cycles_below b h prime n below last (suc p))

  -- the cycles by which vectors correspond
  record Gathered (cs zs : List Vector) : Type 0 where
    cycles : List Vector
    inside' : AllByRecursion (IsCycleBelow b n below (suc p)) cycles
    degrees : degrees_of cycles ≡ degrees_of cs
    also_degrees : degrees_of zs ≡ degrees_of cs
    sames : AreEqualRows b.ring (IsTotalBoundary b above n) (with_terms (row_combination b.ring rows) cs) cycles
    columns : AreEqualRows b.ring (InSpan (place b n p)) zs (with_terms column_terms cycles)
    sources : AllByRecursion (IsVector b.ring (degrees_of rows)) cs
    targets : AllByRecursion (IsVector b.ring (place b n p).target) zs

  gathered : (cs zs : List Vector) → Correspond F cs zs → Gathered cs zs
  gathered [] [] e = record {
    cycles = [];
    inside' = tt;
    degrees = refl;
    also_degrees = refl;
    sames = tt;
    columns = tt;
    sources = tt;
    targets = tt;
  }
  gathered [] (z ∷ zs) e = absurd e
  gathered (c ∷ cs) [] e = absurd e
  gathered (c ∷ cs) (z ∷ zs) e =
      let rest = gathered cs zs e.1 in
      let degree : e.0.cycle.degree ≡ c.degree = sym e.0.same.degrees in
      let also_degree : z.degree ≡ c.degree = e.0.column.degrees ∙ sym e.0.same.degrees in
      record {
        cycles = e.0.cycle ∷ rest.cycles;
        inside' = (e.0.inside, rest.inside');
        degrees = λ i. degree i ∷ rest.degrees i;
        also_degrees = λ i. also_degree i ∷ rest.also_degrees i;
        sames = (e.0.same, rest.sames);
        columns = (e.0.column, rest.columns);
        sources = (e.0.coefficients, rest.sources);
        targets = (e.0.vector, rest.targets);
      }

  canonical-cycles : (vs : List Vector) → AllByRecursion (IsCycleBelow b n below (suc p)) vs → HasCanonicalRows b.ring vs
  canonical-cycles [] e = tt
  canonical-cycles (v ∷ vs) e = (e.0.stands.vector.canonical, canonical-cycles vs e.1)

  canonical-columns : (vs : List Vector) → AllByRecursion (IsCycleBelow b n below (suc p)) vs
      → HasCanonicalRows b.ring (with_terms column_terms vs)
  canonical-columns [] e = tt
  canonical-columns (v ∷ vs) e = (
    IsCanonical-part_terms b.ring (column_start b n (suc p)) (column_start b n p) v.terms e.0.stands.vector.canonical,
    canonical-columns vs e.1,
  )

  combinations : (cs zs : List Vector) → Correspond F cs zs → (c : Vector) → IsVector b.ring (degrees_of cs) c
      → F (record { degree = c.degree; terms = row_combination b.ring cs c.terms })
      (record { degree = c.degree; terms = row_combination b.ring zs c.terms })
  combinations cs zs e c x =
      let k = gathered cs zs e in
      let at_targets = subst (λ ds. IsVector b.ring ds c) (sym k.also_degrees) x in
      let product : row_combination b.ring (with_terms (row_combination b.ring rows) cs) c.terms
      ≡ row_combination b.ring rows (row_combination b.ring cs c.terms) =
      row_combination-matrix_product b.ring h.is_ring.modulus (matrix_of b.ring (degrees_of rows) cs) g c.terms refl in
      record {
        coefficients = IsVector-combined b.ring h.is_ring (degrees_of rows) cs k.sources c x;
        vector = IsVector-combined b.ring h.is_ring (place b n p).target zs k.targets c at_targets;
        cycle = record { degree = c.degree; terms = row_combination b.ring k.cycles c.terms };
        inside = cycles_module.combinations k.cycles k.inside' c.degree c.terms
            (subst (λ ds. IsHomogeneous b.ring.weights ds c.degree c.terms) (sym k.degrees) x.homogeneous);
        same =
            subst (λ ts. AreEqualModulo b.ring (IsTotalBoundary b above n) (record { degree = c.degree; terms = ts })
            (record { degree = c.degree; terms = row_combination b.ring k.cycles c.terms })) product
            (EqualRows-combined b.ring h.is_ring (IsTotalBoundary b above n) (total_degrees b n)
            (boundaries-submodule b h above n first) (with_terms (row_combination b.ring rows) cs) k.cycles
            (canonical-cycles k.cycles k.inside') k.sames c
            (subst (λ ds. IsHomogeneous b.ring.weights ds c.degree c.terms)
            (sym (degrees-with_terms (row_combination b.ring rows) cs)) x.homogeneous));
        column =
            subst (λ ts. AreEqualModulo b.ring (InSpan (place b n p))
            (record { degree = c.degree; terms = row_combination b.ring zs c.terms })
            (record { degree = c.degree; terms = ts }))
            (sym (part_terms-row_combination b.ring h.is_ring.modulus (column_start b n (suc p)) (column_start b n p)
            k.cycles c.terms))
            (EqualRows-combined b.ring h.is_ring (InSpan (place b n p)) (place b n p).target place_module zs
            (with_terms column_terms k.cycles) (canonical-columns k.cycles k.inside') k.columns c at_targets.homogeneous);
      }

  pub parts-class_map : IsClassMap b.ring
      (IsOfPart b above n below (matrix_of b.ring (total_degrees b n) rows) (suc p))
      (IsOfPart b above n below (matrix_of b.ring (total_degrees b n) rows) p) (IsCycleOfPage b r n below p)
      (IsBoundaryOfPage b r above n p) (HasLeadingColumn b above n below (matrix_of b.ring (total_degrees b n) rows) p)
  parts-class_map =
      let columns = leading_columns b h above n below first last rows matrix relations presented r p enough inside in
      record {
        first = λ c z e. (columns.0 c).1 (z, e);
        inside = λ c z e. (columns.1 z).1 (c, e);
        degrees = column-degree b h above n below first last rows matrix relations presented p;
        image = λ c e. (columns.0 c).0 e;
        equal = λ c y z e cycle same.
            column_changed b h above n below first last rows matrix relations presented r p enough inside c y z e
            cycle.vector same;
        classes = λ c e y z k l.
            (parts_as_last_page b h above n below first last rows matrix relations presented r p enough inside c e y z k
            l).0;
        combinations = combinations;
      }

  correspond-degrees : (zs cs : List Vector) → Correspond (converse F) zs cs → degrees_of zs ≡ degrees_of cs
  correspond-degrees [] [] e = refl
  correspond-degrees [] (c ∷ cs) e = absurd e
  correspond-degrees (z ∷ zs) [] e = absurd e
  correspond-degrees (z ∷ zs) (c ∷ cs) e =
      let degree = column-degree b h above n below first last rows matrix relations presented p c z e.0 in
      let rest = correspond-degrees zs cs e.1 in
      λ i. degree i ∷ rest i

  turned : (zs cs : List Vector) → Correspond (converse F) zs cs → Correspond F cs zs
  turned [] [] e = tt
  turned [] (c ∷ cs) e = absurd e
  turned (z ∷ zs) [] e = absurd e
  turned (z ∷ zs) (c ∷ cs) e = (e.0, turned zs cs e.1)

  pub parts-class_map_back : IsClassMap b.ring (IsCycleOfPage b r n below p) (IsBoundaryOfPage b r above n p)
      (IsOfPart b above n below (matrix_of b.ring (total_degrees b n) rows) (suc p))
      (IsOfPart b above n below (matrix_of b.ring (total_degrees b n) rows) p)
      (converse (HasLeadingColumn b above n below (matrix_of b.ring (total_degrees b n) rows) p))
  parts-class_map_back =
      let columns = leading_columns b h above n below first last rows matrix relations presented r p enough inside in
      record {
        first = λ z c e. (columns.1 z).1 (c, e);
        inside = λ z c e. (columns.0 c).1 (z, e);
        degrees = λ z c e. sym (column-degree b h above n below first last rows matrix relations presented p c z e);
        image = λ z e. (columns.1 z).0 e;
        equal = λ z c e k part same.
            class_changed b h above n below first last rows matrix relations presented r p enough inside c e z k
            part.coefficients same;
        classes = λ y z c e k l.
            (parts_as_last_page b h above n below first last rows matrix relations presented r p enough inside c e y z k
            l).1;
        combinations = λ zs cs e c x. combinations cs zs (turned zs cs e) c
            (subst (λ ds. IsVector b.ring ds c) (correspond-degrees zs cs e) x);
      }
