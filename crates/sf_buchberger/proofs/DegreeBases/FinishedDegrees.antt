-- The elements of a degree, whose leads are as many as the places of coefficients, with those of lower degrees.
use Rattle.std.proofs.Common.{◌≡◌, inl, Bool, ℕ, ◌≤◌, List, [], ◌∷◌, ◌++◌, length, map, filter, drop, sym, ◌∙◌, ap, subst, arith, ℤ, ◌<ℤ◌}
use Rattle.std.proofs.Math.Seq.{drop-append_seam}
use Rattle.std.specs.List.{AllByRecursion, list_any}
use Rattle.sf_algebra.specs.Matrices.{Matrix}
use Rattle.sf_algebra.specs.Rings.{IsOverField}
use Rattle.sf_algebra.specs.Vectors.{Place, Vector}
use Rattle.sf_algebra.proofs.Basics.Lists.{AllByRecursion-append, AllByRecursion-weaken}
use Rattle.sf_groebner.specs.Leads.{place_divides}
use Rattle.sf_groebner.specs.ReducedBases.{IsApart, IsMonic}
use Rattle.sf_groebner.specs.Spans.{IsGraphVector, graph_degrees}
use Rattle.sf_groebner.proofs.Basics.Items.{AllByRecursion-both, AllByRecursion-from_items, AllByRecursion-item, IsItem}
use Rattle.sf_groebner.proofs.Constructions.LeadDivisors.{is_divided-lead_places}
use Rattle.sf_groebner.proofs.PairLoops.PendingPairs.{IsItem-append_first, IsItem-append_second}
use Rattle.sf_counting.specs.Counts.{AreGraphColumns, IsFull, count_divided, count_sources}
use Rattle.sf_counting.proofs.Counting.FullDegrees.{IsFull-more}
use Rattle.sf_buchberger.specs.CountedRows.{HasNewRows, HasReducedTailBy, IsCounting}
use Rattle.sf_buchberger.specs.declared.counted.state.Counting.{Counting}
use Rattle.sf_buchberger.proofs.DegreeBases.ApartRows.{IsAdded, IsApart-more, IsGraded, IsSettled}
use Rattle.sf_buchberger.proofs.DegreeBases.Flags.{length-filter_map}

module _ (limit : ℕ) (m : Matrix) (prime : IsOverField m.ring) (before : Counting) (counting : IsCounting limit m before)
    (d : ℤ) (below : AllByRecursion (λ (v : Vector). v.degree <ℤ d) before.rows.rows) (now : Counting)
    (h : HasNewRows limit m before d now)
    (tails : AllByRecursion (HasReducedTailBy now.rows.rows) (drop (length before.rows.rows) now.rows.rows)) where
  abbrev all : List Vector
  all = now.rows.rows

  abbrev Graded : Vector → Type 0
  Graded = IsGraded m.ring.weights prime.weights (graph_degrees m)

  graded : AllByRecursion Graded all
  graded =
      AllByRecursion-both (IsGraphVector m) (λ (v : Vector). IsMonic v.terms) Graded
      (λ v inside monic. record { monic = monic; homogeneous = inside.vector.homogeneous }) all h.finding.rows.inside h.finding.rows.monic

  from_first : (v : Vector) → IsItem v before.rows.rows → IsItem v all
  from_first v item = subst (IsItem v) (sym h.rows) (IsItem-append_first v before.rows.rows h.more item)

  from_second : (v : Vector) → IsItem v h.more → IsItem v all
  from_second v item = subst (IsItem v) (sym h.rows) (IsItem-append_second v before.rows.rows h.more item)

  reduced : AllByRecursion (HasReducedTailBy all) h.more
  reduced =
      subst (AllByRecursion (HasReducedTailBy all))
      (ap (drop (length before.rows.rows)) h.rows ∙ drop-append_seam before.rows.rows h.more) tails

  -- the rows are apart
  apart : IsApart all
  apart =
      subst IsApart (sym h.rows)
      (IsApart-more m.ring.weights prime.weights (graph_degrees m) all d before.rows.rows h.more counting.apart
      (AllByRecursion-from_items (IsSettled m.ring.weights prime.weights (graph_degrees m) all d) before.rows.rows
      (λ v item. record {
        graded = AllByRecursion-item Graded all v graded (from_first v item);
        item = from_first v item;
        degree = inl (AllByRecursion-item (λ (w : Vector). w.degree <ℤ d) before.rows.rows v below item);
      }))
      (AllByRecursion-from_items (IsAdded m.ring.weights prime.weights (graph_degrees m) all d) h.more
      (λ v item. record {
        graded = AllByRecursion-item Graded all v graded (from_second v item);
        item = from_second v item;
        degree = AllByRecursion-item (λ (w : Vector). w.degree ≡ d) h.more v h.degrees item;
        tail = AllByRecursion-item (HasReducedTailBy all) h.more v reduced item;
      }))
      h.new)

  module _ (ks : List Place) (columns : AreGraphColumns before.variables m d ks) (flags : List Bool)
      (flagged : flags ≡ map (λ (k : Place). list_any (λ j. place_divides j k) now.leads) ks) (raised sources : ℕ)
      (raised_are : raised ≡ length (filter (λ (b : Bool). b) flags)) (sources_are : sources ≡ count_sources m ks)
      (enough : sources ≤ raised) where
    raised-count : raised ≡ count_divided all ks
    raised-count =
        raised_are ∙ ap (λ fs. length (filter (λ (b : Bool). b) fs)) flagged
        ∙ length-filter_map (λ (k : Place). list_any (λ j. place_divides j k) now.leads) ks
        ∙ (λ i. length (filter (λ (k : Place). list_any (λ j. place_divides j k) (h.finding.places i)) ks))
        ∙ sym (λ i. length (filter (λ (k : Place). is_divided-lead_places all k h.finding.rows.monic i) ks))

    -- they are full in this degree too
    full_here : IsFull before.variables m all d
    full_here = record { columns = ks; places = columns; enough = omega (arith, raised-count, sources_are, enough) }

    full_before : AllByRecursion (IsFull before.variables m all) before.full
    full_before =
        AllByRecursion-weaken _ _
        (λ e full. subst (λ (vs : List Vector). IsFull before.variables m vs e) (sym h.rows) (IsFull-more before.variables m before.rows.rows h.more e full))
        before.full counting.full

    -- so the degree is done
    pub IsCounting-degree : (full : List ℤ) → full ≡ now.full ++ d ∷ [] → IsCounting limit m (record now { full = full })
    IsCounting-degree full pushed =
        let f = h.finding in
        record {
          finding = record {
            ring = f.ring;
            target = f.target;
            rows = f.rows;
            sorted = f.sorted;
            few = f.few;
            low = f.low;
            places = f.places;
          };
          apart = apart;
          full = subst (AllByRecursion (IsFull now.variables m all)) (sym (pushed ∙ ap (λ es. es ++ d ∷ []) h.full))
              (subst (λ n. AllByRecursion (IsFull n m all) (before.full ++ d ∷ [])) (sym h.variables)
              (AllByRecursion-append _ before.full (d ∷ []) full_before (full_here, tt)));
        }
