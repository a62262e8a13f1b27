-- Division of a homogeneous vector by monic rows: a rest no term of which a lead divides. (Cox, Little, O'Shea, "Using
-- Algebraic Geometry", chapter 5, section 2.)
use Rattle.std.proofs.Common.{◌≡◌, inl, inr, false, ℕ, ◌<◌, List, [], ◌∷◌, length, sym, ◌∙◌, ap, subst, ℤ}
use Rattle.std.proofs.lemmas.Bool.{cases_Bool}
use Rattle.std.specs.declared.cmp.Ordering.TheVariants.{Less}
use Rattle.std.specs.List.{AllByRecursion}
use Rattle.sf_algebra.specs.Matrices.{degrees_of}
use Rattle.sf_algebra.specs.MatrixOperations.{row_combination}
use Rattle.sf_algebra.specs.Multiples.{negative}
use Rattle.sf_algebra.specs.Rings.{Ring, IsRing, IsOverField}
use Rattle.sf_algebra.specs.Terms.{Term}
use Rattle.sf_algebra.specs.VectorOperations.{row_sum}
use Rattle.sf_algebra.specs.Vectors.{Place, Vector, place_cmp, IsHomogeneous, IsVector, IsCanonicalRow}
use Rattle.sf_algebra.proofs.Basics.Lists.{AllByRecursion-weaken}
use Rattle.sf_algebra.proofs.Monomials.Orders.{place_cmp_total}
use Rattle.sf_algebra.proofs.Monomials.Weights.{field_ring}
use Rattle.sf_algebra.proofs.Multiplying.Keys.{place_keys}
use Rattle.sf_algebra.proofs.Terms.Coefficients.{IsCanonical-tail}
use Rattle.sf_algebra.proofs.Terms.Negatives.{EachPlace-negative}
use Rattle.sf_algebra.proofs.Terms.Normal.{EachPlace-add}
use Rattle.sf_algebra.proofs.Vectors.Degrees.{IsHomogeneous-row_combination}
use Rattle.sf_algebra.proofs.Vectors.HomogeneousVectors.{IsVector-add, IsVector-negative, IsVector-nil}
use Rattle.sf_algebra.proofs.Vectors.RowSums.{row_sum-assoc, row_sum-comm, row_sum-nil_first}
use Rattle.sf_algebra.proofs.Vectors.Rows.{IsCanonical-row_combination, row_combination-append, row_combination-nil}
use Rattle.sf_groebner.specs.Criterion.{lead_at}
use Rattle.sf_groebner.specs.Divisions.{AreBelow, IsDivided, left_over, step, step_tail}
use Rattle.sf_groebner.specs.Leads.{PlaceDivides}
use Rattle.sf_groebner.specs.ReducedBases.{is_divided}
use Rattle.sf_groebner.proofs.Basics.Accessible.{IsBelow}
use Rattle.sf_groebner.proofs.Constructions.MonicVectors.{IsMonicVector, IsTermOfDegree-step, lead_multiple-step, is_divided-position, monic_homogeneous, multiple_at}
use Rattle.sf_groebner.proofs.PairTheorems.Standard.{place_induction}
use Rattle.sf_groebner.proofs.Uniqueness.Differences.{add-negative_first}
use Rattle.sf_groebner.proofs.Uniqueness.Subtractions.{add-first, add-negative_back}

-- a vector with its rest and its quotients
pub record Division (ring : Ring) (target : List ℤ) (rows : List Vector) (v : Vector) : Type 0 where
  pub rest : List (Term Place)
  pub quotients : List (Term Place)
  pub divided : IsDivided ring target rows v.degree v.terms rest quotients

-- a homogeneous list of one degree
abbrev of_degree : ℤ → List (Term Place) → Vector
of_degree d ts = record { degree = d; terms = ts }

pub IsVector-tail : (ring : Ring) (target : List ℤ) (d : ℤ) (t : Term Place) (ts : List (Term Place))
    → IsVector ring target (of_degree d (t ∷ ts)) → IsVector ring target (of_degree d ts)
IsVector-tail ring target d t ts h = record {
  canonical = IsCanonical-tail (place_cmp ring.weights) ring.modulus t ts h.canonical;
  homogeneous = h.homogeneous.1;
}

module _ (ring : Ring) (prime : IsOverField ring) (target : List ℤ) (rows : List Vector)
    (monic : AllByRecursion (IsMonicVector ring target) rows) (d : ℤ) where
  positive : IsRing ring
  positive = field_ring prime

  pub divided_none : IsDivided ring target rows d [] [] []
  divided_none = record {
    vector = IsVector-nil ring target d;
    homogeneous = tt;
    reduced = tt;
    below = λ b h. (tt, tt);
    sum =
        ap (row_sum ring []) (row_combination-nil ring positive.modulus rows)
        ∙ row_sum-nil_first ring positive.modulus [] (record { descending = tt; residues = tt });
  }

  module _ (t : Term Place) (ts : List (Term Place)) (h : IsVector ring target (of_degree d (t ∷ ts))) where
    -- where no lead divides the first term, the rest takes it over
    pub divided_miss : (rest quotients : List (Term Place)) → is_divided rows t.at ≡ false
        → IsDivided ring target rows d ts rest quotients → IsDivided ring target rows d (t ∷ ts) (t ∷ rest) quotients
    divided_miss rest quotients none e = record {
      vector = record {
        canonical = record { descending = ((e.below t.at h.canonical.descending.0).0, e.vector.canonical.descending); residues = (h.canonical.residues.0, e.vector.canonical.residues) };
        homogeneous = (h.homogeneous.0, e.vector.homogeneous);
      };
      homogeneous = e.homogeneous;
      reduced = (none, e.reduced);
      below = λ b above. let others = e.below b above.1 in ((above.0, others.0), others.1);
      sum =
          add-first (place_keys ring.weights) ring.modulus positive.modulus t rest
          (row_combination ring rows quotients) ts h.canonical e.sum;
    }

    -- where the lead of row i does
    module _ (i : ℕ) (within : i < length rows) (divides : PlaceDivides (lead_at rows i) t.at) where
      whole : row_combination ring rows (step rows i t ∷ []) ≡ t ∷ step_tail ring rows i t
      whole = multiple_at ring target rows monic prime i within t h.canonical.residues.0 divides

      step_degree : IsHomogeneous ring.weights (degrees_of rows) d (step rows i t ∷ [])
      step_degree = (IsTermOfDegree-step ring target rows monic i within d t divides h.homogeneous.0, tt)

      whole_vector : IsVector ring target (of_degree d (t ∷ step_tail ring rows i t))
      whole_vector = record {
        canonical = subst (IsCanonicalRow ring) whole
            (IsCanonical-row_combination ring positive.modulus rows (step rows i t ∷ []));
        homogeneous =
            subst (IsHomogeneous ring.weights target d) whole
            (IsHomogeneous-row_combination target ring rows (monic_homogeneous ring target rows monic) d (step rows i t ∷ []) step_degree);
      }

      pub left_over-vector : IsVector ring target (of_degree d (left_over ring rows i t ts))
      left_over-vector =
          IsVector-add ring target positive.modulus d ts (negative ring.modulus (step_tail ring rows i t))
          (IsVector-tail ring target d t ts h)
          (IsVector-negative ring target d (step_tail ring rows i t) (IsVector-tail ring target d t (step_tail ring rows i t) whole_vector))

      pub left_over-below : AreBelow ring.weights t.at (left_over ring rows i t ts)
      left_over-below =
          EachPlace-add (λ k. place_cmp ring.weights k t.at ≡ Less) (place_cmp ring.weights) ring.modulus ts
          (negative ring.modulus (step_tail ring rows i t)) h.canonical.descending.0
          (EachPlace-negative _ ring.modulus (step_tail ring rows i t) whole_vector.canonical.descending.0)

      -- its multiple is taken away
      pub divided_hit : (rest quotients : List (Term Place))
          → IsDivided ring target rows d (left_over ring rows i t ts) rest quotients
          → IsDivided ring target rows d (t ∷ ts) rest (step rows i t ∷ quotients)
      divided_hit rest quotients e =
          let us = step_tail ring rows i t in
          let left = left_over ring rows i t ts in
          let multiple = row_combination ring rows (step rows i t ∷ []) in
          let others = row_combination ring rows quotients in
          record {
            vector = e.vector;
            homogeneous = (step_degree.0, e.homogeneous);
            reduced = e.reduced;
            below = λ b above.
                let bound : AreBelow ring.weights b left =
                AllByRecursion-weaken _ _
                (λ u less. (place_cmp_total ring.weights).trans u.at t.at b less above.0) left left_over-below in
                let further = e.below b bound in (
                  further.0,
                  (
                    (within, ap (λ k. place_cmp ring.weights k b) (lead_multiple-step rows i t divides) ∙ above.0),
                    further.1,
                  ),
                );
            sum =
                ap (row_sum ring rest)
                (row_combination-append ring positive.modulus rows (step rows i t ∷ []) quotients
                ∙ row_sum-comm ring positive.modulus multiple others)
                ∙ sym (row_sum-assoc ring positive.modulus rest others multiple)
                ∙ (λ j. row_sum ring ((e.sum ∙ sym (add-negative_first (place_keys ring.weights) ring.modulus positive.modulus t ts us h.canonical whole_vector.canonical)) j) (whole j))
                ∙ add-negative_back (place_keys ring.weights) ring.modulus positive.modulus (t ∷ ts)
                (t ∷ us) h.canonical whole_vector.canonical;
          }

    divide_first : ((us : List (Term Place)) → IsVector ring target (of_degree d us) → AreBelow ring.weights t.at us
        → Division ring target rows (of_degree d us))
        → Division ring target rows (of_degree d (t ∷ ts))
    divide_first further =
        elim (cases_Bool (is_divided rows t.at)) [
          | inl some ↦
              let found = is_divided-position rows t.at some in
              let i : ℕ = found.0 in
              let e =
              further (left_over ring rows i t ts) (left_over-vector i found.1 found.2)
              (left_over-below i found.1 found.2) in
              record {
                rest = e.rest;
                quotients = step rows i t ∷ e.quotients;
                divided = divided_hit i found.1 found.2 e.rest e.quotients e.divided;
              }
          | inr none ↦
              let e = further ts (IsVector-tail ring target d t ts h) h.canonical.descending.0 in
              record {
                rest = t ∷ e.rest;
                quotients = e.quotients;
                divided = divided_miss e.rest e.quotients none e.divided;
              }
        ]

  divide_below : (k : Place) (us : List (Term Place)) → IsVector ring target (of_degree d us)
      → AreBelow ring.weights k us → Division ring target rows (of_degree d us)
  divide_below =
      place_induction ring.weights positive.weights (length target)
      (λ k. (us : List (Term Place)) → IsVector ring target (of_degree d us) → AreBelow ring.weights k us → Division ring target rows (of_degree d us))
      below_step
    where
      below_step : (k : Place)
          → ((j : Place) → IsBelow ring.weights (length target) j k → (us : List (Term Place))
          → IsVector ring target (of_degree d us) → AreBelow ring.weights j us
          → Division ring target rows (of_degree d us))
          → (us : List (Term Place)) → IsVector ring target (of_degree d us) → AreBelow ring.weights k us
          → Division ring target rows (of_degree d us)
      below_step k before [] h above = record { rest = []; quotients = []; divided = divided_none }
      below_step k before (t ∷ ts) h above = divide_first t ts h (before t.at (above.0, h.homogeneous.0.0))

  divide_terms : (us : List (Term Place)) → IsVector ring target (of_degree d us)
      → Division ring target rows (of_degree d us)
  divide_terms [] h = record { rest = []; quotients = []; divided = divided_none }
  divide_terms (t ∷ ts) h = divide_first t ts h (divide_below t.at)

-- each homogeneous vector has a division
pub divide : (ring : Ring) → IsOverField ring → (target : List ℤ) (rows : List Vector)
    → AllByRecursion (IsMonicVector ring target) rows → (v : Vector) → IsVector ring target v
    → Division ring target rows v
divide ring prime target rows monic v h = divide_terms ring prime target rows monic v.degree v.terms h
