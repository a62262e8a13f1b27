-- Each finitely generated module has a reduced basis. (Cox, Little, O'Shea, "Using Algebraic Geometry", chapter 5,
-- section 2.)
use Rattle.std.proofs.Common.{◌≡◌, true, List, [], ◌∷◌, ◌∙◌, ℤ}
use Rattle.std.specs.List.{AllByRecursion}
use Rattle.sf_algebra.specs.Rings.{Ring, IsRing, IsOverField}
use Rattle.sf_algebra.specs.Terms.{Term}
use Rattle.sf_algebra.specs.Vectors.{Place, Vector}
use Rattle.sf_algebra.proofs.Monomials.Weights.{field_ring}
use Rattle.sf_groebner.specs.ReducedBases.{HasDividedLead, IsMonic, IsReducedBasis, is_divided}
use Rattle.sf_groebner.proofs.Constructions.Antichains.{AllByRecursion-antichain, IsAntichain, IsAntichain-antichain, antichain, is_divided-antichain}
use Rattle.sf_groebner.proofs.Constructions.Completions.{Completion, IsMonicIn, completion, monic_vectors}
use Rattle.sf_groebner.proofs.Constructions.SortedRows.{AllByRecursion-sort_rows, IsApart-sort_rows, IsSorted-sort_rows, is_divided-sort_rows, sort_rows}
use Rattle.sf_groebner.proofs.Constructions.Tails.{HaveReducedTails, reduced_rows-apart, reduced_rows-divide, reduced_rows-inside, reduced_rows-monic, reduced_tails}
use Rattle.sf_groebner.proofs.Spanning.Generators.{AreGenerators}
use Rattle.sf_groebner.proofs.Spanning.Submodules.{IsSubmodule}

-- rows that divide no less
HasDividedLead-more : (vs ws : List Vector) → ((k : Place) → is_divided vs k ≡ true → is_divided ws k ≡ true)
    → (ts : List (Term Place)) → HasDividedLead vs ts → HasDividedLead ws ts
HasDividedLead-more vs ws more [] h = tt
HasDividedLead-more vs ws more (t ∷ ts) h = more t.at h

-- complete monic rows of a module whose leads don't divide each other, with reduced tails and sorted, are its reduced basis
pub sorted_basis : (ring : Ring) → IsRing ring → (target : List ℤ) (N : Vector → Type 0) → IsSubmodule ring target N
    → (rows : List Vector) → AllByRecursion (IsMonicIn N) rows → IsAntichain rows
    → ((v : Vector) → N v → HasDividedLead rows v.terms)
    → (ws : List Vector) → HaveReducedTails ring target rows rows ws
    → IsReducedBasis ring.weights N (sort_rows ring.weights ws)
sorted_basis ring positive target N submodule rows monic far complete ws tails =
    let apart = reduced_rows-apart ring positive target N submodule rows monic ws tails far in
    let ones = reduced_rows-monic ring positive target N submodule rows monic ws tails in
    record {
      inside = AllByRecursion-sort_rows ring.weights N ws (reduced_rows-inside ring positive target N submodule rows monic ws tails);
      monic = AllByRecursion-sort_rows ring.weights (λ (v : Vector). IsMonic v.terms) ws ones;
      complete = λ v h.
          HasDividedLead-more rows (sort_rows ring.weights ws)
          (λ k divided. is_divided-sort_rows ring.weights ws k (reduced_rows-divide ring positive target N submodule rows monic ws tails k ∙ divided))
          v.terms (complete v h);
      apart = IsApart-sort_rows ring.weights ws apart;
      sorted = IsSorted-sort_rows ring.weights ws ones apart;
    }

module _ (ring : Ring) (prime : IsOverField ring) (target : List ℤ) (N : Vector → Type 0)
    (submodule : IsSubmodule ring target N) where
  from_completion : Completion N → (basis : List Vector) × IsReducedBasis ring.weights N basis
  from_completion c =
      let few : List Vector = antichain c.rows in
      let monic : AllByRecursion (IsMonicIn N) few = AllByRecursion-antichain (IsMonicIn N) c.rows c.monic in
      let r = reduced_tails ring prime target few (monic_vectors ring prime target N submodule few monic) in (
        sort_rows ring.weights r.0,
        sorted_basis ring (field_ring prime) target N submodule few monic (IsAntichain-antichain c.rows c.grown)
            (λ v h. HasDividedLead-more c.rows few (is_divided-antichain c.rows) v.terms (c.complete v h)) r.0 r.1,
      )

  -- modulo a prime, each module with finitely many generators has a reduced basis
  pub reduced_exists : (generators : List Vector) → AreGenerators ring N generators
      → (basis : List Vector) × IsReducedBasis ring.weights N basis
  reduced_exists generators generate = from_completion (completion ring prime target N submodule generators generate)
