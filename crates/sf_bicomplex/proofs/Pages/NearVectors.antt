-- A vector is near an image exactly where it is so in the group of the vectors of its degree.
use Rattle.std.proofs.Common.{◌≡◌, List, sym, subst, refl, ℤ}
use Rattle.sf_algebra.specs.Rings.{Ring, IsRing}
use Rattle.sf_algebra.specs.Terms.{Term}
use Rattle.sf_algebra.specs.Vectors.{IsVector, Place, Vector}
use Rattle.sf_algebra.proofs.Vectors.VectorGroups.{vectors_of_degree}
use Rattle.sf_chase.specs.Filtrations.{NearImageOf}
use Rattle.sf_bicomplex.specs.Pages.{IsNear}

-- a map of terms as one of vectors, which keeps degrees
abbrev pub on_terms : (List (Term Place) → List (Term Place)) → Vector → Vector
on_terms F a = record { degree = a.degree; terms = F a.terms }

-- a property of vectors, at those of one degree over a free module
pub record AreSame (ring : Ring) (positive : IsRing ring) (degrees : List ℤ) (d : ℤ) (M : Vector → Type 0)
    (M' : (vectors_of_degree ring positive.modulus degrees d).V → Type 0) : Type 0 where
  pub there : (v : (vectors_of_degree ring positive.modulus degrees d).V) → M (record { degree = d; terms = v.0 }) → M' v
  pub back : (v : (vectors_of_degree ring positive.modulus degrees d).V) → M' v → M (record { degree = d; terms = v.0 })

module _ (ring : Ring) (positive : IsRing ring) (source target : List ℤ) (d : ℤ)
    (F : List (Term Place) → List (Term Place))
    (moves : (v : (vectors_of_degree ring positive.modulus source d).V) → IsVector ring target (record { degree = d; terms = F v.0 }))
    (M N : Vector → Type 0) (M' : (vectors_of_degree ring positive.modulus source d).V → Type 0)
    (N' : (vectors_of_degree ring positive.modulus target d).V → Type 0)
    (vectors : (a : Vector) → M a → IsVector ring source a) (m : AreSame ring positive source d M M')
    (n : AreSame ring positive target d N N') where
  pub IsNear-same : AreSame ring positive target d (IsNear ring target (on_terms F) M N)
      (NearImageOf (vectors_of_degree ring positive.modulus target d) (λ v. (F v.0, moves v)) M' N')
  IsNear-same = record {
    there = λ v h.
        let a : Vector = record { degree = d; terms = h.source.terms } in
        let same : h.source ≡ a = λ i. record { degree = sym h.equal.degrees i; terms = h.source.terms } in
        let inside : M a = subst M same h.inside in
        let element : (vectors_of_degree ring positive.modulus source d).V = (h.source.terms, vectors a inside) in
        (element, m.there element inside, n.there _ h.equal.difference);
    back = λ v h. record {
      vector = v.1;
      source = record { degree = d; terms = h.0.0 };
      inside = m.back h.0 h.1;
      equal = record { degrees = refl; difference = n.back _ h.2 };
    };
  }
