-- A matrix that sends N to M, and B to A, and what it sends to A is in B, and up to A it reaches all of M: what it gives
-- corresponds, and this is a map of classes both ways.
use Rattle.std.proofs.Common.{◌≡◌, List, [], ◌∷◌, sym, subst, refl, ℤ}
use Rattle.std.specs.List.{AllByRecursion}
use Rattle.sf_algebra.specs.Matrices.{degrees_of}
use Rattle.sf_algebra.specs.MatrixOperations.{row_combination}
use Rattle.sf_algebra.specs.Rings.{IsRing, Ring}
use Rattle.sf_algebra.specs.VectorOperations.{vector_difference}
use Rattle.sf_algebra.specs.Vectors.{IsCanonicalRow, IsHomogeneous, IsVector, Vector}
use Rattle.sf_algebra.proofs.GradedMatrices.MatrixRows.{with_terms}
use Rattle.sf_algebra.proofs.GradedMatrices.Stacks.{degrees-with_terms}
use Rattle.sf_algebra.proofs.Operators.Correspondences.{converse}
use Rattle.sf_algebra.proofs.Vectors.RowParts.{HasCanonicalRows}
use Rattle.sf_algebra.proofs.Vectors.Rows.{IsCanonical-row_combination, row_combination-matrix_product}
use Rattle.sf_groebner.specs.Maps.{AreEqualModulo}
use Rattle.sf_groebner.specs.MinimalGenerators.{matrix_of}
use Rattle.sf_groebner.specs.Spans.{combined_rows}
use Rattle.sf_groebner.proofs.Spanning.Spans.{combined-difference}
use Rattle.sf_groebner.proofs.Spanning.Submodules.{IsSubmodule}
use Rattle.sf_presented.proofs.EqualModulo.{AreEqualModulo-refl, AreEqualModulo-sym, AreEqualModulo-trans}
use Rattle.sf_presented.proofs.EqualRows.{AreEqualRows, EqualRows-combined}
use Rattle.sf_bicomplex.proofs.Spans.ClassMaps.{Correspond, IsClassMap}

-- c is of N, z of M, and the rows give of c what is equal to z modulo A
pub record IsSentTo (ring : Ring) (N M A : Vector → Type 0) (rows : List Vector) (c z : Vector) : Type 0 where
  pub first : N c
  pub inside : M z
  pub same : AreEqualModulo ring A (combined_rows ring rows c) z

-- what the rows must do
pub record IsIsomorphismOfClasses (ring : Ring) (N B M A : Vector → Type 0) (rows : List Vector) : Type 0 where
  pub sends : (c : Vector) → N c → M (combined_rows ring rows c)
  pub bounds : (c : Vector) → B c → A (combined_rows ring rows c)
  pub bounded : (c : Vector) → N c → A (combined_rows ring rows c) → B c
  pub onto : (z : Vector) → M z → (c : Vector) × N c × AreEqualModulo ring A (combined_rows ring rows c) z

module _ (ring : Ring) (positive : IsRing ring) (source target : List ℤ) (N B M A : Vector → Type 0)
    (n : IsSubmodule ring source N) (m : IsSubmodule ring target M) (a : IsSubmodule ring target A) (rows : List Vector)
    (sent : IsIsomorphismOfClasses ring N B M A rows) (F : Vector → Vector → Type 0)
    (there : (c z : Vector) → F c z → IsSentTo ring N M A rows c z)
    (back : (c z : Vector) → IsSentTo ring N M A rows c z → F c z) where
  abbrev put : Vector → Vector
  put c = record { degree = c.degree; terms = row_combination ring rows c.terms }

  canonical : (c : Vector) → IsCanonicalRow ring (row_combination ring rows c.terms)
  canonical c = IsCanonical-row_combination ring positive.modulus rows c.terms

  of_source : (c : Vector) → N c → IsCanonicalRow ring c.terms
  of_source c x = (n.module_like.vectors c x).canonical

  of_target : (z : Vector) → M z → IsCanonicalRow ring z.terms
  of_target z x = (m.module_like.vectors z x).canonical

  around : (v w : Vector) → IsCanonicalRow ring v.terms → IsCanonicalRow ring w.terms → AreEqualModulo ring A v w
      → AreEqualModulo ring A w v
  around = AreEqualModulo-sym ring positive target A a

  through : (u v w : Vector) → IsCanonicalRow ring u.terms → IsCanonicalRow ring v.terms → IsCanonicalRow ring w.terms
      → AreEqualModulo ring A u v → AreEqualModulo ring A v w → AreEqualModulo ring A u w
  through = AreEqualModulo-trans ring positive target A a

  put-same : (c e : Vector) → N e → AreEqualModulo ring B c e
      → AreEqualModulo ring A (combined_rows ring rows c) (combined_rows ring rows e)
  put-same c e y same = record {
    degrees = same.degrees;
    difference = subst A (combined-difference (matrix_of ring target rows) positive c e (of_source e y))
        (sent.bounds (vector_difference ring c e) same.difference);
  }

  same-put : (c e : Vector) → N c → N e → AreEqualModulo ring A (combined_rows ring rows c) (combined_rows ring rows e)
      → AreEqualModulo ring B c e
  same-put c e x y same = record {
    degrees = same.degrees;
    difference = sent.bounded (vector_difference ring c e) (n.module_like.differences c e x y same.degrees)
        (subst A (sym (combined-difference (matrix_of ring target rows) positive c e (of_source e y))) same.difference);
  }

  record Gathered (cs zs : List Vector) : Type 0 where
    all_first : AllByRecursion N cs
    all_inside : AllByRecursion M zs
    canonicals : HasCanonicalRows ring zs
    degrees : degrees_of zs ≡ degrees_of cs
    sames : AreEqualRows ring A (with_terms (row_combination ring rows) cs) zs

  gathered : (cs zs : List Vector) → Correspond F cs zs → Gathered cs zs
  gathered [] [] e = record { all_first = tt; all_inside = tt; canonicals = tt; degrees = refl; sames = tt }
  gathered [] (z ∷ zs) e = absurd e
  gathered (c ∷ cs) [] e = absurd e
  gathered (c ∷ cs) (z ∷ zs) e =
      let rest = gathered cs zs e.1 in
      let k = there c z e.0 in
      let degree : z.degree ≡ c.degree = sym k.same.degrees in
      record {
        all_first = (k.first, rest.all_first);
        all_inside = (k.inside, rest.all_inside);
        canonicals = (of_target z k.inside, rest.canonicals);
        degrees = λ i. degree i ∷ rest.degrees i;
        sames = (k.same, rest.sames);
      }

  combinations : (cs zs : List Vector) → Correspond F cs zs → (c : Vector) → IsVector ring (degrees_of cs) c
      → F (record { degree = c.degree; terms = row_combination ring cs c.terms })
      (record { degree = c.degree; terms = row_combination ring zs c.terms })
  combinations cs zs e c x =
      let k = gathered cs zs e in
      let u : Vector = record { degree = c.degree; terms = row_combination ring cs c.terms } in
      let w : Vector = record { degree = c.degree; terms = row_combination ring zs c.terms } in
      back u w (record {
        first = n.combinations cs k.all_first c.degree c.terms x.homogeneous;
        inside = m.combinations zs k.all_inside c.degree c.terms
            (subst (λ ds. IsHomogeneous ring.weights ds c.degree c.terms) (sym k.degrees) x.homogeneous);
        same = subst (λ ts. AreEqualModulo ring A (record { degree = c.degree; terms = ts }) w)
            (row_combination-matrix_product ring positive.modulus (matrix_of ring [] cs) (matrix_of ring target rows)
            c.terms refl)
            (EqualRows-combined ring positive A target a (with_terms (row_combination ring rows) cs) zs k.canonicals
            k.sames c
            (subst (λ ds. IsHomogeneous ring.weights ds c.degree c.terms)
            (sym (degrees-with_terms (row_combination ring rows) cs)) x.homogeneous));
      })

  pub isomorphism-class_map : IsClassMap ring N B M A F
  isomorphism-class_map = record {
    first = λ c z e. (there c z e).first;
    inside = λ c z e. (there c z e).inside;
    degrees = λ c z e. sym (there c z e).same.degrees;
    image = λ c x. (
      put c,
      back c (put c) (record {
        first = x;
        inside = sent.sends c x;
        same = AreEqualModulo-refl ring positive target A a (put c) (canonical c);
      }),
    );
    equal = λ c z w e member same.
        let k = there c z e in
        back c w (record {
          first = k.first;
          inside = member;
          same = through (put c) z w (canonical c) (of_target z k.inside) (of_target w member) k.same same;
        });
    classes = λ c e z w x y same.
        let k = there c z x in
        let l = there e w y in
        let u = of_target z k.inside in
        let v = of_target w l.inside in
        through z (put c) w u (canonical c) v (around (put c) z (canonical c) u k.same)
        (through (put c) (put e) w (canonical c) (canonical e) v (put-same c e l.first same) l.same);
    combinations = combinations;
  }

  turned : (zs cs : List Vector) → Correspond (converse F) zs cs → Correspond F cs zs
  turned [] [] e = tt
  turned [] (c ∷ cs) e = absurd e
  turned (z ∷ zs) [] e = absurd e
  turned (z ∷ zs) (c ∷ cs) e = (e.0, turned zs cs e.1)

  pub isomorphism-class_map_back : IsClassMap ring M A N B (converse F)
  isomorphism-class_map_back = record {
    first = λ z c e. (there c z e).inside;
    inside = λ z c e. (there c z e).first;
    degrees = λ z c e. (there c z e).same.degrees;
    image = λ z x.
        let k = sent.onto z x in (k.0, back k.0 z (record { first = k.1; inside = x; same = k.2 }));
    equal = λ z c e x member same.
        let k = there c z x in
        back e z (record {
          first = member;
          inside = k.inside;
          same = through (put e) (put c) z (canonical e) (canonical c) (of_target z k.inside)
              (around (put c) (put e) (canonical c) (canonical e) (put-same c e member same)) k.same;
        });
    classes = λ z w c e x y same.
        let k = there c z x in
        let l = there e w y in
        let u = of_target z k.inside in
        let v = of_target w l.inside in
        same-put c e k.first l.first
        (through (put c) z (put e) (canonical c) u (canonical e) k.same
        (through z w (put e) u v (canonical e) same (around (put e) w (canonical e) v l.same)));
    combinations = λ zs cs e c x. combinations cs zs (turned zs cs e) c
        (subst (λ ds. IsVector ring ds c) (gathered cs zs (turned zs cs e)).degrees x);
  }
