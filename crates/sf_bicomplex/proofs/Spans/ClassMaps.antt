-- Correspondences of vectors that are maps of classes, described by matrices: the matrix exists, there is one, it is a map
-- of the presented modules, and the matrices of a correspondence and its converse are inverse.
use Rattle.std.proofs.Common.{◌≡◌, List, [], ◌∷◌, sym, ◌∙◌, subst, refl, ℤ}
use Rattle.std.specs.List.{AllByRecursion}
use Rattle.sf_algebra.specs.Matrices.{IsMatrix, Matrix, degrees_of}
use Rattle.sf_algebra.specs.MatrixOperations.{matrix_product, row_combination}
use Rattle.sf_algebra.specs.Rings.{IsOverField, IsRing, Ring}
use Rattle.sf_algebra.specs.VectorOperations.{vector_difference}
use Rattle.sf_algebra.specs.Vectors.{IsVector, Vector}
use Rattle.sf_algebra.proofs.GradedMatrices.MatrixRows.{with_terms}
use Rattle.sf_algebra.proofs.Monomials.Weights.{field_ring}
use Rattle.sf_algebra.proofs.Operators.Correspondences.{converse}
use Rattle.sf_algebra.proofs.Vectors.HomogeneousVectors.{IsVector-nil, IsVector-row_combination}
use Rattle.sf_algebra.proofs.Vectors.RowSums.{row_sum-nil}
use Rattle.sf_algebra.proofs.Vectors.Rows.{row_combination-matrix_product, row_combination-nil}
use Rattle.sf_groebner.specs.Maps.{AreEqualModulo}
use Rattle.sf_groebner.specs.MinimalGenerators.{matrix_of}
use Rattle.sf_groebner.specs.Presentations.{IsModuleMap, IsPresentation}
use Rattle.sf_groebner.specs.Spans.{InSpan, combined}
use Rattle.sf_groebner.proofs.Spanning.Spans.{IsVector-difference, combined-difference}
use Rattle.sf_groebner.proofs.Spanning.Submodules.{IsSubmodule}
use Rattle.sf_groebner.proofs.Uniqueness.PresentedModules.{minimal-inside}
use Rattle.sf_presented.specs.Inverses.{IsIdentityModulo}
use Rattle.sf_presented.proofs.Composites.{combined-matrix_product}
use Rattle.sf_presented.proofs.EqualModulo.{AreEqualModulo-refl}
use Rattle.sf_bicomplex.specs.Descriptions.{Describes, HaveCoordinatesOf}
use Rattle.sf_bicomplex.proofs.Spans.ReducedCoordinates.{one_reduced, reduced_coordinates, relations-of}
use Rattle.sf_bicomplex.proofs.Spans.SpannedModules.{IsSpanned, IsSubmodule-spanned}

-- vectors that correspond, one after another
abbrev pub Correspond : (Vector → Vector → Type 0) → List Vector → List Vector → Type 0
Correspond F [] [] = Unit {0}
Correspond F [] (w ∷ ws) = ⊥
Correspond F (u ∷ us) [] = ⊥
Correspond F (u ∷ us) (w ∷ ws) = F u w × Correspond F us ws

-- F is a map from the classes of N modulo B to those of M modulo A
pub record IsClassMap (ring : Ring) (N B M A : Vector → Type 0) (F : Vector → Vector → Type 0) : Type 0 where
  pub first : (u w : Vector) → F u w → N u
  pub inside : (u w : Vector) → F u w → M w
  pub degrees : (u w : Vector) → F u w → w.degree ≡ u.degree
  pub image : (u : Vector) → N u → (w : Vector) × F u w
  pub equal : (u w x : Vector) → F u w → M x → AreEqualModulo ring A w x → F u x
  pub classes : (u v w x : Vector) → F u w → F v x → AreEqualModulo ring B u v → AreEqualModulo ring A w x
  pub combinations : (us ws : List Vector) → Correspond F us ws → (c : Vector)
      → IsVector ring (degrees_of us) c
      → F (record { degree = c.degree; terms = row_combination ring us c.terms })
      (record { degree = c.degree; terms = row_combination ring ws c.terms })

module _ (ring : Ring) (prime : IsOverField ring) (source target : List ℤ) (N B M A : Vector → Type 0)
    (n : IsSpanned ring source N) (b : IsSpanned ring source B) (m : IsSpanned ring target M)
    (a : IsSpanned ring target A) (F : Vector → Vector → Type 0) (f : IsClassMap ring N B M A F) (gs rs hs ss : List Vector)
    (given : IsPresentation ring source N B (matrix_of ring source gs) (matrix_of ring (degrees_of gs) rs))
    (other : IsPresentation ring target M A (matrix_of ring target hs) (matrix_of ring (degrees_of hs) ss)) where
  abbrev g : Matrix
  g = matrix_of ring source gs

  abbrev r : Matrix
  r = matrix_of ring (degrees_of gs) rs

  abbrev h : Matrix
  h = matrix_of ring target hs

  abbrev s : Matrix
  s = matrix_of ring (degrees_of hs) ss

  positive : IsRing ring
  positive = field_ring prime

  pub source_module : IsSubmodule ring source N
  source_module = IsSubmodule-spanned ring source positive N n

  pub bounds_module : IsSubmodule ring source B
  bounds_module = IsSubmodule-spanned ring source positive B b

  pub target_module : IsSubmodule ring target M
  target_module = IsSubmodule-spanned ring target positive M m

  -- combinations of generators
  pub target-combined : (c : Vector) → IsVector ring (degrees_of hs) c → M (combined h c)
  target-combined c e =
      target_module.combinations hs (minimal-inside ring target M A hs other.generators_minimal) c.degree c.terms
      e.homogeneous

  -- what corresponds to a vector is unique modulo A
  pub unique : (u w x : Vector) → F u w → F u x → AreEqualModulo ring A w x
  unique u w x e k =
      f.classes u u w x e k
      (AreEqualModulo-refl ring positive source B bounds_module u
      (source_module.module_like.vectors u (f.first u w e)).canonical)

  -- a vector less 0
  pub less_zero : (degrees : List ℤ) (v : Vector) → IsVector ring degrees v
      → vector_difference ring v (record { degree = v.degree; terms = [] }) ≡ v
  less_zero degrees v e = λ i. record { degree = v.degree; terms = row_sum-nil ring positive.modulus v.terms e.canonical i }

  -- what corresponds to a vector of B is in A, since 0 corresponds to 0
  zero : (u w : Vector) → F u w → B u → A w
  zero u w e k =
      let none : Vector = record { degree = u.degree; terms = [] } in
      let none_vector : IsVector ring [] none = IsVector-nil ring [] u.degree in
      let nothing : F none none =
      subst (λ ts. F (record { degree = u.degree; terms = ts }) (record { degree = u.degree; terms = ts }))
      (row_combination-nil ring positive.modulus []) (f.combinations [] [] tt none none_vector) in
      let u_vector = source_module.module_like.vectors u (f.first u w e) in
      let w_vector = target_module.module_like.vectors w (f.inside u w e) in
      let same =
      f.classes u none w none e nothing
      (record { degrees = refl; difference = subst B (sym (less_zero source u u_vector)) k }) in
      subst A (less_zero target w w_vector) (subst A (λ i. vector_difference ring w none) same.difference)

  coordinates_rows : (us : List Vector) → AllByRecursion N us → (cs : List Vector) × HaveCoordinatesOf F h s us cs
  coordinates_rows [] e = ([], tt)
  coordinates_rows (u ∷ us) e =
      let w = f.image u e.0 in
      let c = reduced_coordinates ring prime target M A m a hs ss other w.0 (f.inside u w.0 w.1) in
      let rest = coordinates_rows us e.1 in (
        c.0 ∷ rest.0,
        (
          record {
            coefficients = c.1;
            reduced = c.2;
            corresponds = f.equal u w.0 (combined h c.0) w.1 (target-combined c.0 c.1) c.3;
          },
          rest.1,
        ),
      )

  pub description_exists : (mm : Matrix) × Describes F h s g mm
  description_exists =
      let rows = coordinates_rows gs (minimal-inside ring source N B gs given.generators_minimal) in
      (matrix_of ring (degrees_of hs) rows.0, record { ring = refl; target = refl; rows = rows.1 })

  same_rows : (us cs ds : List Vector) → HaveCoordinatesOf F h s us cs → HaveCoordinatesOf F h s us ds → cs ≡ ds
  same_rows [] [] [] x y = refl
  same_rows [] [] (d ∷ ds) x y = absurd y
  same_rows [] (c ∷ cs) ds x y = absurd x
  same_rows (u ∷ us) [] ds x y = absurd x
  same_rows (u ∷ us) (c ∷ cs) [] x y = absurd y
  same_rows (u ∷ us) (c ∷ cs) (d ∷ ds) x y =
      let first : c ≡ d =
      one_reduced ring prime target M A m a hs ss other c d x.0.coefficients y.0.coefficients x.0.reduced y.0.reduced
      (unique u (combined h c) (combined h d) x.0.corresponds y.0.corresponds) in
      let rest = same_rows us cs ds x.1 y.1 in
      λ i. first i ∷ rest i

  pub one_description : (x y : Matrix) → Describes F h s g x → Describes F h s g y → x ≡ y
  one_description x y e k =
      let rows = same_rows gs x.rows y.rows e.rows k.rows in
      λ i. record { ring = (e.ring ∙ sym k.ring) i; target = (e.target ∙ sym k.target) i; rows = rows i }

  -- what a description says, row by row
  rows_coefficients : (us cs : List Vector) → HaveCoordinatesOf F h s us cs
      → AllByRecursion (IsVector ring (degrees_of hs)) cs
  rows_coefficients [] [] e = tt
  rows_coefficients [] (c ∷ cs) e = absurd e
  rows_coefficients (u ∷ us) [] e = absurd e
  rows_coefficients (u ∷ us) (c ∷ cs) e = (e.0.coefficients, rows_coefficients us cs e.1)

  rows_degrees : (us cs : List Vector) → HaveCoordinatesOf F h s us cs → degrees_of cs ≡ degrees_of us
  rows_degrees [] [] e = refl
  rows_degrees [] (c ∷ cs) e = absurd e
  rows_degrees (u ∷ us) [] e = absurd e
  rows_degrees (u ∷ us) (c ∷ cs) e =
      let first : c.degree ≡ u.degree = f.degrees u (combined h c) e.0.corresponds in
      let rest = rows_degrees us cs e.1 in
      λ i. first i ∷ rest i

  rows_correspond : (us cs : List Vector) → HaveCoordinatesOf F h s us cs
      → Correspond F us (with_terms (row_combination ring hs) cs)
  rows_correspond [] [] e = tt
  rows_correspond [] (c ∷ cs) e = absurd e
  rows_correspond (u ∷ us) [] e = absurd e
  rows_correspond (u ∷ us) (c ∷ cs) e = (e.0.corresponds, rows_correspond us cs e.1)

  -- a matrix with such rows
  module _ (ms : List Vector) (describes : HaveCoordinatesOf F h s gs ms) where
    abbrev mm : Matrix
    mm = matrix_of ring (degrees_of hs) ms

    pub mm-matrix : IsMatrix mm
    mm-matrix = rows_coefficients gs ms describes

    pub mm-degrees : degrees_of ms ≡ degrees_of gs
    mm-degrees = rows_degrees gs ms describes

    pub mm-vector : (c : Vector) → IsVector ring (degrees_of gs) c → IsVector ring (degrees_of hs) (combined mm c)
    mm-vector c e =
        IsVector-row_combination mm positive.modulus mm-matrix c
        (subst (λ ds. IsVector ring ds c) (sym mm-degrees) e)

    -- combinations correspond
    pub combined-corresponds : (c : Vector) → IsVector ring (degrees_of gs) c
        → F (combined g c) (combined h (combined mm c))
    combined-corresponds c e =
        subst (λ ts. F (combined g c) (record { degree = c.degree; terms = ts }))
        (row_combination-matrix_product ring positive.modulus mm h c.terms refl)
        (f.combinations gs (with_terms (row_combination ring hs) ms) (rows_correspond gs ms describes) c e)

    -- so relations go to relations
    pub description-map : IsModuleMap r s mm
    description-map = record {
      matrix = mm-matrix;
      source_ring = refl;
      target_ring = refl;
      source_degrees = mm-degrees;
      target_degrees = refl;
      sends = λ v e.
          let relation = (relations-of ring prime source N B n b gs rs given v).1 e in
          (relations-of ring prime target M A m a hs ss other (combined mm v)).0 (record {
            coefficients = mm-vector v relation.coefficients;
            inside = zero (combined g v) (combined h (combined mm v)) (combined-corresponds v relation.coefficients)
                relation.inside;
          });
    }

-- there and back again
module _ (ring : Ring) (prime : IsOverField ring) (source target : List ℤ) (N B M A : Vector → Type 0)
    (n : IsSpanned ring source N) (b : IsSpanned ring source B) (m : IsSpanned ring target M)
    (a : IsSpanned ring target A) (F : Vector → Vector → Type 0) (f : IsClassMap ring N B M A F)
    (back : IsClassMap ring M A N B (converse F)) (gs rs hs ss : List Vector)
    (given : IsPresentation ring source N B (matrix_of ring source gs) (matrix_of ring (degrees_of gs) rs))
    (other : IsPresentation ring target M A (matrix_of ring target hs) (matrix_of ring (degrees_of hs) ss))
    (ts fs : List Vector)
    (to : HaveCoordinatesOf F (matrix_of ring target hs) (matrix_of ring (degrees_of hs) ss) gs ts)
    (from : HaveCoordinatesOf (converse F) (matrix_of ring source gs) (matrix_of ring (degrees_of gs) rs) hs fs) where
  pub there_and_back : IsIdentityModulo (matrix_of ring (degrees_of gs) rs)
      (matrix_product (matrix_of ring (degrees_of hs) ts) (matrix_of ring (degrees_of gs) fs))
  there_and_back v e =
      let positive : IsRing ring = field_ring prime in
      let g : Matrix = matrix_of ring source gs in
      let h : Matrix = matrix_of ring target hs in
      let first : Matrix = matrix_of ring (degrees_of hs) ts in
      let second : Matrix = matrix_of ring (degrees_of gs) fs in
      let w : Vector = combined first v in
      let u : Vector = combined second w in
      let w_vector = mm-vector ring prime source target N B M A n b m a F f gs rs hs ss given other ts to v e in
      let u_vector =
      mm-vector ring prime target source M A N B m a n b (converse F) back hs ss gs rs other given fs from w w_vector in
      let there =
      combined-corresponds ring prime source target N B M A n b m a F f gs rs hs ss given other ts to v e in
      let again =
      combined-corresponds ring prime target source M A N B m a n b (converse F) back hs ss gs rs other given fs from w
      w_vector in
      let same : AreEqualModulo ring B (combined g v) (combined g u) =
      unique ring prime target source M A N B m a n b (converse F) back hs ss gs rs other given (combined h w)
      (combined g v) (combined g u) there again in
      subst (AreEqualModulo ring (InSpan (matrix_of ring (degrees_of gs) rs)) v)
      (sym (combined-matrix_product first second positive refl v))
      (record {
        degrees = refl;
        difference =
            (relations-of ring prime source N B n b gs rs given (vector_difference ring v u)).0 (record {
              coefficients = IsVector-difference ring positive (degrees_of gs) v u e u_vector refl;
              inside = subst B (sym (combined-difference g positive v u u_vector.canonical)) same.difference;
            });
      })
