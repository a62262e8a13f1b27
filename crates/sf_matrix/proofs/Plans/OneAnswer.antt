-- Each sensible question has one answer.
use Rattle.std.proofs.Common.{◌≡◌, inl, inr, List, [], ◌∷◌, ◌++◌, refl}
use Rattle.std.specs.List.{AllByRecursion}
use Rattle.sf_algebra.specs.Matrices.{Matrix, IsMatrix}
use Rattle.sf_algebra.specs.Rings.{IsOverField}
use Rattle.sf_algebra.specs.Vectors.{Vector, IsVector}
use Rattle.sf_algebra.proofs.Basics.Lists.{AllByRecursion-append}
use Rattle.sf_algebra.proofs.Monomials.Weights.{field_ring}
use Rattle.sf_groebner.specs.MinimalGenerators.{AreKept}
use Rattle.sf_groebner.specs.Spans.{InSpan}
use Rattle.sf_groebner.proofs.Constructions.Reductions.{reduction_exists, reduction_unique}
use Rattle.sf_groebner.proofs.Constructions.SumDecisions.{decide_sum_span}
use Rattle.sf_groebner.proofs.Uniqueness.MinimalGenerators.{unique_kept}
use Rattle.sf_matrix.specs.Questions.{Question, kept, rest, Answer, IsSensible, Holds}

module _ (base : Matrix) (field : IsOverField base.ring) (matrix : IsMatrix base) where
  kept_exists : (earlier vs : List Vector) → AllByRecursion (IsVector base.ring base.target) earlier
      → AllByRecursion (IsVector base.ring base.target) vs
      → (ws : List Vector) × AreKept base.ring (InSpan base) earlier vs ws
  kept_exists earlier [] h k = ([], refl)
  kept_exists earlier (v ∷ vs) h k =
      let others =
      kept_exists (earlier ++ v ∷ []) vs
      (AllByRecursion-append (IsVector base.ring base.target) earlier (v ∷ []) h (k.0, tt)) k.1 in
      elim (decide_sum_span base.ring field base.target earlier h v k.0 base.rows matrix) [
        | inl inside ↦ (others.0, inl (inside, others.1))
        | inr outside ↦ (v ∷ others.0, inr (outside, (others.0, refl, others.1)))
      ]

pub answer_exists : (q : Question) → IsSensible q → (x : Answer q) × Holds q x
answer_exists (kept base vs) (field, matrix, vectors) = kept_exists base field matrix [] vs tt vectors
answer_exists (rest m v) (field, matrix, vector) =
    let found = reduction_exists m field matrix v vector in
    ((found.0, found.1), found.2)

pub answer_unique : (q : Question) → IsSensible q → (x y : Answer q) → Holds q x → Holds q y → x ≡ y
answer_unique (kept base vs) sensible x y h k =
    unique_kept base.ring base.target (InSpan base) [] vs x y h k
answer_unique (rest m v) (field, matrix, vector) x y h k =
    let same = reduction_unique m (field_ring field) matrix v vector x.0 x.1 y.0 y.1 h k in
    λ i. (same.0 i, same.1 i)
