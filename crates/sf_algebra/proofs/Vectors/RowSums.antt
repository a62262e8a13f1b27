-- The laws of sums of the terms of vectors, over a ring.
use Rattle.std.proofs.Common.{◌≡◌, ◌<◌, List, []}
use Rattle.sf_algebra.specs.Rings.{Ring}
use Rattle.sf_algebra.specs.Terms.{Term}
use Rattle.sf_algebra.specs.VectorOperations.{row_sum}
use Rattle.sf_algebra.specs.Vectors.{Place, place_cmp, IsCanonicalRow}
use Rattle.sf_algebra.proofs.Monomials.Orders.{place_cmp_linear}
use Rattle.sf_algebra.proofs.Terms.Normal.{IsCanonical-add}
use Rattle.sf_algebra.proofs.Terms.Sums.{add_comm, add_assoc, add-nil, add-nil_first}

module _ (ring : Ring) (positive : 0 < ring.modulus) where
  pub IsCanonical-row_sum : (us vs : List (Term Place)) → IsCanonicalRow ring (row_sum ring us vs)
  IsCanonical-row_sum = IsCanonical-add (place_cmp ring.weights) (place_cmp_linear ring.weights) ring.modulus positive

  pub row_sum-comm : (us vs : List (Term Place)) → row_sum ring us vs ≡ row_sum ring vs us
  row_sum-comm = add_comm (place_cmp ring.weights) (place_cmp_linear ring.weights) ring.modulus positive

  pub row_sum-assoc : (us vs ws : List (Term Place))
      → row_sum ring (row_sum ring us vs) ws ≡ row_sum ring us (row_sum ring vs ws)
  row_sum-assoc = add_assoc (place_cmp ring.weights) (place_cmp_linear ring.weights) ring.modulus positive

  pub row_sum-nil : (us : List (Term Place)) → IsCanonicalRow ring us → row_sum ring us [] ≡ us
  row_sum-nil = add-nil (place_cmp ring.weights) (place_cmp_linear ring.weights) ring.modulus positive

  pub row_sum-nil_first : (us : List (Term Place)) → IsCanonicalRow ring us → row_sum ring [] us ≡ us
  row_sum-nil_first = add-nil_first (place_cmp ring.weights) (place_cmp_linear ring.weights) ring.modulus positive
