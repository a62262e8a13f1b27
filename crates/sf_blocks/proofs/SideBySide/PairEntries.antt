-- The entries of a vector with another one behind it, and rows of vectors.
use Rattle.std.proofs.Common.{◌≡◌, refl, ℕ, ◌+◌, ◌<◌, List, [], ◌∷◌, ◌++◌, ap, sym, ◌∙◌, arith, append-nil}
use Rattle.std.proofs.lemmas.List.{map-append}
use Rattle.sf_algebra.specs.MatrixOperations.{moved, row_combination, row_at}
use Rattle.sf_algebra.specs.Monomials.{product, monomial_cmp}
use Rattle.sf_algebra.specs.Multiples.{negative, negative_term, combination}
use Rattle.sf_algebra.specs.Rings.{Ring}
use Rattle.sf_algebra.specs.Terms.{Term}
use Rattle.sf_algebra.specs.Vectors.{Place, Vector, entry}
use Rattle.sf_algebra.proofs.GradedMatrices.MatrixRows.{StandsWithin}
use Rattle.sf_algebra.proofs.GradedMatrices.Transposes.{entry-outside}
use Rattle.sf_algebra.proofs.Tensors.KroneckerEntries.{entry-moved}
use Rattle.sf_algebra.proofs.Vectors.Entries.{entry-elsewhere}
use Rattle.sf_algebra.proofs.Vectors.EntryTotals.{entry-combination}
use Rattle.sf_algebra.proofs.Vectors.Positions.{entry-append}

-- before the terms that were moved there is nothing
pub entry-moved_before : (by j : ℕ) (ts : List (Term Place)) → j < by → entry j (moved by ts) ≡ []
entry-moved_before by j [] h = refl
entry-moved_before by j (t ∷ ts) h =
    entry-elsewhere j
    (record { at = record { position = by + t.at.position; monomial = t.at.monomial }; coefficient = t.coefficient })
    (moved by ts) (λ e. omega arith)
    ∙ entry-moved_before by j ts h

module _ (n j : ℕ) (us vs : List (Term Place)) where
  pub entry-pair_first : j < n → entry j (us ++ moved n vs) ≡ entry j us
  entry-pair_first h =
      entry-append j us (moved n vs)
      ∙ ap (λ es. entry j us ++ es) (entry-moved_before n j vs h)
      ∙ append-nil (entry j us)

  pub entry-pair_last : StandsWithin n us → entry (n + j) (us ++ moved n vs) ≡ entry j vs
  entry-pair_last within =
      entry-append (n + j) us (moved n vs)
      ∙ (λ i. entry-outside n us (n + j) within (omega arith) i ++ entry-moved n j (n + j) vs refl i)

pub moved-append : (n : ℕ) (us vs : List (Term Place)) → moved n (us ++ vs) ≡ moved n us ++ moved n vs
moved-append n us vs =
    map-append (λ (t : Term Place). record
    { at = record { position = n + t.at.position; monomial = t.at.monomial }; coefficient = t.coefficient }) us vs

pub moved-moved : (m n : ℕ) (ts : List (Term Place)) → moved m (moved n ts) ≡ moved (m + n) ts
moved-moved m n [] = refl
moved-moved m n (t ∷ ts) =
    let same : m + (n + t.at.position) ≡ (m + n) + t.at.position = omega arith in
    λ i. record { at = record { position = same i; monomial = t.at.monomial }; coefficient = t.coefficient } ∷
    moved-moved m n ts i

pub negative-moved : (p n : ℕ) (ts : List (Term Place)) → negative p (moved n ts) ≡ moved n (negative p ts)
negative-moved p n [] = refl
negative-moved p n (t ∷ ts) =
    ap (λ us. negative_term p (record
    { at = record { position = n + t.at.position; monomial = t.at.monomial }; coefficient = t.coefficient }) ∷ us)
    (negative-moved p n ts)

-- combinations of rows that have equal entries at two positions
pub entry-row_combination_same : (ring : Ring) → 0 < ring.modulus → (rows others : List Vector) (j l : ℕ)
    → ((i : ℕ) → entry j (row_at rows i) ≡ entry l (row_at others i)) → (c : List (Term Place))
    → entry j (row_combination ring rows c) ≡ entry l (row_combination ring others c)
entry-row_combination_same ring positive rows others j l same c =
    entry-combination ring positive j (λ (k : Place). k.monomial) (λ (k : Place). row_at rows k.position) c
    ∙ (λ i. combination (monomial_cmp ring.weights) product ring.modulus (λ (k : Place). k.monomial)
    (λ (k : Place). same k.position i) c)
    ∙ sym (entry-combination ring positive l (λ (k : Place). k.monomial) (λ (k : Place). row_at others k.position) c)
