-- How a table ends that was asked for a matrix: with the same entries where the matrix was there, and else with one more.
use Rattle.std.proofs.Common.{◌≡◌, ◌||◌, true, false, Bool, ℕ, zero, suc, if◌then◌else◌, List, [], ◌∷◌, ◌++◌, length, Option, Some, None, IfSome, Result, Ok, Err, refl, sym, ◌∙◌, ap, subst, slice_get, append-nil}
use Rattle.std.specs.Option.{option_map}
use Rattle.std.proofs.lemmas.List.{map-append}
use Rattle.std.proofs.lemmas.Option.{slice_get-map}
use Rattle.sf_algebra.specs.Matrices.{Matrix}
use Rattle.sf_algebra.proofs.GradedMatrices.Equality.{same_matrix, Decides-same_matrix}
use Rattle.sf_groebner.specs.Small.{IsLarge, IsSmall}
use Rattle.sf_matrix.specs.Tables.{Entry, IsGrown, IsOpened, Opened, Table, graph_of, is_among, matrices_of, matrix_at}
use Rattle.sf_matrix.specs.declared.basis.BaseFault.TheVariants.{Memory, Large}
use Rattle.sf_matrix.specs.declared.basis.BaseFault.{BaseFault}
use Rattle.sf_store.specs.Looks.{HasEntered, Tells}

or_true : (a : Bool) → (a || true) ≡ true
or_true true = refl
or_true false = refl

-- what stands in a list is among it
is_among-get : (m : Matrix) (ms : List Matrix) (k : ℕ) → slice_get ms k ≡ Some m → is_among m ms ≡ true
is_among-get m [] k h = cc
is_among-get m (n ∷ ns) zero h =
    let same : n ≡ m = cc in
    ap (λ b. b || is_among m ns) ((Decides-same_matrix m n).1 (sym same))
is_among-get m (n ∷ ns) (suc k) h =
    ap (λ b. same_matrix m n || b) (is_among-get m ns k h) ∙ or_true (same_matrix m n)

-- the table where the matrix was there
pub IsGrown-same : (t : Table) (m : Matrix) → is_among m (matrices_of t.entries) ≡ true → IsGrown t (m ∷ []) t
IsGrown-same t m there = record {
  limit = refl;
  more = [];
  entries = sym (append-nil t.entries);
  matrices =
      ap (λ (b : Bool). if b then matrices_of t.entries else matrices_of t.entries ++ m ∷ []) (sym there);
}

-- the table with an entry for a matrix that wasn't there
pub IsGrown-entered : (t : Table) (m : Matrix) (u : Table) → is_among m (matrices_of t.entries) ≡ false
    → HasEntered t m u → IsGrown t (m ∷ []) u
IsGrown-entered t m u missing h =
    let last : Entry = record { matrix = m; found = h.found } in
    record {
      limit = ap (λ (x : Table). x.limit) h.after_is;
      more = last ∷ [];
      entries = ap (λ (x : Table). x.entries) h.after_is;
      matrices =
          ap (λ (x : Table). matrices_of x.entries) h.after_is
          ∙ map-append (λ (e : Entry). e.matrix) t.entries (last ∷ [])
          ∙ ap (λ (b : Bool). if b then matrices_of t.entries else matrices_of t.entries ++ m ∷ []) (sym missing);
    }

-- what the entry of m says is how the table ends
pub Opened-told : (t u : Table) (m : Matrix) (k : ℕ) (e : Entry) (r : Result ℕ BaseFault) → slice_get u.entries k ≡ Some e
    → e.matrix ≡ m → IsGrown t (m ∷ []) u → Tells u.limit k e r → Opened t m r u
Opened-told t u m k e (Ok j) there matrix grown tells =
    let found = tells.1.2 in
    let is : e ≡ record { matrix = m; found = Some (graph_of m tells.1.0) } =
    λ i. record { matrix = matrix i; found = (found ∙ ap (λ x. Some (graph_of x tells.1.0)) matrix) i } in (
      record {
        elements = tells.1.0;
        small = subst (λ x. IsSmall u.limit x tells.1.0) matrix tells.1.1;
        entry = ap (slice_get u.entries) tells.0 ∙ there ∙ ap Some is;
      },
      grown,
    )
Opened-told t u m k e (Err Memory) there matrix grown tells = absurd tells
Opened-told t u m k e (Err (Large rows cols)) there matrix grown tells = (
  tells.0 ∙ ap (λ (x : Matrix). length x.rows) matrix,
  tells.1 ∙ ap (λ (x : Matrix). length x.target) matrix,
  subst (λ limit. IsLarge limit m) grown.limit (subst (IsLarge u.limit) matrix tells.2),
  grown,
)

-- what an entry says, by what stands at its number
module _ (t u : Table) (m : Matrix) (k : ℕ) (r : Result ℕ BaseFault) (grown : IsGrown t (m ∷ []) u) where
  told_at : (o : Option Entry) → slice_get u.entries k ≡ o → option_map (λ (e : Entry). e.matrix) o ≡ Some m
      → IfSome o (λ e. Tells u.limit k e r) → Opened t m r u
  told_at None there matrix tells = cc
  told_at (Some e) there matrix tells =
      let same : e.matrix ≡ m = cc in
      Opened-told t u m k e r there same grown tells

  pub Opened-at : slice_get (matrices_of u.entries) k ≡ Some m → IfSome (slice_get u.entries k) (λ e. Tells u.limit k e r)
      → Opened t m r u
  Opened-at matrix tells =
      told_at (slice_get u.entries k) refl (sym (slice_get-map (λ (e : Entry). e.matrix) u.entries k) ∙ matrix) tells

pub Opened-there : (t : Table) (m : Matrix) (k : ℕ) (r : Result ℕ BaseFault) → slice_get (matrices_of t.entries) k ≡ Some m
    → IfSome (slice_get t.entries k) (λ e. Tells t.limit k e r) → Opened t m r t
Opened-there t m k r there tells =
    Opened-at t t m k r (IsGrown-same t m (is_among-get m (matrices_of t.entries) k there)) there tells

slice_get-last : {X : Type 0} (xs : List X) (x : X) → slice_get (xs ++ x ∷ []) (length xs) ≡ Some x
slice_get-last [] x = refl
slice_get-last (y ∷ ys) x = slice_get-last ys x

pub slice_get-entered : (t u : Table) (m : Matrix) (k : ℕ) (h : HasEntered t m u) → k ≡ length t.entries
    → slice_get u.entries k ≡ Some (record { matrix = m; found = h.found })
slice_get-entered t u m k h last =
    (λ i. slice_get (ap (λ (x : Table). x.entries) h.after_is i) (last i))
    ∙ slice_get-last t.entries (record { matrix = m; found = h.found })

pub Opened-entered : (t u : Table) (m : Matrix) (k : ℕ) (r : Result ℕ BaseFault) → is_among m (matrices_of t.entries) ≡ false
    → HasEntered t m u → k ≡ length t.entries → IfSome (slice_get u.entries k) (λ e. Tells u.limit k e r) → Opened t m r u
Opened-entered t u m k r missing h last tells =
    Opened-at t u m k r (IsGrown-entered t m u missing h)
    (slice_get-map (λ (e : Entry). e.matrix) u.entries k
    ∙ ap (option_map (λ (e : Entry). e.matrix)) (slice_get-entered t u m k h last))
    tells

-- the matrix of the entry that was opened
pub matrix_at-opened : (t : Table) (k : ℕ) (m : Matrix) → IsOpened t k m → matrix_at t k ≡ Some m
matrix_at-opened t k m h = ap (option_map (λ (e : Entry). e.matrix)) h.entry
