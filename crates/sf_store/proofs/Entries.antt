-- What is kept of matrices that were looked at: where their entries stand, and one more.
use Rattle.std.proofs.Common.{◌≡◌, ◌||◌, Bool, true, false, ℕ, zero, suc, ◌+◌, List, [], ◌∷◌, ◌++◌, map, take, Option, Some, None, inl, inr, refl, sym, ◌∙◌, ap, subst, slice_get, slice_index_or, IsSome, not}
use Rattle.std.specs.List.{AllByRecursion}
use Rattle.std.specs.Option.{option_map}
use Rattle.std.proofs.lemmas.Bool.{cases_Bool}
use Rattle.std.proofs.lemmas.List.{length-append, map-append}
use Rattle.std.proofs.lemmas.List.Folds.{list_any-append}
use Rattle.std.proofs.lemmas.Option.{slice_get-map}
use Rattle.sf_algebra.specs.Matrices.{Matrix}
use Rattle.sf_algebra.proofs.Basics.Lists.{AllByRecursion-append, take-slice_get}
use Rattle.sf_algebra.proofs.GradedMatrices.Equality.{same_matrix, Decides-same_matrix}
use Rattle.sf_matrix.specs.Tables.{AreDistinct, Entry, IsFound, IsTable, graph_at, is_among, matrices_of, matrix_at}
use Rattle.sf_buchberger.specs.declared.whole.GraphBasis.{GraphBasis}
use Rattle.sf_store.specs.Looks.{AreLooks, IsFoundBasis, entry_of, table_of}
use Rattle.sf_store.specs.declared.looked.Looked.{Looked}

-- the matrices, one by one
abbrev pub matrices : List Looked → List Matrix
matrices items = matrices_of (map entry_of items)

pub slice_get-matrices : (items : List Looked) (k : ℕ) (l : Looked) → slice_get items k ≡ Some l
    → slice_get (matrices items) k ≡ Some l.matrix
slice_get-matrices items k l h =
    slice_get-map (λ (e : Entry). e.matrix) (map entry_of items) k
    ∙ ap (option_map (λ (e : Entry). e.matrix)) (slice_get-map entry_of items k ∙ ap (option_map entry_of) h)

-- m isn't among one matrix more, where that is another one
pub is_among-push : (m n : Matrix) (ms : List Matrix) → is_among m ms ≡ false → same_matrix m n ≡ false
    → is_among m (ms ++ n ∷ []) ≡ false
is_among-push m n ms none other =
    list_any-append (same_matrix m) ms (n ∷ []) ∙ (λ i. none i || (other i || false))

pub is_among-take : (m : Matrix) (items : List Looked) (k : ℕ) (l : Looked) → slice_get items k ≡ Some l
    → is_among m (matrices (take k items)) ≡ false → same_matrix m l.matrix ≡ false
    → is_among m (matrices (take (k + 1) items)) ≡ false
is_among-take m items k l h none other =
    ap (λ ls. is_among m (matrices ls)) (take-slice_get items k l h)
    ∙ ap (is_among m)
    (ap matrices_of (map-append entry_of (take k items) (l ∷ []))
    ∙ map-append (λ (e : Entry). e.matrix) (map entry_of (take k items)) (entry_of l ∷ []))
    ∙ is_among-push m l.matrix (matrices (take k items)) none other

same_matrix-sym : (m n : Matrix) → same_matrix m n ≡ false → same_matrix n m ≡ false
same_matrix-sym m n differ =
    elim (cases_Bool (same_matrix n m)) [
      | inl same ↦
          let again : same_matrix m n ≡ true = (Decides-same_matrix m n).1 (sym ((Decides-same_matrix n m).0 same)) in
          absurd (let clash : true ≡ false = sym again ∙ differ in cc)
      | inr other ↦ other
    ]

or_false : (a b : Bool) → (a || b) ≡ false → (a ≡ false) × (b ≡ false)
or_false true b h = cc
or_false false b h = (refl, h)

not_true : (b : Bool) → not b ≡ true → b ≡ false
not_true true h = cc
not_true false h = refl

pub AreDistinct-push : (ms : List Matrix) (m : Matrix) → AreDistinct ms → is_among m ms ≡ false
    → AreDistinct (ms ++ m ∷ [])
AreDistinct-push [] m h none = (refl, tt)
AreDistinct-push (n ∷ ns) m h none =
    let both = or_false (same_matrix m n) (is_among m ns) none in
    let other = is_among-push n m ns (not_true (is_among n ns) h.0) (same_matrix-sym m n both.0) in
    (ap not other, AreDistinct-push ns m h.1 both.1)

-- one look more
pub AreLooks-push : (limit : ℕ) (items : List Looked) (ticks : ℕ) → AreLooks limit items ticks → (m : Matrix)
    (basis : Option GraphBasis) → IsFoundBasis limit m basis → is_among m (matrices items) ≡ false
    → AreLooks limit (items ++ record { matrix = m; basis = basis } ∷ []) (ticks + 1)
AreLooks-push limit items ticks h m basis found missing =
    let l : Looked = record { matrix = m; basis = basis } in
    let pushed : matrices (items ++ l ∷ []) ≡ matrices items ++ m ∷ [] =
    ap matrices_of (map-append entry_of items (l ∷ [])) ∙ map-append (λ (e : Entry). e.matrix) (map entry_of items) (entry_of l ∷ []) in
    record {
      least = h.least;
      greatest = h.greatest;
      found = AllByRecursion-append _ items (l ∷ []) h.found (found, tt);
      distinct = subst AreDistinct (sym pushed) (AreDistinct-push (matrices items) m h.distinct missing);
      counted = ap (λ n. n + 1) h.counted ∙ sym (length-append items (l ∷ []));
    }

-- the table of looks
IsFound-entry : (limit : ℕ) (m : Matrix) (basis : Option GraphBasis) → IsFoundBasis limit m basis
    → IsFound limit m (option_map (λ (b : GraphBasis). b.graph) basis)
IsFound-entry limit m None h = h
IsFound-entry limit m (Some b) h = (b.elements.rows, h.small, h.graph)

found-entries : (limit : ℕ) (items : List Looked) → AllByRecursion (λ (l : Looked). IsFoundBasis limit l.matrix l.basis) items
    → AllByRecursion (λ (e : Entry). IsFound limit e.matrix e.found) (map entry_of items)
found-entries limit [] h = tt
found-entries limit (l ∷ ls) h = (IsFound-entry limit l.matrix l.basis h.0, found-entries limit ls h.1)

pub IsTable-looks : (limit : ℕ) (items : List Looked) (ticks : ℕ) → AreLooks limit items ticks
    → IsTable (table_of limit items)
IsTable-looks limit items ticks h = record { found = found-entries limit items h.found; distinct = h.distinct }

-- the matrix of an entry that has a graph
pub matrix_at-look : (limit : ℕ) (items : List Looked) (k : ℕ) (l : Looked) → l ≡ slice_index_or items k l
    → IsSome (graph_at (table_of limit items) k) → matrix_at (table_of limit items) k ≡ Some l.matrix
matrix_at-look limit [] k l is some = cc
matrix_at-look limit (x ∷ xs) zero l is some = ap (λ (y : Looked). Some y.matrix) (sym is)
matrix_at-look limit (x ∷ xs) (suc k) l is some = matrix_at-look limit xs k l is some
