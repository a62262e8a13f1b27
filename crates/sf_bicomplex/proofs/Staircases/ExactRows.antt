-- Rows that are exact as matrices are exact rows of the total complex.
use Rattle.std.proofs.Common.{◌≡◌, ℕ, suc, ◌<◌, List, [], sym, ap, ◌∙◌, subst, arith, ℤ, pos, ◌-ℤ◌}
use Rattle.sf_algebra.specs.Groups.{Group}
use Rattle.sf_algebra.specs.Matrices.{row_degrees}
use Rattle.sf_algebra.specs.MatrixOperations.{part_terms, row_combination}
use Rattle.sf_algebra.specs.Terms.{Term}
use Rattle.sf_algebra.specs.Vectors.{IsVector, Place, Vector}
use Rattle.sf_algebra.proofs.Basics.Lists.{AllByRecursion-weaken}
use Rattle.sf_algebra.proofs.Operators.Groups.{unit_first}
use Rattle.sf_algebra.proofs.Vectors.VectorGroups.{vectors_of_degree}
use Rattle.sf_algebra.proofs.Vectors.VectorProps.{vector_unique}
use Rattle.sf_groebner.specs.Spans.{InSpan, IsSyzygy}
use Rattle.sf_groebner.proofs.PartsOfBases.PartLeads.{part_terms-before}
use Rattle.sf_chase.specs.Columns.{ColumnOf, Columned}
use Rattle.sf_chase.specs.Staircases.{IsExactRow}
use Rattle.sf_chase.proofs.Links.{difference-less}
use Rattle.sf_bicomplex.specs.Bicomplexes.{Bicomplex, IsBicomplex}
use Rattle.sf_bicomplex.specs.TotalColumns.{column_start, place}
use Rattle.sf_bicomplex.proofs.Staircases.FreeTotals.{image-flat, image-lower}
use Rattle.sf_bicomplex.proofs.TotalComplexes.Diagonals.{horizontal_ring, horizontal_source, row-left}
use Rattle.sf_bicomplex.proofs.TotalComplexes.TotalGroups.{total-differential, total_column, total_group, total_image}

-- an element less its sum with another one
less-sum : {R : Type 0} (G : Group R) (u v : G.V) → G.plus v (G.minus (G.plus u v)) ≡ G.minus u
less-sum G u v =
    ap (λ x. G.plus v (G.minus x)) (G.comm u v) ∙ sym (difference-less G v v u)
    ∙ ap (λ x. G.plus x (G.minus u)) (G.inverse v) ∙ unit_first G (G.minus u)

-- an element of column j, less one that has the same coordinates there and else stands in column j + 1, stands in that
row-step : {R : Type 0} (Y : Columned R) (j : ℕ) (C : ColumnOf Y j) (v w x y : Y.group.V) → Y.column j v
    → Y.column (suc j) x → Y.column j y → Y.group.plus x y ≡ w → C.taken w ≡ C.taken v → C.taken x ≡ C.group.zero
    → Y.column (suc j) (Y.group.plus v (Y.group.minus w))
row-step Y j C v w x y column high low sum taken nothing =
    let same_taken : C.taken y ≡ C.taken v =
    sym (unit_first C.group (C.taken y)) ∙ ap (λ z. C.group.plus z (C.taken y)) (sym nothing)
    ∙ sym (C.taken_map.to_plus x y) ∙ ap C.taken sum ∙ taken in
    let same : y ≡ v = sym (C.put_taken y low) ∙ ap C.put same_taken ∙ C.put_taken v column in
    let whole : Y.group.plus x v ≡ w = ap (Y.group.plus x) (sym same) ∙ sum in
    subst (λ z. Y.column (suc j) (Y.group.plus v (Y.group.minus z))) whole
    (subst (Y.column (suc j)) (sym (less-sum Y.group x v)) ((Y.column_sub (suc j)).has_minus x high))

module _ (b : Bicomplex) (h : IsBicomplex b) (n : ℤ) (d : ℤ) (p : ℕ) (ts : List (Term Place)) where
  -- vectors of a place that dh sends to 0
  pub syzygy-across : IsVector b.ring (place b n p).target (record { degree = d; terms = ts })
      → row_combination b.ring (b.horizontal p (n -ℤ pos p)).rows ts ≡ []
      → IsSyzygy (b.horizontal p (n -ℤ pos p)) (record { degree = d; terms = ts })
  syzygy-across vector none = record {
    coefficients =
        subst (λ q. IsVector q (row_degrees (b.horizontal p (n -ℤ pos p))) (record { degree = d; terms = ts }))
        (sym (horizontal_ring b h n p))
        (subst (λ ds. IsVector b.ring ds (record { degree = d; terms = ts })) (sym (horizontal_source b h n p)) vector);
    zero = subst (λ q. row_combination q (b.horizontal p (n -ℤ pos p)).rows ts ≡ []) (sym (horizontal_ring b h n p)) none;
  }

  pub across-syzygy : IsSyzygy (b.horizontal p (n -ℤ pos p)) (record { degree = d; terms = ts })
      → row_combination b.ring (b.horizontal p (n -ℤ pos p)).rows ts ≡ []
  across-syzygy e =
      subst (λ q. row_combination q (b.horizontal p (n -ℤ pos p)).rows ts ≡ []) (horizontal_ring b h n p) e.zero

-- a vector that dh gives
pub record IsAcross (b : Bicomplex) (n : ℤ) (d : ℤ) (p : ℕ) (ts : List (Term Place)) : Type 0 where
  pub source : List (Term Place)
  pub vector : IsVector b.ring (place b n p).target (record { degree = d; terms = source })
  pub value : row_combination b.ring (b.horizontal p (n -ℤ pos p)).rows source ≡ ts

spanned-across : (b : Bicomplex) → IsBicomplex b → (n d : ℤ) (p : ℕ) (ts : List (Term Place))
    → InSpan (b.horizontal p (n -ℤ pos p)) (record { degree = d; terms = ts }) → IsAcross b n d p ts
spanned-across b h n d p ts e =
    let u : Vector = e.coefficients in
    let degree : u.degree ≡ d = ap (λ (v : Vector). v.degree) e.value in
    let over : IsVector b.ring (place b n p).target u =
    subst (λ ds. IsVector b.ring ds u) (horizontal_source b h n p)
    (subst (λ q. IsVector q (row_degrees (b.horizontal p (n -ℤ pos p))) u) (horizontal_ring b h n p) e.homogeneous) in
    record {
      source = u.terms;
      vector = subst (λ g. IsVector b.ring (place b n p).target (record { degree = g; terms = u.terms })) degree over;
      value =
          subst (λ q. row_combination q (b.horizontal p (n -ℤ pos p)).rows u.terms ≡ ts) (horizontal_ring b h n p)
          (ap (λ (v : Vector). v.terms) e.value);
    }

module _ (b : Bicomplex) (h : IsBicomplex b) (k n m : ℤ) (above : n ≡ k -ℤ pos 1) (lower : m ≡ n -ℤ pos 1) (d : ℤ) where
  -- the image of what stands in column j + 1 has dh of it in column j
  put-across : (j : ℕ) (inside : suc j < b.columns)
      (source : (vectors_of_degree b.ring h.is_ring.modulus (place b k (suc j)).target d).V)
      → part_terms (column_start b n (suc j)) (column_start b n j)
      (total_image b h k n above d ((total_column b h k d (suc j) inside).put source)).0
      ≡ row_combination b.ring (b.horizontal (suc j) (k -ℤ pos (suc j))).rows source.0
  put-across j inside source =
      let D = total_column b h k d (suc j) inside in
      let back : (D.taken (D.put source)).0 ≡ source.0 = ap (λ (x : D.group.V). x.0) (D.taken_put source) in
      image-lower b h k n above d j inside (D.put source) (D.put_column source)
      ∙ ap (row_combination b.ring (b.horizontal (suc j) (k -ℤ pos (suc j))).rows) back

  pub exact-row : (j : ℕ) → suc j < b.columns
      → ((v : Vector) → IsSyzygy (b.horizontal j (n -ℤ pos j)) v → InSpan (b.horizontal (suc j) (n -ℤ pos j)) v)
      → IsExactRow (total_group b h k d) (total_group b h n d) (total_group b h m d) (total_image b h k n above d)
      (total_image b h n m lower d) j
  exact-row j inside exact v flat =
      let Y = total_group b h n d in
      let C = total_column b h n d j (omega arith) in
      let D = total_column b h k d (suc j) inside in
      let image = total_image b h k n above d in
      let taken = C.taken v in
      let none = image-flat b h n m lower d j (omega arith) v flat.0 flat.1 in
      let spans : InSpan (b.horizontal (suc j) (k -ℤ pos (suc j))) (record { degree = d; terms = taken.0 }) =
      subst (λ q. InSpan (b.horizontal (suc j) q) (record { degree = d; terms = taken.0 })) (sym (row-left k n j above))
      (exact (record { degree = d; terms = taken.0 }) (syzygy-across b h n d j taken.0 taken.1 none)) in
      let across = spanned-across b h k d (suc j) taken.0 spans in
      let source : D.group.V = (across.source, across.vector) in
      let u = D.put source in
      let column = D.put_column source in
      let parts = (total-differential b h k n above d).steps j u column in
      let value : C.taken (image u) ≡ taken =
      vector_unique b.ring (place b n j).target d (C.taken (image u)) taken (◌∙◌ {a = (C.taken (image u)).0} (put-across j inside source) across.value) in
      let nothing : C.taken parts.0 ≡ C.group.zero =
      vector_unique b.ring (place b n j).target d (C.taken parts.0) C.group.zero
      (part_terms-before (column_start b n (suc j)) (column_start b n j) (parts.0).0
      (AllByRecursion-weaken _ _ (λ x e. e.1) (parts.0).0 parts.2)) in
      (u, column, row-step Y j C v (image u) parts.0 parts.1 flat.0 parts.2 parts.3 parts.4 value nothing)
