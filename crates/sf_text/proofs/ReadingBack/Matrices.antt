-- A printed matrix reads back as itself.
use Rattle.std.proofs.Common.{◌≡◌, ℕ, zero, suc, ◌+◌, ◌<◌, List, [], ◌∷◌, length, map, true, None, refl, sym, ap, subst, ◌∙◌, ℤ, arith}
use Rattle.std.specs.List.{AllByRecursion, list_all}
use Rattle.std.specs.Ordering.{int_eq}
use Rattle.std.proofs.lemmas.Bool.Decides.{Decides-int_eq}
use Rattle.sf_algebra.specs.Rings.{plain, ones}
use Rattle.sf_algebra.specs.Printing.{rows_text}
use Rattle.sf_algebra.specs.Terms.{Term, IsNonzeroResidue}
use Rattle.sf_algebra.specs.Vectors.{Place, Vector, place_degree, row_degree, IsVector, IsHomogeneous}
use Rattle.sf_algebra.proofs.Vectors.Entries.{without_position}
use Rattle.sf_text.specs.MatrixText.{matrix_written}
use Rattle.sf_text.specs.Placed.{row_vector, is_homogeneous, first_fault}
use Rattle.sf_text.specs.ReadingBack.{IsWritableRing, IsWritableMonomial, IsWritableRow, IsOneWord, IsReadAs, without_degree, ReadsBack, ReadsBackWithoutDegrees, ReadsBackWithoutRows, HasReadDegree}
use Rattle.sf_text.specs.declared.ring.Ring.{Ring}
use Rattle.sf_text.proofs.ReadingBack.OneWord.{one_word}
use Rattle.sf_text.proofs.ReadingBack.Rows.{HasWritableTerms, raw_row, matrix_written-rows, rows_text-each}
use Rattle.sf_text.proofs.ReadingBack.Columns.{IsWithin, IsReadTerm, row-read}
use Rattle.sf_text.proofs.ReadingBack.Shapes.{has_shape-raw, first_unknown-raw}

-- the first term has the degree of all
row_degree-homogeneous : (degrees : List ℤ) (d : ℤ) (ts : List (Term Place)) → IsHomogeneous ones degrees d ts
    → 0 < length ts → row_degree ones degrees ts ≡ d
row_degree-homogeneous degrees d [] h some = absurd (omega arith)
row_degree-homogeneous degrees d (t ∷ ts) h some = sym h.0.1

pub has_read_degree : HasReadDegree
has_read_degree p degrees v h some =
    (λ i. record { degree = row_degree-homogeneous degrees v.degree v.terms h.homogeneous some i; terms = v.terms })

degrees-same : (degrees : List ℤ) (d e : ℤ) (ts : List (Term Place)) → d ≡ e → IsHomogeneous ones degrees d ts
    → list_all (λ t. int_eq (place_degree ones degrees t.at) e) ts ≡ true
degrees-same degrees d e [] is h = refl
degrees-same degrees d e (t ∷ ts) is h =
    let here : int_eq (place_degree ones degrees t.at) e ≡ true =
    (Decides-int_eq (place_degree ones degrees t.at) e).1 (sym h.0.1 ∙ is) in
    rw here (degrees-same degrees d e ts is h.1)

is_homogeneous-read : (degrees : List ℤ) (d : ℤ) (ts : List (Term Place)) → IsHomogeneous ones degrees d ts
    → is_homogeneous degrees (record { degree = row_degree ones degrees ts; terms = ts }) ≡ true
is_homogeneous-read degrees d [] h = refl
is_homogeneous-read degrees d (t ∷ ts) h = degrees-same degrees d (place_degree ones degrees t.at) (t ∷ ts) h.0.1 h

first_fault-read : (i : ℕ) (p : ℕ) (degrees : List ℤ) (rows : List Vector) → AllByRecursion (IsVector (plain p) degrees) rows
    → first_fault i degrees (map (without_degree degrees) rows) ≡ None
first_fault-read i p degrees [] h = refl
first_fault-read i p degrees (v ∷ vs) h =
    rw (is_homogeneous-read degrees v.degree v.terms h.0.homogeneous) (first_fault-read (i + 1) p degrees vs h.1)

module _ (ring : Ring) (h : IsWritableRing ring) (degrees : List ℤ) where
  terms-writable : (ts : List (Term Place)) → AllByRecursion (λ t. IsWritableMonomial ring.names t.at.monomial) ts
      → AllByRecursion (IsNonzeroResidue ring.modulus) ts → HasWritableTerms ring.names ts
  terms-writable [] monomials residues = tt
  terms-writable (t ∷ ts) monomials residues =
      ((monomials.0, omega (arith, residues.0.1, h.digits)), terms-writable ts monomials.1 residues.1)

  terms-read : (ts : List (Term Place)) → AllByRecursion (λ t. IsWritableMonomial ring.names t.at.monomial) ts
      → AllByRecursion (IsNonzeroResidue ring.modulus) ts → AllByRecursion (λ t. IsReadTerm ring (without_position t)) ts
  terms-read [] monomials residues = tt
  terms-read (t ∷ ts) monomials residues =
      ((monomials.0.known, residues.0.1), terms-read ts monomials.1 residues.1)

  terms-within : (d : ℤ) (ts : List (Term Place)) → IsHomogeneous ones degrees d ts → IsWithin 0 (length degrees) ts
  terms-within d [] k = tt
  terms-within d (t ∷ ts) k = ((omega arith, omega (arith, k.0.0)), terms-within d ts k.1)

  rows-writable : (rows : List Vector) → AllByRecursion (IsVector (plain ring.modulus) degrees) rows
      → AllByRecursion (IsWritableRow ring.names) rows
      → AllByRecursion (λ (v : Vector). HasWritableTerms ring.names v.terms) rows
  rows-writable [] k monomials = tt
  rows-writable (v ∷ vs) k monomials =
      (terms-writable v.terms monomials.0 k.0.canonical.residues, rows-writable vs k.1 monomials.1)

  row_vector-read : (v : Vector) → IsVector (plain ring.modulus) degrees v → IsWritableRow ring.names v
      → row_vector ring degrees (raw_row ring.names (length degrees) v) ≡ without_degree degrees v
  row_vector-read v k monomials =
      ap (λ (ts : List (Term Place)). record { degree = row_degree ones degrees ts; terms = ts })
      (row-read ring h.positive h.few h.distinct (length degrees) v.terms k.canonical
      (terms-read v.terms monomials k.canonical.residues) (terms-within v.degree v.terms k.homogeneous))

  rows-read : (rows : List Vector) → AllByRecursion (IsVector (plain ring.modulus) degrees) rows
      → AllByRecursion (IsWritableRow ring.names) rows
      → map (row_vector ring degrees) (map (raw_row ring.names (length degrees)) rows) ≡ map (without_degree degrees) rows
  rows-read [] k monomials = refl
  rows-read (v ∷ vs) k monomials =
      (λ i. row_vector-read v k.0 monomials.0 i ∷ rows-read vs k.1 monomials.1 i)

rows_text-filled : (names : List (List ℕ)) (columns : ℕ) (rows : List Vector)
    → 0 < length (rows_text names columns rows)
rows_text-filled names zero rows = omega arith
rows_text-filled names (suc n) rows = omega arith

pub reads_back_without_degrees : ReadsBackWithoutDegrees
reads_back_without_degrees ring m h some =
    let rows = subst (λ r. AllByRecursion (IsVector r m.target) m.rows) h.over h.matrix in
    let columns = length m.target in
    let same = rows-read ring h.writable m.target m.rows rows h.monomials in
    record {
      raw = record { rows = map (raw_row ring.names columns) m.rows };
      one_word =
          one_word (rows_text ring.names columns m.rows)
          (rows_text-each ring.names h.writable.few h.writable.names columns some m.rows
          (rows-writable ring h.writable m.target m.rows rows h.monomials))
          (rows_text-filled ring.names columns m.rows);
      written =
          matrix_written-rows ring.names h.writable.few h.writable.names columns some m.rows
          (rows-writable ring h.writable m.target m.rows rows h.monomials);
      known = first_unknown-raw ring.names columns m.rows;
      shaped = has_shape-raw ring.names columns m.rows;
      homogeneous = ap (first_fault 1 m.target) same ∙ first_fault-read 1 ring.modulus m.target m.rows rows;
      means = (λ i. record { ring = sym h.over i; target = m.target; rows = same i });
    }

degrees_read : (p : ℕ) (degrees : List ℤ) (rows : List Vector) → AllByRecursion (IsVector (plain p) degrees) rows
    → AllByRecursion (λ (v : Vector). 0 < length v.terms) rows → map (without_degree degrees) rows ≡ rows
degrees_read p degrees [] h some = refl
degrees_read p degrees (v ∷ vs) h some =
    (λ i. has_read_degree p degrees v h.0 some.0 i ∷ degrees_read p degrees vs h.1 some.1 i)

pub reads_back : ReadsBack
reads_back ring m h columns some =
    let rows = subst (λ r. AllByRecursion (IsVector r m.target) m.rows) h.over h.matrix in
    let same = degrees_read ring.modulus m.target m.rows rows some in
    subst (λ (vs : List Vector). IsReadAs ring m (record { ring = m.ring; target = m.target; rows = vs })) same
    (reads_back_without_degrees ring m h columns)

pub reads_back_without_rows : ReadsBackWithoutRows
reads_back_without_rows ring m h none = record {
  raw = record { rows = [] };
  one_word =
      subst (λ (degrees : List ℤ). IsOneWord (rows_text ring.names (length degrees) m.rows)) (sym none)
      (record { line = refl; word = refl });
  written = ap (λ (degrees : List ℤ). matrix_written (rows_text ring.names (length degrees) m.rows)) none;
  known = refl;
  shaped = refl;
  homogeneous = refl;
  means = (λ i. record { ring = sym h.over i; target = m.target; rows = [] });
}
