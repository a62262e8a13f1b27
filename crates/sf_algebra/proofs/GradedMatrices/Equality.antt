-- Terms, vectors and matrices are equal where all their parts are.
use Rattle.std.proofs.Common.{◌≡◌, Bool, ◌&&◌, ◌==◌, int_eq, nat_eq, refl, ap}
use Rattle.std.specs.Bool.{Decides}
use Rattle.std.specs.Cmp.{IsEquivalence, IsPartialEquivalence, decided, partial_equiv_from_equiv}
use Rattle.std.specs.Cmp.Lexicographic.{pointwise}
use Rattle.std.proofs.lemmas.Bool.Decides.{Decides-eqb, Decides-and, Decides-int_eq}
use Rattle.std.proofs.lemmas.Slice.Eq.{slice_eq-Decides}
use Rattle.sf_algebra.specs.Matrices.{Matrix}
use Rattle.sf_algebra.specs.Rings.{Ring, Weights}
use Rattle.sf_algebra.specs.Terms.{Term}
use Rattle.sf_algebra.specs.Vectors.{Place, Vector}
use Rattle.sf_algebra.proofs.Monomials.MonomialEquality.{same_exponents, Decides-same_exponents}

-- position, monomial and coefficient, one after another
abbrev pub same_term : Term Place → Term Place → Bool
same_term t u =
    (t.at.position == u.at.position) && (same_exponents t.at.monomial u.at.monomial && (t.coefficient == u.coefficient))

pub Decides-same_term : (t u : Term Place) → Decides (same_term t u) (t ≡ u)
Decides-same_term t u =
    let d = Decides-and _ _ (Decides-eqb t.at.position u.at.position) (Decides-and _ _ (Decides-same_exponents t.at.monomial u.at.monomial) (Decides-eqb t.coefficient u.coefficient)) in (
      λ h. let p = d.0 h in λ i. record { at = record { position = p.0 i; monomial = p.1.0 i }; coefficient = p.1.1 i },
      λ e. d.1 (ap (λ s. s.at.position) e, (ap (λ s. s.at.monomial) e, ap (λ s. s.coefficient) e)),
    )

-- the degree and the terms
abbrev pub same_vector : Vector → Vector → Bool
same_vector v w = int_eq v.degree w.degree && pointwise same_term v.terms w.terms

pub Decides-same_vector : (v w : Vector) → Decides (same_vector v w) (v ≡ w)
Decides-same_vector v w =
    let d = Decides-and _ _ (Decides-int_eq v.degree w.degree) (slice_eq-Decides Decides-same_term v.terms w.terms (pointwise same_term v.terms w.terms) refl) in (
      λ h. let p = d.0 h in λ i. record { degree = p.0 i; terms = p.1 i },
      λ e. d.1 (ap (λ u. u.degree) e, ap (λ u. u.terms) e),
    )

-- the weights of each variable
abbrev pub same_weights : Weights → Weights → Bool
same_weights v w =
    nat_eq v.w1 w.w1 && (nat_eq v.w2 w.w2 && (nat_eq v.w3 w.w3 && (nat_eq v.w4 w.w4 && (nat_eq v.w5 w.w5 && nat_eq v.w6 w.w6))))

pub Decides-same_weights : (v w : Weights) → Decides (same_weights v w) (v ≡ w)
Decides-same_weights v w =
    let d = Decides-and _ _ (Decides-eqb v.w1 w.w1)
    (Decides-and _ _ (Decides-eqb v.w2 w.w2)
    (Decides-and _ _ (Decides-eqb v.w3 w.w3)
    (Decides-and _ _ (Decides-eqb v.w4 w.w4)
    (Decides-and _ _ (Decides-eqb v.w5 w.w5) (Decides-eqb v.w6 w.w6))))) in (
      λ h. let p =
          d.0 h in λ i. record { w1 = p.0 i; w2 = p.1.0 i; w3 = p.1.1.0 i; w4 = p.1.1.1.0 i; w5 = p.1.1.1.1.0 i; w6 = p.1.1.1.1.1 i },
      λ e. d.1 (ap (λ k. k.w1) e, (ap (λ k. k.w2) e, (ap (λ k. k.w3) e, (ap (λ k. k.w4) e, (ap (λ k. k.w5) e, ap (λ k. k.w6) e))))),
    )

-- the weights, which at fixed ones compute, and the modulus
abbrev pub same_ring : Ring → Ring → Bool
same_ring r s = same_weights r.weights s.weights && nat_eq r.modulus s.modulus

pub Decides-same_ring : (r s : Ring) → Decides (same_ring r s) (r ≡ s)
Decides-same_ring r s =
    let d = Decides-and _ _ (Decides-same_weights r.weights s.weights) (Decides-eqb r.modulus s.modulus) in (
      λ h. let p = d.0 h in λ i. record { weights = p.0 i; modulus = p.1 i },
      λ e. d.1 (ap (λ k. k.weights) e, ap (λ k. k.modulus) e),
    )

-- the ring, the degrees and the rows
abbrev pub same_matrix : Matrix → Matrix → Bool
same_matrix m n = same_ring m.ring n.ring && (pointwise int_eq m.target n.target && pointwise same_vector m.rows n.rows)

pub Decides-same_matrix : (m n : Matrix) → Decides (same_matrix m n) (m ≡ n)
Decides-same_matrix m n =
    let d = Decides-and _ _ (Decides-same_ring m.ring n.ring)
    (Decides-and _ _ (slice_eq-Decides Decides-int_eq m.target n.target (pointwise int_eq m.target n.target) refl)
    (slice_eq-Decides Decides-same_vector m.rows n.rows (pointwise same_vector m.rows n.rows) refl)) in (
      λ h. let p = d.0 h in λ i. record { ring = p.0 i; target = p.1.0 i; rows = p.1.1 i },
      λ e. d.1 (ap (λ k. k.ring) e, (ap (λ k. k.target) e, ap (λ k. k.rows) e)),
    )

pub same_vector_equiv : IsEquivalence same_vector
same_vector_equiv = decided same_vector Decides-same_vector

pub same_vector_per : IsPartialEquivalence same_vector
same_vector_per = partial_equiv_from_equiv same_vector_equiv

pub same_matrix_equiv : IsEquivalence same_matrix
same_matrix_equiv = decided same_matrix Decides-same_matrix

pub same_matrix_per : IsPartialEquivalence same_matrix
same_matrix_per = partial_equiv_from_equiv same_matrix_equiv
