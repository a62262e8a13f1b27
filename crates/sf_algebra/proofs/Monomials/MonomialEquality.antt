-- Monomials are equal where their exponents are, and there alone the order of monomials does not tell them apart.
use Rattle.std.proofs.Common.{◌≡◌, Bool, ◌&&◌, ◌==◌, ap, sym, ◌∙◌, is_eq}
use Rattle.std.specs.Bool.{Decides, one_answer}
use Rattle.std.specs.Cmp.{Equal-is}
use Rattle.std.proofs.lemmas.Bool.Decides.{Decides-eqb, Decides-and}
use Rattle.std.proofs.lemmas.Cmp.{tied_itself}
use Rattle.sf_algebra.specs.Monomials.{Monomial, monomial_cmp}
use Rattle.sf_algebra.specs.Rings.{Weights}
use Rattle.sf_algebra.proofs.Monomials.Orders.{monomial_cmp_total, monomial_cmp-Equal}

-- a test of the exponents, one after another
abbrev pub same_exponents : Monomial → Monomial → Bool
same_exponents a b =
    (a.e1 == b.e1) && ((a.e2 == b.e2) && ((a.e3 == b.e3) && ((a.e4 == b.e4) && ((a.e5 == b.e5) && (a.e6 == b.e6)))))

pub Decides-same_exponents : (a b : Monomial) → Decides (same_exponents a b) (a ≡ b)
Decides-same_exponents a b =
    let d = Decides-and _ _ (Decides-eqb a.e1 b.e1) (Decides-and _ _ (Decides-eqb a.e2 b.e2) (Decides-and _ _ (Decides-eqb a.e3 b.e3) (Decides-and _ _ (Decides-eqb a.e4 b.e4) (Decides-and _ _ (Decides-eqb a.e5 b.e5) (Decides-eqb a.e6 b.e6))))) in (
      λ h. let p =
          d.0 h in λ i. record { e1 = p.0 i; e2 = p.1.0 i; e3 = p.1.1.0 i; e4 = p.1.1.1.0 i; e5 = p.1.1.1.1.0 i; e6 = p.1.1.1.1.1 i },
      λ e. d.1 (ap (λ m. m.e1) e, (ap (λ m. m.e2) e, (ap (λ m. m.e3) e, (ap (λ m. m.e4) e, (ap (λ m. m.e5) e, ap (λ m. m.e6) e))))),
    )

pub same_exponents-monomial_cmp : (weights : Weights) (a b : Monomial)
    → same_exponents a b ≡ is_eq (monomial_cmp weights a b)
same_exponents-monomial_cmp weights a b =
    one_answer _ _ (Decides-same_exponents a b) (
      λ h. monomial_cmp-Equal weights a b ((Equal-is (monomial_cmp weights a b)).0 h),
      λ e. (Equal-is (monomial_cmp weights a b)).1
          (ap (λ m. monomial_cmp weights a m) (sym e) ∙ tied_itself (monomial_cmp_total weights) a),
    )
