-- Sums of residues whose terms are exchanged.
use Rattle.std.proofs.Common.{◌≡◌, ℕ, sym, ap, ◌∙◌}
use Rattle.sf_algebra.specs.Residues.{sum_mod}
use Rattle.sf_algebra.proofs.Arithmetic.Residues.{sum_mod-assoc, sum_mod-comm}

-- the first two of three terms may be exchanged
pub sum_mod-left_comm : (p a b c : ℕ) → sum_mod p a (sum_mod p b c) ≡ sum_mod p b (sum_mod p a c)
sum_mod-left_comm p a b c =
    sym (sum_mod-assoc p a b c) ∙ ap (λ n. sum_mod p n c) (sum_mod-comm p a b) ∙ sum_mod-assoc p b a c
