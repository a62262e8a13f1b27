-- What the steps of an elimination keep: its sum and its lists stand for vectors of the graph, of the same degree.
use Rattle.std.proofs.Common.{◌≡◌, ℕ, Bool, true, false, List, length, refl, sym, ◌∙◌, ap, subst}
use Rattle.std.specs.Prelude.{replicate, MatchBool}
use Rattle.std.proofs.lemmas.List.{length-replicate}
use Rattle.sf_algebra.specs.Matrices.{Matrix, IsMatrix}
use Rattle.sf_algebra.specs.Rings.{IsOverField, ones}
use Rattle.sf_dense.specs.Entries.{Entry, added, dense}
use Rattle.sf_counting.proofs.Counting.GraphLeads.{InGraph}
use Rattle.sf_buchberger.specs.declared.counted.elimination.Elimination.{Elimination}
use Rattle.sf_buchberger.specs.Eliminations.{GoesOn, IsElimination, IsGraphList}
use Rattle.sf_buchberger.proofs.DegreeBases.GraphLists.{InGraph-dense_added, InGraph-dense_zero, length-added}

module _ (m : Matrix) where
  -- nothing is done
  pub GoesOn-same : (e : Elimination) → IsElimination m e → GoesOn m e e
  GoesOn-same e h = record { elimination = h; variables = refl; degree = refl; columns = refl }

  -- one step after another
  pub GoesOn-trans : {e f g : Elimination} → GoesOn m e f → GoesOn m f g → GoesOn m e g
  GoesOn-trans h k = record {
    elimination = k.elimination;
    variables = k.variables ∙ h.variables;
    degree = k.degree ∙ h.degree;
    columns = k.columns ∙ h.columns;
  }

  -- the sum is another one
  pub GoesOn-cells : (e : Elimination) → IsElimination m e → (cs : List ℕ) → length cs ≡ length e.cells
      → InGraph e.variables m e.degree (dense m.ring.modulus e.columns.items cs) → GoesOn m e (record e { cells = cs })
  GoesOn-cells e h cs size sum = record {
    elimination = record { columns = h.columns; size = size ∙ h.size; sum = sum; lists = h.lists };
    variables = refl;
    degree = refl;
    columns = refl;
  }

  -- a multiple of entries is added, or nothing
  module _ (prime : IsOverField m.ring) (matrix : IsMatrix m) (weights : m.ring.weights ≡ ones) where
    pub GoesOn-added : (e : Elimination) → IsElimination m e → (a : ℕ) (es : List Entry)
        → IsGraphList e.variables m e.degree e.columns.items es → (is_added : Bool) (cs : List ℕ)
        → MatchBool is_added (cs ≡ added a e.cells es) (cs ≡ e.cells) → GoesOn m e (record e { cells = cs })
    GoesOn-added e h a es list true cs same =
        GoesOn-cells e h cs (ap length same ∙ length-added a es e.cells)
        (subst (λ sums. InGraph e.variables m e.degree (dense m.ring.modulus e.columns.items sums)) (sym same)
        (InGraph-dense_added e.variables m prime matrix e.degree e.columns.items h.columns weights e.cells h.size h.sum a es list))
    GoesOn-added e h a es list false cs same =
        subst (λ sums. GoesOn m e (record e { cells = sums })) (sym same) (GoesOn-same e h)

    -- the sum is made 0
    pub GoesOn-zero : (e : Elimination) → IsElimination m e → (cs : List ℕ) → cs ≡ replicate (length e.cells) 0
        → GoesOn m e (record e { cells = cs })
    GoesOn-zero e h cs same =
        GoesOn-cells e h cs (ap length same ∙ length-replicate (length e.cells) 0)
        (subst (λ sums. InGraph e.variables m e.degree (dense m.ring.modulus e.columns.items sums)) (sym same)
        (InGraph-dense_zero e.variables m prime matrix e.degree e.columns.items h.columns weights (length e.cells)))
