-- Stores into an 8 by 8 array of arrays.
use Rattle.std.specs.Prelude.{◌≡◌, [], ℕ, ◌<◌, ℤ, get_or, set}
use Rattle.std.proofs.Common.{sym, ◌∙◌}
use Rattle.std.proofs.Math.Path.{ap}
use Rattle.std.proofs.Math.Decide.{ℕ_discrete}
use Rattle.integer.specs.laws.Sum.{update, update_same, update_other}
use Rattle.turn.specs.laws.Eight.{eight-cong, get_d-eight, set-eight}
use Rattle.turn.specs.Turn.{eight, square}

-- f with x in row p and column k
unfoldable pub stored : ℕ → ℕ → ℤ → (ℕ → ℕ → ℤ) → ℕ → ℕ → ℤ
stored p k x f i = update f p (update (f p) k x) i

pub store : (f : ℕ → ℕ → ℤ) (p k : ℕ) (x : ℤ) → p < 8 → k < 8 → set (square f) p (set (get_or (square f) p []) k x) ≡ square (stored p k x f)
unfolding stored
store f p k x h l =
    rw (get_d-eight (λ i. eight (f i)) p [] h, set-eight (f p) k x l)
    (set-eight (λ i. eight (f i)) p _ h ∙ eight-cong (λ i b. by i (ℕ_discrete i p)))
  where
    by : (i : ℕ) → Dec (i ≡ p) → update (λ i. eight (f i)) p (eight (update (f p) k x)) i ≡ eight (update f p (update (f p) k x) i)
    by i (yes e) =
        rw e (update_same (λ i. eight (f i)) p (eight (update (f p) k x)) ∙ ap eight (sym (update_same f p (update (f p) k x))))
    by i (no d) =
        update_other (λ i. eight (f i)) p (eight (update (f p) k x)) i d ∙ ap eight (sym (update_other f p (update (f p) k x) i d))

-- what such a store holds in row p, and in another row
module _ (p k : ℕ) (x : ℤ) (f : ℕ → ℕ → ℤ) where
  pub stored_here : stored p k x f p k ≡ x
  unfolding stored
  stored_here = rw (update_same f p (update (f p) k x)) (update_same (f p) k x)

  pub stored-column : (i j : ℕ) → (j ≡ k → ⊥) → stored p k x f i j ≡ f i j
  unfolding stored
  stored-column i j d = by (ℕ_discrete i p)
    where
      by : Dec (i ≡ p) → update f p (update (f p) k x) i j ≡ f i j
      by (yes e) = rw e (ap (λ g. g j) (update_same f p (update (f p) k x)) ∙ update_other (f p) k x j d)
      by (no e) = ap (λ g. g j) (update_other f p (update (f p) k x) i e)

  pub stored_row : (i j : ℕ) → (i ≡ p → ⊥) → stored p k x f i j ≡ f i j
  unfolding stored
  stored_row i j d = ap (λ g. g j) (update_other f p (update (f p) k x) i d)
