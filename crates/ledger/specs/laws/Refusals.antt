-- Each refusal of a call by its cause and its place in the order, whatever else is wrong; and a turn without a cause is taken.
use Rattle.std.specs.Prelude.{◌≡◌, Bool, ◌&&◌, [], ◌∷◌, ℕ, ◌+◌, ◌-◌, ◌*◌, ◌/◌, ◌<◌, ◌≤◌, ltb, pos}
use Rattle.std.proofs.Math.Path.{refl}
use Rattle.std.proofs.Math.Bool.{true, false}
use Rattle.std.proofs.Math.Dec.{T, leb, leb→le, ltb→lt}
use Rattle.std.proofs.Math.Facts.{and_yes}
use borrow.Author.Tests.{le-leb, lt-leb, le-ltb, lt-ltb}
use Rattle.integer.specs.Matrix.{matrix_of}
use Rattle.ledger.specs.Call.{load, turn, sweep_in, loose_pair, axis}
use Rattle.ledger.specs.Refusal.{equal, entries_within, refusal_of, refusal_under, symmetric}
use Rattle.ledger.specs.declared.Order.{Order}
use Rattle.limits.specs.Limits.{turn_limit, tolerance_limit}
use Rattle.limits.specs.Unless.{unless}

-- '10 no matrix loaded', before every other refusal of these calls
pub none-loaded : (m p q t i : ℕ) (order : Order) → (refusal_of 0 m (turn p q) ≡ 10) × (refusal_of 0 m (sweep_in order) ≡ 10)
    × (refusal_of 0 m (loose_pair t) ≡ 10) × (refusal_of 0 m (axis i) ≡ 10)
unfolding refusal_under
none-loaded m p q t i order = (refl, refl, refl, refl)

module _ (n m : ℕ) (some : 1 ≤ n) where
  -- '9 not 1 ≤ p < q ≤ n', before 11
  pub no-pair : (p q : ℕ) → ((1 ≤ p) × (p < q) × (q ≤ n) → ⊥) → refusal_of n m (turn p q) ≡ 9
  unfolding refusal_under
  no-pair p q h = rw (lt-ltb 0 n some) (by-places (leb 1 p && (ltb p q && leb q n)) refl)
    where
      by-places : (b : Bool) → (leb 1 p && (ltb p q && leb q n)) ≡ b → unless b 9 (unless (ltb m turn_limit) 11 0) ≡ 9
      by-places true e =
          let t : T (leb 1 p && (ltb p q && leb q n)) = rw e tt in
          let first = and_yes (leb 1 p) (ltb p q && leb q n) t in
          let later = and_yes (ltb p q) (leb q n) first.1 in
          absurd (h (leb→le 1 p first.0, ltb→lt p q later.0, leb→le q n later.1))
      by-places false e = refl

  -- '11 turn with m = 448', and not while a turn remains
  pub turn-used-up : (p q : ℕ) → 1 ≤ p → p < q → q ≤ n → turn_limit ≤ m → refusal_of n m (turn p q) ≡ 11
  unfolding refusal_under
  turn-used-up p q a b c d = rw (lt-ltb 0 n some, le-leb 1 p a, lt-ltb p q b, le-leb q n c, le-ltb m turn_limit d)

  pub turn-taken : (p q : ℕ) → 1 ≤ p → p < q → q ≤ n → m < turn_limit → refusal_of n m (turn p q) ≡ 0
  unfolding refusal_under
  turn-taken p q a b c d = rw (lt-ltb 0 n some, le-leb 1 p a, lt-ltb p q b, le-leb q n c, lt-ltb m turn_limit d)

  -- 'or sweep with m + n(n−1)/2 > 448'
  pub sweep-used-up : (order : Order) → turn_limit < m + n * (n - 1) / 2 → refusal_of n m (sweep_in order) ≡ 11
  unfolding refusal_under
  sweep-used-up order l = rw (lt-ltb 0 n some, lt-leb (m + n * (n - 1) / 2) turn_limit l)

  -- '2 .. a tolerance in a loose-pair call'
  pub tolerance-beyond : (t : ℕ) → tolerance_limit < t → refusal_of n m (loose_pair t) ≡ 2
  unfolding refusal_under
  tolerance-beyond t l = rw (lt-ltb 0 n some, lt-leb t tolerance_limit l)

-- 'Load: 5, 6, 8, 7': with every later cause too
pub load-order :
    (refusal_of 0 0 (load 9 (pos 2_097_153 ∷ [])) ≡ 5)
    × (refusal_of 0 0 (load 2 (pos 2_097_153 ∷ [])) ≡ 6)
    × (refusal_of 0 0 (load 2 (pos 2_097_153 ∷ pos 1 ∷ pos 0 ∷ pos 0 ∷ [])) ≡ 8)
    × (refusal_of 0 0 (load 2 (pos 0 ∷ pos 1 ∷ pos 0 ∷ pos 0 ∷ [])) ≡ 7)
unfolding refusal_under entries_within symmetric equal matrix_of
load-order = (refl, refl, refl, refl)
