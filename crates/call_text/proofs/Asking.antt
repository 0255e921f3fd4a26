-- The request of a line's numbers, by how many they are.
use Rattle.std.proofs.Common.{◌≡◌, ◌≤◌, ◌<◌, ◌+◌, ◌∙◌, ℕ, ℤ, List, [], ◌∷◌, Err, None, Ok, Result, Some, arith, drop, get_or}
use Rattle.std.proofs.Common.{length, length-drop, map, nat_abs, negsuc, pos, refl, suc, sym, take}
use Prim.Native.Nat.{◌-◌}
use Rattle.std.specs.Int.{FitsUnsignedBits}
use Rattle.std.specs.Result.{OkIff, result_ok, result_unwrap_or}
use mir.Syntax.{w64}
use mir.Val.{SFits}
use mir.Facts.{to_z-of_z}
use borrow.Author.Tests.{le-leb, lt-leb, ne_eqb}
use lib.ListN.{length-map}
use lib.Seq.{length-take-le}
use Rattle.ledger.specs.Call.{Call, loose_pair, axis}
use Rattle.ledger.specs.declared.Order.TheVariants.{Cyclic, Tournament}
use Rattle.call_text.specs.Calls.{argument, call_by, load_by, named, named_by, one_by, reading, samples_by, sweep_by, turn_by}
use Rattle.call_text.specs.Numbers.{beyond}
use Rattle.call_text.specs.Requests.{asked_by, asked_for}
use Rattle.call_text.specs.declared.request.Request.TheVariants.{Axis, Load, LoadSamples, LoosePair, Turn, Sweep, TournamentSweep}
use Rattle.call_text.specs.inner.Asked.{alone, only}

-- a number that was tried for a natural one
module _ {E : Type 0} where
  pub argument-tried : (x : ℤ) (r : Result ℕ E) (y : ℕ) → SFits w64 x → OkIff r (FitsUnsignedBits 64 x) (nat_abs x) → y ≡ result_unwrap_or r beyond →
      y ≡ argument x
  unfolding argument
  argument-tried (pos n) (Ok m) y f h e = e ∙ h.1
  argument-tried (pos n) (Err z) y f h e = let s = f.sfits in absurd (h (omega arith))
  argument-tried (negsuc n) (Ok m) y f h e = absurd h.0
  argument-tried (negsuc n) (Err z) y f h e = e

  pub tried_some : (x : ℤ) (r : Result ℕ E) (k : ℕ) → OkIff r (FitsUnsignedBits 64 x) (nat_abs x) → Some k ≡ result_ok r → x ≡ pos k
  tried_some (pos n) (Ok m) k h e = let w : n ≡ k = cc in rw w
  tried_some (pos n) (Err z) k h e = absurd (let z : ◌≡◌ {A = ℕ} 0 1 = cc in omega arith)
  tried_some (negsuc n) (Ok m) k h e = absurd h.0
  tried_some (negsuc n) (Err z) k h e = absurd (let z : ◌≡◌ {A = ℕ} 0 1 = cc in omega arith)

  pub tried_none : (x : ℤ) (r : Result ℕ E) → SFits w64 x → OkIff r (FitsUnsignedBits 64 x) (nat_abs x) → None ≡ result_ok r →
      (m : ℕ) × (x ≡ negsuc m)
  tried_none (pos n) (Ok m) f h e = absurd (let z : ◌≡◌ {A = ℕ} 0 1 = cc in omega arith)
  tried_none (pos n) (Err z) f h e = let s = f.sfits in absurd (h (omega arith))
  tried_none (negsuc n) (Ok m) f h e = absurd h.0
  tried_none (negsuc n) (Err z) f h e = (n, refl)

-- a call that has no argument, or one
pub no_more : (request : _) (ys : List ℤ) → 0 < length ys → None ≡ alone request ys
unfolding alone
no_more request [] h = absurd (omega arith)
no_more request (y ∷ ys) h = refl

pub no_others : (request : _) (ys : List ℤ) → length ys ≡ 0 → Some request ≡ alone request ys
unfolding alone
no_others request [] h = refl
no_others request (y ∷ ys) h = absurd (omega arith)

pub only_few : (ys : List ℤ) → length ys < 1 → None ≡ only ys
unfolding only
only_few [] h = refl
only_few (x ∷ ys) h = absurd (omega arith)

pub only_many : (ys : List ℤ) → 2 ≤ length ys → None ≡ only ys
unfolding only
only_many [] h = absurd (omega arith)
only_many (x ∷ []) h = absurd (omega arith)
only_many (x ∷ y ∷ ys) h = refl

pub only-one : (ys : List ℤ) (i : ℕ) → i ≡ argument (get_or ys 0 (pos 0)) → 1 ≤ length ys → length ys < 2 → Some i ≡ only ys
unfolding only
only-one [] i q h k = absurd (omega arith)
only-one (x ∷ []) i q h k = rw q
only-one (x ∷ y ∷ ys) i q h k = absurd (omega arith)

-- the numbers after the first two
pub rest-size : (ys : List ℤ) → length (take (length ys - 2) (drop 2 ys)) ≡ length ys - 2
rest-size ys = length-take-le (length ys - 2) (drop 2 ys) (rw length-drop (omega arith))

-- the bench
module _ (bench : ℕ) where
  pub no_load : (ys : List ℤ) → length ys < 1 → None ≡ asked_for (named bench (load_by ys))
  unfolding load_by named asked_for
  no_load [] h = refl
  no_load (n ∷ ys) h = absurd (omega arith)

  pub a-load : (ys : List ℤ) (n : ℕ) → n ≡ argument (get_or ys 0 (pos 0)) → 1 ≤ length ys →
      Some (Load bench n 2 (length ys + 1)) ≡ asked_for (named bench (load_by ys))
  unfolding load_by named asked_for asked_by
  a-load [] n q h = absurd (omega arith)
  a-load (x ∷ ys) n q h = let s : suc (length ys) + 1 ≡ 2 + length ys = omega arith in rw (q, s)

  pub turn_few : (ys : List ℤ) → length ys < 2 → None ≡ asked_for (named bench (turn_by ys))
  unfolding turn_by named asked_for
  turn_few [] h = refl
  turn_few (p ∷ []) h = refl
  turn_few (p ∷ q ∷ ys) h = absurd (omega arith)

  pub turn_many : (ys : List ℤ) → 3 ≤ length ys → None ≡ asked_for (named bench (turn_by ys))
  unfolding turn_by named asked_for
  turn_many [] h = absurd (omega arith)
  turn_many (p ∷ []) h = absurd (omega arith)
  turn_many (p ∷ q ∷ []) h = absurd (omega arith)
  turn_many (p ∷ q ∷ x ∷ ys) h = refl

  pub a-turn : (ys : List ℤ) (p q : ℕ) → p ≡ argument (get_or ys 0 (pos 0)) → q ≡ argument (get_or ys 1 (pos 0)) → 2 ≤ length ys →
      length ys < 3 → Some (Turn bench p q) ≡ asked_for (named bench (turn_by ys))
  unfolding turn_by named asked_for asked_by
  a-turn [] p q e f h k = absurd (omega arith)
  a-turn (x ∷ []) p q e f h k = absurd (omega arith)
  a-turn (x ∷ y ∷ []) p q e f h k = rw (e, f)
  a-turn (x ∷ y ∷ z ∷ ys) p q e f h k = absurd (omega arith)

  pub samples_few : (ys : List ℤ) → length ys < 2 → None ≡ asked_for (named bench (samples_by ys))
  unfolding samples_by named asked_for
  samples_few [] h = refl
  samples_few (n ∷ []) h = refl
  samples_few (n ∷ k ∷ ys) h = absurd (omega arith)

  -- the number in the place of k has a minus, or is k
  pub samples_minus : (ys : List ℤ) (m : ℕ) → get_or ys 1 (pos 0) ≡ negsuc m → None ≡ asked_for (named bench (samples_by ys))
  unfolding samples_by named asked_for
  samples_minus [] m h = refl
  samples_minus (n ∷ []) m h = refl
  samples_minus (n ∷ k ∷ ys) m h = rw h

  pub samples-short : (ys : List ℤ) (k : ℕ) → get_or ys 1 (pos 0) ≡ pos k → 2 ≤ length ys → length ys - 2 < k →
      None ≡ asked_for (named bench (samples_by ys))
  unfolding samples_by named asked_for
  samples-short [] k e h l = absurd (omega arith)
  samples-short (n ∷ []) k e h l = absurd (omega arith)
  samples-short (n ∷ x ∷ ys) k e h l =
      let m : length ys < k = omega arith in
      sym (rw e (simp (lt-leb k (length ys) m)))

  pub some-samples : (ys : List ℤ) (k n : ℕ) → get_or ys 1 (pos 0) ≡ pos k → n ≡ argument (get_or ys 0 (pos 0)) → 2 ≤ length ys →
      k ≤ length ys - 2 → Some (LoadSamples bench n 3 (3 + k) (length ys + 1)) ≡ asked_for (named bench (samples_by ys))
  unfolding samples_by named asked_for asked_by
  some-samples [] k n e p h l = absurd (omega arith)
  some-samples (x ∷ []) k n e p h l = absurd (omega arith)
  some-samples (x ∷ y ∷ ys) k n e p h l =
      let m : k ≤ length ys = omega arith in
      let first : length (map reading (take k ys)) ≡ k = length-map (take k ys) reading ∙ length-take-le k ys m in
      let second : length (map reading (drop k ys)) ≡ length ys - k = length-map (drop k ys) reading ∙ length-drop k ys in
      let all : 3 + k + (length ys - k) ≡ suc (suc (length ys)) + 1 = omega arith in
      sym (rw (e, le-leb k (length ys) m) (rw (first, second, all, p)))

  pub a-sweep : (ys : List ℤ) → alone (Sweep bench) ys ≡ asked_for (named bench (sweep_by Cyclic ys))
  unfolding alone sweep_by named asked_for asked_by
  a-sweep [] = refl
  a-sweep (y ∷ ys) = refl

  pub a-tournament-sweep : (ys : List ℤ) → alone (TournamentSweep bench) ys ≡ asked_for (named bench (sweep_by Tournament ys))
  unfolding alone sweep_by named asked_for asked_by
  a-tournament-sweep [] = refl
  a-tournament-sweep (y ∷ ys) = refl

  pub no-argument : (call : ℕ → Call) (ys : List ℤ) → None ≡ only ys → None ≡ asked_for (named bench (one_by call ys))
  unfolding only one_by named asked_for
  no-argument call [] e = refl
  no-argument call (x ∷ []) e = absurd (let z : ◌≡◌ {A = ℕ} 0 1 = cc in omega arith)
  no-argument call (x ∷ y ∷ ys) e = refl

  an-argument : (call : ℕ → Call) (ys : List ℤ) (i : ℕ) → Some i ≡ only ys →
      Some (asked_by bench (call i)) ≡ asked_for (named bench (one_by call ys))
  unfolding only one_by named asked_for
  an-argument call [] i e = absurd (let z : ◌≡◌ {A = ℕ} 0 1 = cc in omega arith)
  an-argument call (x ∷ []) i e = let w : i ≡ argument x = cc in rw w
  an-argument call (x ∷ y ∷ ys) i e = absurd (let z : ◌≡◌ {A = ℕ} 0 1 = cc in omega arith)

  pub pair-request : (ys : List ℤ) (t : ℕ) → Some t ≡ only ys → Some (LoosePair bench t) ≡ asked_for (named bench (one_by loose_pair ys))
  unfolding asked_by
  pair-request ys t e = an-argument loose_pair ys t e

  pub axis-request : (ys : List ℤ) (i : ℕ) → Some i ≡ only ys → Some (Axis bench i) ≡ asked_for (named bench (one_by axis ys))
  unfolding asked_by
  axis-request ys i e = an-argument axis ys i e

-- by the tag
module _ (tag : ℕ) (ys : List ℤ) where
  pub of-load : tag ≡ 76 → call_by tag ys ≡ load_by ys
  unfolding call_by
  of-load e = rw e

  pub of-samples : tag ≡ 77 → call_by tag ys ≡ samples_by ys
  unfolding call_by
  of-samples e = rw e

  pub of-turn : tag ≡ 84 → call_by tag ys ≡ turn_by ys
  unfolding call_by
  of-turn e = rw e

  pub of-sweep : tag ≡ 87 → call_by tag ys ≡ sweep_by Cyclic ys
  unfolding call_by
  of-sweep e = rw e

  pub of-pair : tag ≡ 81 → call_by tag ys ≡ one_by loose_pair ys
  unfolding call_by
  of-pair e = rw e

  pub of-axis : tag ≡ 65 → call_by tag ys ≡ one_by axis ys
  unfolding call_by
  of-axis e = rw e

  pub of-tournament-sweep : tag ≡ 79 → call_by tag ys ≡ sweep_by Tournament ys
  unfolding call_by
  of-tournament-sweep e = rw e

  no-call : (tag ≡ 76 → ⊥) → (tag ≡ 77 → ⊥) → (tag ≡ 84 → ⊥) → (tag ≡ 87 → ⊥) → (tag ≡ 81 → ⊥) → (tag ≡ 65 → ⊥) → (tag ≡ 79 → ⊥) →
      call_by tag ys ≡ None
  unfolding call_by
  no-call n₁ n₂ n₃ n₄ n₅ n₆ n₇ =
      simp (ne_eqb _ _ n₁, ne_eqb _ _ n₂, ne_eqb _ _ n₃, ne_eqb _ _ n₄, ne_eqb _ _ n₅, ne_eqb _ _ n₆, ne_eqb _ _ n₇)

  pub other_tag : (bench : ℕ) → (tag ≡ 76 → ⊥) → (tag ≡ 77 → ⊥) → (tag ≡ 84 → ⊥) → (tag ≡ 87 → ⊥) → (tag ≡ 81 → ⊥) → (tag ≡ 65 → ⊥) →
      (tag ≡ 79 → ⊥) → None ≡ asked_for (named bench (call_by tag ys))
  unfolding named asked_for
  other_tag bench n₁ n₂ n₃ n₄ n₅ n₆ n₇ = rw (no-call n₁ n₂ n₃ n₄ n₅ n₆ n₇)

-- by which the requests are proved
pub ruleset arguments = (to_z-of_z, argument-tried)

pub ruleset loads = (to_z-of_z, a-load, no_load)

pub ruleset turns = (to_z-of_z, a-turn, turn_few, turn_many)

pub ruleset ones = (to_z-of_z, only-one, only_few, only_many)

pub ruleset tags = (
  of-load,
  of-samples,
  of-turn,
  of-sweep,
  of-pair,
  of-axis,
  of-tournament-sweep,
  a-sweep,
  a-tournament-sweep,
  pair-request,
  axis-request,
  no-argument,
  other_tag,
)

-- the bench, which is the first number
module _ (tag : ℕ) (xs : List ℤ) where
  pub no-bench : length xs < 1 → None ≡ asked_for (named_by tag xs)
  unfolding named_by asked_for
  no-bench h = by xs h
    where
      by : (xs : List ℤ) → length xs < 1 → None ≡ asked_for (named_by tag xs)
      by [] h = refl
      by (x ∷ xs) h = absurd (omega arith)

  pub a-bench : (bench : ℕ) → bench ≡ argument (get_or xs 0 (pos 0)) → 1 ≤ length xs →
      asked_for (named bench (call_by tag (drop 1 xs))) ≡ asked_for (named_by tag xs)
  unfolding named_by
  a-bench bench q h = by xs q h
    where
      by : (xs : List ℤ) → bench ≡ argument (get_or xs 0 (pos 0)) → 1 ≤ length xs →
          asked_for (named bench (call_by tag (drop 1 xs))) ≡ asked_for (named_by tag xs)
      by [] q h = absurd (omega arith)
      by (x ∷ xs) q h = rw q
