-- Document 01, 'Choosing a turn': which turn a pair p < q gets, from a_pp, a_qq and a_pq.
use Rattle.std.specs.Prelude.{ℕ, zero, suc, ◌*◌, ◌^◌, Bool, true, false, cond, leb, eqb, ℤ, pos, negsuc, nat_abs, ◌-ℤ◌, Option, Some, None}
use Rattle.std.specs.Bool.{beq}
use Rattle.choice.specs.Threshold.{threshold}
use Rattle.choice.specs.declared.Turn.{Turn}

-- a turn of its l, and whether its sign f is −1
abbrev pub turn_of : ℕ → Bool → Turn
turn_of l minus = record { l = l; minus = minus }

-- y × 2^24 ≥ T_l × g
unfoldable pub fits : ℕ → ℕ → ℕ → Bool
fits y g l = leb (threshold l * g) (y * 2 ^ 24)

-- the smallest l that fits, of `left` ones from `l` on; if none fits, no turn
unfoldable pub smallest_fit : ℕ → ℕ → Bool → ℕ → ℕ → Option Turn
smallest_fit y g minus l zero = None
smallest_fit y g minus l (suc left) = cond (fits y g l) (Some (turn_of l minus)) (smallest_fit y g minus (suc l) left)

unfoldable pub negative : ℤ → Bool
negative (pos z) = false
negative (negsuc z) = true

-- The sign f is +1 if exactly one of a_pq and a_qq − a_pp is negative, else −1: whether f is −1
unfoldable pub minus_sign : ℤ → ℤ → Bool
minus_sign apq difference = beq (negative apq) (negative difference)

-- a_pq = 0: no turn. Otherwise the smallest l from 1 to 14, with y = 2×|a_pq| and g = |a_qq − a_pp|
unfoldable pub choose : ℤ → ℤ → ℤ → Option Turn
choose app aqq apq =
    cond (eqb (nat_abs apq) 0) None
    (smallest_fit (2 * nat_abs apq) (nat_abs (aqq -ℤ app)) (minus_sign apq (aqq -ℤ app)) 1 14)

-- Document 01's l and f of a choice: l from 1 to 14 and f = +1 or −1 of a turn, and 0 where there is none
unfoldable pub level_of : Option Turn → ℕ
level_of None = 0
level_of (Some turn) = turn.l

unfoldable pub sign_of : Option Turn → ℤ
sign_of None = pos 0
sign_of (Some turn) = cond turn.minus (negsuc 0) (pos 1)
