-- Laws of this subject: What holds of the ledger's state after every list of calls.
use Rattle.std.specs.Prelude.{◌≡◌, cond, ℕ, ◌*◌, ◌^◌, ◌<◌, ◌≤◌, ℤ, pos, nat_abs, ◌-ℤ◌, ◌*ℤ◌, ltb}
use Rattle.integer.specs.Square.{sq}
use Rattle.integer.specs.Sum.{sumℕ}
use Rattle.integer.specs.Dot.{dot}
use Rattle.integer.specs.Matrix.{Matrix, Same, Symmetric, product, transpose, diagonal, squares}
use Rattle.ledger.specs.Ledger.{State}
use Rattle.limits.specs.Limits.{entry_limit, turn_limit}
use Rattle.ledger.specs.Near.{MatrixNear, AxesNear}
use Rattle.ledger.specs.Sound.{matrix_bound, axes_bound}

-- how far an entry of A is from S / 2^e at most, twice and times 2^e: not at all for e = 0
abbrev pub rounding : ℕ → ℕ
rounding e = cond (ltb 0 e) (2 ^ e) 0

-- 'The loaded entry is rnd(S_ij / 2^e)'
abbrev pub Rounded : ℕ → Matrix → Matrix → ℕ → Type 0
Rounded n A S e = (i j : ℕ) → i < n → j < n → 2 * nat_abs (pos (2 ^ e) *ℤ A i j -ℤ S i j) ≤ rounding e

pub record Sound (s : State) : Type 0 where
  -- refusal 5: n is 2..8
  pub low : 2 ≤ s.n
  pub high : s.n ≤ 8
  -- refusals 8 and 7: the entries of A
  pub entries : (i j : ℕ) → i < s.n → j < s.n → nat_abs (s.A i j) ≤ entry_limit
  pub given-symmetric : Symmetric s.n s.A
  pub rounded : Rounded s.n s.A s.S s.e
  -- refusal 11
  pub turns : s.m ≤ turn_limit
  -- 'a_ip, a_iq are their mirrors'
  pub symmetric : Symmetric s.n s.B
  -- the norms of B and of each column of V, so the size of every entry: the exact rotation keeps them, the roundings of a turn add to them
  pub matrix-size : squares s.n s.B ≤ matrix_bound s.m * matrix_bound s.m
  pub axes-size : (j : ℕ) → j < s.n → sumℕ s.n (λ i. sq (s.axes i j)) ≤ axes_bound s.m * axes_bound s.m
  -- D is a product of N, none of them 0
  pub positive : 0 < s.D
  -- Q = P / D is orthogonal: P_i-as-P_j is D² for i = j, else 0
  pub orthogonal : Same s.n (product s.n s.P (transpose s.P)) (diagonal (pos (s.D * s.D)))
  -- and Parseval's equation: Σ_j (u·P_j)² = D² × Σ_k u_k² for every u
  pub parseval : (u : ℕ → ℤ) → sumℕ s.n (λ j. sq (dot s.n u (s.P j))) ≡ s.D * s.D * sumℕ s.n (λ k. sq (u k))
  -- B is within 7m/2 of 1024 × Q A Qᵀ
  pub matrix-near : MatrixNear s.n s.m s.D s.P s.A s.B
  -- V is within 2m of 2^30 × Q
  pub axes-near : AxesNear s.n s.m s.D s.P s.axes
