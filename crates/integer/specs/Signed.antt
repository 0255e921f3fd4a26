-- A size with a sign.
use Rattle.std.specs.Prelude.{ℕ, Bool, true, false, ℤ, pos, neg_ℤ}

-- f × x, where f is −1 or +1
unfoldable pub signed : Bool → ℕ → ℤ
signed true x = neg_ℤ (pos x)
signed false x = pos x
