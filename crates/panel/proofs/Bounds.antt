-- What is answered, for those who call: no text has more than 112,999 bytes, no position is above 17^3, and no refusal of a position but 2.
use mathlib.Core.Path.{◌≡◌, refl}
use mathlib.Core.Bool.{Bool, true, false, cond, ◌&&◌}
use mathlib.Core.List.{List}
use Prim.Native.Nat.{ℕ, ◌≤◌}
use native.Mathlib.Omega.{arith}
use lib.IntN.{ℤ, nat_abs}
use Rattle.std.specs.Prelude.{Ok, Err}
use Rattle.refusal.specs.declared.Refusal.{Refusal}
use Rattle.refusal.specs.Refusal.{numbered}
use Rattle.text.specs.Written.{Writes}
use Rattle.text.specs.laws.Written.{length-tells}
use Rattle.panel.specs.Listed.{panel_within}
use Rattle.panel.specs.Panels.{count_of}
use Rattle.panel.specs.Position.{The-positions, panel_at, position_of}
use Rattle.panel.specs.Refusal.{panel_at_position, most_size, natural_within, of_panel, size_refusal, size_within}
use Rattle.panel.specs.Text.{panels_text}
use Rattle.panel.specs.declared.Panel.{Panel}
use Rattle.panel.specs.laws.Places.{the-positions}
use Rattle.panel.proofs.Answers.{text-room}
use Rattle.panel.proofs.Ranges.{in-range}
use Rattle.panel.proofs.Small.{count_small}

pub text-short : (b : ℤ) (entry exit : List ℕ) (k : ℕ) → Writes (size_refusal b) (panels_text (nat_abs b)) entry exit (Ok k) → k ≤ 112_999
text-short b entry exit k w = let t = length-tells _ (panels_text (nat_abs b)) entry w in rw t.1 (text-room b t.0)

pub position-small : (b : ℤ) (x : Panel) (p : ℕ) → Ok p ≡ of_panel b x → p ≤ 4913
unfolding of_panel The-positions
position-small b x p = by (size_within b) (panel_within (nat_abs b) x) refl refl
  where
    by : (s t : Bool) → size_within b ≡ s → panel_within (nat_abs b) x ≡ t →
        Ok p ≡ cond (s && t) (Ok (position_of (nat_abs b) x)) (Err (numbered 2)) → p ≤ 4913
    by true true q h e =
        let k : p ≡ position_of (nat_abs b) x = cc in
        omega (arith, k, ((the-positions (nat_abs b)).in-range x h).1, count_small (nat_abs b) (in-range 0 most_size b q).1)
    by true false q h e = absurd (let z : ◌≡◌ {A = ℕ} 0 1 = cc in omega arith)
    by false t q h e = absurd (let z : ◌≡◌ {A = ℕ} 0 1 = cc in omega arith)

-- every refusal is 2
pub position-refused : (b position : ℤ) (refusal : Refusal) → Err refusal ≡ panel_at_position b position → refusal ≡ numbered 2
unfolding panel_at_position
position-refused b position refusal = by (size_within b && natural_within 1 (count_of (nat_abs b)) position)
  where
    by : (t : Bool) → Err refusal ≡ cond t (Ok (panel_at (nat_abs b) (nat_abs position))) (Err (numbered 2)) → refusal ≡ numbered 2
    by true e = absurd (let z : ◌≡◌ {A = ℕ} 0 1 = cc in omega arith)
    by false e = cc
