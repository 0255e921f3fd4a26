-- `panel::answer` meets its contract: 112,999 bytes are room for every text, and for the line of a refusal.
use mathlib.Core.Path.{◌≡◌, sym, ap, ◌∙◌}
use mathlib.Core.List.{List, [], ◌∷◌}
use Prim.Native.Nat.{ℕ, ◌≤◌}
use native.Mathlib.Omega.{arith}
use lib.IntN.{ℤ, nat_abs, pos}
use lib.ListN.{length}
use mir.Syntax.{w64}
use mir.Val.{SFits}
use mir.Facts.{to_z-of_z}
use borrow.Author.Rules.{rules}
use Rattle.std.specs.Prelude.{Result, Err}
use Rattle.refusal.specs.declared.Refusal.{Refusal}
use Rattle.refusal.specs.Refusal.{numbered}
use Rattle.text.specs.Line.{further, number_line, numbers}
use Rattle.text.specs.Written.{Writes}
use Rattle.text.specs.laws.Numbers.{length-number-line}
use Rattle.panel.specs.Printed.{text_or}
use Rattle.panel.specs.Refusal.{size_refusal}
use Rattle.panel.specs.Text.{panels_text}
use Rattle.panel.specs.laws.Printed.{a-number, no_number, refusal-few, refusal-printed, whole-printed}
use Rattle.panel.proofs.Answers.{only-refusal, text-room}
use Rattle.panel.proofs.answer.Goals as goal

pub put_line-requires : goal.put_line-requires
put_line-requires c = rw (length-number-line 63 []) (unfold numbers further in omega arith)

pub returns-in_default : goal.returns-in_default
returns-in_default c = rw (no_number _ (sym c.in_default.ensures)) c.put_line.ensures

-- at a refusal the buffer is as it was, and the refusal's line is to be printed
module _ (b : ℤ) {entry exit : List ℕ} {z : Result ℕ Refusal} (room : 112_999 ≤ length entry)
    (writes : Writes (size_refusal b) (panels_text (nat_abs b)) entry exit z) {k : Refusal} (e : z ≡ Err k) where
  denied : (exit ≡ entry) × (text_or (size_refusal b) (panels_text (nat_abs b)) ≡ number_line 88 (pos 2 ∷ [])) × (k ≡ numbered 2)
  denied =
      let told = refusal-printed _ _ _ _ _ (λ (h : size_refusal b ≡ 0). omega (arith, text-room b h)) writes _ e in
      let two = only-refusal b told.3 in
      (told.0, told.1 ∙ ap (λ n. number_line 88 (pos n ∷ [])) two, told.2 ∙ ap numbered two)

pub put_line-requires-in-Err : goal.put_line-requires-in-Err
put_line-requires-in-Err c =
    let held : SFits w64 c.in-Some.b = search rules in
    let room : 112_999 ≤ length c.args.out.now = omega arith in
    let d = denied c.in-Some.b room (rw (to_z-of_z held) at c.write_panels.ensures) c.in-Err.is in
    rw (d.0, c.from.ensures, c.number-in-Err.ensures, d.2) (omega (arith, room, refusal-few 2 (omega arith)))

pub returns-in-Ok : goal.returns-in-Ok
returns-in-Ok c =
    let held : SFits w64 c.in-Some.b = search rules in
    rw (a-number _ _ (sym c.in-Some.ensures)) (whole-printed _ _ _ _ _ (rw (to_z-of_z held) at c.write_panels.ensures) _ c.in-Ok.is)

pub returns-in-Err : goal.returns-in-Err
returns-in-Err c =
    let held : SFits w64 c.in-Some.b = search rules in
    let room : 112_999 ≤ length c.args.out.now = omega arith in
    let d = denied c.in-Some.b room (rw (to_z-of_z held) at c.write_panels.ensures) c.in-Err.is in
    rw (a-number _ _ (sym c.in-Some.ensures), d.1) (rw (d.0, c.from.ensures, c.number-in-Err.ensures, d.2) at c.put_line-in-Err.ensures)
