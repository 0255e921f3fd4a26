-- `panel::lines::write_panels` meets its contract: 2, then 12, then the text.
use mathlib.Core.Path.{◌≡◌, ap, sym}
use native.Mathlib.Omega.{arith}
use lib.ListN.{length}
use mir.Facts.{to_z-of_z}
use Rattle.std.proofs.lemmas.Result.{err_from_is_err_and}
use Rattle.text.specs.laws.Written.{refused, short, written}
use Rattle.panel.specs.Text.{panels_text}
use Rattle.panel.proofs.Answers.{is-size, no-size}
use Rattle.panel.proofs.lines.write_panels.Goals as goal

pub returns-in_err-size : goal.returns-in_err-size
returns-in_err-size c =
    let p = err_from_is_err_and c.from_residual.result c.from_residual.ensures.1 in
    let n = no-size c.args.b (rw (to_z-of_z c.ranges.b) at c.in_err-size.ensures.is) in
    rw (p.1, p.2, n.1) (refused _ _ _ 2 (sym n.0) (λ (z : 2 ≡ 0). omega arith))

pub returns-then-out-text_length : goal.returns-then-out-text_length
returns-then-out-text_length c =
    let s = is-size c.args.b (rw (to_z-of_z c.ranges.b) at c.in_ok-size.ensures.is) in
    short _ _ _ s.0 (omega (arith, c.text_length.ensures.exact, ap (λ n. length (panels_text n)) s.1))

pub returns : goal.returns
returns c =
    let s = is-size c.args.b (rw (to_z-of_z c.ranges.b) at c.in_ok-size.ensures.is) in
    written _ _ _ s.0 (rw s.1 at c.put_text.ensures)
