-- `panel::lines::text_length` meets its contract.
use mathlib.Core.Path.{◌≡◌, ap, sym, ◌∙◌}
use native.Mathlib.Omega.{arith}
use lib.ListN.{length}
use Rattle.text.specs.Lines.{lines}
use Rattle.text.specs.laws.Lines.{lines-length, lines_none}
use Rattle.panel.specs.Panels.{count_of}
use Rattle.panel.specs.Text.{panel_line}
use Rattle.panel.specs.laws.Places.{small-within}
use Rattle.panel.specs.laws.Text.{after-few, line_at, text-lines}
use Rattle.panel.proofs.Small.{count_small}
use Rattle.panel.proofs.lines.text_length.Goals as goal

pub loop-i-init : goal.loop-i-init
loop-i-init c = record { counted = rw (lines_none (line_at c.args.b)); few = omega arith }

pub line_length-total-requires : goal.line_length-total-requires
line_length-total-requires c =
    rw c.panel_after.ensures (small-within 8 _ (after-few c.args.b c.requires c.loop-i.i (omega (arith, c.count_of-i-end.ensures))))

pub overflow_add-total : goal.overflow_add-total
overflow_add-total c =
    record {
      fits =
          omega (
            arith,
            c.loop-i.invariant.few,
            c.line_length-total.ensures.bounded,
            c.loop-i-test.true,
            c.count_of-i-end.ensures,
            count_small c.args.b c.requires,
          );
    }

pub loop-i-preserved : goal.loop-i-preserved
loop-i-preserved c =
    let e = c.line_length-total.ensures.exact ∙ ap (λ x. length (panel_line x)) c.panel_after.ensures in
    record {
      counted = rw (lines-length (line_at c.args.b) c.loop-i.i) (omega (arith, c.loop-i.invariant.counted, e));
      few = omega (arith, c.loop-i.invariant.few, c.line_length-total.ensures.bounded);
    }

pub returns : goal.returns
returns c =
    let e : c.loop-i.i ≡ count_of c.args.b = omega (arith, c.count_of-i-end.ensures) in
    record {
      exact = c.loop-i.invariant.counted ∙ ap (λ k. length (lines (line_at c.args.b) k)) e ∙ ap length (sym (text-lines c.args.b));
      bounded = omega (arith, c.loop-i.invariant.few, e, count_small c.args.b c.requires);
    }
