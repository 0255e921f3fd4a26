use Rattle.std.proofs.Common.{sym, ◌∙◌, add-one, arith}
use Rattle.turn.specs.laws.Size.{rotation_of-turns}
use Rattle.record.proofs.Worked.{l-range, not-turned, turned_by}
use Rattle.record.specs.Work.{work_by}
use Rattle.record.specs.laws.Turning.{axes-small, matrix-small, matrix-symmetric}
use Rattle.record.proofs.work.Work.pair.Goals as goal

pub choice-requires : goal.choice-requires
choice-requires c = (omega (arith, c.requires.2.size), omega (arith, c.requires.2.size), matrix-small _ c.requires.2.kept c.requires.2.few)

pub returns-in_default : goal.returns-in_default
returns-in_default c = sym (not-turned _ _ (sym c.choice.ensures ∙ c.in_default.is))

pub of-r-requires : goal.of-r-requires
of-r-requires c = l-range _ _ _ (sym c.choice.ensures ∙ c.in-Some.is)

pub turn_axes-requires : goal.turn_axes-requires
turn_axes-requires c =
    let ready = c.requires.2 in
    let range = l-range _ _ _ (sym c.choice.ensures ∙ c.in-Some.is) in (
      c.requires.0,
      c.requires.1,
      ready.size,
      rw c.of-r.ensures (rotation_of-turns _ _ range.0 range.1),
      axes-small _ ready.kept ready.few,
      ready.axes,
    )

pub turn_matrix-self-requires : goal.turn_matrix-self-requires
turn_matrix-self-requires c =
    let ready = c.requires.2 in
    let range = l-range _ _ _ (sym c.choice.ensures ∙ c.in-Some.is) in (
      c.requires.0,
      c.requires.1,
      ready.size,
      rw c.of-r.ensures (rotation_of-turns _ _ range.0 range.1),
      matrix-small _ ready.kept ready.few,
      matrix-symmetric _ ready.kept ready.few,
    )

pub returns : goal.returns
unfolding work_by
returns c =
    rw (turned_by _ _ _ (sym c.choice.ensures ∙ c.in-Some.is), c.turn_axes.ensures, c.turn_matrix-self.ensures, c.of-r.ensures, add-one)
