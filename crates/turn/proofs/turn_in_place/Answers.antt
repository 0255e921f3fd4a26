-- Rows, block and mirrors.
use Rattle.std.proofs.Common.{rules, ◌∙◌, arith}
use Rattle.turn.specs.laws.Eight.{shaped-square}
use Rattle.turn.proofs.Columns.{shaped-axes-of}
use Rattle.turn.proofs.Whole.{cross, matrix, pass}
use Rattle.turn.proofs.turn_in_place.Goals as goal

pub turn_block-requires : goal.turn_block-requires
turn_block-requires c =
    let rows = c.turn_axes.ensures in (
      search rules,
      omega arith,
      search rules,
      rw rows (pass c.args.n c.args.r c.args.p c.args.q c.args.a.now c.requires.0 c.requires.1 c.requires.2 c.requires.4 c.requires.3),
      rw rows (shaped-axes-of c.args.r c.args.p c.args.q c.args.a.now c.args.n),
    )

pub mirror-requires : goal.mirror-requires
mirror-requires c =
    let block = c.turn_block.ensures in (
      search rules,
      search rules,
      search rules,
      rw block (shaped-square _),
      rw (block, c.turn_axes.ensures)
          (cross c.args.n c.args.r c.args.p c.args.q c.args.a.now c.requires.0 c.requires.1 c.requires.2 c.requires.5),
    )

pub returns : goal.returns
returns c =
    (rw (c.turn_block.ensures, c.turn_axes.ensures) at c.mirror.ensures) ∙
    matrix c.args.n c.args.r c.args.p c.args.q c.args.a.now c.requires.0 c.requires.1 c.requires.2 c.requires.5
