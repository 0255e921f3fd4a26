-- What is printed lies within the buffer.
use Rattle.std.proofs.Common.{rules, arith, ap, ◌≡◌, length, sym, length-take-le}
use Rattle.input.proofs.print_answer.Goals as goal

pub slice_bounds-out-end : goal.slice_bounds-out-end
slice_bounds-out-end g c =
    let h = c.in_ok-length.ensures in
    let full : length c.answer_input.new.out ≡ 2048 = search rules in
    omega (arith, c.requires.fits h.0 h.1 _ h.2 (ap length h.4) h.3)

pub slice_bounds-write_all-end : goal.slice_bounds-write_all-end
slice_bounds-write_all-end g c =
    let h = c.in_ok-length.ensures in
    let full : length c.answer_input.new.out ≡ 2048 = search rules in
    sym (length-take-le _ _ (omega (arith, c.requires.fits h.0 h.1 _ h.2 (ap length h.4) h.3)))
