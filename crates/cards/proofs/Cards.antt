-- The twelve cards hold: those without a law of their own by computation.
use Rattle.std.specs.Prelude.{refl}
use Rattle.choice.specs.Choice.{choose, fits, level_of, minus_sign, negative, sign_of, smallest_fit}
use Rattle.choice.specs.Threshold.{threshold, u, w}
use Rattle.integer.specs.RoundedUp.{rounded_up}
use Rattle.integer.specs.Matrix.{matrix_of, row_major}
use Rattle.integer.specs.Padded.{padded}
use Rattle.integer.specs.Tabulate.{tabulate}
use Rattle.rounding.specs.Rounding.{rnd}
use Rattle.scatter.specs.Table.{S, scatter, largest, smallest_shift, shift_under, entries_under, table_from_under, table_under}
use Rattle.readings.specs.Samples.{total, z}
use Rattle.turn.specs.InUse.{in_use}
use Rattle.turn.specs.Rotation.{rotation_of, first, second}
use Rattle.integer.specs.Signed.{signed}
use Rattle.turn.specs.Turn.{turn_matrix, array, eight, at, turned, newp, newq, newpp, newpq, newqq, hpp, hpq, hqp, hqq, at_pair}
use Rattle.cards.specs.Cards.{BenchCards}
use Rattle.cards.specs.laws.Equal.{equal-settled}
use Rattle.cards.specs.laws.Limit.{at-the-limit, beyond-it}
use Rattle.cards.specs.laws.Printed.{prints-the-report}
use Rattle.cards.specs.laws.Runs.{still}

pub cards : BenchCards
unfolding threshold rounded_up u w rnd level_of sign_of choose smallest_fit fits minus_sign negative turn_matrix array eight at turned newp newq
    newpp newpq
    newqq hpp hpq hqp hqq at_pair rotation_of signed first second in_use matrix_of tabulate row_major total z S scatter largest smallest_shift
    shift_under
    entries_under padded table_from_under table_under
cards =
    record {
      card1 = (refl, refl, refl);
      card2 = (refl, refl, refl, refl, refl);
      card3 = (refl, refl);
      card4 = λ app aqq. refl;
      card5 = (refl, still);
      card6 = λ app aqq e. (rw e, rw e);
      card7 = (refl, refl);
      card8 = (refl, refl);
      card9 = equal-settled;
      card10 = λ n ss. (at-the-limit n ss, beyond-it n ss);
      card11 = (refl, refl, refl);
      card12 = prints-the-report;
    }
