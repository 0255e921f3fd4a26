-- The invariant: the value of the whole field is that of the bytes from byte i on, after i digits with the value so far.
use Rattle.std.proofs.Common.{◌≡◌, ◌<◌, ◌^◌, drop, true}
use Rattle.text.specs.Numeral.{value_from}
use Rattle.integer.specs.Within.{all_within}
use Rattle.call_text.proofs.field.value.Given as goal

abbrev pub invariant-loop-b : goal.invariant-loop-b
invariant-loop-b l = record {
  low : l.value < 10 ^ l.b-index;
  later : all_within 48 57 (drop l.b-index l.field) ≡ true;
  is : value_from 0 l.field ≡ value_from l.value (drop l.b-index l.field);
}
