-- A pair that a search found is told by an answer; none is told by the one that is none.
use Rattle.std.specs.Prelude.{◌≡◌, Bool, Option, Some, None, true, false, is_some, not}
use Rattle.std.proofs.Common.{refl, sym, true≢false}
use Rattle.record.specs.Run.{no_pair}
use Rattle.record.specs.declared.sweep.Place.{Place}
use Rattle.record.specs.inner.Found.{told_pair}

pub told_none : (found : Option Place) (none : Bool) → is_some found ≡ not none → none ≡ no_pair (told_pair found)
unfolding no_pair told_pair
told_none None true e = refl
told_none None false e = absurd (true≢false (sym e))
told_none (Some pair) true e = absurd (true≢false e)
told_none (Some pair) false e = refl
