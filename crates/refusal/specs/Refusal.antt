-- The refusals' numbers: document 01, 'Caused by the input' and 'Caused by the state', and document 02. The documents' definitions give a refusal by
-- its number, and 0 where nothing is refused.
use Rattle.std.specs.Prelude.{ℕ, ◌-◌, List, [], ◌∷◌, Result, Ok, Err, cond, eqb, get_or}
use Rattle.refusal.specs.declared.Refusal.{Refusal}
use Rattle.refusal.specs.declared.Refusal.TheVariants.{Malformed, OutOfRange, SampleCount, WrongEnd, ChannelCount, ListLength, Unsymmetric}
use Rattle.refusal.specs.declared.Refusal.TheVariants.{EntryLimit, OutsideMatrix, NoMatrix, TurnLimit, ShortBuffer, UnequalChannels, NoSuchSample}
use Rattle.refusal.specs.declared.Refusal.TheVariants.{NoSuchBench, TooManyJobs}

abbrev pub number_of : Refusal → ℕ
number_of Malformed = 1
number_of OutOfRange = 2
number_of SampleCount = 3
number_of WrongEnd = 4
number_of ChannelCount = 5
number_of ListLength = 6
number_of Unsymmetric = 7
number_of EntryLimit = 8
number_of OutsideMatrix = 9
number_of NoMatrix = 10
number_of TurnLimit = 11
number_of ShortBuffer = 12
number_of UnequalChannels = 13
number_of NoSuchSample = 14
number_of NoSuchBench = 15
number_of TooManyJobs = 16

-- in the order of their numbers
abbrev pub refusals : List Refusal
refusals =
    Malformed ∷ OutOfRange ∷ SampleCount ∷ WrongEnd ∷ ChannelCount ∷ ListLength ∷ Unsymmetric ∷ EntryLimit ∷ OutsideMatrix ∷ NoMatrix ∷ TurnLimit ∷
    ShortBuffer ∷ UnequalChannels ∷ NoSuchSample ∷ NoSuchBench ∷ TooManyJobs ∷ []

-- the refusal that has a number, from 1 to 16
abbrev pub numbered : ℕ → Refusal
numbered number = get_or refusals (number - 1) TooManyJobs

-- x, or the refusal that has the number where that is not 0
unfoldable pub judged : {X : Type 0} → ℕ → X → Result X Refusal
judged number x = cond (eqb number 0) (Ok x) (Err (numbered number))
