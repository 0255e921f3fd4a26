-- What the reader of a line answers, by the line's call, and what it leaves in the lent array.
use Rattle.std.specs.Prelude.{ℕ, ◌+◌, ◌-◌, ◌≤◌, ◌≡◌, List, [], ◌∷◌, ◌++◌, map, ℤ, length, take, drop}
use Rattle.std.specs.Prelude.{IfSome, Option, Some, None}
use Rattle.text.specs.Parts.{split}
use Rattle.ledger.specs.Bench.{NamedCall, by}
use Rattle.ledger.specs.Call.{Call, load, load_samples, turn, sweep, sweep_in, tournament_sweep, loose_pair, axis}
use Rattle.ledger.specs.declared.Order.TheVariants.{Cyclic, Tournament}
use Rattle.call_text.specs.Calls.{call_within, reading}
use Rattle.call_text.specs.Numbers.{signed_of}
use Rattle.call_text.specs.declared.request.Request.{Request}
use Rattle.call_text.specs.declared.request.Request.TheVariants.{Load, LoadSamples, Turn, Sweep, LoosePair, Axis, TournamentSweep}

-- The request of a call, with the places of its list among the line's numbers, of which the bench is the first: a load's are those after n, and those
-- of samples the ones after k.
unfoldable pub asked_by : ℕ → Call → Request
asked_by bench (load n numbers) = Load bench n 2 (2 + length numbers)
asked_by bench (load_samples n dilutions counts) =
    LoadSamples bench n 3 (3 + length dilutions) (3 + length dilutions + length counts)
asked_by bench (turn p q) = Turn bench p q
asked_by bench (sweep_in Cyclic) = Sweep bench
asked_by bench (sweep_in Tournament) = TournamentSweep bench
asked_by bench (loose_pair t) = LoosePair bench t
asked_by bench (axis i) = Axis bench i

unfoldable pub asked_for : Option NamedCall → Option Request
asked_for None = None
asked_for (Some c) = Some (asked_by c.bench c.call)

-- what stands from a place to before another
abbrev pub part : {A : Type 0} → ℕ → ℕ → List A → List A
part from to xs = take (to - from) (drop from xs)

-- the call of a request, with a line's numbers, and with the readings of these at the same places
unfoldable pub request_call : Request → List ℤ → List ℕ → NamedCall
request_call (Load bench n from to) numbers readings = by bench (load n (part from to numbers))
request_call (LoadSamples bench n from middle to) numbers readings =
    by bench (load_samples n (part from middle readings) (part middle to readings))
request_call (Turn bench p q) numbers readings = by bench (turn p q)
request_call (Sweep bench) numbers readings = by bench sweep
request_call (LoosePair bench t) numbers readings = by bench (loose_pair t)
request_call (Axis bench i) numbers readings = by bench (axis i)
request_call (TournamentSweep bench) numbers readings = by bench tournament_sweep

-- the call of what may be a request
unfoldable pub call_asked : Option Request → List ℤ → List ℕ → Option NamedCall
call_asked None numbers readings = None
call_asked (Some request) numbers readings = Some (request_call request numbers readings)

-- its places are in order, and within so many numbers
abbrev pub Placed : ℕ → Request → Type 0
Placed size (Load bench n from to) = (from ≤ to) × (to ≤ size)
Placed size (LoadSamples bench n from middle to) = (from ≤ middle) × (middle ≤ to) × (to ≤ size)
Placed size (Turn bench p q) = Unit
Placed size (Sweep bench) = Unit
Placed size (LoosePair bench t) = Unit
Placed size (Axis bench i) = Unit
Placed size (TournamentSweep bench) = Unit

-- the numbers of fields up to the first that is none
unfoldable pub onward : Option ℤ → List ℤ → List ℤ
onward None xs = []
onward (Some x) xs = x ∷ xs

unfoldable pub leading : List (List ℕ) → List ℤ
leading [] = []
leading (f ∷ fs) = onward (signed_of f) (leading fs)

-- what a line leaves at the front of an array of so many places: the leading numbers after its tag
unfoldable pub left_by : ℕ → List (List ℕ) → List ℤ
left_by most [] = []
left_by most ([] ∷ fields) = []
left_by most ((tag ∷ []) ∷ fields) = take most (leading fields)
left_by most ((tag ∷ b ∷ bs) ∷ fields) = []

unfoldable pub left_in : List ℤ → List ℕ → List ℤ
left_in entry line =
    let front = left_by (length entry) (split 9 line) in
    front ++ drop (length front) entry

pub record Asks (line : List ℕ) (entry exit : List ℤ) (z : Option Request) : Type 0 where
  pub is : z ≡ asked_for (call_within (length entry) line)
  -- every place of the array, in a line that is no call too
  pub leaves : exit ≡ left_in entry line
  -- with what stands there it is the line's call
  pub calls : call_asked z exit (map reading exit) ≡ call_within (length entry) line
  pub placed : IfSome z (Placed (length exit))
