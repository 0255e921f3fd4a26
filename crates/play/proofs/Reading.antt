-- The call of a line, by the request that is read and the numbers and readings that it leaves.
use Prim.Native.Nat.{ℕ, ◌-◌, ◌≤◌}
use mathlib.Core.Path.{◌≡◌, refl, sym, ap, ◌∙◌}
use mathlib.Core.List.{List, ◌++◌, map, map-append}
use Rattle.std.proofs.Common.{None, Option, Some}
use native.Mathlib.Omega.{arith}
use lib.IntN.{ℤ}
use lib.ListN.{length, take, drop, length-drop, length-map, take-append-drop}
use lib.Seq.{drop-append-le, length-take-le, take-append-le}
use Rattle.ledger.specs.Bench.{NamedCall, by}
use Rattle.ledger.specs.Call.{load_samples}
use Rattle.record.specs.declared.AxisAnswer.{AxisAnswer}
use Rattle.record.specs.declared.Record.{Record}
use Rattle.call_text.specs.Answers.{answer_line, shown, told_of}
use Rattle.call_text.specs.Calls.{call_of, number_limit, reading}
use Rattle.call_text.specs.Requests.{Asks, Placed, call_asked, part, request_call}
use Rattle.call_text.specs.declared.request.Request.{Request}
use Rattle.call_text.specs.declared.request.Request.TheVariants.{Load, LoadSamples, Turn, Sweep, LoosePair, Axis, TournamentSweep}
use Rattle.play.specs.Receiver.{PlaysLine, printed_by}
use Rattle.play.specs.Steps.{left_by}
use Rattle.play.specs.Text.{record_answers, record_plays}
use Rattle.play.specs.inner.Calls.{Answers, answer_for}
use Rattle.play.specs.inner.Lines.{told_with}

-- the readings of samples, as they are at the same places as their numbers
module _ (numbers : List ℤ) (entry : List ℕ) (end : ℕ) (all : end ≤ length numbers) where
  abbrev in_place : List ℕ
  in_place = map reading (take end numbers) ++ drop end entry

  taken : length (map reading (take end numbers)) ≡ end
  taken = length-map (take end numbers) reading ∙ length-take-le end numbers all

  read-part : (from to : ℕ) → from ≤ to → to ≤ end → part from to in_place ≡ part from to (map reading numbers)
  read-part from to h k =
      let f : from ≤ length (map reading (take end numbers)) = rw taken (omega arith) in
      let t : to - from ≤ length (drop from (map reading (take end numbers))) = rw (length-drop, taken) (omega arith) in
      let s : map reading numbers ≡ map reading (take end numbers) ++ map reading (drop end numbers) =
      rw (← map-append reading (take end numbers) (drop end numbers), take-append-drop end numbers) in
      rw (
        drop-append-le from (map reading (take end numbers)) (drop end entry) f,
        take-append-le (to - from) _ (drop end entry) t,
        s,
        drop-append-le from (map reading (take end numbers)) (map reading (drop end numbers)) f,
        take-append-le (to - from) _ (map reading (drop end numbers)) t,
      )

-- The readings that a request needs are those of its numbers.
pub record Read (request : Request) (numbers : List ℤ) (readings : List ℕ) : Type 0 where
  pub same : request_call request numbers readings ≡ request_call request numbers (map reading numbers)

-- a load of samples, with the readings of its numbers up to its end
pub read-samples : (bench n from middle to : ℕ) (numbers : List ℤ) (entry : List ℕ) → Placed (length numbers) (LoadSamples bench n from middle to) →
    Read (LoadSamples bench n from middle to) numbers (map reading (take to numbers) ++ drop (length (take to numbers)) entry)
unfolding request_call
read-samples bench n from middle to numbers entry p = rw (length-take-le to numbers p.2) record {
  same = λ i. by bench (load_samples n (read-part numbers entry to p.2 from middle p.0 p.1 i)
      (read-part numbers entry to p.2 middle to p.1 (omega arith) i));
}

-- any other request needs none
abbrev pub NoSamples : Request → Type 0
NoSamples request = (bench n from middle to : ℕ) → request ≡ LoadSamples bench n from middle to → ⊥

pub read_other : (request : Request) (numbers : List ℤ) (readings : List ℕ) → NoSamples request → Read request numbers readings
unfolding request_call
read_other (Load bench n from to) numbers readings h = record { same = refl }
read_other (LoadSamples bench n from middle to) numbers readings h = absurd (h bench n from middle to refl)
read_other (Turn bench p q) numbers readings h = record { same = refl }
read_other (Sweep bench) numbers readings h = record { same = refl }
read_other (LoosePair bench t) numbers readings h = record { same = refl }
read_other (Axis bench i) numbers readings h = record { same = refl }
read_other (TournamentSweep bench) numbers readings h = record { same = refl }

module _ (r : Record) (line : List ℕ) where
  plays-by : (o : Option NamedCall) → call_of line ≡ o → {z : Option (List ℕ)} {next : Record} → PlaysLine (record_answers r o) r z next →
      PlaysLine (record_plays r line) r z next
  unfolding record_plays
  plays-by o e p = rw e p

  module _ {entry numbers : List ℤ} (s : length entry ≡ number_limit) where
    -- a line that is no call
    pub no-call : Asks line entry numbers None → {z : Option (List ℕ)} → z ≡ None → PlaysLine (record_plays r line) r z r
    unfolding call_of call_asked record_answers printed_by left_by
    no-call k e =
        let c : call_of line ≡ None = rw (← s) (sym k.calls) in
        plays-by None c (record { is = e; leaves = refl })

    -- a call, with the readings that its request needs
    pub a-call : {request : Request} → Asks line entry numbers (Some request) → {readings : List ℕ} → Read request numbers readings →
        {y : AxisAnswer} {next : Record} → Answers r (request_call request numbers readings) y next → {page : List ℕ} →
        page ≡ shown (told_with y next) → PlaysLine (record_plays r line) r (Some page) next
    unfolding call_of call_asked record_answers printed_by left_by answer_line told_of told_with answer_for
    a-call {request} k {readings} d {y} {next} a {page} e =
        let call = request_call request numbers readings in
        let c : call_of line ≡ Some call = rw (← s, d.same) (sym k.calls) in
        let t : page ≡ answer_line r call = rw (← a.leaves) (rw a.is at e) in
        plays-by (Some call) c (record { is = ap Some t; leaves = a.leaves })
