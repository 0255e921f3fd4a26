-- The call that a line gives: its tag, then its bench and its numbers, fields parted by one tab.
use Rattle.std.specs.Prelude.{ℕ, cond, List, [], ◌∷◌, map, eqb, leb, ℤ, pos, negsuc, length, take, drop}
use Rattle.std.specs.Prelude.{Option, Some, None}
use Rattle.text.specs.Parts.{split}
use Rattle.ledger.specs.Bench.{NamedCall, by}
use Rattle.ledger.specs.Call.{Call, load, load_samples, turn, sweep_in, loose_pair, axis}
use Rattle.ledger.specs.declared.Order.{Order}
use Rattle.ledger.specs.declared.Order.TheVariants.{Cyclic, Tournament}
use Rattle.call_text.specs.Fields.{of_fields}
use Rattle.call_text.specs.Numbers.{beyond}

-- README: 'negative where the call's argument is a natural (bench, n, p, q, t, i) is a value out of that argument's range'
unfoldable pub argument : ℤ → ℕ
argument (pos x) = x
argument (negsuc x) = beyond

-- `L` n and the numbers
unfoldable pub load_by : List ℤ → Option Call
load_by [] = None
load_by (n ∷ numbers) = Some (load (argument n) numbers)

-- README: 'A dilution or a count that is negative or above 4,294,967,295 stands for 4,294,967,295, which is beyond every range'
abbrev pub most_reading : ℕ
most_reading = 4_294_967_295

unfoldable pub reading : ℤ → ℕ
reading (pos x) = cond (leb x most_reading) x most_reading
reading (negsuc x) = most_reading

-- `M` n k, then k dilutions, then the counts: 'k has no minus', and 'fewer than k numbers after k make the line no call'
unfoldable pub samples_by : List ℤ → Option Call
samples_by [] = None
samples_by (n ∷ []) = None
samples_by (n ∷ negsuc k ∷ numbers) = None
samples_by (n ∷ pos k ∷ numbers) =
    cond (leb k (length numbers)) (Some (load_samples (argument n) (map reading (take k numbers)) (map reading (drop k numbers)))) None

-- `T` p q
unfoldable pub turn_by : List ℤ → Option Call
turn_by [] = None
turn_by (p ∷ []) = None
turn_by (p ∷ q ∷ []) = Some (turn (argument p) (argument q))
turn_by (p ∷ q ∷ x ∷ xs) = None

-- `W`, and `O` for the tournament sweep
unfoldable pub sweep_by : Order → List ℤ → Option Call
sweep_by order [] = Some (sweep_in order)
sweep_by order (x ∷ xs) = None

-- `Q` t, and `A` i
unfoldable pub one_by : (ℕ → Call) → List ℤ → Option Call
one_by call [] = None
one_by call (x ∷ []) = Some (call (argument x))
one_by call (x ∷ y ∷ xs) = None

-- The call of a tag and the numbers after the bench: 76 is `L`, 77 `M`, 84 `T`, 87 `W`, 81 `Q`, 65 `A`, 79 `O`.
unfoldable pub call_by : ℕ → List ℤ → Option Call
call_by tag numbers =
    cond (eqb tag 76) (load_by numbers)
    (cond (eqb tag 77) (samples_by numbers)
    (cond (eqb tag 84) (turn_by numbers)
    (cond (eqb tag 87) (sweep_by Cyclic numbers)
    (cond (eqb tag 81) (one_by loose_pair numbers)
    (cond (eqb tag 65) (one_by axis numbers)
    (cond (eqb tag 79) (sweep_by Tournament numbers) None))))))

unfoldable pub named : ℕ → Option Call → Option NamedCall
named bench None = None
named bench (Some call) = Some (by bench call)

-- README: 'The first number of a call is the bench that makes it'
unfoldable pub named_by : ℕ → List ℤ → Option NamedCall
named_by tag [] = None
named_by tag (bench ∷ numbers) = named (argument bench) (call_by tag numbers)

unfoldable pub call_of_fields : ℕ → List (List ℕ) → Option NamedCall
call_of_fields most fields = of_fields named_by most fields

-- the call of a line that may have so many numbers
unfoldable pub call_within : ℕ → List ℕ → Option NamedCall
call_within most line = call_of_fields most (split 9 line)

-- README: 'A line has at most 4,096 numbers, the bench among them; more make it no call'
unfoldable pub number_limit : ℕ
number_limit = 4096

unfoldable pub call_of : List ℕ → Option NamedCall
call_of line = call_within number_limit line
