-- The call on a book that a line gives: a tag and its numbers, fields parted by one tab. Numbers are read as those of a record's calls (call_text).
use Rattle.std.specs.Prelude.{ℕ, cond, List, [], ◌∷◌, map, eqb, ℤ, Option, Some, None}
use Rattle.text.specs.Parts.{split}
use Rattle.book.specs.Calls.{BookCall, add, begin, make_table, read_summary, rebuild, strike}
use Rattle.call_text.specs.Calls.{argument, number_limit, reading}
use Rattle.call_text.specs.Fields.{of_fields}

-- `N` n and `K` i have one number
unfoldable pub one_number_of : (ℕ → BookCall) → List ℤ → Option BookCall
one_number_of call [] = None
one_number_of call (x ∷ []) = Some (call (argument x))
one_number_of call (x ∷ y ∷ xs) = None

-- `Z`, `B` and `T` have none
unfoldable pub no_number_of : BookCall → List ℤ → Option BookCall
no_number_of call [] = Some call
no_number_of call (x ∷ xs) = None

-- `A` has a dilution and any number of counts
unfoldable pub sample_by : List ℤ → Option BookCall
sample_by [] = None
sample_by (dilution ∷ counts) = Some (add (reading dilution) (map reading counts))

-- 78 is `N`, 65 `A`, 75 `K`, 90 `Z`, 66 `B`, 84 `T`
unfoldable pub book_call_by : ℕ → List ℤ → Option BookCall
book_call_by tag numbers =
    cond (eqb tag 78) (one_number_of begin numbers)
    (cond (eqb tag 65) (sample_by numbers)
    (cond (eqb tag 75) (one_number_of strike numbers)
    (cond (eqb tag 90) (no_number_of read_summary numbers)
    (cond (eqb tag 66) (no_number_of rebuild numbers)
    (cond (eqb tag 84) (no_number_of make_table numbers) None)))))

-- a tag is one byte, and so many numbers follow it at most
unfoldable pub book_call_of : List ℕ → Option BookCall
book_call_of line = of_fields book_call_by number_limit (split 9 line)
