-- The front of a buffer while it is read into, and what it is of the bytes that the input had.
use Rattle.std.proofs.Common.{◌≡◌, ℕ, ◌+◌, ◌≤◌, List, ◌++◌, length, take, drop, sym, ap, subst, ◌∙◌, le_refl}
use Rattle.std.proofs.lemmas.List.{drop_at, length-take-le, take-append-le}
use Rattle.std.proofs.lemmas.Slice.{take-put_mid_below}
use Rattle.std.proofs.Math.Seq.{take-add}
use Rattle.std.specs.declared.option.Option.{Option}
use Rattle.std.specs.Io.KnownBytes.{Consumes, Keeps}
use Rattle.std.proofs.KnownBytes.{Consumes-kept, Consumes-trans}
use borrow.Rule.Slice.PartMut.{post_of, put_mid}

-- n bytes of what was read to place f stand after those before it
front_grown : (f k n : ℕ) (old part : List ℕ) → f ≤ length old → n ≤ length part → take (f + n) (put_mid f k old part) ≡ take f old ++ take n part
front_grown f k n old part within fits =
    let whole = put_mid f k old part in
    take-add f n whole ∙ ap (λ l. l ++ take n (drop f whole)) (take-put_mid_below f k old part f (le_refl f) within)
    ∙ ap (λ l. take f old ++ l) (ap (take n) (drop_at (take f old) (part ++ post_of f k old) f (length-take-le f old within))
    ∙ take-append-le n part (post_of f k old) fits)

-- a read to place f gave n bytes
pub read_on : (a b c : Option (List ℕ)) (f k n : ℕ) (old part : List ℕ) → f ≤ length old → n ≤ length part
    → Consumes a b (take f old) → Consumes b c (take n part) → Consumes a c (take (f + n) (put_mid f k old part))
read_on a b c f k n old part within fits before read =
    subst (Consumes a c) (sym (front_grown f k n old part within fits)) (Consumes-trans a b c _ _ before read)

-- a read to place f gave none
pub read_none : (a b c : Option (List ℕ)) (f k : ℕ) (old part : List ℕ) → f ≤ length old
    → Consumes a b (take f old) → Keeps b c → Consumes a c (take f (put_mid f k old part))
read_none a b c f k old part within before kept =
    subst (Consumes a c) (sym (take-put_mid_below f k old part f (le_refl f) within)) (Consumes-kept a b c _ before kept)
