-- Laws of what a writer does to a lent buffer: nothing written, one text after another, and a text in the buffer's part from a place on.
use Rattle.std.specs.Prelude.{ℕ, ◌+◌, ◌-◌, ◌<◌, ◌≤◌, ◌≡◌, List, [], ◌++◌, length, take, drop, set, get_or}
use Rattle.std.proofs.Common.{sym, ◌∙◌, append_assoc, append-nil, zero-add, add_assoc, add-zero, le_refl, arith, length-append, length-drop}
use Rattle.std.proofs.Common.{take-append-drop, drop_of_length-le, take_at, drop_at, drop-drop, length-take-le, take_all}
use Rattle.std.proofs.Common.{add-one}
use Rattle.std.proofs.Math.Seq.{take-length, paste, paste-suc}
use Rattle.text.specs.Put.{Put, part, with_part}

pub put-nothing : {X : Type 0} (at : ℕ) (entry : List X) → at ≤ length entry → Put [] at entry entry at
put-nothing at entry h = record { leaves = sym (take-append-drop at entry); answer = sym (add-zero at); within = h }

-- All that follows the first k.
pub rest_all : {X : Type 0} (k : ℕ) (f : List X) → take (length f - k) (drop k f) ≡ drop k f
rest_all k f = take_all (length f - k) (drop k f) (rw length-drop (le_refl _))

module _ {X : Type 0} {t e x : List X} {a r : ℕ} (p : Put t a e x r) where
  front : length (take a e ++ t) ≡ r
  front = rw (length-append, length-take-le a e (let w = p.within in let v = p.answer in omega arith)) (sym p.answer)

  split : x ≡ (take a e ++ t) ++ drop r e
  split = p.leaves ∙ rw (drop-drop, append_assoc, p.answer)

  -- The bytes from the answer on are as they were.
  pub rest-stays : drop r x ≡ drop r e
  rest-stays = rw split (drop_at (take a e ++ t) _ r front)

  pub written : take r x ≡ take a e ++ t
  written = rw split (take_at (take a e ++ t) _ r front)

  pub same_size : length x ≡ length e
  same_size = rw (split, length-append, front, length-drop) (let w = p.within in omega arith)

  -- A text that is written where the last one ended.
  pub put_then : {u y : List X} {s : ℕ} → Put u r x y s → Put (t ++ u) a e y s
  put_then {u} q = record {
    leaves = q.leaves ∙ rw (written, rest-stays) (simp (drop-drop, length-append, append_assoc, add_assoc, p.answer));
    answer = q.answer ∙ rw (p.answer, length-append, add_assoc);
    within = rw same_size at q.within;
  }

  pub part-size : r + length (part (length x) r x) ≡ length e
  part-size = rw (rest_all r x, length-drop) (let w = p.within in omega (arith, same_size))

  past : drop (length x - r) (drop r x) ≡ []
  past = drop_of_length-le (drop r x) {i = length x - r} (rw length-drop (omega arith))

  -- A text that is written at the front of the part `&mut buf[r..]`, which comes back after what stands before it.
  pub put-part : {u y : List X} {s : ℕ} → Put u 0 (part (length x) r x) y s → Put (t ++ u) a e (with_part (length x) r x y) (r + s)
  put-part {u} {y} {s} q = put_then (record {
    leaves = rw (past, append-nil, q.leaves, rest_all r x);
    answer = rw (q.answer, zero-add);
    within = omega (arith, q.within, part-size, same_size);
  })

  -- The same of an array, whose size is known.
  module _ {size : ℕ} (known : size ≡ length e) where
    as-long : size ≡ length x
    as-long = known ∙ sym same_size

    pub array-size : r + length (part size r x) ≡ size
    array-size = rw as-long (part-size ∙ sym same_size)

    pub array-part : {u y : List X} {s : ℕ} → Put u 0 (part size r x) y s → Put (t ++ u) a e (with_part size r x y) (r + s)
    array-part q = rw as-long (put-part (rw as-long at q))

-- The same text by another name.
pub same-put : {X : Type 0} {t u e x : List X} {at r : ℕ} → t ≡ u → Put t at e x r → Put u at e x r
same-put q p = rw (← q) p

-- A text at the front of a buffer.
pub front_length : {X : Type 0} {t e x : List X} {r : ℕ} → Put t 0 e x r → r ≡ length t
front_length p = p.answer ∙ zero-add _

-- Bytes or numbers that are written one after the other: all of them, and one more.
pub all-put : {X : Type 0} {t e x : List X} {at i : ℕ} → x ≡ paste e at t i → i ≡ length t → at + i ≤ length e → Put t at e x (at + i)
all-put {t = t} {e} {x} {at} h i w = record { leaves = rw (h, i, take-length, append_assoc, drop-drop); answer = rw i; within = w }

pub one_more : {X : Type 0} {x : List X} (e : List X) (at : ℕ) (t : List X) (i : ℕ) (d : X) → x ≡ paste e at t i → i < length t →
    at + length t ≤ length e
    → set x (at + i) (get_or t i d) ≡ paste e at t (i + 1)
one_more e at t i d h k room = rw (h, add-one) (paste-suc e at t i d (omega arith) k)
