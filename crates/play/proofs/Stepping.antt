-- What a step comes to, by what stands at its cursor.
use Rattle.std.proofs.Common.{ℕ, ◌+◌, ◌-◌, ◌≤◌, ◌<◌, ◌≡◌, refl, sym, ap, ◌∙◌, Bool, true, false, cond, not, List, [], ◌∷◌, Option, Some, None, arith}
use Rattle.std.proofs.Common.{length, take, drop, drop_of_length-le}
use borrow.Author.Tests.{ne_eqb}
use Rattle.text.specs.Parts.{split}
use Rattle.call_text.specs.inner.Parts.{front}
use Rattle.call_text.proofs.Splitting.{parts_after, parts-end, parts_more, split-front, take-front}
use Rattle.play.specs.Receiver.{PlaysLine, printed_by}
use Rattle.play.specs.Steps.{Steps, Within, after_line, left_by, lines_from, past_line, stepped, stepped_by, stopped_at}
use Rattle.play.specs.Text.{unknown_line}
use Rattle.play.specs.declared.cursor.Cursor.{Cursor}
use Rattle.play.specs.declared.step.Stepped.{Stepped}

module _ {S : Type 0} (plays : S → List ℕ → Option (List ℕ × S)) (text : List ℕ) (left : Bool) (here : Cursor) (s : S) (n : ℕ) where
  -- the text's end, or a line that is no call
  record Stops (u : List ℕ) : Type 0 where
    is : stopped_at n u ≡ stepped n plays left s here (lines_from text here)
    stays : s ≡ after_line plays s (lines_from text here)

  stops : {u : List ℕ} {z : Stepped n} → Stops u → z ≡ stopped_at n u → Steps plays text left here s z s
  unfolding stopped_at
  stops {u} {z} t e =
      let m : z.next ≡ None = ap (λ (y : Stepped n). y.next) e in
      record {
        is = e ∙ t.is;
        leaves = t.stays;
        moves = λ on q. absurd (let w : ◌≡◌ {A = ℕ} 0 1 = cc (m, q) in omega arith);
      }

  pub steps-end : length text ≤ here.at → {z : Stepped n} → z ≡ stopped_at n (cond left (unknown_line here.line) []) →
      Steps plays text left here s z s
  unfolding lines_from split stepped after_line
  steps-end h = stops (record { is = rw (drop_of_length-le text h) (by left); stays = rw (drop_of_length-le text h) })
    where
      by : (t : Bool) → stopped_at n (cond t (unknown_line here.line) []) ≡ cond (not t) (stopped_at n []) (stopped_at n (unknown_line here.line))
      by true = refl
      by false = refl

  module _ (h : here.at < length text) (end : ℕ) (e : end ≡ here.at + length (front 10 (drop here.at text))) where
    parts : lines_from text here ≡ front 10 (drop here.at text) ∷ parts_after 10 text end
    unfolding lines_from
    parts = split-front 10 text here.at ∙ rw (← e) refl

    -- a line that no line feed ends
    pub steps-open : length text ≤ end → {z : Stepped n} → z ≡ stopped_at n (unknown_line here.line) → Steps plays text left here s z s
    unfolding stepped after_line
    steps-open g =
        let n : length (front 10 (drop here.at text)) ≡ 0 → ⊥ = λ z. omega arith in
        let p : lines_from text here ≡ front 10 (drop here.at text) ∷ [] = parts ∙ rw (parts-end 10 text end g) in
        stops (record { is = sym (rw p (simp (ne_eqb _ _ n))); stays = rw p })

    module _ (g : end < length text) where
      abbrev line : List ℕ
      line = take (end - here.at) (drop here.at text)

      first : front 10 (drop here.at text) ≡ line
      first =
          let l : end - here.at ≡ length (front 10 (drop here.at text)) = omega arith in
          sym (rw l (take-front 10 (drop here.at text)))

      whole : lines_from text here ≡ line ∷ front 10 (drop (end + 1) text) ∷ parts_after 10 text (end + 1 + length (front 10 (drop (end + 1) text)))
      whole = parts ∙ rw (parts_more 10 text end g, split-front 10 text (end + 1)) (rw first refl)

      long : length line ≡ end - here.at
      long = rw (← first) (omega arith)

      abbrev on : Cursor
      on = record { at = end + 1; line = here.line + 1 }

      there : on ≡ past_line here (length line)
      unfolding past_line
      there =
          let k : end + 1 ≡ here.at + length line + 1 = omega (arith, long, e) in
          λ i. record { at = k i; line = here.line + 1 }

      -- a line that is no call
      pub steps-unknown : {next : S} → PlaysLine (plays s line) s None next → {z : Stepped n} → z ≡ stopped_at n (unknown_line here.line) →
          Steps plays text left here s z next
      unfolding stepped after_line stepped_by left_by printed_by
      steps-unknown {next} p {z} q = by (plays s line) p (rw whole refl) (rw whole refl)
        where
          by : (o : Option (List ℕ × S)) → PlaysLine o s None next →
              stepped n plays left s here (lines_from text here) ≡ stepped_by n here (length line) o →
              after_line plays s (lines_from text here) ≡ left_by s o → Steps plays text left here s z next
          by None p i l = rw p.leaves (stops (record { is = sym i; stays = sym l }) q)
          by (Some done) p i l = let x = p.is in absurd (let w : ◌≡◌ {A = ℕ} 0 1 = cc in omega arith)

      -- a call
      pub steps-call : {page : List ℕ} {next : S} → PlaysLine (plays s line) s (Some page) next → Within text here →
          Steps plays text left here s {n = n} (record { next = Some on; page = page }) next
      unfolding stepped after_line stepped_by left_by printed_by
      steps-call {page} {next} p w = by (plays s line) p (rw whole refl) (rw whole refl)
        where
          by : (o : Option (List ℕ × S)) → PlaysLine o s (Some page) next →
              stepped n plays left s here (lines_from text here) ≡ stepped_by n here (length line) o →
              after_line plays s (lines_from text here) ≡ left_by s o →
              Steps plays text left here s {n = n} (record { next = Some on; page = page }) next
          by None p i l = let x = p.is in absurd (let w : ◌≡◌ {A = ℕ} 0 1 = cc in omega arith)
          by (Some done) p i l =
              let x : page ≡ done.0 = let y = p.is in cc in
              record {
                is = rw x ((λ j. record { next = Some (there j); page = done.0 }) ∙ sym i);
                leaves = p.leaves ∙ sym l;
                moves = λ to m.
                    let k : to ≡ on = let y = m in cc in
                    rw k (omega arith, record { place = omega arith; number = omega (arith, w.number) });
              }
