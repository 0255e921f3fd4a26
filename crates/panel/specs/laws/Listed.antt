-- Laws of the list of panels: it is as `Listed` says, and no other list is.
use Rattle.std.specs.Prelude.{◌≡◌, Bool, ℤ, length}
use Rattle.std.proofs.Math.Path.{refl, sym, ap, ap₂}
use Rattle.std.proofs.Common.{◌∙◌, true≢false, add-zero, div-add-mod', mod-lt, zero-add, arith}
use Rattle.std.proofs.Math.Bool.{true, false, cond}
use mathlib.Core.List.{List, [], ◌∷◌}
use Prim.Native.Nat.{ℕ, zero, suc, ◌+◌, ◌*◌, ◌/◌, ◌%◌, ◌<◌, ◌≤◌, zero-le}
use Rattle.std.proofs.Math.Decide.{dec_lt}
use Rattle.std.proofs.Math.Arith.{digits_lt}
use Rattle.std.specs.Float.Ieee.Bits.{is_true}
use Rattle.std.proofs.lemmas.Bool.{and_parts}
use Rattle.integer.specs.Tabulate.{tabulate}
use Rattle.integer.specs.laws.Tabulate.{tabulate-ext}
use Rattle.ledger.specs.Refusal.{equal}
use Rattle.ledger.specs.laws.Accepted.{equal_of, equal-same}
use Rattle.panel.specs.Listed.{ComesBefore, by-a11, by-a12, by-a22, InOrder, Listed, The-panels, panel_within, panel_occurrences, same_panel}
use Rattle.panel.specs.Panels.{count_of, entry_at, panels, width}
use Rattle.panel.specs.Position.{panel_after}
use Rattle.panel.specs.declared.Panel.{Panel}
use Rattle.panel.specs.laws.Entries.{entry-before, place-before, place-below}
use Rattle.panel.specs.laws.Places.{SmallPanel, after-before, after_small, before, before-after, before-below, panels-are, panels-length}
use Rattle.panel.specs.laws.Places.{small, small-within}

-- ---- the test of sameness

pub same-equal : (x y : Panel) → same_panel x y ≡ true → x ≡ y
unfolding same_panel
same-equal x y e =
    let p = and_parts (equal x.a11 y.a11) _ e in
    let q = and_parts (equal x.a12 y.a12) _ p.1 in
    λ t. record { a11 = same x.a11 y.a11 p.0 t; a12 = same x.a12 y.a12 q.0 t; a22 = same x.a22 y.a22 q.1 t }
  where
    same : (u v : ℤ) → equal u v ≡ true → u ≡ v
    same u v e = equal-same u v (rw e tt)

pub same-itself : (x : Panel) → same_panel x x ≡ true
unfolding same_panel
same-itself x = rw (itself x.a11, itself x.a12, itself x.a22)
  where
    itself : (z : ℤ) → equal z z ≡ true
    itself z = is_true (equal z z) (equal_of z z refl)

differ : (x y : Panel) → (x ≡ y → ⊥) → same_panel x y ≡ false
differ x y d = by (same_panel x y) refl
  where
    by : (t : Bool) → same_panel x y ≡ t → same_panel x y ≡ false
    by true e = absurd (d (same-equal x y e))
    by false e = e

-- ---- how often a panel stands among values

none-there : (x : Panel) (n : ℕ) (f : ℕ → Panel) → ((i : ℕ) → i < n → f i ≡ x → ⊥) → panel_occurrences x (tabulate n f) ≡ 0
unfolding panel_occurrences tabulate
none-there x zero f h = refl
none-there x (suc n) f h =
    rw (differ (f 0) x (h 0 (omega arith)), none-there x n (λ i. f (suc i)) (λ i l. h (suc i) (omega arith)))

one-there : (x : Panel) (n : ℕ) (f : ℕ → Panel) (k : ℕ) → k < n → f k ≡ x → ((i : ℕ) → i < n → f i ≡ x → i ≡ k) →
    panel_occurrences x (tabulate n f) ≡ 1
unfolding panel_occurrences tabulate
one-there x zero f k l e h = absurd (omega arith)
one-there x (suc n) f zero l e h =
    rw (e, same-itself x, none-there x n (λ i. f (suc i)) (λ i m g. (let z = h (suc i) (omega arith) g in omega arith)))
one-there x (suc n) f (suc k) l e h =
    rw (differ (f 0) x (λ g. (let z = h 0 (omega arith) g in omega arith)), zero-add)
    (one-there x n (λ i. f (suc i)) k (omega arith) e (λ i m g. (let z = h (suc i) (omega arith) g in omega arith)))

once-listed : (b : ℕ) (x : Panel) (t : Bool) → panel_within b x ≡ t → panel_occurrences x (panels b) ≡ cond t 1 0
once-listed b x true e =
    let s = small b x e in
    rw (panels-are b)
    (one-there x (count_of b) (panel_after b) (before b x) (before-below b x s) (after-before b x s)
    (λ i l g. sym (before-after b i) ∙ ap (before b) g))
once-listed b x false e =
    rw (panels-are b)
    (none-there x (count_of b) (panel_after b) (λ i l g. true≢false (sym (small-within b x (rw g at (after_small b i l))) ∙ e)))

-- ---- the order

-- i < j, by their rows and columns to the width w
data Later (w i j : ℕ) : Type 0 where
  row : i / w < j / w → Later w i j
  column : i / w ≡ j / w → i % w < j % w → Later w i j

later : (w i j : ℕ) → 0 < w → i < j → Later w i j
later w i j some h = by (dec_lt (i / w) (j / w)) (dec_lt (j / w) (i / w))
  where
    by : Dec (i / w < j / w) → Dec (j / w < i / w) → Later w i j
    by (yes l) d = row l
    by (no l) (yes g) = absurd (omega (arith, digits_lt {q = j / w} {m = i / w} g (mod-lt j some), div-add-mod' j w, div-add-mod' i w))
    by (no l) (no g) =
        let e : i / w ≡ j / w = omega arith in
        column e (omega (arith, ap (λ q. q * w) e, div-add-mod' i w, div-add-mod' j w))

module _ (b i j : ℕ) where
  by-columns : Later (width b) (i / width b) (j / width b) → ComesBefore (panel_after b i) (panel_after b j)
  unfolding panel_after
  by-columns (row l) = by-a11 (entry-before b (i / width b / width b) (j / width b / width b) l)
  by-columns (column e l) = by-a12 (ap (entry_at b) e) (entry-before b (i / width b % width b) (j / width b % width b) l)

  by_rows : Later (width b) i j → ComesBefore (panel_after b i) (panel_after b j)
  unfolding panel_after
  by_rows (row l) = by-columns (later (width b) (i / width b) (j / width b) (omega arith) l)
  by_rows (column e l) =
      by-a22 (ap (λ q. entry_at b (q / width b)) e) (ap (λ q. entry_at b (q % width b)) e) (entry-before b (i % width b) (j % width b) l)

  pub after-ordered : i < j → ComesBefore (panel_after b i) (panel_after b j)
  after-ordered h = by_rows (later (width b) i j (omega arith) h)

ordered : (n : ℕ) (f : ℕ → Panel) → ((i : ℕ) → ComesBefore (f i) (f (suc i))) → InOrder (tabulate n f)
unfolding InOrder tabulate
ordered zero f h = tt
ordered (suc zero) f h = tt
ordered (suc (suc n)) f h = (h 0, ordered (suc n) (λ i. f (suc i)) (λ i. h (suc i)))

pub panels-listed : (b : ℕ) → Listed b (panels b)
panels-listed b =
    record {
      count = panels-length b;
      once = λ x. once-listed b x (panel_within b x) refl;
      ordered = rw (panels-are b) (ordered (count_of b) (panel_after b) (λ i. after-ordered b i (suc i) (omega arith)));
    }

-- ---- no other list

grown : (w q r q' r' : ℕ) → q < q' → r < w → q * w + r < q' * w + r'
grown w q r q' r' h k = omega (arith, digits_lt h k)

module _ (b : ℕ) where
  -- each of the panels is small
  Each : List Panel → Type 0
  Each [] = Unit
  Each (x ∷ xs) = SmallPanel b x × Each xs

  each-small : (xs : List Panel) → ((x : Panel) → panel_within b x ≡ false → panel_occurrences x xs ≡ 0) → Each xs
  unfolding Each panel_occurrences
  each-small [] h = tt
  each-small (x ∷ xs) h =
      (by (panel_within b x) refl, each-small xs (λ y e. omega (arith, h y e)))
    where
      by : (t : Bool) → panel_within b x ≡ t → SmallPanel b x
      by true e = small b x e
      by false e = absurd (let z = rw (same-itself x) at (h x e) in omega arith)

  -- what comes before has fewer before it
  fewer : (x y : Panel) → SmallPanel b x → SmallPanel b y → ComesBefore x y → before b x < before b y
  fewer x y s t (by-a11 l) =
      grown (width b) _ _ _ _
      (grown (width b) _ _ _ _ (place-before b x.a11 y.a11 s.a11 t.a11 l) (place-below b x.a12 s.a12))
      (place-below b x.a22 s.a22)
  fewer x y s t (by-a12 e l) =
      let m = place-before b x.a12 y.a12 s.a12 t.a12 l in
      grown (width b) _ _ _ _ (rw e (omega (arith, m))) (place-below b x.a22 s.a22)
  fewer x y s t (by-a22 e f l) = let m = place-before b x.a22 y.a22 s.a22 t.a22 l in rw (e, f) (omega (arith, m))

  -- after a panel there is room for as many as have not come yet
  room : (x : Panel) (xs : List Panel) → InOrder (x ∷ xs) → Each (x ∷ xs) → before b x + length xs < count_of b
  unfolding Each InOrder
  room x [] o e = omega (arith, before-below b x e.0)
  room x (y ∷ ys) o e = omega (arith, room y ys o.1 e.1, fewer x y e.0 e.1.0 o.0)

  -- the first panel has at least k before it
  From : ℕ → List Panel → Type 0
  From k [] = Unit
  From k (x ∷ xs) = k ≤ before b x

  later_ones : (k : ℕ) (x : Panel) (xs : List Panel) → InOrder (x ∷ xs) → Each (x ∷ xs) → before b x ≡ k →
      InOrder xs × From (suc k) xs
  unfolding Each InOrder From
  later_ones k x [] o e h = (tt, tt)
  later_ones k x (y ∷ ys) o e h = (o.1, omega (arith, fewer x y e.0 e.1.0 o.0))

  from_place : (k : ℕ) (xs : List Panel) → InOrder xs → Each xs → From k xs → k + length xs ≡ count_of b →
      xs ≡ tabulate (length xs) (λ i. panel_after b (k + i))
  unfolding Each From tabulate
  from_place k [] o e f h = refl
  from_place k (x ∷ xs) o e f h =
      let here : before b x ≡ k = omega (arith, room x xs o e) in
      let on = later_ones k x xs o e here in
      let first : x ≡ panel_after b (k + 0) = sym (after-before b x e.0) ∙ ap (panel_after b) (here ∙ sym (add-zero k)) in
      let rest = from_place (suc k) xs on.0 e.1 on.1 (omega arith) in
      ap₂ ◌∷◌ first
      (rest ∙ tabulate-ext (length xs) (λ i. panel_after b (suc k + i)) (λ i. panel_after b (k + suc i)) (λ i l. ap (panel_after b) (omega arith)))

  pub only-panels : (xs : List Panel) → Listed b xs → xs ≡ panels b
  unfolding From
  only-panels xs l =
      let e = each-small xs (λ x f. l.once x ∙ ap (λ t. cond t 1 0) f) in
      from_place 0 xs l.ordered e (from-none xs) (zero-add (length xs) ∙ l.count)
      ∙ rw l.count (tabulate-ext (count_of b) (λ i. panel_after b (0 + i)) (panel_after b) (λ i h. ap (panel_after b) (zero-add i)))
      ∙ sym (panels-are b)
    where
      from-none : (xs : List Panel) → From 0 xs
      from-none [] = tt
      from-none (x ∷ xs) = zero-le

pub the-panels : The-panels
unfolding The-panels
the-panels b = (panels-listed b, only-panels b)
