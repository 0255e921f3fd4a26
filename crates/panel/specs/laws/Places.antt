-- Laws of a panel's place in the list: the list is the panels after 0, 1, 2 .. others; the panel gives its position and the position the panel.
use Rattle.std.specs.Prelude.{◌≡◌, true, ℕ, ◌+◌, ◌-◌, ◌*◌, ◌/◌, ◌%◌, ◌^◌, ◌<◌, ◌≤◌, leb, ℤ, nat_abs, get_or, length}
use Rattle.std.proofs.Common.{sym, ◌∙◌, div-add-mod', div-lt_iff_lt-mul, mod-lt, mul_assoc, mul-pos, one-mul, pow-suc}
use Rattle.std.proofs.Math.Path.{ap}
use mathlib.Core.List.{flat_map, map}
use Rattle.std.proofs.Math.Nat.{div-div-eq-div-mul, pow-zero}
use native.Mathlib.Omega.{arith}
use borrow.Author.Tests.{le-leb, leb-true}
use Rattle.std.proofs.Math.Arith.{digits_div, digits_lt, digits_mod, mod-mul}
use Rattle.std.proofs.lemmas.Bool.{and_parts}
use Rattle.integer.specs.Tabulate.{tabulate}
use Rattle.integer.specs.laws.Tabulate.{get_d_tabulate, length-tabulate, tabulate-ext}
use Rattle.panel.specs.Listed.{panel_within}
use Rattle.panel.specs.Panels.{count_of, entry_at, panels, whole_numbers, width}
use Rattle.panel.specs.Position.{The-positions, panel_after, panel_at, place_of_entry, position_of}
use Rattle.panel.specs.declared.Panel.{Panel}
use Rattle.panel.specs.laws.Entries.{entry_place, entry-within, place-below, place-entry}
use Rattle.panel.specs.laws.Tabulated.{map-tabulate, rows-tabulate}

pub cube : (w : ℕ) → w ^ 3 ≡ w * w * w
cube w = rw (pow-suc w 2, pow-suc w 1, pow-suc w 0, pow-zero w, one-mul w)

-- the three digits of i to the base w
module _ (w i : ℕ) (some : 0 < w) where
  within-square : (i % (w * w) / w ≡ i / w % w) × (i % (w * w) % w ≡ i % w)
  within-square =
      let e = mod-mul i {m = w} {c = w} some some in
      let r : i % w < w = mod-lt i some in
      (ap (λ x. x / w) e ∙ digits_div (i / w % w) r, ap (λ x. x % w) e ∙ digits_mod (i / w % w) r)

  pub three-digits : (i / w / w * w + i / w % w) * w + i % w ≡ i
  three-digits = ap (λ x. x * w + i % w) (div-add-mod' (i / w) w) ∙ div-add-mod' i w

  pub first_below : i < w * w * w → i / w / w < w
  first_below h = (div-lt_iff_lt-mul {k = w} {x = i / w} {y = w} some).1 ((div-lt_iff_lt-mul {k = w} {x = i} {y = w * w} some).1 h)

-- rows of rows of w panels, each index for an entry
module _ (w : ℕ) (some : 0 < w) (entry : ℕ → ℤ) where
  panel : ℕ → ℕ → ℕ → Panel
  panel i j k = record { a11 = entry i; a12 = entry j; a22 = entry k }

  in_rows : flat_map (λ x. flat_map (λ y. map (λ z. record { a11 = x; a12 = y; a22 = z }) (tabulate w entry)) (tabulate w entry)) (tabulate w entry) ≡
      tabulate (w * w * w) (λ k. panel (k / w / w) (k / w % w) (k % w))
  unfolding panel
  in_rows =
      rows-tabulate (w * w) w (mul-pos some some) _ entry (λ i k. panel i (k / w) (k % w)) (λ i.
      rows-tabulate w w some _ entry (panel i) (λ j. map-tabulate _ w entry))
      ∙ ap (λ n. tabulate n (λ k. panel (k / (w * w)) (k % (w * w) / w) (k % (w * w) % w))) (sym (mul_assoc w w w))
      ∙ tabulate-ext (w * w * w) _ _ (λ k h.
      let e = within-square w k some in
      λ t. panel (sym (div-div-eq-div-mul k w w) t) (e.0 t) (e.1 t))

module _ (b : ℕ) where
  abbrev some : 0 < width b
  some = omega arith

  pub panels-are : panels b ≡ tabulate (count_of b) (panel_after b)
  unfolding panels whole_numbers panel_after panel
  panels-are = in_rows (width b) some (entry_at b) ∙ ap (λ n. tabulate n (panel_after b)) (sym (cube (width b)))

  pub panels-length : length (panels b) ≡ count_of b
  panels-length = rw panels-are (length-tabulate (count_of b) (panel_after b))

  pub panels-at : (i : ℕ) → i < count_of b → (other : Panel) → get_or (panels b) i other ≡ panel_after b i
  panels-at i h other = rw panels-are (get_d_tabulate (count_of b) (panel_after b) i other h)

-- a panel's entries, each at most b in size
pub record SmallPanel (b : ℕ) (x : Panel) : Type 0 where
  pub a11 : nat_abs x.a11 ≤ b
  pub a12 : nat_abs x.a12 ≤ b
  pub a22 : nat_abs x.a22 ≤ b

module _ (b : ℕ) where
  pub small : (x : Panel) → panel_within b x ≡ true → SmallPanel b x
  unfolding panel_within
  small x e =
      let p = and_parts (leb (nat_abs x.a11) b) _ e in
      let q = and_parts (leb (nat_abs x.a12) b) _ p.1 in
      record { a11 = leb-true _ b p.0; a12 = leb-true _ b q.0; a22 = leb-true _ b q.1 }

  pub small-within : (x : Panel) → SmallPanel b x → panel_within b x ≡ true
  unfolding panel_within
  small-within x s = rw (le-leb _ b s.a11, le-leb _ b s.a12, le-leb _ b s.a22)

  -- the place of a panel, from 0
  abbrev pub before : Panel → ℕ
  before x = (place_of_entry b x.a11 * width b + place_of_entry b x.a12) * width b + place_of_entry b x.a22

  pub before-below : (x : Panel) → SmallPanel b x → before x < count_of b
  before-below x s =
      rw (cube (width b))
      (digits_lt (digits_lt (place-below b x.a11 s.a11) (place-below b x.a12 s.a12)) (place-below b x.a22 s.a22))

  pub after-before : (x : Panel) → SmallPanel b x → panel_after b (before x) ≡ x
  unfolding panel_after
  after-before x s =
      let w = width b in
      let k = place-below b x.a22 s.a22 in
      let j = place-below b x.a12 s.a12 in
      let pair = place_of_entry b x.a11 * w + place_of_entry b x.a12 in
      let front : before x / w ≡ pair = digits_div pair k in
      λ t. record {
        a11 = (ap (λ n. entry_at b (n / w)) front ∙ ap (entry_at b) (digits_div (place_of_entry b x.a11) j) ∙ entry_place b x.a11 s.a11) t;
        a12 = (ap (λ n. entry_at b (n % w)) front ∙ ap (entry_at b) (digits_mod (place_of_entry b x.a11) j) ∙ entry_place b x.a12 s.a12) t;
        a22 = (ap (entry_at b) (digits_mod pair k) ∙ entry_place b x.a22 s.a22) t;
      }

  pub after_small : (i : ℕ) → i < count_of b → SmallPanel b (panel_after b i)
  unfolding panel_after
  after_small i h =
      let some : 0 < width b = omega arith in
      record {
        a11 = entry-within b (i / width b / width b) (first_below (width b) i some (rw (cube (width b)) at h));
        a12 = entry-within b (i / width b % width b) (mod-lt (i / width b) some);
        a22 = entry-within b (i % width b) (mod-lt i some);
      }

  pub before-after : (i : ℕ) → before (panel_after b i) ≡ i
  unfolding panel_after
  before-after i = rw (place-entry b, place-entry b, place-entry b) (three-digits (width b) i (omega arith))

pub the-positions : The-positions
unfolding The-positions position_of panel_at
the-positions b =
    record {
      listed = λ position l h other. sym (panels-at b (position - 1) (omega arith) other);
      there_and_back = λ position l h. rw (before-after b (position - 1)) (omega arith);
      back-and-there = λ x e. rw (add-one-sub (before b x)) (after-before b x (small b x e));
      in-range = λ x e. (omega arith, omega (arith, before-below b x (small b x e)));
      taken = λ position l h. small-within b _ (after_small b (position - 1) (omega arith));
    }
  where
    add-one-sub : (n : ℕ) → n + 1 - 1 ≡ n
    add-one-sub n = omega arith
