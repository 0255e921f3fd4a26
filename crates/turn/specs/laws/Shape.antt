-- Laws of this subject: An array of 8 arrays of 8 words, as the machine holds one, has 8 rows of 8 entries.
use Rattle.std.specs.Prelude.{◌≡◌, List, [], ◌∷◌, ℕ, zero, suc, ◌<◌, ℤ, length, get_or}
use Rattle.std.proofs.Common.{sym, subst, le_of_suc-le-suc, not-suc-le-zero}
use Rattle.std.specs.Borrow.{Fml}
use denote.Array.{Array, each, in_array}
use denote.Laws.{Is}
use denote.Shadow.{shadow}
use denote.Signed.{SInt}
use Rattle.std.specs.Int.{w64}
use mir.Val.{Val}
use Rattle.turn.specs.Shape.{Shaped}

each-wide : (f : ℤ → List Val → Fml) (a : List (List ℤ)) (us : List Val) → shadow (each (List ℤ) (in_array ℤ f 8) a us) → (i : ℕ) → i < length a →
    length (get_or a i []) ≡ 8
each-wide f [] us p i h = absurd (not-suc-le-zero h)
each-wide f (x ∷ a) [] p i h = absurd p
each-wide f (x ∷ a) (u ∷ us) p zero h = p.0.1.0.1
each-wide f (x ∷ a) (u ∷ us) p (suc i) h = each-wide f a us p.1 i (le_of_suc-le-suc h)

pub shaped : (a : List (List ℤ)) (vs : List Val) → Is (Array (Array (SInt w64) 8) 8) a vs → Shaped a
shaped a vs p =
    record {
      tall = p.1.0.1;
      wide = λ i h. each-wide (SInt w64).own_val a p.0 p.1.1 i (subst (λ n. i < n) (sym p.1.0.1) h);
    }
