-- The new matrix is symmetric at every place where the old one is.
use Rattle.std.specs.Prelude.{◌≡◌, refl, ℕ, ◌<◌}
use Rattle.integer.specs.Matrix.{Matrix}
use Rattle.turn.specs.Turn.{turned, newp, newq}
use Rattle.turn.specs.laws.Place.{Place, at_p, at-q, neither, place, places}
use Rattle.turn.specs.declared.pair.Rotation.{Rotation}

-- 'a_ip, a_iq are their mirrors', and the other entries stay
pub turned-symmetric : (r : Rotation) (p q : ℕ) (a : Matrix) → p < q → (i j : ℕ) → a i j ≡ a j i → turned r p q a i j ≡ turned r p q a j i
unfolding turned newp newq
turned-symmetric r p q a l i j = cases (place p q i) (place p q j)
  where
    cases : {i j : ℕ} → Place p q i → Place p q j → a i j ≡ a j i → turned r p q a i j ≡ turned r p q a j i
    cases at_p at_p h = refl
    cases at_p at-q h = simp places
    cases at_p (neither d e) h = simp places
    cases at-q at_p h = simp places
    cases at-q at-q h = refl
    cases at-q (neither d e) h = simp places
    cases (neither d e) at_p h = simp places
    cases (neither d e) at-q h = simp places
    cases (neither d e) (neither f g) h = simp places h
