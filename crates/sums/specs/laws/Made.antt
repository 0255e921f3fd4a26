-- An array made element by element by a closure that changes nothing: what it gives at each index.
use Rattle.std.specs.Prelude.{◌≡◌, refl, ℕ, zero, suc, List, ◌+◌, ◌<◌, ◌≤◌}
use Rattle.std.proofs.Common.{sym, ◌∙◌, arith}
use Rattle.std.proofs.Math.Decide.{ℕ_discrete}
use Rattle.std.proofs.Math.ListN.{get_or}
use Rattle.std.proofs.Math.Seq.{ext_get_or}
use Rattle.std.specs.Array.{IsFromFnResult, IsFromFnResultFrom}
use Rattle.std.specs.Fn.{Called}
use Rattle.integer.specs.Tabulate.{tabulate}
use Rattle.integer.specs.laws.Tabulate.{length-tabulate, get_d_tabulate}
use denote.Param.Members.{Mut}

module _ {F B : Type 0} (g : Mut F (ℕ × Unit {0}) B) (f : F) (h : ℕ → B) (m : ℕ) (d : B)
    (keeps : (i : ℕ) (y : B) (q : F) → i < m → Called g f (i, tt) y q → (q ≡ f) × (y ≡ h i)) where
  each : (ys : List B) (i n : ℕ) (s : F) → s ≡ f → i + n ≤ m → IsFromFnResultFrom g s ys i n → (k : ℕ) → i ≤ k → k < i + n → get_or ys k d ≡ h k
  each ys i zero s e b r k l u = absurd (omega arith)
  each ys i (suc n) s e b r k l u =
      let told : (r.0 ≡ f) × (r.1 ≡ h i) = keeps i r.1 r.0 (omega arith) (rw e at r.3) in
      by (r.2.1 d ∙ told.1) (λ z. each ys (i + 1) n r.0 told.0 (omega arith) r.4 k z (omega arith)) (ℕ_discrete k i)
    where
      by : get_or ys i d ≡ h i → (i + 1 ≤ k → get_or ys k d ≡ h k) → Dec (k ≡ i) → get_or ys k d ≡ h k
      by here later (yes z) = rw z here
      by here later (no z) = later (omega arith)

  pub made : (ys : List B) → IsFromFnResult g f ys m → ys ≡ tabulate m h
  made ys r =
      ext_get_or d ys (tabulate m h) (r.long ∙ sym (length-tabulate m h))
      (λ k l. let b : k < m = omega (arith, r.long) in
      each ys 0 m f refl (omega arith) r.each k (omega arith) (omega arith) ∙ sym (get_d_tabulate m h k d b))
