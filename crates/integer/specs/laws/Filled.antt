-- A list that is written place after place: up to a place it is the list that is made, and from there on it is as it was.
use Rattle.std.specs.Prelude.{◌≡◌, refl, List, ℕ, suc, ◌<◌, ◌≤◌, length, get_or, set}
use Rattle.std.proofs.Common.{sym, ◌∙◌, arith, length-set, get_or-set_same, get_or-set_other, ext_get_or}
use Rattle.std.proofs.Math.Decide.{dec_lt, ℕ_discrete}

pub record Filled {A : Type 0} (d : A) (target start xs : List A) (at : ℕ) : Type 0 where
  pub size : length xs ≡ length start
  pub before : (p : ℕ) → p < at → get_or xs p d ≡ get_or target p d
  pub after : (p : ℕ) → at ≤ p → get_or xs p d ≡ get_or start p d

module _ {A : Type 0} {d : A} where
  pub filled_none : {target start : List A} → Filled d target start start 0
  filled_none = record { size = refl; before = λ p h. absurd (omega arith); after = λ p h. refl }

  -- the next place is written
  pub filled_more : {target start xs : List A} {at : ℕ} → Filled d target start xs at → (p next : ℕ) (v : A) → p ≡ at → next ≡ suc at →
      p < length xs → v ≡ get_or target p d → Filled d target start (set xs p v) next
  filled_more {target} {start} {xs} {at} f p next v e g h same =
      record {
        size = length-set xs p v ∙ f.size;
        before = λ q b. before q b (ℕ_discrete q p);
        after = λ q b. get_or-set_other xs p q v d (omega arith) ∙ f.after q (omega arith);
      }
    where
      before : (q : ℕ) → q < next → Dec (q ≡ p) → get_or (set xs p v) q d ≡ get_or target q d
      before q b (yes i) = rw i (get_or-set_same xs p v d h ∙ same)
      before q b (no i) = get_or-set_other xs p q v d i ∙ f.before q (omega arith)

  -- places that stay as they were
  pub filled-skip : {target start xs : List A} {at : ℕ} → Filled d target start xs at → (to : ℕ) → at ≤ to →
      ((p : ℕ) → at ≤ p → p < to → get_or target p d ≡ get_or start p d) → Filled d target start xs to
  filled-skip {target} {start} {xs} {at} f to h stay =
      record { size = f.size; before = λ p b. before p b (dec_lt p at); after = λ p b. f.after p (omega arith) }
    where
      before : (p : ℕ) → p < to → Dec (p < at) → get_or xs p d ≡ get_or target p d
      before p b (yes i) = f.before p i
      before p b (no i) = f.after p (omega arith) ∙ sym (stay p (omega arith) b)

  pub filled-all : {target start xs : List A} {at : ℕ} → Filled d target start xs at → length target ≡ length start → length start ≤ at → xs ≡ target
  filled-all {target} {start} {xs} f e h = ext_get_or d xs target (f.size ∙ sym e) (λ p b. f.before p (omega (arith, f.size)))
