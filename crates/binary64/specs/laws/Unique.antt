-- A number of the format is known by its sign and its size: no two have the same.
use Rattle.std.specs.Prelude.{ℕ, zero, suc, ◌+◌, ◌*◌, ◌%◌, ◌^◌, ◌<◌, ◌≡◌, refl, Bool, ◌&&◌, ℤ, pos, negsuc, T, eqb, leb, ltb, Float}
use Rattle.std.proofs.Common.{sym, ap, ◌∙◌, mul-one, mul_assoc, mul_right_comm, mul-pos, zero-lt-suc, pow-suc, arith, eqb→eq, pow-add, pow_pos}
use Rattle.std.proofs.Math.Nat.{eq_of_mul-eq-mul_right}
use Rattle.std.specs.Float.{nan, inf, fin, Format}
use Rattle.std.specs.Float.Ieee.{prec, emax, low, up, down, fits}
use Rattle.std.specs.Float.Ieee.Exact.{HasValue}
use Rattle.std.specs.Float.Ieee.Fits.{up_pos, down_pos, and_l}

-- m × 2^a = n × 2^b with m and n odd
odd-powers : (m n a b : ℕ) → m % 2 ≡ 1 → n % 2 ≡ 1 → m * 2 ^ a ≡ n * 2 ^ b → (m ≡ n) × (a ≡ b)
odd-powers m n zero zero o p h = (omega arith, refl)
odd-powers m n zero (suc b) o p h = absurd (omega (arith, ap (λ (x : ℕ). n * x) (pow-suc 2 b)))
odd-powers m n (suc a) zero o p h = absurd (omega (arith, ap (λ (x : ℕ). m * x) (pow-suc 2 a)))
odd-powers m n (suc a) (suc b) o p h =
    let r = odd-powers m n a b o p (omega (arith, ap (λ (x : ℕ). m * x) (pow-suc 2 a), ap (λ (x : ℕ). n * x) (pow-suc 2 b))) in
    (r.0, ap suc r.1)

pred : ℕ → ℕ
pred zero = zero
pred (suc k) = k

same-odd : (m n : ℕ) (e g : ℤ) → m % 2 ≡ 1 → n % 2 ≡ 1 → m * up e * down g ≡ n * up g * down e → (m ≡ n) × (e ≡ g)
unfolding pred
same-odd m n (pos a) (pos b) o p h =
    let r = odd-powers m n a b o p (sym (mul-one (m * 2 ^ a)) ∙ h ∙ mul-one (n * 2 ^ b)) in
    (r.0, ap pos r.1)
same-odd m n (pos a) (negsuc b) o p h =
    let one = ap (λ (x : ℕ). m * x) (pow-add 2 a (suc b)) ∙ sym (mul_assoc m (2 ^ a) (2 ^ suc b)) in
    absurd (omega (arith, (odd-powers m n (a + suc b) 0 o p (one ∙ h ∙ mul-one (n * 1))).1))
same-odd m n (negsuc a) (pos b) o p h =
    let one = ap (λ (x : ℕ). n * x) (pow-add 2 b (suc a)) ∙ sym (mul_assoc n (2 ^ b) (2 ^ suc a)) in
    absurd (omega (arith, (odd-powers n m (b + suc a) 0 p o (one ∙ sym h ∙ mul-one (m * 1))).1))
same-odd m n (negsuc a) (negsuc b) o p h =
    let r = odd-powers m n (suc b) (suc a) o p (ap (λ (x : ℕ). x * 2 ^ suc b) (sym (mul-one m)) ∙ h ∙ ap (λ (x : ℕ). x * 2 ^ suc a) (mul-one n)) in
    (r.0, ap negsuc (sym (ap pred r.1)))

-- of a number that fits: m is odd, or 0 with the exponent 0
is_odd : (f : Format) (s : Bool) (m : ℕ) (e : ℤ) → T (fits f (fin s (suc m) e)) → suc m % 2 ≡ 1
unfolding fits
is_odd f s m e t =
    let odd = eqb (suc m % 2) 1 in
    let small = ltb (suc m) (2 ^ prec f) in
    let fine = leb (down e) (2 ^ low f) in
    let below = ltb (suc m * up e) (2 ^ suc (emax f) * down e) in
    eqb→eq (suc m % 2) 1 (and_l odd small (and_l (odd && small) fine (and_l (odd && small && fine) below t)))

zero_exponent : (f : Format) (s : Bool) (e : ℤ) → T (fits f (fin s zero e)) → e ≡ pos 0
unfolding fits
zero_exponent f s e t = flat e (eqb→eq (up e * down e) 1 t)
  where
    flat : (e : ℤ) → up e * down e ≡ 1 → e ≡ pos 0
    flat (pos zero) h = refl
    flat (pos (suc k)) h = absurd (omega (arith, pow-suc 2 k, pow_pos k))
    flat (negsuc k) h = absurd (omega (arith, pow-suc 2 k, pow_pos k))

-- two fractions with one value
crossed : (x y d h a c : ℕ) → 0 < c → x * c ≡ a * d → y * c ≡ a * h → x * h ≡ y * d
crossed x y d h a c C v w =
    eq_of_mul-eq-mul_right c C (x * h) (y * d)
    (mul_right_comm x h c ∙ ap (λ (k : ℕ). k * h) v ∙ mul_right_comm a d h ∙ ap (λ (k : ℕ). k * d) (sym w) ∙ mul_right_comm y c d)

not-zero : (m x y z u : ℕ) → 0 < x → 0 < y → zero * z * u ≡ suc m * x * y → ⊥
not-zero m x y z u X Y h = omega (arith, mul-pos (mul-pos (zero-lt-suc m) X) Y)

pub same-value : (f : Format) (x y : Float) (s : Bool) (a c : ℕ) → 0 < c → T (fits f x) → T (fits f y) → HasValue x s a c → HasValue y s a c → x ≡ y
same-value f nan y s a c C p q v w = elim v [ ]
same-value f (inf t) y s a c C p q v w = elim v [ ]
same-value f (fin t zero e) nan s a c C p q v w = elim w [ ]
same-value f (fin t zero e) (inf u) s a c C p q v w = elim w [ ]
same-value f (fin t (suc m) e) nan s a c C p q v w = elim w [ ]
same-value f (fin t (suc m) e) (inf u) s a c C p q v w = elim w [ ]
same-value f (fin t zero e) (fin u zero g) s a c C p q v w =
    λ i. fin ((v.0 ∙ sym w.0) i) zero ((zero_exponent f t e p ∙ sym (zero_exponent f u g q)) i)
same-value f (fin t zero e) (fin u (suc n) g) s a c C p q v w =
    absurd (not-zero n (up g) (down e) (up e) (down g) (up_pos g) (down_pos e) (crossed _ _ (down e) (down g) a c C v.1 w.1))
same-value f (fin t (suc m) e) (fin u zero g) s a c C p q v w =
    absurd (not-zero m (up e) (down g) (up g) (down e) (up_pos e) (down_pos g) (crossed _ _ (down g) (down e) a c C w.1 v.1))
same-value f (fin t (suc m) e) (fin u (suc n) g) s a c C p q v w =
    let r = same-odd (suc m) (suc n) e g (is_odd f t m e p) (is_odd f u n g q) (crossed _ _ (down e) (down g) a c C v.1 w.1) in
    λ i. fin ((v.0 ∙ sym w.0) i) (r.0 i) (r.1 i)
