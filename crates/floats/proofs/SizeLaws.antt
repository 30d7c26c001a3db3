-- The size of a float that is not below 0: what a cast to an integer and back says of one below 2 ^
-- 24, and that every one from there on is whole.
use Rattle.std.specs.Prelude.{Some, None}
use Rattle.std.proofs.Common.{◌≡◌, ℕ, zero, suc, ◌+◌, ◌-◌, ◌*◌, ◌/◌, ◌%◌, ◌^◌, ◌<◌, ◌≤◌, min, Bool}
use Rattle.std.proofs.Common.{true, false, not, ◌&&◌, ◌||◌, T, eqb, ltb, leb, ℤ, pos, negsuc, sym}
use Rattle.std.proofs.Common.{refl, ap, ◌∙◌, subst, true≢false, div-lt_iff_lt-mul, mul-le-mul_left}
use Rattle.std.proofs.Common.{zero-mul, mul-one, arith, eqb→eq, ltb→lt, lt→ltb, T_not, pow_pos}
use native.Mathlib.Nat.{eq_of_mul-eq-mul_right, zero-div}
use mathlib.Core.Bool.{beq}
use lib.Ieee.{Float, nan, inf, fin, binary32, up, down, lt, le, eq, to_unsigned, of_int, fits}
use lib.Ieee.Fits.{down_pos, and_i, and_l, and_r, eq→eqb}
use lib.Ieee.Exact.{HasValue}
use lib.Ieee.Back.{round_whole}
use Rattle.floats.proofs.WholeLaws.{divided, undivided, divided-back}
use Rattle.floats.specs.steps.Floats.{cut_size}
use Rattle.floats.proofs.OrderLaws.{is_T, is-not, large-ge, minus-size-zero, small-lt}

-- ---- from 2 ^ 24 on

-- a significand below 2 ^ 24 with a negative exponent is below 2 ^ 24
fraction-lt : (m p : ℕ) → m < 16777216 → 0 < p → 16777216 * p ≤ m * 1 → ⊥
fraction-lt m p h k l = omega (arith, mul-le-mul_left 16777216 k)

digits_lt : (s : Bool) (m : ℕ) (e : ℤ) → T (fits binary32 (fin s m e)) → m < 16777216
unfolding fits
digits_lt s zero e t = omega arith
digits_lt s (suc m) e t =
    ltb→lt (suc m) 16777216
    (and_r (eqb (suc m % 2) 1) (ltb (suc m) 16777216)
    (and_l (eqb (suc m % 2) 1 && ltb (suc m) 16777216) (leb (down e) (2 ^ 149))
    (and_l (eqb (suc m % 2) 1 && ltb (suc m) 16777216 && leb (down e) (2 ^ 149))
    (ltb (suc m * up e) (2 ^ 128 * down e)) t)))

cut-large : (v : ℕ) → 16777216 ≤ v → min v 16777216 ≡ 16777216
cut-large v h = omega arith

-- ---- the size of a finite float

pub size-whole :
    (s : Bool) (m : ℕ) (e : ℤ) (n : ℕ) → m * up e ≡ n * down e →
    cut_size (fin s m e) ≡ Some (min n 16777216)
unfolding cut_size
size-whole s m e n h =
    divided (m * up e) (down e) n (down_pos e) h (λ (k : ℕ). Some (min k 16777216)) None

size-broken : (s : Bool) (m : ℕ) (e : ℤ) → (m * up e % down e ≡ 0 → ⊥) → cut_size (fin s m e) ≡ None
unfolding cut_size
size-broken s m e h = undivided (m * up e) (down e) (Some (min (m * up e / down e) 16777216)) None h

large-whole :
    (s : Bool) (m : ℕ) (e : ℤ) → T (fits binary32 (fin s m e)) → 16777216 * down e ≤ m * up e →
    Some 16777216 ≡ cut_size (fin s m e)
large-whole s m (pos k) f h =
    sym (size-whole s m (pos k) (m * 2 ^ k) (sym (mul-one (m * 2 ^ k)))
    ∙ ap (λ (n : ℕ). Some n) (cut-large (m * 2 ^ k) h))
large-whole s m (negsuc k) f h =
    absurd (fraction-lt m (2 ^ suc k) (digits_lt s m (negsuc k) f) (pow_pos (suc k)) h)

pub size-large :
    (x : Float) → fits binary32 x ≡ true → le (fin false 1 (pos 24)) x ≡ true →
    eq x (inf false) ≡ false → Some 16777216 ≡ cut_size x
unfolding le eq
size-large nan f h k = absurd (true≢false (sym h))
size-large (inf true) f h k = absurd (true≢false (sym h))
size-large (inf false) f h k = absurd (true≢false k)
size-large (fin s m e) f h k = large-whole s m e (is_T f) (large-ge s m e (is_T h))

pub size-infinite : (x : Float) → eq x (inf false) ≡ true → None ≡ cut_size x
unfolding eq cut_size
size-infinite nan h = refl
size-infinite (inf s) h = refl
size-infinite (fin s m e) h = absurd (true≢false (sym h))

-- ---- below 2 ^ 24: the whole part, and the float of it

pub part-range :
    (x : Float) → T (le (fin false 0 (pos 0)) x) → le (fin false 1 (pos 24)) x ≡ false →
    T (lt (fin true 1 (pos 0)) x) × T (lt x (fin false 1 (pos 64)))
unfolding le lt
part-range nan z h = absurd z
part-range (inf true) z h = absurd z
part-range (inf false) z h = absurd (true≢false h)
part-range (fin false m e) z h = (
  lt→ltb 0 (1 * 1 * down e + m * up e * 1) (omega (arith, down_pos e)),
  lt→ltb (m * up e * 1) (1 * 2 ^ 64 * down e) (omega (arith, small-lt false m e z (is-not h))),
)
part-range (fin true m e) z h = (
  lt→ltb (m * up e * 1) (1 * 1 * down e) (omega (arith, minus-size-zero m e z, down_pos e)),
  lt→ltb 0 (m * up e * 1 + 1 * 2 ^ 64 * down e) (omega (arith, down_pos e)),
)

part-uncut : (q : ℕ) → q < 16777216 → min q (2 ^ 64 - 1) ≡ q
part-uncut q h = omega arith

quotient-lt : (v d : ℕ) → 0 < d → v < 16777216 * d → v / d < 16777216
quotient-lt v d p h = (div-lt_iff_lt-mul p).1 h

part-is :
    (s : Bool) (m : ℕ) (e : ℤ) → T (le (fin false 0 (pos 0)) (fin s m e)) →
    m * up e < 16777216 * down e → to_unsigned 64 (fin s m e) ≡ m * up e / down e
unfolding to_unsigned
part-is false m e z h =
    part-uncut (m * up e / down e) (quotient-lt (m * up e) (down e) (down_pos e) h)
part-is true m e z h = sym (ap (λ (v : ℕ). v / down e) (minus-size-zero m e z) ∙ zero-div (down e))

pub part-lt :
    (x : Float) → T (le (fin false 0 (pos 0)) x) → le (fin false 1 (pos 24)) x ≡ false →
    to_unsigned 64 x < 16777216
unfolding le
part-lt nan z h = absurd z
part-lt (inf true) z h = absurd z
part-lt (inf false) z h = absurd (true≢false h)
part-lt (fin s m e) z h =
    let u = small-lt s m e z (is-not h) in
    subst (λ (n : ℕ). n < 16777216) (sym (part-is s m e z u))
    (quotient-lt (m * up e) (down e) (down_pos e) u)

-- y / p is n, and v / q is the other float's size
value-crossed : (y v n p q : ℕ) → y * 1 ≡ n * p → v ≡ n * q → y * q ≡ v * p
value-crossed y v n p q h k = omega (arith, ap (λ (t : ℕ). t * q) h, ap (λ (t : ℕ). t * p) k)

value-uncrossed : (y v n p q : ℕ) → 0 < p → y * 1 ≡ n * p → y * q ≡ v * p → v ≡ n * q
value-uncrossed y v n p q h k l =
    eq_of_mul-eq-mul_right p h v (n * q) (omega (arith, ap (λ (t : ℕ). t * q) k, l))

-- y is n and equals x: so x is n
equal-value :
    (y : Float) (n : ℕ) (s : Bool) (m : ℕ) (e : ℤ) → HasValue y false n 1 → T (eq y (fin s m e)) →
    m * up e ≡ n * down e
unfolding eq
equal-value nan n s m e v t = absurd v
equal-value (inf r) n s m e v t = absurd v
equal-value (fin r a d) n s m e v t =
    let A = a * up d * down e in
    let B = m * up e * down d in
    value-uncrossed (a * up d) (m * up e) n (down d) (down e) (down_pos d) v.1
    (eqb→eq A B (and_l (eqb A B) (beq r s || eqb A 0) t))

-- y is n and differs from x: so x is not n
unequal-value :
    (y : Float) (n : ℕ) (s : Bool) (m : ℕ) (e : ℤ) → HasValue y false n 1 → (T s → m * up e ≡ 0) →
    T (not (eq y (fin s m e))) → m * up e ≡ n * down e → ⊥
unfolding eq
unequal-value nan n s m e v z t h = v
unequal-value (inf r) n s m e v z t h = v
unequal-value (fin true a d) n s m e v z t h = true≢false v.0
unequal-value (fin false a d) n false m e v z t h =
    let A = a * up d * down e in
    let B = m * up e * down d in
    let k : A ≡ B = value-crossed (a * up d) (m * up e) n (down d) (down e) v.1 h in
    T_not (eqb A B && true) t (and_i (eqb A B) true (eq→eqb k) tt)
unequal-value (fin false a d) n true m e v z t h =
    let A = a * up d * down e in
    let B = m * up e * down d in
    let k : A ≡ B = value-crossed (a * up d) (m * up e) n (down d) (down e) v.1 h in
    T_not (eqb A B && eqb A 0) t
    (and_i (eqb A B) (eqb A 0) (eq→eqb k)
    (eq→eqb (k ∙ ap (λ (t : ℕ). t * down d) (z tt) ∙ zero-mul (down d))))

back-value : (n : ℕ) → n < 16777216 → HasValue (of_int binary32 (pos n)) false n 1
unfolding of_int
back-value n h = round_whole binary32 false n (omega (arith, h))

sign_zero :
    (s : Bool) (m : ℕ) (e : ℤ) → T (le (fin false 0 (pos 0)) (fin s m e)) → T s → m * up e ≡ 0
sign_zero true m e z t = minus-size-zero m e z
sign_zero false m e z t = elim t [ ]

cut_small : (n : ℕ) → n < 16777216 → min n 16777216 ≡ n
cut_small n h = omega arith

pub size_exact :
    (x : Float) (n : ℕ) → T (le (fin false 0 (pos 0)) x) → le (fin false 1 (pos 24)) x ≡ false →
    n ≡ to_unsigned 64 x → eq (of_int binary32 (pos n)) x ≡ true → Some n ≡ cut_size x
unfolding le
size_exact nan n z h k t = absurd z
size_exact (inf true) n z h k t = absurd z
size_exact (inf false) n z h k t = absurd (true≢false h)
size_exact (fin s m e) n z h k t =
    let l : n < 16777216 = subst (λ (q : ℕ). q < 16777216) (sym k) (part-lt (fin s m e) z h) in
    sym (size-whole s m e n
    (equal-value (of_int binary32 (pos n)) n s m e (back-value n l) (is_T t))
    ∙ ap (λ (n : ℕ). Some n) (cut_small n l))

pub size-fraction :
    (x : Float) (n : ℕ) → T (le (fin false 0 (pos 0)) x) → le (fin false 1 (pos 24)) x ≡ false →
    n ≡ to_unsigned 64 x → eq (of_int binary32 (pos n)) x ≡ false → None ≡ cut_size x
unfolding le
size-fraction nan n z h k t = absurd z
size-fraction (inf true) n z h k t = absurd z
size-fraction (inf false) n z h k t = absurd (true≢false h)
size-fraction (fin s m e) n z h k t =
    let l : n < 16777216 = subst (λ (q : ℕ). q < 16777216) (sym k) (part-lt (fin s m e) z h) in
    let q : n ≡ m * up e / down e = k ∙ part-is s m e z (small-lt s m e z (is-not h)) in
    sym (size-broken s m e (λ (r : m * up e % down e ≡ 0).
    unequal-value (of_int binary32 (pos n)) n s m e (back-value n l) (sign_zero s m e z) (is-not t)
    (divided-back (m * up e) (down e) r ∙ ap (λ (y : ℕ). y * down e) (sym q))))
