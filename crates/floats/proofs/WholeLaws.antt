-- A float that is a whole number is taken as that number and no other float as any; the f32 of a
-- number up to 2 ^ 24 is that number.
use Rattle.std.proofs.lemmas.Bool.Decides.{nat_tests}
use mathlib.Core.Path.{◌≡◌, refl, sym, ap, ◌∙◌, subst}
use Prim.Native.Nat.{ℕ, suc, ◌+◌, ◌*◌, ◌/◌, ◌%◌, ◌^◌, ◌≤◌, ◌<◌}
use native.Mathlib.Nat.{mul-one, add-zero, mul-mod_left, mul-div_cancel, div-add-mod', le_trans}
use native.Mathlib.Nat.{eq_of_mul-eq-mul_right}
use native.Mathlib.Omega.{arith}
use mathlib.Core.Bool.{Bool, true, false, cond}
use lib.Dec.{T, eqb, eqb→eq, not_T, lit≤}
use lib.IntN.{ℤ, pos, negsuc}
use lib.Ieee.{Float, nan, inf, fin, binary32, up, down, of_int, of_bits, of_fields, odd}
use lib.Ieee.Bits.{cond_no}
use lib.Ieee.Exact.{HasValue, odd_sign}
use lib.Ieee.Fits.{down_pos}
use lib.Ieee.Back.{round_whole}
use Rattle.floats.specs.Whole.{units_in_one, signed, IsWhole, whole, broken, whole_of}

-- ---- a test of the remainder

pub divided :
    {A : Type 0} (v d n : ℕ) → 0 < d → v ≡ n * d → (f : ℕ → A) (b : A) →
    cond (eqb (v % d) 0) (f (v / d)) b ≡ f n
divided {A} v d n p h f b =
    ap (λ (x : ℕ). cond (eqb (x % d) 0) (f (x / d)) b) h
    ∙ ap (λ (x : ℕ). cond (eqb x 0) (f (n * d / d)) b) (mul-mod_left n d)
    ∙ ap f (mul-div_cancel n p)

pub undivided : {A : Type 0} (v d : ℕ) (a b : A) → (v % d ≡ 0 → ⊥) → cond (eqb (v % d) 0) a b ≡ b
undivided v d a b h =
    cond_no (eqb (v % d) 0) a b
    (not_T (eqb (v % d) 0) (λ (t : T (eqb (v % d) 0)). h (eqb→eq (v % d) 0 t)))

pub divided-back : (v d : ℕ) → v % d ≡ 0 → v ≡ v / d * d
divided-back v d h = sym (div-add-mod' v d) ∙ ap (λ (r : ℕ). v / d * d + r) h ∙ add-zero (v / d * d)

-- ---- what a float is taken as

pub whole-taken : (x : Float) (z : ℤ) → IsWhole x z → whole_of x ≡ whole z
unfolding whole_of
whole-taken nan z h = absurd h
whole-taken (inf s) z h = absurd h
whole-taken (fin s m e) z h =
    divided (m * up e) (down e) h.0 (down_pos e) h.1 (λ (n : ℕ). whole (signed s n)) _
    ∙ ap whole h.2

pub whole-broken : (x : Float) → ((z : ℤ) → IsWhole x z → ⊥) → whole_of x ≡ broken
unfolding whole_of
whole-broken nan h = refl
whole-broken (inf s) h = refl
whole-broken (fin s m e) h =
    undivided (m * up e) (down e) (whole (signed s (m * up e / down e))) broken
    (λ (r : m * up e % down e ≡ 0).
    h (signed s (m * up e / down e)) (m * up e / down e, divided-back (m * up e) (down e) r, refl))

pub whole_unique : (x : Float) (y z : ℤ) → IsWhole x y → IsWhole x z → y ≡ z
whole_unique nan y z h g = absurd h
whole_unique (inf s) y z h g = absurd h
whole_unique (fin s m e) y z h g = grind (arith, nat_tests, eq_of_mul-eq-mul_right, down_pos)

-- ---- the float of a number

value-whole : (x : Float) (s : Bool) (n : ℕ) → HasValue x s n 1 → IsWhole x (signed s n)
value-whole nan s n h = h
value-whole (inf t) s n h = h
value-whole (fin t m e) s n h =
    (n, sym (mul-one (m * up e)) ∙ h.1, ap (λ (r : Bool). signed r n) h.0)

pub positive-whole : (n : ℕ) → n ≤ 65535 → IsWhole (of_int binary32 (pos n)) (pos n)
unfolding of_int
positive-whole n h =
    value-whole (of_int binary32 (pos n)) false n
    (round_whole binary32 false n (le_trans h (lit≤ tt)))

pub negative-whole : (n : ℕ) → suc n ≤ 65535 → IsWhole (of_int binary32 (negsuc n)) (negsuc n)
unfolding of_int
negative-whole n h =
    value-whole (of_int binary32 (negsuc n)) true (suc n)
    (round_whole binary32 true (suc n) (le_trans h (lit≤ tt)))

pub minus-zero : IsWhole (of_bits binary32 0x80000000) (pos 0)
unfolding of_bits
minus-zero = (0, refl, refl)

-- ---- the value of a pattern

pub normal-value :
    (s : Bool) (e t : ℕ) → suc e < 255 →
    HasValue (of_fields binary32 s (suc e) t) s ((8388608 + t) * 2 ^ e) units_in_one
unfolding of_fields
normal-value s e t h = grind (arith, nat_tests, cond_no, not_T, eqb→eq, odd_sign)

pub subnormal-value : (s : Bool) (t : ℕ) → HasValue (of_fields binary32 s 0 t) s t units_in_one
unfolding of_fields
subnormal-value s t =
    subst (λ (n : ℕ). HasValue (odd 24 s t 0 149) s n units_in_one) (mul-one t)
    (odd_sign 24 s t 0 149)

pub no_value : (s : Bool) (t : ℕ) (z : ℤ) → IsWhole (of_fields binary32 s 255 t) z → ⊥
unfolding of_fields
no_value s t z = grind (arith, nat_tests)
