-- The whole number of a float by its sign and the size of it or of its negative.
use Rattle.std.specs.Prelude.{Option, Some, None, neg_ℤ}
use Rattle.std.proofs.Common.{◌≡◌, ℕ, zero, suc, ◌+◌, ◌-◌, ◌*◌, ◌/◌, ◌%◌, ◌<◌, ◌≤◌, min, Bool, true}
use Rattle.std.proofs.Common.{false, cond, not, ◌&&◌, ◌||◌, T, eqb, ltb, ℤ, pos, sym, refl, ap, ◌∙◌}
use Rattle.std.proofs.Common.{subst, true≢false, zero-mul, arith, ltb→lt, nltb→le, T_not, w32, to_z}
use Rattle.std.proofs.Common.{of_z, ◌-ℤ◌, FitsSigned, lt-ltb}
use Rattle.std.proofs.Math.Facts.{to_z_pos, to_z-of_z}
use lib.Ieee.{Float, nan, inf, fin, up, down, lt, le, neg}
use lib.Ieee.Fits.{and_i, eq→eqb}
use Rattle.floats.specs.Whole.{signed, whole, broken, whole_of}
use Rattle.floats.specs.steps.Floats.{cut_size, cut}
use Rattle.floats.proofs.OrderLaws.{is_T, is-not, minus-size-zero}
use Rattle.floats.proofs.SizeLaws.{size-whole}

abbrev unsigned : Option ℕ → ℕ
unsigned (Some n) = n
unsigned None = 0

abbrev signs : Bool → Option ℕ → Option ℤ
signs s (Some n) = Some (signed s n)
signs s None = None

cut-suc : (k : ℕ) → min (suc k) 16777216 ≡ suc (min k 16777215)
cut-suc k = omega arith

signs-cut : (s : Bool) (n : ℕ) → signs s (Some (min n 16777216)) ≡ cut (whole (signed s n))
signs-cut false n = refl
signs-cut true zero = refl
signs-cut true (suc k) = ap (λ (n : ℕ). signs true (Some n)) (cut-suc k)

signs-whole :
    (s : Bool) (m : ℕ) (e : ℤ) → signs s (cut_size (fin s m e)) ≡ cut (whole_of (fin s m e))
unfolding cut_size whole_of
signs-whole s m e = go (eqb (m * up e % down e) 0)
  where
    go :
        (b : Bool) →
        signs s (cond b (Some (min (m * up e / down e) 16777216)) None)
        ≡ cut (cond b (whole (signed s (m * up e / down e))) broken)
    go true = signs-cut s (m * up e / down e)
    go false = refl

pub plus-broken :
    (x : Float) → le (fin false 0 (pos 0)) x ≡ true → None ≡ cut_size x → None ≡ cut (whole_of x)
unfolding whole_of
plus-broken nan z h = refl
plus-broken (inf s) z h = refl
plus-broken (fin s m e) z h = ap (signs s) h ∙ signs-whole s m e

abbrev IsOf : Option ℕ → Type 0
IsOf (Some n) = Unit
IsOf None = ⊥

size-not-broken : (n : ℕ) → Some n ≡ None → ⊥
size-not-broken n h = subst IsOf h tt

pub plus-number :
    (x : Float) (n : ℕ) → le (fin false 0 (pos 0)) x ≡ true → Some n ≡ cut_size x →
    Some (pos n) ≡ cut (whole_of x)
unfolding cut_size
plus-number nan n z h = absurd (size-not-broken n h)
plus-number (inf s) n z h = absurd (size-not-broken n h)
plus-number (fin false m e) n z h = ap (signs false) h ∙ signs-whole false m e
plus-number (fin true m e) n z h =
    let k : n ≡ 0 =
    ap unsigned
    (h ∙ size-whole true m e 0 (minus-size-zero m e (is_T z) ∙ sym (zero-mul (down e)))) in
    ap (λ (n : ℕ). Some (pos n)) k ∙ ap (signs true) (ap (λ (n : ℕ). Some n) (sym k) ∙ h)
    ∙ signs-whole true m e

pub minus-broken : (x : Float) → None ≡ cut_size (neg x) → None ≡ cut (whole_of x)
unfolding whole_of neg cut_size
minus-broken nan h = refl
minus-broken (inf s) h = refl
minus-broken (fin s m e) h = ap (signs s) h ∙ signs-whole s m e

-- a size is cut at 2 ^ 24
pub size-most : (x : Float) (n : ℕ) → Some n ≡ cut_size x → n ≤ 16777216
unfolding cut_size
size-most nan n h = absurd (size-not-broken n h)
size-most (inf s) n h = absurd (size-not-broken n h)
size-most (fin s m e) n h = go (eqb (m * up e % down e) 0) h
  where
    go : (b : Bool) → Some n ≡ cond b (Some (min (m * up e / down e) 16777216)) None → n ≤ 16777216
    go true h = omega (arith, ap unsigned h)
    go false h = absurd (size-not-broken n h)

below-absurd : (a b : ℕ) → a < 0 * 1 * b → ⊥
below-absurd a b h = omega arith

plus-ge : (m : ℕ) (e : ℤ) → T (le (fin false 0 (pos 0)) (fin false m e))
unfolding le
plus-ge m e = go (ltb (0 * 1 * down e) (m * up e * 1)) (nltb→le (0 * 1 * down e) (m * up e * 1))
  where
    flat : (a b : ℕ) → b ≤ 0 * 1 * a → 0 * 1 * a ≡ b
    flat a b h = omega arith

    go :
        (b : Bool) → (T (not b) → m * up e * 1 ≤ 0 * 1 * down e) →
        T (b || (eqb (0 * 1 * down e) (m * up e * 1) && true))
    go true h = tt
    go false h =
        and_i (eqb (0 * 1 * down e) (m * up e * 1)) true
        (eq→eqb (flat (down e) (m * up e * 1) (h tt))) tt

pub minus_number :
    (x : Float) (n : ℕ) → lt x (fin false 0 (pos 0)) ≡ true → Some n ≡ cut_size (neg x) →
    Some (neg_ℤ (pos n)) ≡ cut (whole_of x)
unfolding cut_size neg lt
minus_number nan n z h = absurd (size-not-broken n h)
minus_number (inf s) n z h = absurd (size-not-broken n h)
minus_number (fin false m e) n z h =
    absurd (below-absurd (m * up e * 1) (down e) (ltb→lt (m * up e * 1) (0 * 1 * down e) (is_T z)))
minus_number (fin true m e) n z h = ap (signs true) h ∙ signs-whole true m e

pub negated-ge :
    (x : Float) → lt x (fin false 0 (pos 0)) ≡ true → T (le (fin false 0 (pos 0)) (neg x))
unfolding neg lt le
negated-ge nan z = absurd (true≢false (sym z))
negated-ge (inf false) z = absurd (true≢false (sym z))
negated-ge (inf true) z = tt
negated-ge (fin false m e) z =
    absurd (below-absurd (m * up e * 1) (down e) (ltb→lt (m * up e * 1) (0 * 1 * down e) (is_T z)))
negated-ge (fin true m e) z = plus-ge m e

pub neither-broken :
    (x : Float) → le (fin false 0 (pos 0)) x ≡ false → lt x (fin false 0 (pos 0)) ≡ false →
    None ≡ cut (whole_of x)
unfolding lt le whole_of
neither-broken nan h k = refl
neither-broken (inf s) h k = refl
neither-broken (fin false m e) h k =
    absurd (T_not (le (fin false 0 (pos 0)) (fin false m e)) (is-not h) (plus-ge m e))
neither-broken (fin true m e) h k =
    absurd (T_not (eqb A B && eqb A 0) (is-not h)
    (and_i (eqb A B) (eqb A 0)
    (eq→eqb (flat (down e) (m * up e * 1) (nltb→le 0 (m * up e * 1 + 0 * 1 * down e) (is-not k))))
    (eq→eqb (nought (down e)))))
  where
    A : ℕ
    A = 0 * 1 * down e

    B : ℕ
    B = m * up e * 1

    flat : (a b : ℕ) → b + 0 * 1 * a ≤ 0 → 0 * 1 * a ≡ b
    flat a b h = omega arith

    nought : (a : ℕ) → 0 * 1 * a ≡ 0
    nought a = omega arith

-- ---- a size, and its negative, in 32 bits with a sign

pub plus-bits : (n : ℕ) → n ≤ 16777216 → to_z w32 n ≡ pos n
plus-bits n h = to_z_pos w32 (omega (arith, h))

neg-fits : (n : ℕ) → n ≤ 16777216 → FitsSigned w32 (neg_ℤ (pos n))
neg-fits zero h = record { sfits = omega arith }
neg-fits (suc n) h = record { sfits = omega (arith, h) }

zero-minus : (n : ℕ) → n ≤ 16777216 → pos 0 -ℤ to_z w32 n ≡ neg_ℤ (pos n)
zero-minus n h = ap (λ (z : ℤ). pos 0 -ℤ z) (plus-bits n h) ∙ go n
  where
    go : (n : ℕ) → pos 0 -ℤ pos n ≡ neg_ℤ (pos n)
    go zero = refl
    go (suc n) =
        let less : suc n - 1 ≡ n = omega arith in rw (lt-ltb 0 (suc n) (omega arith), less) refl

pub minus-fits : (n : ℕ) → n ≤ 16777216 → FitsSigned w32 (pos 0 -ℤ to_z w32 n)
minus-fits n h = subst (λ (z : ℤ). FitsSigned w32 z) (sym (zero-minus n h)) (neg-fits n h)

pub minus-bits : (n : ℕ) → n ≤ 16777216 → to_z w32 (of_z w32 (pos 0 -ℤ to_z w32 n)) ≡ neg_ℤ (pos n)
minus-bits n h =
    ap (λ (z : ℤ). to_z w32 (of_z w32 z)) (zero-minus n h)
    ∙ to_z-of_z {w = w32} {z = neg_ℤ (pos n)} (neg-fits n h)
