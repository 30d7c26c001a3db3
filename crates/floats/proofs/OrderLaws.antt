-- A finite float held against 0 and against 2 ^ 24, by the tests that the program makes.
use Rattle.std.proofs.Common.{◌≡◌, ℕ, ◌*◌, ◌^◌, ◌<◌, ◌≤◌, Bool, true, false, not, ◌&&◌, ◌||◌, T}
use Rattle.std.proofs.Common.{eqb, ltb, ℤ, pos, sym, ◌∙◌, subst, arith, eqb→eq, ltb→lt, nltb→le}
use lib.Arith.{lt_of_le-ne}
use lib.Ieee.{fin, up, down, le}
use lib.Ieee.Fits.{down_pos, and_l, and_r, eq→eqb}

-- ---- tests

pub is_T : {b : Bool} → b ≡ true → T b
is_T h = subst T (sym h) tt

pub is-not : {b : Bool} → b ≡ false → T (not b)
is-not h = subst (λ (b : Bool). T (not b)) (sym h) tt

or-le : (a b : ℕ) → T (ltb a b || (eqb a b && true)) → a ≤ b
or-le a b t = go (ltb a b) (eqb a b) (ltb→lt a b) (eqb→eq a b) t
  where
    go : (p q : Bool) → (T p → a < b) → (T q → a ≡ b) → T (p || (q && true)) → a ≤ b
    go true q h k t = omega (arith, h tt)
    go false true h k t = omega (arith, k tt)
    go false false h k t = absurd t

nor-lt : (a b : ℕ) → T (not (ltb a b || (eqb a b && true))) → b < a
nor-lt a b t = go (ltb a b) (eqb a b) (nltb→le a b) (λ (h : b ≡ a). eq→eqb (sym h)) t
  where
    go : (p q : Bool) → (T (not p) → b ≤ a) → (b ≡ a → T q) → T (not (p || (q && true))) → b < a
    go true q h k t = absurd t
    go false true h k t = absurd t
    go false false h k t = lt_of_le-ne (h tt) k

both_zero : (a b : ℕ) → T (eqb a b && eqb a 0) → (a ≡ 0) × (b ≡ 0)
both_zero a b t =
    let z = eqb→eq a 0 (and_r (eqb a b) (eqb a 0) t) in
    (z, sym (eqb→eq a b (and_l (eqb a b) (eqb a 0) t)) ∙ z)

-- ---- a finite float against 2 ^ 24 and against 0

no_zero : (d : ℕ) → 0 < d → 1 * 2 ^ 24 * d ≡ 0 → ⊥
no_zero d h e = omega arith

pub large-ge :
    (s : Bool) (m : ℕ) (e : ℤ) → T (le (fin false 1 (pos 24)) (fin s m e)) →
    16777216 * down e ≤ m * up e
unfolding le
large-ge false m e t = omega (arith, or-le (1 * 2 ^ 24 * down e) (m * up e * 1) t)
large-ge true m e t =
    absurd (no_zero (down e) (down_pos e) (both_zero (1 * 2 ^ 24 * down e) (m * up e * 1) t).0)

-- what is left below 2 ^ 24: a number below it, and 0 where the sign is negative
pub minus-size-zero : (m : ℕ) (e : ℤ) → T (le (fin false 0 (pos 0)) (fin true m e)) → m * up e ≡ 0
unfolding le
minus-size-zero m e t = omega (arith, (both_zero (0 * 1 * down e) (m * up e * 1) t).1)

pub small-lt :
    (s : Bool) (m : ℕ) (e : ℤ) → T (le (fin false 0 (pos 0)) (fin s m e)) →
    T (not (le (fin false 1 (pos 24)) (fin s m e))) → m * up e < 16777216 * down e
unfolding le
small-lt false m e z t = omega (arith, nor-lt (1 * 2 ^ 24 * down e) (m * up e * 1) t)
small-lt true m e z t = omega (arith, minus-size-zero m e z, down_pos e)
