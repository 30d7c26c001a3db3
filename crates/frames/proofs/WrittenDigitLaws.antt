-- A digit is the one digit that says its number; a byte is below 256 and a number below 65536.
use Prim.Native.Nat.{ℕ, ◌+◌, ◌-◌, ◌≤◌, ◌<◌}
use mathlib.Core.Path.{◌≡◌, sym, ◌∙◌}
use mathlib.Core.Bool.{true, true≢false}
use mathlib.Core.Logic.{⊎_elim}
use mathlib.Core.List.{List}
use native.Mathlib.Omega.{arith}
use borrow.Author.Tests.{lt-ltb, le-ltb}
use lib.ListN.{get_or}
use Rattle.frames.specs.Digits.{is_digit, value_of, byte_at, number_at, digit_of}
use Rattle.exact.proofs.OrderLaws.{le-or-lt}
use Rattle.frames.proofs.DigitLaws.{DigitCase, decimal, letter, under, between, over, digit-cases}
use Rattle.frames.proofs.DigitLaws.{value_in, is_digit_in, value-is, digit-is, value-lt}

pub byte-lt : (at : ℕ) (l : List ℕ) → byte_at at l < 256
unfolding byte_at
byte-lt at l = omega (arith, value-lt (get_or l at 0), value-lt (get_or l (at + 1) 0))

pub number_lt : (at : ℕ) (l : List ℕ) → number_at at l < 65536
unfolding number_at
number_lt at l = omega (arith, byte-lt at l, byte-lt (at + 2) l)

-- ---- the digit that says a number

digit_low : (d : ℕ) → d < 10 → d + 48 ≡ digit_of d
unfolding digit_of
digit_low d h = simp (lt-ltb d 10 h)

digit-high : (d : ℕ) → 10 ≤ d → d + 55 ≡ digit_of d
unfolding digit_of
digit-high d h = simp (le-ltb d 10 h)

pub value-digit : (d : ℕ) → d < 16 → value_of (digit_of d) ≡ d
value-digit d h =
    ⊎_elim (λ p.
    rw (← digit-high d p) (omega (arith, value-is (d + 55) (letter (omega arith) (omega arith)))))
    (λ p.
    rw (← digit_low d p) (omega (arith, value-is (d + 48) (decimal (omega arith) (omega arith)))))
    (le-or-lt 10 d)

pub digit-valid : (d : ℕ) → d < 16 → is_digit (digit_of d) ≡ true
digit-valid d h =
    ⊎_elim (λ p.
    rw (← digit-high d p) (sym (digit-is (d + 55) (letter (omega arith) (omega arith)))))
    (λ p. rw (← digit_low d p) (sym (digit-is (d + 48) (decimal (omega arith) (omega arith)))))
    (le-or-lt 10 d)

digit-case : (c : ℕ) (at : DigitCase c) → is_digit_in c at ≡ true → digit_of (value_in c at) ≡ c
digit-case c (decimal p q) e = sym (digit_low (c - 48) (omega arith)) ∙ omega arith
digit-case c (letter p q) e = sym (digit-high (c - 55) (omega arith)) ∙ omega arith
digit-case c (under p) e = absurd (true≢false (sym e))
digit-case c (between p q) e = absurd (true≢false (sym e))
digit-case c (over p) e = absurd (true≢false (sym e))

pub digit_value : (c : ℕ) → is_digit c ≡ true → digit_of (value_of c) ≡ c
digit_value c e =
    rw (← value-is c (digit-cases c))
    (digit-case c (digit-cases c) (digit-is c (digit-cases c) ∙ e))
