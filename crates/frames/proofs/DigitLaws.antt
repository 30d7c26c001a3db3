-- A digit says a number below 16, and each place of a line of digits is one.
use Rattle.std.proofs.lemmas.Bool.Decides.{nat_tests}
use Prim.Native.Nat.{ℕ, zero, suc, ◌+◌, ◌-◌, ◌*◌, ◌/◌, ◌%◌, ◌≤◌, ◌<◌}
use mathlib.Core.Path.{◌≡◌, refl, sym, ◌∙◌}
use mathlib.Core.Bool.{Bool, true, false, true≢false, ◌&&◌}
use mathlib.Core.Logic.{⊎_elim}
use mathlib.Core.List.{List, [], ◌∷◌}
use native.Mathlib.Numerals.{add-one}
use native.Mathlib.Omega.{arith}
use lib.ListN.{length, get_or, drop}
use lib.Seq.{drop-cons}
use Rattle.exact.proofs.OrderLaws.{le-or-lt}
use Rattle.frames.specs.Digits.{is_digit, value_of, bits_of, all_digits}
use Rattle.frames.proofs.AnswerLaws.{and_both}

-- where a byte lies: a decimal digit, a letter, or one of the three gaps
pub data DigitCase (c : ℕ) : Type 0 where
  decimal : 48 ≤ c → c ≤ 57 → DigitCase c
  letter : 65 ≤ c → c ≤ 70 → DigitCase c
  under : c < 48 → DigitCase c
  between : 57 < c → c < 65 → DigitCase c
  over : 70 < c → DigitCase c

pub digit-cases : (c : ℕ) → DigitCase c
digit-cases c =
    ⊎_elim
    (λ p.
    ⊎_elim (λ q. decimal p q)
    (λ q.
    ⊎_elim (λ r. ⊎_elim (λ s. letter r s) over (le-or-lt c 70)) (λ r. between q r) (le-or-lt 65 c))
    (le-or-lt c 57))
    under
    (le-or-lt 48 c)

-- what a byte says, by where it lies
abbrev pub value_in : (c : ℕ) → DigitCase c → ℕ
value_in c (decimal p q) = c - 48
value_in c (letter p q) = c - 55
value_in c (under p) = 0
value_in c (between p q) = 0
value_in c (over p) = 0

abbrev pub is_digit_in : (c : ℕ) → DigitCase c → Bool
is_digit_in c (decimal p q) = true
is_digit_in c (letter p q) = true
is_digit_in c (under p) = false
is_digit_in c (between p q) = false
is_digit_in c (over p) = false

pub value-is : (c : ℕ) (at : DigitCase c) → value_in c at ≡ value_of c
unfolding value_of
value-is c at = grind (arith, nat_tests)

pub digit-is : (c : ℕ) (at : DigitCase c) → is_digit_in c at ≡ is_digit c
unfolding is_digit
digit-is c at = grind (arith, nat_tests)

case-lt : (c : ℕ) (at : DigitCase c) → value_in c at < 16
case-lt c (decimal p q) = omega arith
case-lt c (letter p q) = omega arith
case-lt c (under p) = omega arith
case-lt c (between p q) = omega arith
case-lt c (over p) = omega arith

pub value-lt : (c : ℕ) → value_of c < 16
value-lt c = rw (value-is c (digit-cases c)) at (case-lt c (digit-cases c))

-- a digit's value by its bits: the low four, and 9 more from 64 on
case-bits :
    (c : ℕ) (at : DigitCase c) → is_digit_in c at ≡ true → c % 16 + 9 * (c / 64) ≡ value_in c at
case-bits c (decimal p q) e = omega arith
case-bits c (letter p q) e = omega arith
case-bits c (under p) e = absurd (true≢false (sym e))
case-bits c (between p q) e = absurd (true≢false (sym e))
case-bits c (over p) e = absurd (true≢false (sym e))

value-bits : (c : ℕ) → is_digit c ≡ true → c % 16 + 9 * (c / 64) ≡ value_of c
value-bits c e =
    case-bits c (digit-cases c) (digit-is c (digit-cases c) ∙ e) ∙ value-is c (digit-cases c)

pub bits-lt : (c : ℕ) → bits_of c < 16
unfolding bits_of
bits-lt c = omega arith

pub bits-value : (c : ℕ) → is_digit c ≡ true → bits_of c ≡ value_of c
unfolding bits_of
bits-value c e = omega (arith, value-bits c e, value-lt c)

-- ---- a line of digits, from a place on

pub all-step : (all : Bool) (s : List ℕ) (i : ℕ) → i < length s
    → (all && all_digits (drop i s))
    ≡ ((all && is_digit (get_or s i 0)) && all_digits (drop (i + 1) s))
unfolding all_digits
all-step true s i h = rw (add-one, drop-cons s i 0)
all-step false s i h = refl

pub digit_at :
    (l : List ℕ) (i : ℕ) → all_digits l ≡ true → i < length l → is_digit (get_or l i 0) ≡ true
unfolding all_digits
digit_at [] i e h = absurd (omega arith)
digit_at (c ∷ l) zero e h = (and_both (is_digit c) (all_digits l) e).0
digit_at (c ∷ l) (suc i) e h = digit_at l i (and_both (is_digit c) (all_digits l) e).1 (omega arith)
