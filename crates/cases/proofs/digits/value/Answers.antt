-- `cases::digits::value` is what a digit says.
use mathlib.Core.Bool.{false}
use mathlib.Core.Path.{◌≡◌, sym, ◌∙◌}
use Prim.Native.Nat.{ℕ}
use native.Mathlib.Omega.{arith}
use Rattle.std.proofs.lemmas.Bool.Decides.{nat_tests}
use Rattle.frames.specs.Digits.{is_digit, value_of}
use Rattle.cases.proofs.digits.value.Goals as goal

of-other : (c : ℕ) → is_digit c ≡ false → 0 ≡ value_of c
unfolding is_digit value_of
of-other c e = grind (arith, nat_tests)

pub returns-then-is_digit : goal.returns-then-is_digit
returns-then-is_digit c = c.digit_value.ensures.value (sym c.is_digit.ensures ∙ c.if-is_digit.true)

pub returns-else-is_digit : goal.returns-else-is_digit
returns-else-is_digit c = of-other c.args.c (sym c.is_digit.ensures ∙ c.if-is_digit.false)
