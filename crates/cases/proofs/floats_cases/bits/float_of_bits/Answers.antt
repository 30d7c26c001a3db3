-- `cases::floats_cases::bits::float_of_bits` meets its contract.
use mathlib.Core.Path.{◌≡◌, refl, sym, ◌∙◌, subst}
use Prim.Native.Nat.{ℕ, ◌%◌, ◌≤◌, ◌<◌}
use mathlib.Core.Bool.{true, not, true≢false}
use lib.Dec.{T}
use borrow.Author.Tests.{lt-ltb, le-ltb}
use lib.Ieee.{Float, nan, inf, fin, binary32, is_nan, nan_bits, of_bits, div}
use lib.Ieee.Bits.{nan_bits_is, nan_bits_above}
use Rattle.cases.proofs.floats_cases.bits.float_of_bits.Goals as goal

nan-only : (x : Float) → is_nan x ≡ true → nan ≡ x
unfolding is_nan
nan-only nan h = refl
nan-only (inf s) h = absurd (true≢false (sym h))
nan-only (fin s m e) h = absurd (true≢false (sym h))

pattern-nan : (b : ℕ) → 2139095040 < b % 2147483648 → nan ≡ of_bits binary32 b
pattern-nan b h =
    nan-only (of_bits binary32 b)
    (sym (nan_bits_is binary32 b) ∙ nan_bits_above binary32 b
    ∙ lt-ltb 2139095040 (b % 2147483648) h)

pattern-no-nan : (b : ℕ) → b % 2147483648 ≤ 2139095040 → T (not (nan_bits binary32 b))
pattern-no-nan b h =
    subst (λ t. T (not t))
    (sym (nan_bits_above binary32 b ∙ le-ltb 2139095040 (b % 2147483648) h)) tt

pub returns-then-bits-gt2139095040 : goal.returns-then-bits-gt2139095040
unfolding of_bits div
returns-then-bits-gt2139095040 c = pattern-nan _ c.if-bits-gt2139095040.true

pub float_from_bits-result : goal.float_from_bits-result
float_from_bits-result c = pattern-no-nan _ c.if-bits-gt2139095040.false
