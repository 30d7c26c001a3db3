-- Two's complement in two bytes says every temperature from -500 to 600, and each number one
-- temperature.
use Prim.Native.Nat.{ℕ, ◌-◌, ◌≤◌, ◌<◌}
use mathlib.Core.Path.{◌≡◌, refl, sym, ap, ◌∙◌}
use mathlib.Core.Bool.{false, or-false}
use mathlib.Core.Logic.{⊎_elim}
use native.Mathlib.Omega.{arith}
use borrow.Author.Tests.{lt-ltb, le-ltb, ltb-false}
use lib.Dec.{ltb}
use lib.IntN.{ℤ, pos, negsuc}
use mir.Syntax.{w16}
use mir.Val.{to_z, of_z}
use mir.ValLaws.{to_z_pos}
use Rattle.frames.specs.Temperature.{signed_of, complement_of, temperature_out}
use Rattle.exact.proofs.OrderLaws.{le-or-lt}

signed_low : (n : ℕ) → n < 32768 → signed_of n ≡ pos n
unfolding signed_of
signed_low n h = simp (lt-ltb n 32768 h)

signed_high : (n : ℕ) → 32768 ≤ n → signed_of n ≡ negsuc (65535 - n)
unfolding signed_of
signed_high n h = simp (le-ltb n 32768 h)

-- the machine's two's complement is the frames'
pub signed-is : (n : ℕ) → to_z w16 n ≡ signed_of n
signed-is n =
    ⊎_elim (λ p. rw (signed_high n p) (rw (le-ltb n 32768 p) (ap negsuc (omega arith))))
    (λ p. rw (signed_low n p) (to_z_pos w16 n p)) (le-or-lt 32768 n)

pub complement-is : (t : ℤ) → of_z w16 t ≡ complement_of t
unfolding complement_of
complement-is (pos n) = refl
complement-is (negsuc n) = omega arith

pub complement-signed : (n : ℕ) → n < 65536 → complement_of (signed_of n) ≡ n
unfolding complement_of
complement-signed n h =
    ⊎_elim (λ p. rw (signed_high n p) (omega arith)) (λ p. rw (signed_low n p)) (le-or-lt 32768 n)

pub signed-complement : (t : ℤ) → temperature_out t ≡ false → signed_of (complement_of t) ≡ t
unfolding complement_of temperature_out
signed-complement (pos n) e = signed_low n (omega (arith, ltb-false 600 n e))
signed-complement (negsuc n) e =
    let h : n ≤ 499 = ltb-false 499 n (sym (or-false (ltb 499 n)) ∙ e) in
    let back : 65535 - (65535 - n) ≡ n = omega arith in
    signed_high (65535 - n) (omega arith) ∙ ap negsuc back

pub complement-lt : (t : ℤ) → temperature_out t ≡ false → complement_of t < 65536
unfolding complement_of temperature_out
complement-lt (pos n) e = omega (arith, ltb-false 600 n e)
complement-lt (negsuc n) e = omega arith
