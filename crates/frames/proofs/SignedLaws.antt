-- A signed 16-bit number as the machine computes with it; negative numbers told from others.
use Prim.Native.Nat.{ℕ, ◌<◌}
use mathlib.Core.Path.{◌≡◌, refl}
use mathlib.Core.Bool.{true, false, true≢false}
use native.Mathlib.Omega.{arith}
use borrow.Author.Tests.{ltb-true}
use lib.IntN.{ℤ, pos, negsuc}
use lib.Signed.{lt_z}
use mir.Syntax.{w16}
use mir.Val.{SFits, to_z, of_z}
use mir.ValLaws.{to_z-of_z}

module _ (t : ℤ) (f : SFits w16 t) where
  pub plain : to_z w16 (of_z w16 t) ≡ t
  plain = to_z-of_z w16 t f

  -- what a call answered of t as the machine holds it
  pub at_plain : {A : Type 0} {r : A} (g : ℤ → A) → r ≡ g (to_z w16 (of_z w16 t)) → r ≡ g t
  at_plain g e = rw plain at e

-- ---- the test t < 0

negative-at : (t : ℤ) → SFits w16 t → lt_z t (pos 0) ≡ true → (k : ℕ) × (t ≡ negsuc k) × (k < 32768)
negative-at (pos n) f e = absurd (omega (arith, ltb-true n 0 e))
negative-at (negsuc k) f e = (k, refl, f.sfits)

natural-at : (t : ℤ) → SFits w16 t → lt_z t (pos 0) ≡ false → (n : ℕ) × (t ≡ pos n) × (n < 32768)
natural-at (pos n) f e = (n, refl, f.sfits)
natural-at (negsuc k) f e = absurd (true≢false e)

module _ (t : ℤ) (f : SFits w16 t) where
  pub negative :
      lt_z (to_z w16 (of_z w16 t)) (pos 0) ≡ true → (k : ℕ) × (t ≡ negsuc k) × (k < 32768)
  negative e = negative-at t f (rw (plain t f) at e)

  pub natural : lt_z (to_z w16 (of_z w16 t)) (pos 0) ≡ false → (n : ℕ) × (t ≡ pos n) × (n < 32768)
  natural e = natural-at t f (rw (plain t f) at e)
