-- The greater of two fractions is above both, below what is above both, and never falls as the
-- second grows; so with two numbers over one scale.
use Prim.Native.Nat.{ℕ, ◌*◌, max}
use mathlib.Core.Bool.{Bool, true, false, not, cond}
use native.Mathlib.Nat.{le_of_lt}
use native.Mathlib.Omega.{max_cases}
use lib.Dec.{T, leb, leb→le, nleb→lt}
use Rattle.exact.specs.Frac.{Frac, ◌over◌, ◌≼◌, greater}
use Rattle.exact.proofs.FracLaws.{≼_refl, ≼_trans}

-- whichever is picked, where the test says which is the lesser
above-left : (x y : Frac) (b : Bool) → (T b → x ≼ y) → x ≼ cond b y x
above-left x y true h = h tt
above-left x y false h = ≼_refl x

above-right : (x y : Frac) (b : Bool) → (T (not b) → y ≼ x) → y ≼ cond b y x
above-right x y true h = ≼_refl y
above-right x y false h = h tt

pub cond-le : (b : Bool) {x y z : Frac} → x ≼ z → y ≼ z → cond b x y ≼ z
cond-le true h k = h
cond-le false h k = k

module _ (x y : Frac) where
  abbrev lower : Bool
  lower = leb (x.num * y.den) (y.num * x.den)

  pub greater-left : x ≼ greater x y
  greater-left = above-left x y lower (λ t. record { cross = leb→le _ _ t })

  pub greater-right : y ≼ greater x y
  greater-right =
      above-right x y lower
      (λ (t : T (not lower)).
      record { cross = le_of_lt (nleb→lt (x.num * y.den) (y.num * x.den) t) })

  pub greater-least : {z : Frac} → x ≼ z → y ≼ z → greater x y ≼ z
  greater-least h k = cond-le lower k h

pub greater-mono : (x : Frac) {y z : Frac} → y ≼ z → greater x y ≼ greater x z
greater-mono x {y} {z} h = greater-least x y (greater-left x z) (≼_trans h (greater-right x z))

pub max-over-least : (a b m : ℕ) {x : Frac} → a over m ≼ x → b over m ≼ x → max a b over m ≼ x
max-over-least a b m {x} p q = max_cases a b (max a b over m ≼ x) (λ l e. rw e q) (λ l e. rw e p)
