-- Serves the code's own steps; no reader need believe it.
use Rattle.std.specs.Prelude.{◌≡◌, ℕ, zero, suc, ◌+◌, ◌-◌, ◌*◌, ◌/◌, ◌%◌, ◌^◌, ◌<◌, ◌≤◌, Bool, true}
use Rattle.std.specs.Prelude.{false, List, slice_index}
use Rattle.trees.specs.declared.Figures.{Figures}
use Rattle.power.specs.declared.terms.Terms.{Terms}
use Rattle.power.specs.declared.rounded.Rounded.{Rounded}

-- ---- figures

-- the temperatures and the powers are those of `Sound`
pub record Fits (f : Figures) : Type 0 where
  pub t_min : 30 ≤ f.t_min
  pub t_opt : f.t_min < f.t_opt
  pub t_max : (f.t_opt < f.t_max) × (f.t_max ≤ 250)
  pub p : (1 ≤ f.p) × (f.p ≤ 22)
  pub q : (1 ≤ f.q) × (f.q ≤ 22)
  pub ratio : f.p * (f.t_opt - f.t_min) ≡ f.q * (f.t_max - f.t_opt)

-- ---- the root

-- t^q and (10⁹)^q·a^q·w^p, both times the denominators of a^q and w^p
unfoldable pub left : Terms → ℕ → ℕ
left s t = t ^ s.q * (s.rise ^ s.q * s.fall ^ s.p)

unfoldable pub right : Terms → ℕ
right s = 1000000000 ^ s.q * (s.above ^ s.q * s.below ^ s.p)

pub record IsRoot (s : Terms) (t : ℕ) : Type 0 where
  pub under : left s t ≤ right s
  pub above : right s < left s (t + 1)

-- a = above/rise and w = below/fall at the reading x
pub record AreTerms (f : Figures) (x : ℕ) (s : Terms) : Type 0 where
  pub above : s.above ≡ x - 10 * f.t_min
  pub rise : s.rise ≡ 10 * (f.t_opt - f.t_min)
  pub below : s.below ≡ 10 * f.t_max - x
  pub fall : s.fall ≡ 10 * (f.t_max - f.t_opt)
  pub p : s.p ≡ f.p
  pub q : s.q ≡ f.q

-- a number strictly between two, if there is one
pub record IsInterior (low high r : ℕ) : Type 0 where
  pub above : low + 1 < high → low < r
  pub below : low + 1 < high → r < high

-- ---- words

-- what the first i words stand for, in base 2³²
unfoldable pub worth : ℕ → List ℕ → ℕ
worth zero a = zero
worth (suc i) a = worth i a + slice_index a i * 4294967296 ^ i

-- 67 words stand for m, which has at most n of them
pub record Holds (a : List ℕ) (m n : ℕ) : Type 0 where
  pub value : worth 67 a ≡ m
  pub small : m < 4294967296 ^ n

-- whether x is below y, or, where they are equal, what it was before
pub record Settled (x y : ℕ) (before r : Bool) : Type 0 where
  pub below : x < y → r ≡ true
  pub above : y < x → r ≡ false
  pub level : x ≡ y → r ≡ before
  pub left : x < 4294967296
  pub right : y < 4294967296

-- ---- rounded products

-- 2⁶⁴, never unfolded beside other numbers
unfoldable pub full : ℕ
full = 18446744073709551616

-- x·y/2⁶⁴, at most 3 too low
pub record IsHigh (x y r : ℕ) : Type 0 where
  pub low : r * full ≤ x * y
  pub high : x * y < (r + 3) * full

-- v lies from mantissa·2^exponent to (mantissa + short)·2^exponent, over 2⁶⁴
pub record StandsFor (v : ℕ) (r : Rounded) : Type 0 where
  pub low : r.mantissa * 2 ^ r.exponent ≤ v * full
  pub high : v * full ≤ (r.mantissa + r.short) * 2 ^ r.exponent

-- at most so short, with at most such an exponent
pub record Bounded (most top : ℕ) (r : Rounded) : Type 0 where
  pub short : r.short ≤ most
  pub positive : 0 < r.exponent
  pub exponent : r.exponent ≤ top

pub record IsProduct (x y r : Rounded) : Type 0 where
  pub near : (v w : ℕ) → StandsFor v x → StandsFor w y → StandsFor (v * w) r

pub record IsOddProduct (r x : Rounded) (n : ℕ) (s : Rounded) : Type 0 where
  pub near : (v w : ℕ) → StandsFor v r → StandsFor w x → StandsFor (v * w ^ (n % 2)) s

pub record IsStep (before x y : Rounded) (q p : ℕ) (r : Rounded) : Type 0 where
  pub near :
      (v w : ℕ) → StandsFor (v ^ (q / 2) * w ^ (p / 2)) before → StandsFor v x → StandsFor w y →
      StandsFor (v ^ q * w ^ p) r

pub record Decided (l r : Rounded) (t q : ℕ) (b : Bool) : Type 0 where
  pub order : b ≡ true → (v w : ℕ) → StandsFor v l → StandsFor w r → (v ≤ w) × (w * t < v * (t + q))

pub record Certain (s : Terms) (t : ℕ) (b : Bool) : Type 0 where
  pub root : b ≡ true → IsRoot s t
