-- f_phen × f_light × max(..), for any sound figures, period and hour: at most 1, never falling as k
-- grows, and enclosed by its pair, which is at most 5 apart, and 51 where f_VPD out of humidity is
-- steep. What a law needs of f_light it takes as a premise.
use Rattle.std.proofs.lemmas.Bool.Decides.{nat_tests}
use Prim.Native.Nat.{ℕ, ◌+◌, ◌*◌, ◌^◌, ◌≤◌}
use mathlib.Core.Path.{◌≡◌, refl}
use mathlib.Core.Bool.{Bool}
use native.Mathlib.Nat.{mul-le-mul}
use native.Mathlib.Omega.{arith}
use lib.Dec.{lit≤}
use Rattle.exact.specs.Frac.{Frac, natural, ◌over◌, ◌⊗◌, ◌≼◌, greater}
use Rattle.exact.specs.Rounding.{round_up, round_down, times_up, times_down}
use Rattle.exact.proofs.FracLaws.{≼_refl, ≼_trans, ≼-antisym, ≈-le, ⊗-mono, ⊗-comm, ⊗-le-one}
use Rattle.exact.proofs.RoundingLaws.{times_down_lem, times-up, product-down, product-up, over-gap}
use Rattle.exact.proofs.RoundingLaws.{over-order, times-order, times-gap, times_down-le}
use Rattle.exact.proofs.RoundingLaws.{times_up-le}
use Rattle.trees.specs.declared.Figures.{Figures}
use Rattle.trees.specs.Sound.{Sound}
use Rattle.frames.specs.declared.records.Hour.{Hour}
use Rattle.dose_spec.specs.HumidityPair.{entry_k}
use Rattle.dose_spec.specs.declared.Stand.{Stand}
use Rattle.dose_spec.specs.Light.{light_at, light_low, light_up}
use Rattle.dose_spec.specs.Deficit.{HasVpd}
use Rattle.dose_spec.specs.Conductance.{above_of, phenology_in, limited_at, opening_at, shared}
use Rattle.dose_spec.specs.Conductance.{share_at}
use Rattle.dose_spec.specs.Pair.{opening_low, opening_up, share_low, share_up}
use Rattle.dose_spec.specs.Facts.{ShareFacts, HourFacts}
use Rattle.dose_spec.proofs.BudgetLaws.{is_steep, width_in, near_in}
use Rattle.dose_spec.proofs.BoundaryLaws.{boundary-facts}
use Rattle.dose_spec.proofs.ConcentrationLaws.{ozone-facts}
use Rattle.dose_spec.proofs.LightLaws.{light-facts}
use Rattle.dose_spec.proofs.PhenologyLaws.{phenology_in-limits}
use Rattle.dose_spec.proofs.OpeningLaws.{opening_at-le, opening_at-mono, opening-low, opening-high}
use Rattle.dose_spec.proofs.OpeningLaws.{opening-gap, opening-order, opening_low-le, opening_up-le}

-- two numbers of 10⁻⁹, the greater ones at most 8 and so much above
pair-gap :
    (steep : Bool) (a b a' b' : ℕ) → a ≤ 10 ^ 9 → b ≤ 10 ^ 9 → a' ≤ a + 8 →
    b' ≤ b + (3 + width_in steep) →
    round_up ((a' * b') over 10 ^ 11) ≤ round_down ((a * b) over 10 ^ 11) + near_in steep
pair-gap steep a b a' b' p q r t = grind (
  arith,
  over-gap (a * b) (a' * b') (10 ^ 11) 50,
  over-gap (a * b) (a' * b') (10 ^ 11) 4,
  mul-le-mul r t,
)

pair-le : (a b : ℕ) → a ≤ 10 ^ 9 → b ≤ 10 ^ 9 + 1 → round_up ((a * b) over 10 ^ 11) ≤ 10 ^ 7 + 1
unfolding round_up
pair-le a b p q = omega (arith, mul-le-mul p q)

shared-is :
    (floor phen light limited : Frac) →
    shared floor phen light limited ≡ phen ⊗ light ⊗ greater floor limited
unfolding shared
shared-is floor phen light limited = refl

-- other laws go by this equation, not by the definition's text
pub share_at-is :
    (stand : Stand) (h : Hour) (k : ℕ) →
    share_at k stand h
    ≡ phenology_in stand h ⊗ light_at k stand.figures h.ppfd ⊗ opening_at k stand.figures h
unfolding share_at opening_at
share_at-is stand h k =
    let f = stand.figures in
    shared-is (f.f_min over 100) (phenology_in stand h) (light_at k f h.ppfd) (limited_at k f h)

module _ (stand : Stand) (s : Sound stand.figures) (h : Hour) where
  abbrev f : Figures
  f = stand.figures

  abbrev phen : Frac
  phen = phenology_in stand h

  phen-le : phen ≼ natural 1
  phen-le = (phenology_in-limits stand s h).below

  -- f_phen × f_light, in units of 10⁻⁹
  abbrev low : ℕ
  low = times_down (light_low f h.ppfd) phen

  abbrev up : ℕ
  up = times_up (light_up f h.ppfd) phen

  -- ---- at k

  -- f_light stands outside the floor f_min
  share-dark : (k : ℕ) → light_at k f h.ppfd ≼ natural 0 → share_at k stand h ≼ natural 0
  share-dark k dark =
      rw (share_at-is stand h k)
      (≼_trans (⊗-mono (⊗-mono (≼_refl phen) dark) (≼_refl (opening_at k f h)))
      (record { cross = omega arith }))

  share_at-le : (k : ℕ) → light_at k f h.ppfd ≼ natural 1 → share_at k stand h ≼ natural 1
  share_at-le k light-le =
      rw (share_at-is stand h k) (⊗-le-one (⊗-le-one phen-le light-le) (opening_at-le f s h k))

  module _ (has : HasVpd h.air (above_of h.temperature))
      (light-mono : (k l : ℕ) → k ≤ l → light_at k f h.ppfd ≼ light_at l f h.ppfd) where
    pub share_at-mono : (k l : ℕ) → k ≤ l → share_at k stand h ≼ share_at l stand h
    share_at-mono k l j =
        rw (share_at-is stand h k, share_at-is stand h l)
        (⊗-mono (⊗-mono (≼_refl phen) (light-mono k l j)) (opening_at-mono f s h has j))

    -- ---- the pair encloses it

    pub share-low :
        (k₀ : ℕ) → light_low f h.ppfd over 10 ^ 9 ≼ light_at k₀ f h.ppfd →
        (k : ℕ) → 9 ≤ k → entry_k ≤ k → k₀ ≤ k → share_low stand h over 10 ^ 7 ≼ share_at k stand h
    unfolding share_low
    share-low k₀ light-low k i e j =
        rw (share_at-is stand h k)
        (≼_trans
        (product-down low (opening_low f h) (10 ^ 9) (10 ^ 9) (10 ^ 7) (10 ^ 11) (omega arith))
        (⊗-mono
        (≼_trans (times_down_lem (light_low f h.ppfd) (10 ^ 9) phen
        (≼_trans light-low (light-mono k₀ k j)) (≼_refl phen))
        (⊗-comm (light_at k f h.ppfd) phen))
        (opening-low f s h has k i e)))

  pub share-high :
      HasVpd h.air (above_of h.temperature) →
      ((k : ℕ) → light_at k f h.ppfd ≼ light_up f h.ppfd over 10 ^ 9) →
      (k : ℕ) → share_at k stand h ≼ share_up stand h over 10 ^ 7
  unfolding share_up
  share-high has light-high k =
      rw (share_at-is stand h k)
      (≼_trans
      (⊗-mono (≼_trans (⊗-comm phen (light_at k f h.ppfd))
      (times-up (light_up f h.ppfd) (10 ^ 9) phen (light-high k) (≼_refl phen)))
      (opening-high f s h has k))
      (product-up up (opening_up f h) (10 ^ 9) (10 ^ 9) (10 ^ 7) (10 ^ 11) (omega arith)))

  -- ---- the pair

  pub share-order :
      HasVpd h.air (above_of h.temperature) → light_low f h.ppfd ≤ light_up f h.ppfd →
      share_low stand h ≤ share_up stand h
  unfolding share_low share_up
  share-order has light-order =
      grind (arith, nat_tests, over-order, mul-le-mul, times-order, opening-order)

  module _ (light-top : light_up f h.ppfd ≤ 10 ^ 9) where
    pub share-gap :
        light_up f h.ppfd ≤ light_low f h.ppfd + 7 → light_low f h.ppfd ≤ light_up f h.ppfd →
        share_up stand h ≤ share_low stand h + near_in (is_steep f h.air)
    unfolding share_low share_up
    share-gap light-gap light-order =
        pair-gap (is_steep f h.air) low (opening_low f h) up (opening_up f h)
        (omega (arith, times_down-le (light_low f h.ppfd) phen-le)) (opening_low-le f s h)
        (times-gap (light_low f h.ppfd) (light_up f h.ppfd) phen 7 phen-le light-gap)
        (opening-gap f s h)

    pub share_up-le : share_up stand h ≤ 10 ^ 7 + 1
    unfolding share_up
    share_up-le =
        pair-le up (opening_up f h) (omega (arith, times_up-le (light_up f h.ppfd) phen-le))
        (opening_up-le f s h)

-- ---- the facts

share-facts : (stand : Stand) → Sound stand.figures → (h : Hour) → ShareFacts stand h
share-facts stand s h =
    let light = light-facts stand.figures in
    record {
      limits = λ k. record {
        above = omega arith;
        below = share_at-le stand s h k (light.limits k h.ppfd).below;
      };
      dark = λ e k. ≼-antisym (share-dark stand s h k (rw e (≈-le (light.dark k)))) (omega arith);
      grows = λ has. share_at-mono stand s h has (λ k l j. light.grows k l h.ppfd j);
    }

pub hour-facts : HourFacts
hour-facts = grind (arith, nat_tests, ozone-facts, lit≤, light-facts, share-facts, boundary-facts)
