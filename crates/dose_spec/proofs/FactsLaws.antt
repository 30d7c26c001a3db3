-- The facts of the deficit out of humidity, gathered: the table's entry is what its test says, and
-- (1 - h) times what encloses the saturation pressure encloses VPD.
use Prim.Native.Nat.{ℕ, ◌+◌, ◌-◌, ◌≤◌}
use mathlib.Core.Path.{◌≡◌}
use native.Mathlib.Omega.{arith}
use Rattle.exact.specs.Frac.{Frac, natural, ◌over◌, ◌⊗◌, ◌≼◌, ◌≈◌}
use Rattle.exact.proofs.FracLaws.{≼_refl, ≼_trans, ≈-le, ≈-ge, ⊗-mono}
use Rattle.trees.specs.Temperature.{highest_reading}
use Rattle.dose_spec.specs.Vapour.{celsius, exponent, saturation_at, dryness, vpd_at}
use Rattle.dose_spec.specs.HumidityPair.{units_per_kpa, entry_of, deficit_pair}
use Rattle.dose_spec.specs.HumidityFacts.{SaturationFacts, VpdFacts, HumidityFacts}
use Rattle.dose_spec.proofs.ExponentialLaws.{exp_at-anti}
use Rattle.dose_spec.proofs.EntryLaws.{Rounded, signed_entry, entry-is}
use Rattle.dose_spec.proofs.CaseLaws.{saturation-cases}
use Rattle.dose_spec.proofs.EntryTests.{entry-rounded}

module _ (x : ℕ) (highest : x ≤ highest_reading) where
  rounded : Rounded (exponent (celsius x)) (signed_entry (exponent (celsius x)))
  rounded = entry-rounded x highest

  pub entry_of-is : entry_of x ≡ signed_entry (exponent (celsius x))
  entry_of-is = entry-is x (signed_entry (exponent (celsius x))) rounded

  saturation-falls : (k l : ℕ) → k ≤ l → saturation_at l x ≼ saturation_at k x
  unfolding saturation_at
  saturation-falls k l h =
      ⊗-mono (≼_refl (611 over 1000)) (exp_at-anti (exponent (celsius x)) rounded.under h)

  saturation-facts : SaturationFacts x
  unfolding saturation_at
  saturation-facts = record {
    exponent_under = rounded.under;
    falls = λ k l h. exp_at-anti (exponent (celsius x)) rounded.under h;
    low = λ k. rw entry_of-is (rounded.low k);
    high = rw entry_of-is (let h = rounded.high in omega (arith, h.cross));
  }

-- ---- (1 - h) times that, in Pa

module _ (h : ℕ) where
  dryness-is : dryness h ≈ (1000 - h) over 1000
  unfolding dryness
  dryness-is = record { cross = omega arith }

  module _ (x : ℕ) (highest : x ≤ highest_reading) where
    vpd-mono :
        {y z : Frac} → y ≼ z → natural 1000 ⊗ (dryness h ⊗ y) ≼ natural 1000 ⊗ (dryness h ⊗ z)
    vpd-mono p = ⊗-mono (≼_refl (natural 1000)) (⊗-mono (≼_refl (dryness h)) p)

    lower-le :
        (deficit_pair h x).lower over units_per_kpa
        ≼ natural 1000 ⊗ ((1000 - h) over 1000 ⊗ entry_of x over units_per_kpa)
    lower-le = record { cross = omega arith }

    upper-ge :
        natural 1000 ⊗ ((1000 - h) over 1000 ⊗ (entry_of x + 1) over units_per_kpa)
        ≼ (deficit_pair h x).upper over units_per_kpa
    upper-ge = record { cross = omega arith }

    vpd-facts : VpdFacts h x
    unfolding vpd_at
    vpd-facts =
        let facts = saturation-facts x highest in
        record {
          falls = λ k l j. vpd-mono (saturation-falls x highest k l j);
          low = λ k.
              ≼_trans lower-le
              (⊗-mono (≼_refl (natural 1000)) (⊗-mono (≈-ge dryness-is) (facts.low k)));
          high =
              ≼_trans
              (⊗-mono (≼_refl (natural 1000)) (⊗-mono (≈-le dryness-is) facts.high)) upper-ge;
        }

pub humidity-facts : HumidityFacts
humidity-facts =
    record { saturation = saturation-facts; deficit = vpd-facts; cases = saturation-cases }

-- what the function names in `using`
pub ruleset facts = (humidity-facts)
