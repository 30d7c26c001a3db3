-- `dose::hour::opening` meets its contract.
use Rattle.std.proofs.Common.{ap, ◌∙◌, arith}
use Rattle.trees.specs.Deficit.{IsDeficitPair}
use Rattle.trees.specs.SoilWater.{soil_water_of}
use Rattle.trees.proofs.TemperatureLaws.{temperature_pair-gap, temperature_pair-le}
use Rattle.dose_spec.specs.Conductance.{above_of}
use Rattle.dose_spec.specs.Deficit.{air_deficits}
use Rattle.frames.specs.Layout.{soil_number}
use Rattle.dose.proofs.NumberLaws.{lower-factor, upper-factor, soil_water-factor, opening_low-is}
use Rattle.dose.proofs.NumberLaws.{opening_up-is}
use Rattle.exact.specs.Frac.{Is}
use Rattle.dose.proofs.hour.opening.Goals.{After-f_vpd-dry}
use Rattle.dose.proofs.hour.opening.Goals as goal

deficits : (c : After-f_vpd-dry) → let a = c.args in
    IsDeficitPair a.dosing.stand.figures
    (air_deficits a.h.air (above_of a.h.temperature)) c.f_vpd-dry.result
deficits c = rw c.requires.deficits at c.f_vpd-dry.ensures.deficit_pair

pub invariant_of-sw : goal.invariant_of-sw
invariant_of-sw c = record {
  factor = soil_water-factor c.args.dosing.stand.figures c.args.dosing.sound _ c.f_sw.ensures.is;
}

pub invariant_of-opening_low : goal.invariant_of-opening_low
invariant_of-opening_low c = let f = c.args.dosing.stand.figures in
    record {
      small =
          rw c.requires.temperature
          (omega (
            arith,
            temperature_pair-le f c.args.dosing.sound (above_of c.args.h.temperature),
          ));
    }

pub invariant_of-opening_low-2 : goal.invariant_of-opening_low-2
invariant_of-opening_low-2 c = let h = c.args.h in
    let pair = deficits (goal.at.invariant_of-opening_low-2 c).After-f_vpd-dry in
    record { factor = lower-factor _ c.args.dosing.sound h.air (above_of h.temperature) pair.lower }

pub invariant_of-opening_up : goal.invariant_of-opening_up
invariant_of-opening_up c = let f = c.args.dosing.stand.figures in
    let x = above_of c.args.h.temperature in
    record {
      small =
          rw c.requires.temperature
          (omega (
            arith,
            temperature_pair-le f c.args.dosing.sound x,
            temperature_pair-gap f c.args.dosing.sound x,
          ));
    }

pub invariant_of-opening_up-2 : goal.invariant_of-opening_up-2
invariant_of-opening_up-2 c = let h = c.args.h in
    let pair = deficits (goal.at.invariant_of-opening_up-2 c).After-f_vpd-dry in
    record { factor = upper-factor _ c.args.dosing.sound h.air (above_of h.temperature) pair.upper }

pub returns : goal.returns
returns c =
    let pair = deficits (goal.at.returns c).After-f_vpd-dry in
    let f = c.args.dosing.stand.figures in
    let h = c.args.h in
    let sw : Is c.f_sw.result (soil_water_of f (soil_number h.soil)) =
    rw c.soil_number.ensures at c.f_sw.ensures.is in
    record {
      lower =
          c.opening_low.ensures
          ∙ opening_low-is f h sw pair.lower (ap (λ b. b.lower) c.requires.temperature);
      upper =
          c.opening_up.ensures
          ∙ opening_up-is f h sw pair.upper (ap (λ b. b.upper) c.requires.temperature);
    }
