-- `dose::hour::shares` meets its contract.
use Rattle.std.proofs.Common.{◌∙◌, arith}
use Rattle.dose_spec.proofs.LightLaws.{light-order, light_up-le}
use Rattle.dose_spec.proofs.OpeningLaws.{opening_low-le, opening_up-le}
use Rattle.dose.proofs.NumberLaws.{phenology-factor, share_low-is, share_up-is}
use Rattle.dose.proofs.hour.shares.Goals as goal

pub invariant_of-phen : goal.invariant_of-phen
invariant_of-phen c = record {
  factor =
      phenology-factor c.args.dosing.stand c.args.dosing.sound c.args.passed.hour (omega arith)
      (omega arith) c.phenology.ensures;
}

pub invariant_of-share_low : goal.invariant_of-share_low
invariant_of-share_low c = let f = c.args.dosing.stand.figures in
    record {
      small = omega (
        arith,
        c.requires.light_low,
        light-order f c.args.passed.hour.ppfd,
        light_up-le f c.args.passed.hour.ppfd,
      );
    }

pub invariant_of-share_low-2 : goal.invariant_of-share_low-2
invariant_of-share_low-2 c = let d = c.args.dosing in
    record {
      small = omega (
        arith,
        c.requires.lower,
        opening_low-le d.stand.figures d.sound c.args.passed.hour,
      );
    }

pub invariant_of-share_up : goal.invariant_of-share_up
invariant_of-share_up c = record {
  small = omega (
    arith,
    c.requires.light_up,
    light_up-le c.args.dosing.stand.figures c.args.passed.hour.ppfd,
  );
}

pub invariant_of-share_up-2 : goal.invariant_of-share_up-2
invariant_of-share_up-2 c = let d = c.args.dosing in
    record {
      small =
          omega (arith, c.requires.upper, opening_up-le d.stand.figures d.sound c.args.passed.hour);
    }

pub returns : goal.returns
returns c = let stand = c.args.dosing.stand in
    let h = c.args.passed.hour in
    record {
      lower =
          c.share_low.ensures
          ∙ share_low-is stand h c.phenology.ensures c.requires.light_low c.requires.lower;
      upper =
          c.share_up.ensures
          ∙ share_up-is stand h c.phenology.ensures c.requires.light_up c.requires.upper;
    }
