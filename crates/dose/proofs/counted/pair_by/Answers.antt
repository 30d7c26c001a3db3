-- `dose::counted::pair_by` meets its contract: what is remembered of the temperature is the hour's.
use Rattle.frames.specs.declared.records.Record.{Record}
use Rattle.frames.proofs.RangeLaws.{HourIn, checked-passed}
use Rattle.dose_spec.specs.Conductance.{above_of}
use Rattle.dose_spec.specs.Light.{light_low, light_up}
use Rattle.dose.specs.Remembered.{IsWarm}
use Rattle.dose.proofs.RememberedLaws.{pair-back}
use Rattle.dose.proofs.counted.pair_by.Goals as goal

pub factor-l-requires : goal.factor-l-requires
factor-l-requires c =
    let range : HourIn c.args.passed.hour =
    checked-passed (Record.Hour c.args.passed.hour) c.args.passed.passes in
    record { steep = c.args.dosing.sound.light_a.1; bright = range.ppfd }

pub deficits-vpd-requires : goal.deficits-vpd-requires
deficits-vpd-requires c =
    let range : HourIn c.args.passed.hour =
    checked-passed (Record.Hour c.args.passed.hour) c.args.passed.passes in
    record { range = (range).air }

pub dosed-requires : goal.dosed-requires
unfolding light_low light_up
dosed-requires c = let f = c.args.dosing.stand.figures in
    let t = above_of c.args.passed.hour.temperature in
    let is : IsWarm f t c.remembered-warm.result =
    rw (← c.reading.ensures) c.remembered-warm.ensures.is in
    record {
      temperature = pair-back f t is _ c.f_temp.ensures.lower c.f_temp.ensures.upper;
      light_low = c.factor-l.ensures.lower;
      light_up = c.factor-l.ensures.upper;
      deficits = c.deficits-vpd.ensures t is.saturation;
    }
