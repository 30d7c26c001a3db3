-- `dose::scale::reading` meets its contract: row 10 lets no temperature above 60.0 °C pass.
use Rattle.std.proofs.Common.{◌≡◌, rules}
use Rattle.frames.specs.declared.records.Record.{Record}
use Rattle.frames.proofs.SignedLaws.{at_plain}
use Rattle.frames.proofs.RangeLaws.{HourIn, checked-passed}
use Rattle.dose_spec.specs.Conductance.{above_of}
use Rattle.dose_spec.proofs.DeficitLaws.{above-highest}
use Rattle.dose.proofs.scale.reading.Goals as goal

pub invariant_of-result : goal.invariant_of-result
invariant_of-result c = let h = c.args.passed.hour in
    let tenths : c.above.result ≡ above_of h.temperature =
    at_plain h.temperature (search rules) above_of c.above.ensures in
    let range : HourIn h = checked-passed (Record.Hour h) c.args.passed.passes in
    record { in_range = rw tenths (above-highest _ range.temperature) }
