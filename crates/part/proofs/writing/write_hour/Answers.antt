-- `part::writing::write_hour` meets its contract.
use Rattle.part.proofs.writing.write_hour.Goals as goal

pub returns : goal.returns
returns c = record {
  prints_bytes = rw c.hour_from.ensures at c.write.ensures.prints_bytes;
  round_trip = c.write.ensures.round_trip;
}
