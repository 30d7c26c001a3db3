-- `part::writing::pod1_write_parameters` meets its contract.
use Rattle.part.proofs.writing.pod1_write_parameters.Goals as goal

pub returns : goal.returns
returns c = record {
  prints_bytes = rw c.from.ensures at c.write.ensures.prints_bytes;
  round_trip = c.write.ensures.round_trip;
}
