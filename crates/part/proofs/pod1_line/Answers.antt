-- `part::pod1_line` meets its contract.
use Rattle.part.proofs.pod1_line.Goals as goal

pub returns : goal.returns
returns c = record {
  written = c.write_line.result;
  prints = c.write_line.ensures;
  answers = c.printed_of.ensures;
}
