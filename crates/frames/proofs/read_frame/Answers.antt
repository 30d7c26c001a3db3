-- `frames::read_frame` meets its contract: the rows that a reader answers are stated as a law.
use Rattle.frames.proofs.RowLaws.{reader-rows}
use Rattle.frames.proofs.read_frame.Goals as goal

pub returns-in_err-parse-clause-rows : goal.returns-in_err-parse-clause-rows
returns-in_err-parse-clause-rows c = reader-rows

pub returns-clause-rows : goal.returns-clause-rows
returns-clause-rows c = reader-rows

pub returns-in_err-record_of-clause-rows : goal.returns-in_err-record_of-clause-rows
returns-in_err-record_of-clause-rows c = reader-rows
