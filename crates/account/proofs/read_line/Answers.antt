-- `account::read_line` meets its contract.
use Rattle.std.proofs.lemmas.Result.{err_from_is_err_and}
use mathlib.Core.Path.{sym, ap, ◌∙◌}
use Rattle.frames.specs.Answers.{outcome_of}
use Rattle.account.proofs.FrameLaws.{frame-read, none-read}
use Rattle.account.proofs.read_line.Goals as goal

pub returns-in_err-parse : goal.returns-in_err-parse
returns-in_err-parse c =
    let out = err_from_is_err_and c.from_residual.result c.from_residual.ensures.1 in
    let read = sym c.parse.ensures ∙ ap outcome_of c.in_err-parse.was in
    rw (out.1, out.2) (none-read c.args.account c.args.line.now _ read)

pub returns : goal.returns
returns c =
    let read = sym c.parse.ensures ∙ ap outcome_of c.in_ok-parse.was in
    rw c.from.ensures at c.decode.ensures ∙ frame-read c.args.account c.args.line.now _ read
