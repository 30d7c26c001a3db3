-- `account::feed_line` meets its contract: the line is read, and its record entered.
use Rattle.std.proofs.lemmas.Result.{err_from_is_err_and}
use mathlib.Core.Path.{sym, ap, ◌∙◌}
use Rattle.frames.specs.Answers.{accepted}
use Rattle.frames.specs.Checked.{checked_as}
use Rattle.account.proofs.FrameLaws.{line-read, line-entered, line-refused}
use Rattle.account.proofs.feed_line.Goals as goal

pub enter-requires : goal.enter-requires
enter-requires c =
    let held = c.args.held in
    line-read held.account held.possible c.args.line.now _
    (sym c.read_line.ensures ∙ ap checked_as c.in_ok-read_line.was)

pub returns-in_err-read_line : goal.returns-in_err-read_line
returns-in_err-read_line c =
    let held = c.args.held in
    let out = err_from_is_err_and c.from_residual.result c.from_residual.ensures.1 in
    rw (out.1, out.2)
    (line-refused held.account held.possible c.args.line.now _
    (sym c.read_line.ensures ∙ ap checked_as c.in_err-read_line.was))

pub returns : goal.returns
returns c =
    let held = c.args.held in
    ap accepted c.enter.ensures
    ∙ line-entered held.account held.possible c.args.line.now _
    (sym c.read_line.ensures ∙ ap checked_as c.in_ok-read_line.was)
