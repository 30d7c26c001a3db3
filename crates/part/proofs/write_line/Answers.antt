-- `part::write_line` meets its contract.
use borrow.Author.Rules.{rules}
use mathlib.Core.Path.{◌≡◌, sym, ap, ◌∙◌}
use Rattle.std.specs.Prelude.{Err}
use Rattle.frames.specs.Answers.{outcome_of, refused, row_of}
use Rattle.stored.specs.Layout.{take_up_of}
use Rattle.part.specs.Calls.{printed_line}
use Rattle.part.proofs.write_line.Goals as goal

pub returns-in_err-take_up : goal.returns-in_err-take_up
unfolding printed_line
returns-in_err-take_up c =
    let e : c.from_residual.result ≡ Err c.in_err-take_up.field-0.0 = search rules in
    let q : take_up_of c.args.account.now ≡ refused (row_of c.in_err-take_up.field-0.0) =
    sym c.take_up.ensures.result_value ∙ ap outcome_of c.in_err-take_up.was in
    record { answers = ap outcome_of e ∙ rw q; leaves = rw q }

pub returns : goal.returns
unfolding printed_line
returns c =
    rw (sym c.take_up.ensures.result_value ∙ ap outcome_of c.in_ok-take_up.was)
    c.format.ensures.prints
