-- `trial::try_possible` meets its contract.
use Rattle.std.specs.Prelude.{Ok}
use mathlib.Core.Path.{refl, subst}
use Rattle.frames.specs.Answers.{Outcome}
use Rattle.account_spec.specs.declared.Account.{Account}
use Rattle.account_spec.specs.Rules.{Answers}
use Rattle.account_spec.specs.Reading.{Reads}
use Rattle.trial.proofs.TryLaws.{left-is, reads-totals}
use Rattle.trial.proofs.try_possible.Goals as goal

pub returns : goal.returns
returns c =
    let held = c.args.held in
    let fed = c.feed_line-fed.ensures in
    record {
      tried = refl;
      answer =
          subst (λ (o : Outcome Account). Answers held.account o c.answered.result)
          fed c.answered.ensures;
      reading =
          subst (λ (a : Account). Reads a (Ok c.totals.result))
          (left-is held c.args.line.now _ fed _ c.unwrap_or-left.ensures)
          (reads-totals c.unwrap_or-left.result _ c.totals.ensures);
    }
