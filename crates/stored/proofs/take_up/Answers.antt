-- `stored::take_up` meets its contract.
use native.Mathlib.Omega.{arith}
use mathlib.Core.Path.{sym, ap, ◌∙◌}
use Rattle.stored.specs.Layout.{take_up_of}
use Rattle.stored.proofs.HeldLaws.{none-short, taken_none, front-taken}
use Rattle.stored.proofs.AccountLaws.{stored_back}
use Rattle.stored.proofs.take_up.Goals as goal

pub returns-in_default : goal.returns-in_default
returns-in_default c = let l = c.args.bytes.now in
    record {
      result_value = taken_none l (sym (none-short l c.in_default.ensures.cases));
      same = stored_back l (λ i. omega (arith, c.type_inv.bytes i));
    }

pub returns : goal.returns
returns c = let l = c.args.bytes.now in
    let first = c.in-Some.ensures.cases in
    record {
      result_value = c.account_in.ensures ∙ ap take_up_of first.same ∙ front-taken l first.enough;
      same = stored_back l (λ i. omega (arith, c.type_inv.bytes i));
    }
