-- `stand::tally::of` meets its contract: past the last account nothing is left to see.
use Rattle.std.proofs.Common.{arith, ◌≡◌, ℕ, ◌≤◌, List, length, drop, sym, ap, ◌∙◌}
use Rattle.std.proofs.lemmas.List.{drop_all}
use Rattle.frames.specs.declared.records.Raw.{Raw}
use Rattle.frames.specs.Answers.{Outcome}
use Rattle.account_spec.specs.declared.Account.{Account}
use Rattle.stand.specs.steps.ListSteps.{Tallied, seen_all}
use Rattle.stand.proofs.tally.of.Goals as goal

seen-whole :
    (p : Outcome Raw) (t u : Tallied) (i : ℕ) (xs : List Account) → length xs ≤ i →
    seen_all p t (drop i xs) ≡ u → t ≡ u
seen-whole p t u i xs h e = ap (seen_all p t) (sym (drop_all i xs h)) ∙ e

pub returns : goal.returns
returns c =
    let xs = c.args.accounts.now in
    seen-whole _ _ _ c.loop-account.account-index xs (omega arith) c.loop-account.invariant
