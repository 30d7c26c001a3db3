-- `account::feed` meets its contract: row 13 comes first, and a refusal hands the account back.
use Rattle.std.specs.Prelude.{Ok, Err}
use mathlib.Core.Path.{◌≡◌, sym, ap, subst, ◌∙◌}
use native.Mathlib.Omega.{arith}
use Rattle.frames.specs.Answers.{accepted}
use Rattle.frames.specs.Checked.{checked_as}
use Rattle.account_spec.specs.declared.Account.{Account}
use Rattle.account_spec.specs.Rules.{Feeds}
use Rattle.account.proofs.FrameLaws.{
  answers-next,
  answers-same,
  line-impossible,
  line-read,
  line-entered,
  line-refused,
}
use Rattle.account.proofs.feed.Goals as goal

pub returns-in_default : goal.returns-in_default
returns-in_default c = line-impossible _ _ (rw c.in_default.is at c.tested.ensures)

pub enter-requires : goal.enter-requires
enter-requires c =
    let held = c.in-Some.held in
    line-read held.account held.possible c.args.line.now _
    (sym c.read_line-decoded.ensures ∙ ap checked_as c.in-Ok.is)

pub returns : goal.returns
returns c =
    let held = c.in-Some.held in
    let l = c.args.line.now in
    let same : held.account ≡ c.args.account = rw c.in-Some.is at c.tested.ensures in
    let read = sym c.read_line-decoded.ensures ∙ ap checked_as c.in-Ok.is in
    subst (λ (a : Account). Feeds a l (Ok c.enter.result.account)) same
    (answers-next held.account _ _
    (ap accepted c.enter.ensures ∙ line-entered held.account held.possible l _ read))

pub returns-in_default-decoded : goal.returns-in_default-decoded
returns-in_default-decoded c =
    let held = c.in-Some.held in
    let l = c.args.line.now in
    let same : held.account ≡ c.args.account = rw c.in-Some.is at c.tested.ensures in
    let unread : c.read_line-decoded.result ≡ Err c.in-Err.refused = grind arith in
    let read = sym c.read_line-decoded.ensures ∙ ap checked_as unread in
    subst (λ (a : Account). Feeds a l (Err (c.in-Err.refused, a))) same
    (answers-same held.account _ _ (line-refused held.account held.possible l _ read))
