-- `stored::taking::account_in` meets its contract.
use mathlib.Core.Path.{◌≡◌, sym, ap, ◌∙◌}
use native.Mathlib.Omega.{arith}
use borrow.Author.Rules.{rules}
use Rattle.std.specs.Prelude.{Err}
use Rattle.frames.specs.Answers.{outcome_of}
use Rattle.frames.proofs.SignedLaws.{plain}
use Rattle.stored.specs.Layout.{account_in}
use Rattle.stored.proofs.HeldLaws.{none-version, taken_none, phase-refused, kind-refused, both-are}
use Rattle.stored.proofs.HeldLaws.{taken-is}
use Rattle.stored.proofs.AccountLaws.{one_byte}
use Rattle.stored.proofs.taking.account_in.Goals as goal

pub returns-then-b-ne-VERSION : goal.returns-then-b-ne-VERSION
returns-then-b-ne-VERSION c =
    let l = c.args.b.now in taken_none l (sym (none-version l c.if-b-ne-VERSION.true))

pub returns-in_err-try_from : goal.returns-in_err-try_from
returns-in_err-try_from c =
    let l = c.args.b.now in
    let e : c.from_residual.result ≡ Err c.in_err-try_from.field-0.0 = search rules in
    ap outcome_of e
    ∙ phase-refused l
    (omega arith) c.if-b-ne-VERSION.false _ c.try_from.ensures _ c.in_err-try_from.was

pub returns-in_err-hour_kind_of : goal.returns-in_err-hour_kind_of
returns-in_err-hour_kind_of c =
    let l = c.args.b.now in
    let e : c.from_residual-in_err-hour_kind_of.result ≡ Err c.in_err-hour_kind_of.field-0.0 =
    search rules in
    ap outcome_of e
    ∙ kind-refused l (omega arith) c.if-b-ne-VERSION.false _ c.try_from.ensures _
    c.in_ok-try_from.was _ c.hour_kind_of.ensures _ c.in_err-hour_kind_of.was

pub returns : goal.returns
unfolding account_in
returns c =
    let l = c.args.b.now in
    let both =
    both-are l (omega arith) c.if-b-ne-VERSION.false _ c.try_from.ensures _ c.in_ok-try_from.was _
    c.hour_kind_of.ensures _ c.in_ok-hour_kind_of.was in
    rw (
      plain c.signed.result (search rules),
      c.signed.ensures,
      c.get-2.ensures.is,
      c.get.ensures.is,
      c.sums_in.ensures,
      c.season_in.ensures,
      both.0,
      both.1,
      ← one_byte 1 l,
      ← one_byte 2 l,
    )
    (taken-is l (omega arith) c.if-b-ne-VERSION.false _ c.try_from.ensures _ c.in_ok-try_from.was _
    c.hour_kind_of.ensures _ c.in_ok-hour_kind_of.was)
