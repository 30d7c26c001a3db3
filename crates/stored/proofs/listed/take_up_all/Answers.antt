-- `stored::listed::take_up_all` meets its contract.
use native.Mathlib.Omega.{arith}
use Rattle.stored.specs.InBytes.{count_in}
use lib.ListN.{length-set}
use Rattle.stored.proofs.TakingLaws.{taken_start, taken_step, taken_none, taken-end}
use borrow.Author.Rules.{rules}
use mathlib.Core.Path.{◌≡◌}
use Rattle.std.specs.Prelude.{Err}
use Rattle.stored.proofs.listed.take_up_all.Goals as goal

pub loop-i-init : goal.loop-i-init
loop-i-init c =
    record { long = c.requires; taken = taken_start (count_in c.args.bytes.now) c.args.bytes.now }

pub returns-in_err-accounts : goal.returns-in_err-accounts
returns-in_err-accounts c =
    let e : c.from_residual.result ≡ Err c.in_err-accounts.field-0.0 = search rules in
    rw e
    (taken_none c.args.bytes.now (count_in c.args.bytes.now) c.loop-i.i
    (omega arith) c.loop-i.accounts c.loop-i.invariant.taken _ c.take_up.ensures.result_value _
    c.in_err-accounts.was)

pub loop-i-preserved : goal.loop-i-preserved
loop-i-preserved c = record {
  long = simp length-set c.loop-i.invariant.long;
  taken =
      taken_step c.args.bytes.now (count_in c.args.bytes.now) c.loop-i.i
      (omega arith) c.loop-i.accounts c.loop-i.invariant.taken _ c.take_up.ensures.result_value _
      c.in_ok-accounts.was (omega arith);
}

pub returns : goal.returns
returns c =
    taken-end (count_in c.args.bytes.now) c.loop-i.i c.args.bytes.now _ c.loop-i.accounts
    (omega arith) c.loop-i.invariant.long c.loop-i.invariant.taken
