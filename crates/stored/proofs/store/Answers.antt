-- `stored::store` meets its contract.
use native.Mathlib.Omega.{arith}
use borrow.Author.Rules.{rules}
use mathlib.Core.Path.{◌≡◌, ap, ◌∙◌}
use mathlib.Core.List.{List, ◌++◌}
use Prim.Native.Nat.{ℕ, ◌<◌}
use lib.Seq.{length-take-le}
use lib.ListN.{length, take, drop}
use mir.Syntax.{w16}
use mir.Val.{SFits}
use Rattle.frames.proofs.BufferLaws.{prints-short, prints-whole}
use Rattle.stored.specs.Packing.{big_endian, FitFrom}
use Rattle.stored.specs.Layout.{widths, account_width, account_numbers, account_bytes}
use Rattle.stored.specs.RoundTrip.{TakenUp}
use Rattle.stored.proofs.FieldLaws.{phase-le, kind-le, total-lt}
use Rattle.stored.proofs.AccountLaws.{storable, account-length, taken-up, put-alone}
use Rattle.stored.proofs.store.Goals.{Start}
use Rattle.stored.proofs.store.Goals as goal

-- what is taken up from the bytes of the account
back-up : (c : Start) → let a = c.args.account in TakenUp a
back-up c =
    let a = c.args.account in
    let total : SFits w16 a.carried.total = search rules in
    let front : FitFrom 0 (take 21 widths) (account_numbers a) =
    omega (arith, phase-le a.phase, kind-le a.kind, total-lt a.carried.total total) in
    -- that each parameter has two bytes, too deep for `omega` to find by itself
    let parameters : FitFrom 21 (drop 21 widths) (account_numbers a) =
    omega (arith, c.well_formed.0.1.1.1.0.1.1.1.1.0) in
    taken-up a (storable a total front parameters)

pub returns-in_default : goal.returns-in_default
returns-in_default c =
    let a = c.args.account in
    let short : length c.args.buffer.now < account_width = c.in_default.ensures.cases in
    record {
      prints = prints-short (account_bytes a) c.args.buffer.now (omega (arith, account-length a));
      back = back-up (goal.at.returns-in_default c).Start;
    }

pub returns : goal.returns
unfolding big_endian
returns c =
    let a = c.args.account in
    let l = c.args.buffer.now in
    let first = c.in-Some.ensures.cases in
    let alone : length c.in-Some.front.now ≡ account_width =
    ap length first.same ∙ length-take-le account_width l first.enough in
    let laid : c.put_season.new.b ≡ account_bytes a =
    rw (c.put_season.ensures, c.put_front.ensures) (put-alone a c.in-Some.front.now alone) in
    record {
      prints =
          prints-whole (account_bytes a) l _ account_width (account-length a) first.enough
          (ap (λ (x : List ℕ). x ++ drop account_width l) laid);
      back = back-up (goal.at.returns c).Start;
    }
