-- The season promise, and what filling gaps brings, over runs that are tied by the contracts of
-- `feed`, of `parse` with `feed_frame` or `refused_by`, and of `read`, as they stand at the
-- functions, and by nothing else.
use Rattle.std.specs.Prelude.{Ok, Err}
use Prim.Native.Nat.{ℕ}
use mathlib.Core.Path.{◌≡◌}
use mathlib.Core.List.{List, [], ◌∷◌}
use denote.Ref.{Bor}
use Rattle.frames.proofs.parse.Reads as parse-reads
use Rattle.account_spec.specs.declared.Account.{Account}
use Rattle.account_spec.specs.Account.{fresh_account}
use Rattle.account_spec.specs.Rules.{left_by}
use Rattle.account_spec.specs.Book.{empty_book}
use Rattle.account_spec.specs.Runs.{Event, fed, taken, Run, stop, feeds, reads, account_after}
use Rattle.account_spec.specs.Runs.{TakesAll}
use Rattle.account_spec.specs.Promise.{Kept, SeasonPromise}
use Rattle.account_spec.proofs.RuleLaws.{frame-feeds, unread-feeds}
use Rattle.account_spec.proofs.RunLaws.{season}
use Rattle.account_spec.specs.FillingPromise.{accepted_lines, FillingPromise}
use Rattle.account_spec.proofs.FillingLaws.{filling-promise}
use Rattle.account.proofs.reading.read.Reads as read-reads
use Rattle.account.proofs.feed.Reads as feed-reads
use Rattle.account.proofs.feed_frame.Reads as feed-frame-reads
use Rattle.account.proofs.refused_by.Reads as refused-by-reads

-- a call: its arguments, its result and its arguments at exit, of which the contract holds
record Called {Lifetimes : Type 0} {Args Result Exit : Lifetimes → Type 0}
    (Contract : (κs : Lifetimes) → Args κs → Result κs → Exit κs → Type 0) : Type 0 where
  κs : Lifetimes
  args : Args κs
  result : Result κs
  exit : Exit κs
  holds : Contract κs args result exit

-- ---- runs: each call gets the account that the one before left

data Tied : Account → List Event → Type 0 where
  done : {a : Account} → Tied a []
  by-feed :
      {es : List Event} (c : Called feed-reads.Post) → Tied (left_by c.result) es →
      Tied c.args.0 (fed c.args.1.0.now c.result ∷ es)
  by-frame :
      {es : List Event} (p : Called parse-reads.Post) (c : Called feed-frame-reads.Post) →
      p.result ≡ Ok c.args.1.0 → Tied (left_by c.result) es
      → Tied c.args.0 (fed p.args.0.now c.result ∷ es)
  by-refusal :
      {es : List Event} (p : Called parse-reads.Post) (c : Called refused-by-reads.Post) →
      p.result ≡ Err c.args.1.0 → Tied c.args.0 es
      → Tied c.args.0 (fed p.args.0.now (Err (c.result, c.args.0)) ∷ es)
  by_read :
      {es : List Event} (c : Called read-reads.Post) → Tied c.args.0 es →
      Tied c.args.0 (taken c.result ∷ es)

-- each contract says what `Feeds` and `Reads` say, no more and no less

tied-run : {a : Account} {es : List Event} → Tied a es → Run a es
tied-run done = stop
tied-run (by-feed c t) = feeds c.holds (tied-run t)
tied-run (by-frame p c is t) = feeds (frame-feeds _ _ p.result p.holds _ _ is c.holds) (tied-run t)
tied-run (by-refusal p c is t) =
    feeds (unread-feeds _ _ p.result p.holds _ _ is c.holds) (tied-run t)
tied-run (by_read c t) = reads c.holds (tied-run t)

run-tied : {a : Account} {es : List Event} → Run a es → Tied a es
run-tied stop = done
run-tied (feeds {a = a} {l = l} {r = r} k run) =
    let line : Bor (List ℕ) = record { ref_ptr = (0, 0); now = l } in
    by-feed (record {
      κs = ([], tt);
      args = (a, (line, tt));
      result = r;
      exit = (a, (line, tt));
      holds = k;
    })
    (run-tied run)
run-tied (reads {a = a} {r = r} k run) =
    by_read (record { κs = tt; args = (a, tt); result = r; exit = (a, tt); holds = k })
    (run-tied run)

-- ---- the season's promise

tied-kept : {es : List Event} → Tied fresh_account es → Kept fresh_account empty_book es
tied-kept {es} t = season.kept es (tied-run t)

pub season-cited : SeasonPromise
season-cited = record {
  kept = λ es run. tied-kept (run-tied run);
  exists = season.exists;
  day = season.day;
  listed = season.listed;
  enclosed = season.enclosed;
}

-- ---- hours without ozone

tied-alone :
    {es : List Event} → Tied fresh_account es →
    TakesAll fresh_account (accepted_lines es) (account_after fresh_account es)
tied-alone {es} t = filling-promise.alone es (tied-run t)

pub filling-cited : FillingPromise
filling-cited = record {
  alone = λ es run. tied-alone (run-tied run);
  zero = filling-promise.zero;
  ceiling = filling-promise.ceiling;
  filled = filling-promise.filled;
}
