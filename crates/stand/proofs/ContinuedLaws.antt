-- An account of a list keeps the season's promise: its own run goes on with the lines that the list
-- accepted, and the promise holds of the whole.
use Rattle.frames.specs.declared.records.Refusal.{Refusal}
use Rattle.account_spec.specs.declared.Totals.{Totals}
use Rattle.std.specs.Prelude.{Result, Ok}
use Prim.Native.Nat.{ℕ}
use mathlib.Core.Path.{◌≡◌, refl, sym, ap}
use mathlib.Core.List.{List, [], ◌∷◌, ◌++◌, map}
use lib.ListN.{length}
use Rattle.frames.specs.Answers.{accepted}
use Rattle.account_spec.specs.declared.Account.{Account}
use Rattle.account_spec.specs.Account.{fresh_account}
use Rattle.account_spec.specs.Rules.{feed_of, left_of, left_by, Feeds}
use Rattle.account_spec.specs.Reading.{Reads}
use Rattle.account_spec.specs.Runs.{Event, fed, taken, Run, stop, feeds, reads, line, calls_of}
use Rattle.account_spec.specs.Runs.{replies_of, account_after, TakesAll}
use Rattle.account_spec.specs.Promise.{acceptances}
use Rattle.account_spec.proofs.SeasonLaws.{season-kept}
use Rattle.stand.specs.Promise.{Begun, RunKept, Continued}

-- ---- one run after another

pub run-append :
    (a : Account) (es fs : List Event) → Run a es → Run (account_after a es) fs → Run a (es ++ fs)
run-append a es fs stop next = next
run-append a es fs (feeds {r = r} {es = rest} k run) next =
    feeds k (run-append (left_by r) rest fs run next)
run-append a es fs (reads {es = rest} k run) next = reads k (run-append a rest fs run next)

pub end-append :
    (a : Account) (es fs : List Event) →
    account_after a (es ++ fs) ≡ account_after (account_after a es) fs
end-append a [] fs = refl
end-append a (fed l r ∷ es) fs = end-append (left_by r) es fs
end-append a (taken r ∷ es) fs = end-append a es fs

-- ---- lines that are taken, as a run

taken-feeds : (a b : Account) (l : List ℕ) → feed_of a l ≡ accepted b → Feeds a l (Ok b)
taken-feeds a b l e = record { answers = sym e; leaves = ap (left_of a) (sym e) }

record LinesRun (a : Account) (ls : List (List ℕ)) (b : Account) : Type 0 where
  events : List Event
  calls : calls_of events ≡ map line ls
  replies : replies_of events ≡ acceptances (length ls)
  run : Run a events
  ends : account_after a events ≡ b

lines-run : (a b : Account) (ls : List (List ℕ)) → TakesAll a ls b → LinesRun a ls b
lines-run a b ls TakesAll.none =
    record { events = []; calls = refl; replies = refl; run = stop; ends = refl }
lines-run a b ls (TakesAll.line {b = next} {l = l} {ls = more} e alone) =
    let rest = lines-run next b more alone in
    record {
      events = fed l (Ok next) ∷ rest.events;
      calls = rw rest.calls refl;
      replies = rw rest.replies refl;
      run = feeds (taken-feeds a next l e) rest.run;
      ends = rest.ends;
    }

-- ---- the account's own run, continued

run-kept : (es : List Event) → Run fresh_account es → RunKept es
run-kept es run = record { run = run; kept = season-kept es run }

module _ (a : Account) (own : Begun a) (ls : List (List ℕ)) (b : Account)
    (more : LinesRun a ls b) where
  abbrev all : List Event
  all = own.events ++ more.events

  whole : Run fresh_account all
  whole = run-append fresh_account own.events more.events own.run (rw own.ends more.run)

  whole-ends : account_after fresh_account all ≡ b
  whole-ends = rw (end-append fresh_account own.events more.events, own.ends) more.ends

  read : (r : Result Totals Refusal) → Reads b r → Run fresh_account (all ++ taken r ∷ [])
  read r k = run-append fresh_account all (taken r ∷ []) whole (reads (rw whole-ends k) stop)

  continued : Continued a own ls b
  continued = record {
    more = more.events;
    calls = more.calls;
    replies = more.replies;
    ends = whole-ends;
    kept = run-kept all whole;
    read = λ r k. run-kept (all ++ taken r ∷ []) (read r k);
  }

pub alone-continued :
    (a : Account) (own : Begun a) (ls : List (List ℕ)) (b : Account) → TakesAll a ls b →
    Continued a own ls b
alone-continued a own ls b alone = continued a own ls b (lines-run a b ls alone)
