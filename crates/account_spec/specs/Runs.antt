-- Lists of lines fed and readings taken ("The book"): each call gets the account that the one
-- before left.
use Rattle.std.specs.Prelude.{ℕ, ◌≡◌, List, [], ◌∷◌, Result, Ok, Err}
use Rattle.account_spec.specs.declared.Totals.{Totals}
use Rattle.frames.specs.declared.records.Refusal.{Refusal}
use Rattle.frames.specs.Answers.{Outcome, accepted, refused, row_of}
use Rattle.account_spec.specs.declared.Account.{Account}
use Rattle.account_spec.specs.Rules.{feed_of, left_by, Feeds, Fed}
use Rattle.account_spec.specs.Reading.{Reads}

-- a line fed, with its reply; a reading taken, with what it gave
pub data Event : Type 0 where
  fed : List ℕ → Fed → Event
  taken : Result Totals Refusal → Event

-- each call gets the account that the one before left; each reply is tied by what `feed` or `read`
-- promises, and by nothing else
pub data Run : Account → List Event → Type 0 where
  stop : {a : Account} → Run a []
  feeds :
      {a : Account} {l : List ℕ} {r : Fed} {es : List Event} → Feeds a l r → Run (left_by r) es →
      Run a (fed l r ∷ es)
  reads :
      {a : Account} {r : Result Totals Refusal} {es : List Event} → Reads a r → Run a es →
      Run a (taken r ∷ es)

-- ---- runs of given calls

-- what is asked of an account
pub data Call : Type 0 where
  line : List ℕ → Call
  reading : Call

abbrev pub calls_of : List Event → List Call
calls_of [] = []
calls_of (fed l r ∷ es) = line l ∷ calls_of es
calls_of (taken r ∷ es) = reading ∷ calls_of es

pub record RunOf (a : Account) (calls : List Call) : Type 0 where
  pub events : List Event
  pub run : Run a events
  pub same : calls_of events ≡ calls

-- the replies to the lines, in order
abbrev pub reply_in : Fed → Outcome Unit
reply_in (Ok a) = accepted tt
reply_in (Err (r, a)) = refused (row_of r)

abbrev pub replies_of : List Event → List (Outcome Unit)
replies_of [] = []
replies_of (fed l r ∷ es) = reply_in r ∷ replies_of es
replies_of (taken r ∷ es) = replies_of es

-- ---- what a run leaves

abbrev pub account_after : Account → List Event → Account
account_after a [] = a
account_after a (fed l r ∷ es) = account_after (left_by r) es
account_after a (taken r ∷ es) = account_after a es

-- an account takes every line of a list, and is left as another
pub data TakesAll : Account → List (List ℕ) → Account → Type 0 where
  none : {a : Account} → TakesAll a [] a
  line :
      {a b c : Account} {l : List ℕ} {ls : List (List ℕ)} → feed_of a l ≡ accepted b →
      TakesAll b ls c → TakesAll a (l ∷ ls) c
