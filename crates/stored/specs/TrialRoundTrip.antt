-- The two round trips: every trial is taken up as itself, and bytes that hold a trial are stored as
-- themselves.
use Rattle.std.specs.Prelude.{ℕ, ◌≡◌, List, ◌++◌, drop, Result, Ok}
use Rattle.frames.specs.declared.records.Refusal.{Refusal}
use Rattle.frames.specs.Answers.{accepted}
use Rattle.account_spec.specs.declared.Account.{Account}
use Rattle.account_spec.specs.Rules.{feed_of}
use Rattle.trial.specs.declared.Trial.{Trial}
use Rattle.trial.specs.Trial.{Tries}
use Rattle.trial.specs.Taking.{take_of}
use Rattle.stored.specs.TrialLayout.{Contents, contents_of, trial_width, trial_bytes, contents_in}
use Rattle.stored.specs.TrialLayout.{HoldsTrial}

-- what was taken up is a trial of the line on the account, and taken with the account it is the
-- line fed
pub record TriedAgain (a : Account) (l : List ℕ) (held : Result Trial Refusal) : Type 0 where
  pub trial : Trial
  pub same : held ≡ Ok trial
  pub tries : Tries a l trial
  pub fed : take_of a trial ≡ feed_of a l

-- a trial's bytes are taken up as its contents, whatever follows them
pub record TrialTakenUp (t : Trial) : Type 0 where
  pub back :
      (rest : List ℕ) → contents_in (trial_bytes (contents_of t) ++ rest) ≡ accepted (contents_of t)
  -- those of a trial that `try_line` made, as such a trial
  pub again :
      (a : Account) (l : List ℕ) → Tries a l t → (rest : List ℕ) (held : Result Trial Refusal) →
      HoldsTrial (contents_in (trial_bytes (contents_of t) ++ rest)) held → TriedAgain a l held

-- contents that these bytes hold, stored at their front, leave them as they are
pub record TrialStoredBack (l : List ℕ) : Type 0 where
  pub same : (c : Contents) → contents_in l ≡ accepted c → trial_bytes c ++ drop trial_width l ≡ l
