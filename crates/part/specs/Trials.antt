-- What trying a line on an account in bytes answers and leaves, and what taking the trial does
-- ("Trials").
use Rattle.std.specs.Prelude.{ℕ, ◌≡◌, false, List, ◌++◌, length, drop, nat_lt}
use Rattle.frames.specs.Answers.{Outcome, accepted, refused, row, onward}
use Rattle.account_spec.specs.declared.Account.{Account}
use Rattle.account_spec.specs.Account.{impossible}
use Rattle.account_spec.specs.Rules.{feed_of}
use Rattle.account_spec.specs.Reading.{read_of}
use Rattle.stored.specs.Layout.{take_up_of}
use Rattle.stored.specs.declared.answers.Tried.{Tried}
use Rattle.stored.specs.Code.{code_of, code_of_row}
use Rattle.stored.specs.Reading.{readout_of, no_trial}
use Rattle.trial.specs.Trial.{next_of}
use Rattle.trial.specs.Taking.{answer_in, take_with}
use Rattle.stored.specs.TrialLayout.{Contents, answer_carried, trial_width, trial_bytes}
use Rattle.stored.specs.TrialLayout.{contents_in}
use Rattle.part.specs.Calls.{LeavesBytes, fed_in, FeedsBytes, read_in}

-- ---- trying a line

-- the code that the line would get, the account, and the one that would follow
abbrev pub contents_by : Account → List ℕ → Contents
contents_by a line = record { code = code_of (feed_of a line); tried = a; next = next_of a line }

-- row 13 where the bytes hold no account, row 12 where the buffer is too short for a trial
unfoldable pub tried_in : List ℕ → List ℕ → ℕ → Outcome Contents
tried_in account line room =
    onward (take_up_of account)
    (λ a. row 12 (nat_lt room trial_width) (accepted (contents_by a line)))

-- on a refusal its code, and zeros
abbrev pub tried_of : Outcome Contents → Tried
tried_of (accepted c) = record { code = 0; answer = c.code; reading = readout_of (read_of c.next) }
tried_of (refused r) = no_trial (code_of_row r)

-- past the trial untouched, on a refusal all of it
abbrev pub trial_after : List ℕ → Outcome Contents → List ℕ
trial_after before (accepted c) = trial_bytes c ++ drop trial_width before
trial_after before (refused r) = before

-- the bytes left are taken up as the trial, which carries what feeding the line gives
pub record TriesBytes (account line before : List ℕ) (answer : Tried)
    (after : List ℕ) : Type 0 where
  pub answers : answer ≡ tried_of (tried_in account line (length before))
  pub leaves : after ≡ trial_after before (tried_in account line (length before))
  pub holds :
      (c : Contents) → tried_in account line (length before) ≡ accepted c →
      contents_in after ≡ accepted c
  pub carries :
      (c : Contents) → tried_in account line (length before) ≡ accepted c →
      answer_carried c ≡ fed_in account line

-- ---- taking a trial

-- by an account: row 13 where the bytes hold no trial, then as `take`
abbrev pub taken_from : List ℕ → Account → Outcome Account
taken_from trial a = onward (contents_in trial) (λ c. take_with a c.tried (answer_carried c))

-- by the account that stands in bytes, row 13 where they hold none
unfoldable pub taken_in : List ℕ → List ℕ → Outcome Account
taken_in account trial = onward (take_up_of account) (taken_from trial)

abbrev pub TakesBytes : List ℕ → List ℕ → ℕ → List ℕ → Type 0
TakesBytes account trial answer after = LeavesBytes account (taken_in account trial) answer after

-- ---- what holds of both

-- taking it was feeding the line, with the answer and the reading that the trial gave
pub record TakenAsFed (account line : List ℕ) (tried : Tried) (answer : ℕ)
    (after : List ℕ) : Type 0 where
  pub feeds : FeedsBytes account line answer after
  pub answered : answer ≡ tried.answer
  pub read : readout_of (read_in after) ≡ tried.reading

pub record TrialBytesPromise : Type 0 where
  -- a trial of the account in some bytes, taken with bytes that hold the same account
  pub taken :
      (tried line before trial : List ℕ) (made : Tried) → TriesBytes tried line before made trial →
      made.code ≡ 0 →
      (account : List ℕ) → take_up_of account ≡ take_up_of tried → (answer : ℕ) (after : List ℕ) →
      TakesBytes account trial answer after →
      TakenAsFed account line made answer after
  -- with any other account it is row 13, else row 16
  pub other :
      (account trial : List ℕ) (a : Account) (c : Contents) → take_up_of account ≡ accepted a →
      contents_in trial ≡ accepted c → (a ≡ c.tried → ⊥) →
      taken_in account trial ≡ row 13 (impossible a) (refused (16, 0))
  -- bytes that hold no trial are row 13
  pub none : (account trial : List ℕ) (w : ℕ × ℕ) → contents_in trial ≡ refused w →
      taken_in account trial ≡ refused (13, 0)
  -- bytes made otherwise that hold this account as the tried one: the answer that they carry, or
  -- row 13 for an account in it that no season gives
  pub carries : (account trial : List ℕ) (c : Contents) →
      take_up_of account ≡ accepted c.tried → contents_in trial ≡ accepted c →
      impossible c.tried ≡ false → taken_in account trial ≡ answer_in (answer_carried c)
