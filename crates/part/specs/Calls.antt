-- What each exported call answers and leaves.
use Rattle.std.specs.Prelude.{ℕ, ◌≡◌, List, ◌++◌, length, drop, Result}
use Rattle.frames.specs.declared.records.Refusal.{Refusal}
use Rattle.frames.specs.Answers.{Outcome, accepted, refused, onward, outcome_of}
use Rattle.frames.specs.Buffer.{put_of, buffer_after, Prints}
use Rattle.account_spec.specs.declared.Account.{Account}
use Rattle.account_spec.specs.declared.Totals.{Totals}
use Rattle.account_spec.specs.Rules.{feed_of}
use Rattle.account_spec.specs.Reading.{read_of}
use Rattle.stored.specs.Packing.{total_width}
use Rattle.stored.specs.Layout.{widths, account_bytes, take_up_of}
use Rattle.text_spec.specs.Line.{format_of}
use Rattle.stored.specs.declared.answers.Printed.{Printed}
use Rattle.stored.specs.Code.{code_of}
use Rattle.stored.specs.Writing.{printed_of}

-- ---- storing an account

abbrev stored_in : Account → List ℕ → Outcome ℕ
stored_in a before = put_of (account_bytes a) (length before)

-- row 12 alone; the bytes left are taken up as the account
pub record Stores (a : Account) (before : List ℕ) (answer : ℕ) (after : List ℕ) : Type 0 where
  pub answers : answer ≡ code_of (stored_in a before)
  pub leaves : after ≡ buffer_after (stored_in a before) (account_bytes a) before
  pub holds : answer ≡ 0 → take_up_of after ≡ accepted a

-- ---- the next account of the one that stands in bytes

-- its bytes, past them untouched; on a refusal all of it
abbrev pub bytes_after : List ℕ → Outcome Account → List ℕ
bytes_after before (accepted a) = account_bytes a ++ drop (total_width widths) before
bytes_after before (refused r) = before

-- the code of the outcome; the bytes left are taken up as the account that it gives
pub record LeavesBytes (before : List ℕ) (outcome : Outcome Account) (answer : ℕ)
    (after : List ℕ) : Type 0 where
  pub answers : answer ≡ code_of outcome
  pub leaves : after ≡ bytes_after before outcome
  pub holds : (a : Account) → outcome ≡ accepted a → take_up_of after ≡ accepted a

-- by a line
unfoldable pub fed_in : List ℕ → List ℕ → Outcome Account
fed_in before line = onward (take_up_of before) (λ a. feed_of a line)

abbrev pub FeedsBytes : List ℕ → List ℕ → ℕ → List ℕ → Type 0
FeedsBytes before line answer after = LeavesBytes before (fed_in before line) answer after

-- ---- reading it

unfoldable pub read_in : List ℕ → Outcome Totals
read_in before = onward (take_up_of before) read_of

-- ---- writing a text into a lent buffer

-- what `Prints` answers, as numbers, and leaves
pub record PrintsBytes (text : Outcome (List ℕ)) (before : List ℕ) (answer : Printed)
    (after : List ℕ) : Type 0 where
  pub written : Result ℕ Refusal
  pub prints : Prints text before written after
  pub answers : answer ≡ printed_of (outcome_of written)

unfoldable pub printed_line : List ℕ → Outcome (List ℕ)
printed_line before = onward (take_up_of before) format_of
