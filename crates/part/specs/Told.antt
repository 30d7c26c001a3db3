-- Calls of the exports on the bytes of one account, and what each tells its maker.
use Rattle.std.specs.Prelude.{ℕ, ◌*◌, ◌≡◌, List, [], ◌∷◌, take, drop}
use Rattle.account_spec.specs.declared.Account.{Account}
use Rattle.frames.specs.Answers.{accepted}
use Rattle.floats.specs.declared.FloatReadings.{FloatReadings}
use Rattle.stored.specs.Layout.{account_width}
use Rattle.stored.specs.TrialLayout.{contents_in}
use Rattle.stored.specs.declared.answers.Printed.{Printed}
use Rattle.stored.specs.declared.answers.Readout.{Readout}
use Rattle.stored.specs.declared.answers.Tried.{Tried}
use Rattle.stored.specs.Reading.{readout_of}
use Rattle.part.specs.Calls.{FeedsBytes, read_in, printed_line, PrintsBytes}
use Rattle.part.specs.Floats.{FloatsBytes}
use Rattle.part.specs.Lists.{FeedsAllBytes}
use Rattle.part.specs.Trials.{contents_by, TriesBytes, TakesBytes}

-- what was handed in beside the account, then what came back: a code, numbers, a buffer's bytes
pub data Told : Type 0 where
  line_told : (line : List ℕ) (code : ℕ) → Told
  floats_told : (day hour : ℕ) (readings : FloatReadings) (code : ℕ) → Told
  trial_told : (line buffer : List ℕ) (answer : Tried) (trial : List ℕ) → Told
  take_told : (trial : List ℕ) (code : ℕ) → Told
  -- a line to several accounts, of which this is one
  list_told : (accounts line : List ℕ) (code : ℕ) → Told
  reading_told : (answer : Readout) → Told
  print_told : (buffer : List ℕ) (answer : Printed) (text : List ℕ) → Told

-- ---- the bytes of the account, 88, in those that are lent for a call

-- in front: behind it may be anything, as the other accounts of a list
abbrev pub front : List ℕ → List ℕ
front lent = take account_width lent

-- as one of several
abbrev pub at_place : ℕ → List ℕ → List ℕ
at_place i lent = take account_width (drop (account_width * i) lent)

-- ---- one call

-- bytes that hold what trying some line on some account gives
pub record IsMade (trial : List ℕ) : Type 0 where
  pub tried : Account
  pub line : List ℕ
  pub holds : contents_in trial ≡ accepted (contents_by tried line)

-- the account's bytes before it, what it told, the account's bytes after it: tied by what the
-- export promises, and by nothing else. Any bytes are handed in as a trial, but where the take is
-- accepted: then a trial that was made (of others `PartPromise.forged` speaks).
pub data CallTold : List ℕ → Told → List ℕ → Type 0 where
  feeds : (lent after : List ℕ) {line : List ℕ} {code : ℕ} → FeedsBytes lent line code after
      → CallTold (front lent) (line_told line code) (front after)
  feeds_floats : (lent after : List ℕ) {day hour : ℕ} {readings : FloatReadings} {code : ℕ}
      → FloatsBytes lent day hour readings code after
      → CallTold (front lent) (floats_told day hour readings code) (front after)
  tries : (lent : List ℕ) {line buffer trial : List ℕ} {answer : Tried}
      → TriesBytes lent line buffer answer trial
      → CallTold (front lent) (trial_told line buffer answer trial) (front lent)
  takes : (lent after : List ℕ) {trial : List ℕ} {code : ℕ}
      → TakesBytes lent trial code after → (code ≡ 0 → IsMade trial)
      → CallTold (front lent) (take_told trial code) (front after)
  feeds_all : (i : ℕ) (lent after : List ℕ) {line : List ℕ} {code : ℕ}
      → FeedsAllBytes lent line code after
      → CallTold (at_place i lent) (list_told lent line code) (at_place i after)
  reads : (lent : List ℕ) {answer : Readout} → answer ≡ readout_of (read_in lent)
      → CallTold (front lent) (reading_told answer) (front lent)
  prints : (lent : List ℕ) {buffer text : List ℕ} {answer : Printed}
      → PrintsBytes (printed_line lent) buffer answer text
      → CallTold (front lent) (print_told buffer answer text) (front lent)

-- ---- a list of calls: each gets the bytes that the one before left, and nothing else writes them

pub data Calls : List ℕ → List Told → List ℕ → Type 0 where
  stop : {b : List ℕ} → Calls b [] b
  call : {b after left : List ℕ} {t : Told} {ts : List Told}
      → CallTold b t after → Calls after ts left → Calls b (t ∷ ts) left
