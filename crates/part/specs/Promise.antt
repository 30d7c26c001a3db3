-- The promise of the season, over the exports: one claim about every list of calls on the bytes of
-- one account, from `pod1_fresh` on.
use Rattle.std.specs.Prelude.{ℕ, ◌≤◌, ◌<◌, ◌≡◌, false, List, [], ◌∷◌, ◌++◌, length, drop, Ok}
use Rattle.frames.specs.declared.records.Hour.{Hour}
use Rattle.frames.specs.declared.records.Record.{Record}
use Rattle.frames.specs.Answers.{accepted, refused}
use Rattle.frames.specs.Ranges.{checked}
use Rattle.frames.specs.Layout.{air_kind, frame_line}
use Rattle.frames.specs.RoundTrip.{InWidth}
use Rattle.account_spec.specs.declared.Account.{Account}
use Rattle.account_spec.specs.declared.Totals.{Totals}
use Rattle.account_spec.specs.Account.{fresh_account, impossible}
use Rattle.account_spec.specs.Rules.{fed_as, Fed}
use Rattle.account_spec.specs.Runs.{Event, fed, taken, account_after, TakesAll}
use Rattle.account_spec.specs.FillingPromise.{accepted_lines, FillingPromise}
use Rattle.stand.specs.Promise.{RunKept}
use Rattle.text_spec.specs.Line.{totals_line}
use Rattle.floats.specs.declared.FloatReadings.{FloatReadings}
use Rattle.floats.specs.Numbers.{wholes_in}
use Rattle.floats.specs.Feeding.{feed_floats_of}
use Rattle.floats.specs.Promise.{AreWhole}
use Rattle.stored.specs.Layout.{account_width, take_up_of}
use Rattle.stored.specs.TrialLayout.{Contents, trial_width, trial_bytes, contents_in}
use Rattle.stored.specs.Feeding.{fed_listed_of}
use Rattle.stored.specs.declared.answers.Printed.{Printed}
use Rattle.stored.specs.declared.answers.Readout.{Readout}
use Rattle.stored.specs.declared.answers.Tried.{Tried}
use Rattle.stored.specs.Code.{code_of, code_of_row}
use Rattle.stored.specs.Reading.{readout_of, no_trial}
use Rattle.part.specs.Calls.{Stores, PrintsBytes}
use Rattle.part.specs.Trials.{contents_by, taken_from, TakesBytes}
use Rattle.part.specs.Told.{Told, line_told, floats_told, trial_told, take_told, list_told}
use Rattle.part.specs.Told.{reading_told, print_told, front, IsMade, Calls}
use Rattle.part.specs.Shown.{ShownRun}

-- ---- the account that the events so far left

abbrev pub account_now : List Event → Account
account_now done = account_after fresh_account done

-- ---- what a call tells is what the season's next events say; `RunKept`: some events keep the book

-- an hour of kind 02, in range or without ozone, whose numbers the floats are
pub record SaysHour (day hour : ℕ) (readings : FloatReadings) (h : Hour) : Type 0 where
  pub at_day : h.day ≡ day
  pub at_hour : h.hour ≡ hour
  pub numbers : AreWhole readings (wholes_in h)
  pub kind : air_kind h.air ≡ 2
  pub in_range : checked (Record.Hour h) ≡ accepted tt
  -- its line has room for the day and the hour
  pub in_width : InWidth (Record.Hour h)

-- trying a line tells its answer and the reading after it, as if the season had gone on so; the
-- trial is made of this account and line
pub record TrialTold (done : List Event) (line buffer : List ℕ) (answer : Tried) (trial : List ℕ)
    : Type 0 where
  pub fed_so : Fed
  pub totals : Totals
  pub kept : RunKept (done ++ fed line fed_so ∷ taken (Ok totals) ∷ [])
  pub code : answer.code ≡ 0
  pub tells : answer.answer ≡ code_of (fed_as fed_so)
  pub reads : answer.reading ≡ readout_of (accepted totals)
  pub leaves : trial ≡ trial_bytes (contents_by (account_now done) line) ++ drop trial_width buffer
  pub holds : contents_in trial ≡ accepted (contents_by (account_now done) line)

-- this line would be refused by that row, and the season kept with it
pub record LineRefused (done : List Event) (line : List ℕ) (row : ℕ × ℕ) : Type 0 where
  pub fed_so : Fed
  pub kept : RunKept (done ++ fed line fed_so ∷ [])
  pub answers : fed_as fed_so ≡ refused row

-- the events so far, what the call told, the events that it adds
pub data Telling (done : List Event) : Told → List Event → Type 0 where
  line : {l : List ℕ} {code : ℕ} {r : Fed} → code ≡ code_of (fed_as r)
      → Telling done (line_told l code) (fed l r ∷ [])
  -- an hour of floats that is taken is its line of kind 02, taken; a refused one leaves the season,
  -- and the row is that of its numbers, never 13; whole and in range it is the row of its line
  floats : {day hour : ℕ} {readings : FloatReadings} {code : ℕ} {h : Hour} {a : Account}
      → SaysHour day hour readings h → code ≡ 0
      → Telling done (floats_told day hour readings code)
      (fed (frame_line (Record.Hour h)) (Ok a) ∷ [])
  floats_refused : {day hour : ℕ} {readings : FloatReadings} {code : ℕ} {row : ℕ × ℕ}
      → feed_floats_of (account_now done) day hour readings ≡ refused row → code ≡ code_of_row row
      → ((field : ℕ) → row ≡ (13, field) → ⊥)
      → ((h : Hour) → SaysHour day hour readings h
      → LineRefused done (frame_line (Record.Hour h)) row)
      → Telling done (floats_told day hour readings code) []
  -- a trial leaves the season; row 12 where its buffer is too short
  trial : {l buffer bytes : List ℕ} {answer : Tried} → TrialTold done l buffer answer bytes
      → Telling done (trial_told l buffer answer bytes) []
  trial_short : {l buffer bytes : List ℕ} {answer : Tried}
      → length buffer < trial_width → answer ≡ no_trial 12 → bytes ≡ buffer
      → Telling done (trial_told l buffer answer bytes) []
  -- a trial that is taken is its line, made of this account and taken; a refused one, whatever its
  -- bytes, leaves the season; row 13 comes up only for bytes that no line made, and a line's trial
  -- of this account gets the row of the line
  take : {l bytes : List ℕ} {code : ℕ} {a : Account}
      → contents_in bytes ≡ accepted (contents_by (account_now done) l) → code ≡ 0
      → Telling done (take_told bytes code) (fed l (Ok a) ∷ [])
  take_refused : {bytes : List ℕ} {code : ℕ} {row : ℕ × ℕ}
      → taken_from bytes (account_now done) ≡ refused row → code ≡ code_of_row row
      → (IsMade bytes → (field : ℕ) → row ≡ (13, field) → ⊥)
      → ((l : List ℕ) → contents_in bytes ≡ accepted (contents_by (account_now done) l)
      → LineRefused done l row)
      → Telling done (take_told bytes code) []
  -- a line that several take is one that this account takes; refused by any it leaves the season
  list : {lent l : List ℕ} {code : ℕ} {a : Account} → code ≡ 0
      → Telling done (list_told lent l code) (fed l (Ok a) ∷ [])
  list_refused : {lent l : List ℕ} {code : ℕ} {row : ℕ × ℕ}
      → fed_listed_of lent l ≡ refused row → code ≡ code_of_row row
      → Telling done (list_told lent l code) []
  reading : {answer : Readout} {t : Totals} → answer ≡ readout_of (accepted t)
      → Telling done (reading_told answer) (taken (Ok t) ∷ [])
  -- an account's line is the text of a reading
  print : {buffer text : List ℕ} {answer : Printed} {t : Totals}
      → PrintsBytes (accepted (totals_line t)) buffer answer text
      → Telling done (print_told buffer answer text) (taken (Ok t) ∷ [])

-- call by call, from the events so far to all
pub data Tellings : List Event → List Told → List Event → Type 0 where
  stop : {done : List Event} → Tellings done [] done
  call : {done more all : List Event} {t : Told} {ts : List Told}
      → Telling done t more → Tellings (done ++ more) ts all → Tellings done (t ∷ ts) all

-- ---- the whole list

-- the calls tell a season: its events keep the book, their accepted lines fed alone leave the same
-- account, and the bytes left hold it
pub record SeasonTold (ts : List Told) (left : List ℕ) : Type 0 where
  pub events : List Event
  pub told : Tellings [] ts events
  pub kept : RunKept events
  pub alone : TakesAll fresh_account (accepted_lines events) (account_now events)
  pub holds : take_up_of left ≡ accepted (account_now events)

-- an accepted trial, whatever made it: it held this account as the tried one, and the bytes now
-- hold the account that it carried, which row 13 lets pass
pub record ForgedTaken (events : List Event) (trial after : List ℕ) : Type 0 where
  pub contents : Contents
  pub holds : contents_in trial ≡ accepted contents
  pub tried : contents.tried ≡ account_now events
  pub accepts : contents.code ≡ 0
  pub possible : impossible contents.next ≡ false
  pub left : take_up_of after ≡ accepted contents.next

pub record PartPromise : Type 0 where
  -- calls on the account's bytes, of which `pod1_fresh` left the first
  pub season : (room begun left : List ℕ) (ts : List Told) → Stores fresh_account room 0 begun
      → Calls (front begun) ts left → SeasonTold ts left
  -- a trial that no line made may be taken too: of what follows the book can say nothing, of the
  -- calls before it all that it says
  pub forged : (room begun lent trial after : List ℕ) (ts : List Told)
      → Stores fresh_account room 0 begun → Calls (front begun) ts (front lent)
      → TakesBytes lent trial 0 after
      → (s : SeasonTold ts (front lent)) × ForgedTaken s.events trial after
  -- what filling brings, of the lines that a season's events took
  pub filling : FillingPromise
  -- there are such calls: a small run of them
  pub shown : (room buffer paper : List ℕ) → account_width ≤ length room
      → trial_width ≤ length buffer → 18 ≤ length paper → ShownRun room buffer paper
