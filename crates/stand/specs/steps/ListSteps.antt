-- Serves the code's own steps; no reader need believe it.
-- A list is seen account by account; what is known so far is a tally.
use Rattle.std.specs.Prelude.{ℕ, ◌≡◌, Bool, true, false, not, ◌||◌, List, [], ◌∷◌, drop}
use Rattle.std.specs.Prelude.{if◌then◌else◌}
use Rattle.std.specs.Prelude.{Option, Some, None, is_none, Result, Ok, Err}
use Rattle.trees.specs.declared.Measure.{Measure}
use Rattle.frames.specs.declared.records.Raw.{Raw}
use Rattle.frames.specs.declared.records.Record.{Record}
use Rattle.frames.specs.Answers.{Outcome, accepted, refused, row, onward, reply}
use Rattle.frames.specs.Answers.{row_of}
use Rattle.frames.specs.Checked.{checked_as}
use Rattle.frames.specs.Numbers.{same_numbers}
use Rattle.account_spec.specs.declared.Account.{Account}
use Rattle.account_spec.specs.HourKinds.{kind_number}
use Rattle.account_spec.specs.Account.{phase_number, impossible}
use Rattle.account_spec.specs.Rules.{out_of_turn, turn_of, entered, state_of, unread_row}
use Rattle.account_spec.specs.Rules.{feed_frame_of}
use Rattle.account.specs.steps.Account.{IsRead}
use Rattle.text_spec.specs.declared.Stop.{Stop}
use Rattle.text_spec.specs.Lines.{lines_of}
use Rattle.stand.specs.Alike.{common_numbers}
use Rattle.stand.specs.Feeding.{size_out}
use Rattle.stand.specs.Text.{TextFed, stopped_at, lines_fed, feed_text_of}
use Rattle.stand.specs.declared.alike.Common.{Common}
use Rattle.stand.specs.declared.tally.Tally.{Tally}
use Rattle.stand.specs.declared.place.Place.{Place}

-- an account fed a line that is parsed already
abbrev pub fed_by : Outcome Raw → Account → Outcome Account
fed_by (accepted frame) a = feed_frame_of a frame
fed_by (refused w) a = refused (unread_row a w)

-- ---- the tally

abbrev measure_as : Option Measure → ℕ
measure_as (Some Measure.Suction) = 1
measure_as (Some Measure.Water) = 2
measure_as None = 0

abbrev pub common_as : Common → List ℕ
common_as c =
    c.days ∷ c.first ∷ c.last ∷ c.hours ∷ phase_number c.phase ∷ c.ceiling ∷ kind_number c.kind
    ∷ measure_as c.measure ∷ []

abbrev no_numbers : List ℕ
no_numbers = 0 ∷ 0 ∷ 0 ∷ 0 ∷ 0 ∷ 0 ∷ 0 ∷ 0 ∷ []

abbrev pub first_as : Option Common → List ℕ
first_as (Some c) = common_as c
first_as None = no_numbers

-- what a tally says, the line's answer by its row
pub record Tallied : Type 0 where
  pub size_is_out : Bool
  pub an_impossible : Bool
  pub an_unlike : Bool
  pub none : Bool
  pub first : List ℕ
  pub line : Outcome Record

abbrev pub tallied_as : Tally → Tallied
tallied_as t = record {
  size_is_out = t.outside;
  an_impossible = t.impossible;
  an_unlike = t.unlike;
  none = is_none t.first;
  first = first_as t.first;
  line = checked_as t.line;
}

abbrev pub tally_start : ℕ → Tallied
tally_start n = record {
  size_is_out = size_out n;
  an_impossible = false;
  an_unlike = false;
  none = true;
  first = no_numbers;
  line = refused (22, 0);
}

abbrev pub first_common : Tallied → List ℕ → List ℕ
first_common t own = if t.none then own else t.first

-- the first account reads the line; of every other one, alike to it, only row 4 is asked
abbrev pub one_line : Outcome Raw → Account → Outcome Record
one_line parsed a = onward parsed (turn_of (state_of a))

abbrev pub next_line : Outcome Raw → Outcome Record → Account → Outcome Record
next_line parsed (refused w) a = refused w
next_line (accepted frame) (accepted r) a = row 4 (out_of_turn (state_of a) frame) (accepted r)
next_line (refused w) (accepted r) a = accepted r

abbrev pub tallied_line : Outcome Raw → Tallied → Account → Outcome Record
tallied_line parsed t a = if t.none then one_line parsed a else next_line parsed t.line a

-- after one more account
abbrev pub seen_of : Outcome Raw → Tallied → Account → Tallied
seen_of parsed t a = record {
  size_is_out = t.size_is_out;
  an_impossible = t.an_impossible || impossible a;
  an_unlike =
      t.an_unlike || not (same_numbers (first_common t (common_numbers a)) (common_numbers a));
  none = false;
  first = first_common t (common_numbers a);
  line = tallied_line parsed t a;
}

abbrev pub seen_all : Outcome Raw → Tallied → List Account → Tallied
seen_all parsed t [] = t
seen_all parsed t (a ∷ xs) = seen_all parsed (seen_of parsed t a) xs

-- the rows of the list alone: 22, then 13 and 23
abbrev pub fit_of : Tallied → Outcome Unit
fit_of t = row 22 t.size_is_out (row 13 t.an_impossible (row 23 t.an_unlike (accepted tt)))

-- these, then the row of the line
abbrev pub settled_of : Tallied → Outcome Unit
settled_of t = row 22 t.size_is_out (row 13 t.an_impossible (row 23 t.an_unlike (reply t.line)))

-- what each account is once none has refused: possible, and it reads the line as the record
abbrev pub Ready : Outcome Unit → Outcome Record → Account → Type 0
Ready (refused w) line a = Unit
Ready (accepted u) (refused w) a = Unit
Ready (accepted u) (accepted r) a = (impossible a ≡ false) × IsRead a r

-- what is stored by the answer and the record: itself where one refused
abbrev pub Keeps : Outcome Unit → Outcome Record → Account → Account → Type 0
Keeps (refused w) line a b = b ≡ a
Keeps (accepted u) (refused w) a b = b ≡ a
Keeps (accepted u) (accepted r) a b = b ≡ entered a r

-- ---- a text

-- what is left to feed of a text, past the frames that open its own account
abbrev opened_as : List Account → List ℕ → Result Place Stop → TextFed
opened_as xs text (Ok p) = lines_fed xs p.line (lines_of (drop p.at text))
opened_as xs text (Err s) = stopped_at xs (row_of s.refusal) s.line

-- whatever the list
abbrev pub Opens : List ℕ → Result Place Stop → Type 0
Opens text r = (xs : List Account) → opened_as xs text r ≡ feed_text_of xs text
