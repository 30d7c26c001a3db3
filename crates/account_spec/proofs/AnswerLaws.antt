-- A state that takes an hour line without ozone takes it with a number in ozone's place too.
use Prim.Native.Nat.{ℕ, ◌≤◌}
use mathlib.Core.Path.{◌≡◌, refl, sym, ap, ◌∙◌}
use mathlib.Core.Bool.{true, false, false≢true}
use mathlib.Core.List.{List}
use native.Mathlib.Omega.{arith}
use Rattle.trees.specs.declared.Measure.{Measure}
use Rattle.frames.specs.declared.records.Hour.{Hour}
use Rattle.frames.specs.declared.records.Raw.{Raw}
use Rattle.frames.specs.declared.records.RawHour.{RawHour}
use Rattle.frames.specs.declared.records.Record.{Record}
use Rattle.frames.specs.Ozone.{is_missing, with_ozone}
use Rattle.frames.specs.Answers.{Outcome, accepted, refused}
use Rattle.frames.proofs.AnswerLaws.{row-passed}
use Rattle.frames.specs.Layout.{ozone_of, hour_of}
use Rattle.frames.specs.Frames.{parsed_of, record_of}
use Rattle.frames.proofs.ReadLaws.{hour-read}
use Rattle.account_spec.specs.declared.Phase.{Phase}
use Rattle.account_spec.specs.declared.State.{State}
use Rattle.account_spec.specs.HourKinds.{is_mixed}
use Rattle.account_spec.specs.Rules.{turn_in, out_of_turn, is_due, turn_of, answer_of}
use Rattle.account_spec.proofs.RuleLaws.{due_in, HourPassed, hour-passed}
use Rattle.account_spec.specs.Lines.{line_with, lacks_ozone}
use Rattle.account_spec.proofs.LineLaws.{hour-inside, line-filled}

-- the hour line that lacks ozone
record Lacking (l : List ℕ) : Type 0 where
  raw : RawHour
  parsed : parsed_of l ≡ accepted (Raw.Hour raw)
  missing : is_missing (ozone_of raw.ozone) ≡ true

lacking-by : (l : List ℕ) (o : Outcome Raw) → parsed_of l ≡ o → lacks_ozone l ≡ true → Lacking l
unfolding lacks_ozone
lacking-by l (accepted (Raw.Header h)) e k = absurd (false≢true (rw e at k))
lacking-by l (accepted (Raw.Hour raw)) e k = record { raw = raw; parsed = e; missing = rw e at k }
lacking-by l (accepted (Raw.End x)) e k = absurd (false≢true (rw e at k))
lacking-by l (accepted (Raw.Ceiling c)) e k = absurd (false≢true (rw e at k))
lacking-by l (accepted (Raw.Parameters p)) e k = absurd (false≢true (rw e at k))
lacking-by l (accepted (Raw.Warmth w)) e k = absurd (false≢true (rw e at k))
lacking-by l (refused w) e k = absurd (false≢true (rw e at k))

-- an hour's turn does not go by what it says
turn-same :
    (p : Phase) (s : State) (x y : RawHour) → turn_in p s (Raw.Hour x) ≡ turn_in p s (Raw.Hour y)
turn-same p s x y = grind arith

-- the same day, hour and air, and ozone is read: all that rows 4, 15, 9 and 18 go by
record Alike (x y : RawHour) : Type 0 where
  day : y.day ≡ x.day
  hour : y.hour ≡ x.hour
  air : y.air ≡ x.air
  has : is_missing (ozone_of y.ozone) ≡ false

-- frames whose hours are the same but for ozone
hours-alike :
    (x y : RawHour) (m k : Measure) (n : ℕ) → hour_of y k ≡ with_ozone n (hour_of x m) → Alike x y
unfolding hour_of
hours-alike x y m k n e = grind arith

module _ (s : State) (x : RawHour) (q : Record) (e : turn_of s (Raw.Hour x) ≡ accepted q) where
  in-turn : out_of_turn s (Raw.Hour x) ≡ false
  unfolding turn_of
  in-turn = grind arith

  passed : HourPassed s x q
  unfolding turn_of
  passed = hour-passed s x q (row-passed (out_of_turn s (Raw.Hour x)) _ _ q e).1

  -- taken with one, taken with the other
  turn-alike :
      (y : RawHour) (r : Record) → Alike x y →
      record_of s.season.header.tree (Raw.Hour y) ≡ accepted r → turn_of s (Raw.Hour y) ≡ accepted r
  unfolding turn_of
  turn-alike y r alike is =
      let one : is_mixed s.kind y.air ≡ false = rw alike.air passed.one-kind in
      let due : is_due s y ≡ true = rw (alike.day, alike.hour) passed.due in
      rw (turn-same s.phase s y x, in-turn) (sym (due_in s y one due (rw alike.has refl)) ∙ is)

pub record AnswerFilled (s : State) (n : ℕ) (l : List ℕ) (r : Record) : Type 0 where
  pub hour : Hour
  pub is : r ≡ Record.Hour hour
  pub missing : is_missing hour.ozone ≡ true
  pub answer : answer_of s (line_with n l) ≡ accepted (Record.Hour (with_ozone n hour))

pub answer-filled :
    (s : State) (n : ℕ) (l : List ℕ) (r : Record) → n ≤ 5000 → lacks_ozone l ≡ true →
    answer_of s l ≡ accepted r → AnswerFilled s n l r
unfolding answer_of hour_of
answer-filled s n l r small lacks e =
    let tree = s.season.header.tree in
    let lacking = lacking-by l (parsed_of l) refl lacks in
    let raw = lacking.raw in
    let turned : turn_of s (Raw.Hour raw) ≡ accepted r = rw lacking.parsed at e in
    let is = (passed s raw r turned).is in
    let read = hour-read tree raw r is in
    let h = hour_of raw read.figures.measure in
    let filled =
    line-filled tree n l raw h small lacking.parsed (is ∙ ap accepted (sym read.is.same)) in
    let again = hour-read tree filled.raw (Record.Hour (with_ozone n h)) filled.read in
    let alike =
    hours-alike raw filled.raw read.figures.measure again.figures.measure n
    (hour-inside {g = hour_of filled.raw again.figures.measure} again.is.same) in
    record {
      hour = h;
      is = sym read.is.same;
      missing = lacking.missing;
      answer = rw filled.parsed (turn-alike s raw r turned filled.raw _ alike filled.read);
    }
