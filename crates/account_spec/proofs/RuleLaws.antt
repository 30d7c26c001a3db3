-- The answers to a line and to a reading, by what each test says.
use Rattle.std.specs.Prelude.{Result, Ok, Err}
use mathlib.Core.Path.{◌≡◌, refl}
use mathlib.Core.Bool.{Bool, true, false}
use Prim.Native.Nat.{ℕ}
use mathlib.Core.List.{List}
use native.Mathlib.Omega.{arith}
use Rattle.trees.specs.declared.Warmth.{Warmth}
use Rattle.frames.specs.declared.records.Header.{Header}
use Rattle.frames.specs.declared.records.Raw.{Raw}
use Rattle.frames.specs.declared.records.RawHour.{RawHour}
use Rattle.frames.specs.declared.records.End.{End}
use Rattle.frames.specs.declared.records.Ceiling.{Ceiling}
use Rattle.frames.specs.declared.records.Record.{Record}
use Rattle.frames.specs.declared.records.Refusal.{Refusal}
use Rattle.frames.specs.Answers.{accepted, refused, row_of, outcome_of}
use Rattle.trees.specs.declared.measured.Parameters.{Parameters}
use Rattle.frames.proofs.AnswerLaws.{row-passed, onward-passed}
use Rattle.frames.specs.Parameters.{parameter_out}
use Rattle.frames.specs.Ranges.{checked, lacks_ceiling, ramps_out}
use Rattle.frames.specs.Layout.{ozone_of}
use Rattle.frames.specs.Frames.{parsed_of, sound_of, record_of}
use Rattle.account_spec.specs.declared.Account.{Account}
use Rattle.account_spec.specs.declared.State.{State}
use Rattle.account_spec.specs.HourKinds.{is_mixed}
use Rattle.account_spec.specs.Account.{impossible}
use Rattle.account_spec.specs.Rules.{is_due, count_wrong, due_of, answer_of, feed_of, unread_row}
use Rattle.account_spec.specs.Rules.{feed_frame_of, Answers, Feeds, Fed}

-- ---- a header's rows; row 15, then 9 and 18, before row 10; row 11; row 17; row 25; row 24, then
-- 7

module _ (s : State) where
  pub header-in :
      (h : Header) → record_of s.season.header.tree (Raw.Header h) ≡ due_of s (Raw.Header h)
  unfolding due_of
  header-in h = refl

  module _ (raw : RawHour) where
    pub lacks-out :
        is_mixed s.kind raw.air ≡ false → is_due s raw ≡ true →
        lacks_ceiling s.season.ceiling (ozone_of raw.ozone) ≡ true →
        refused (18, 0) ≡ due_of s (Raw.Hour raw)
    unfolding due_of
    lacks-out one due e = rw (one, due, e)

    pub due_in :
        is_mixed s.kind raw.air ≡ false → is_due s raw ≡ true →
        lacks_ceiling s.season.ceiling (ozone_of raw.ozone) ≡ false →
        record_of s.season.header.tree (Raw.Hour raw) ≡ due_of s (Raw.Hour raw)
    unfolding due_of
    due_in one due e = rw (one, due, e)

    -- what an hour that is accepted has passed
    pub record HourPassed (r : Record) : Type 0 where
      pub one-kind : is_mixed s.kind raw.air ≡ false
      pub due : is_due s raw ≡ true
      pub has : lacks_ceiling s.season.ceiling (ozone_of raw.ozone) ≡ false
      pub is : record_of s.season.header.tree (Raw.Hour raw) ≡ accepted r

    pub hour-passed : (r : Record) → due_of s (Raw.Hour raw) ≡ accepted r → HourPassed r
    unfolding due_of
    hour-passed r e = grind arith

  module _ (x : End) where
    pub count-in :
        count_wrong s x.hours ≡ false →
        record_of s.season.header.tree (Raw.End x) ≡ due_of s (Raw.End x)
    unfolding due_of record_of sound_of checked
    count-in e = rw e

  pub ceiling-in :
      (c : Ceiling) → record_of s.season.header.tree (Raw.Ceiling c) ≡ due_of s (Raw.Ceiling c)
  unfolding due_of
  ceiling-in c = refl

  pub warmth-in :
      (w : Warmth) → record_of s.season.header.tree (Raw.Warmth w) ≡ due_of s (Raw.Warmth w)
  unfolding due_of
  warmth-in w = refl

  module _ (p : Parameters) where
    pub parameters-out : parameter_out p ≡ true → refused (24, 0) ≡ due_of s (Raw.Parameters p)
    unfolding due_of record_of sound_of checked
    parameters-out e = rw e

    module _ (sound : parameter_out p ≡ false) where
      pub ramps-out :
          ramps_out s.season.header p ≡ true → refused (7, 0) ≡ due_of s (Raw.Parameters p)
      unfolding due_of record_of sound_of checked
      ramps-out e = rw (sound, e)

      pub ramps-in :
          ramps_out s.season.header p ≡ false →
          record_of s.season.header.tree (Raw.Parameters p) ≡ due_of s (Raw.Parameters p)
      unfolding due_of record_of sound_of checked
      ramps-in e = rw (sound, e)

    -- what parameters that are accepted have passed
    pub record ParametersPassed (r : Record) : Type 0 where
      pub same : Record.Parameters p ≡ r
      pub sound : parameter_out p ≡ false
      pub ramps : ramps_out s.season.header p ≡ false

    pub parameters-passed :
        (r : Record) → due_of s (Raw.Parameters p) ≡ accepted r → ParametersPassed r
    unfolding due_of record_of sound_of checked
    parameters-passed r e = grind arith

-- ---- feeding

module _ (a : Account) (frame : Raw) where
  pub answers-impossible :
      impossible a ≡ true → Answers a (feed_frame_of a frame) (Err (Refusal.Account, a))
  unfolding feed_frame_of
  answers-impossible e = record { answers = rw e; leaves = rw e }

-- a line is its frame, or refused by rows 1 to 3
module _ (a : Account) (l : List ℕ) (p : Result Raw Refusal)
    (parsed : outcome_of p ≡ parsed_of l) where
  pub frame-feeds :
      (frame : Raw) (r : Fed) → p ≡ Ok frame → Answers a (feed_frame_of a frame) r → Feeds a l r
  unfolding feed_of answer_of feed_frame_of
  frame-feeds frame r e k = rw (← parsed, e) k

  unread-by :
      (t : Bool) (s r : Refusal) → impossible a ≡ t → p ≡ Err s →
      row_of r ≡ unread_row a (row_of s) → Feeds a l (Err (r, a))
  unfolding feed_of answer_of
  unread-by true s r i e k =
      record { answers = rw (← parsed, e, k, i) refl; leaves = rw (← parsed, e, i) refl }
  unread-by false s r i e k =
      record { answers = rw (← parsed, e, k, i) refl; leaves = rw (← parsed, e, i) refl }

  pub unread-feeds :
      (s r : Refusal) → p ≡ Err s → row_of r ≡ unread_row a (row_of s) → Feeds a l (Err (r, a))
  unread-feeds s r e k = unread-by (impossible a) s r refl e k

-- a line that is fed has a frame
pub fed-parsed :
    (a : Account) (l : List ℕ) (next : Account) → feed_of a l ≡ accepted next →
    (frame : Raw) × (parsed_of l ≡ accepted frame)
unfolding feed_of answer_of
fed-parsed a l next e =
    let passed = row-passed (impossible a) _ _ next e in
    let record_is = onward-passed _ _ next passed.1 in
    let frame_is = onward-passed (parsed_of l) _ record_is.0 record_is.1 in
    (frame_is.0, frame_is.1)
