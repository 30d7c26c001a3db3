-- A header that passes its rows is taken by a fresh account, written in 20 bytes and read back as
-- itself.
use Prim.Native.Nat.{ℕ, ◌≤◌}
use mathlib.Core.Path.{◌≡◌, refl, ◌∙◌}
use mathlib.Core.List.{List}
use borrow.Author.Tests.{le-ltb}
use lib.ListN.{length}
use Rattle.frames.specs.declared.records.Header.{Header}
use Rattle.frames.specs.declared.records.Raw.{Raw}
use Rattle.frames.specs.declared.records.Record.{Record}
use Rattle.frames.specs.Answers.{accepted}
use Rattle.frames.specs.Ranges.{checked}
use Rattle.frames.specs.Layout.{frame_of, frame_line}
use Rattle.frames.specs.Frames.{parsed_of, sound_of, record_of}
use Rattle.frames.proofs.RangeLaws.{checked-passed}
use Rattle.frames.specs.Writer.{text_of, write_of}
use Rattle.frames.proofs.WidthLaws.{range-fits}
use Rattle.frames.proofs.LineLaws.{line-parsed, line_frame}
use Rattle.frames.proofs.RoundTrip.{round_trip}
use Rattle.account_spec.specs.Account.{fresh_account, impossible}
use Rattle.account_spec.specs.Rules.{due_of, turn_of, state_of, opened, answer_of, entered, feed_of}
use Rattle.dates.specs.Promise.{HeaderKept}

module _ (h : Header) (sound : checked (Record.Header h) ≡ accepted tt) where
  abbrev made : Record
  made = Record.Header h

  line-is : parsed_of (frame_line made) ≡ accepted (Raw.Header h)
  unfolding frame_of
  line-is =
      let fits = range-fits made (checked-passed made sound) tt in
      line-parsed made fits ∙ rw (line_frame made fits) refl

  turn_is : turn_of (state_of fresh_account) (Raw.Header h) ≡ accepted made
  unfolding turn_of due_of record_of sound_of
  turn_is = simp sound

  fed-fresh : feed_of fresh_account (frame_line made) ≡ accepted (opened h)
  unfolding feed_of answer_of impossible entered
  fed-fresh = simp (line-is, turn_is)

  writes-20 : (buffer : List ℕ) → 20 ≤ length buffer → write_of made (length buffer) ≡ accepted 20
  unfolding write_of text_of frame_line
  writes-20 buffer room = simp (sound, le-ltb (length buffer) 20 room)

  pub header-kept : HeaderKept h
  header-kept = record {
    fed = fed-fresh;
    written = writes-20;
    read_back =
        λ buffer tree room. round_trip.read_back made buffer 20 tree tt tt (writes-20 buffer room);
  }
