-- An account that row 13 lets pass is fed as its frame, and a line as its frame.
use Rattle.std.specs.Prelude.{Ok, Err}
use Prim.Native.Nat.{ℕ}
use mathlib.Core.Path.{◌≡◌, refl, ap}
use mathlib.Core.Bool.{true, false}
use mathlib.Core.List.{List}
use Rattle.frames.specs.declared.records.Raw.{Raw}
use Rattle.frames.specs.declared.records.Record.{Record}
use Rattle.frames.specs.declared.records.Refusal.{Refusal}
use Rattle.frames.specs.Answers.{Outcome, accepted, refused, row_of}
use Rattle.frames.proofs.AnswerLaws.{accepted-same, row-passed, onward-passed}
use Rattle.frames.specs.Frames.{parsed_of}
use Rattle.account_spec.specs.declared.Account.{Account}
use Rattle.account_spec.specs.Account.{impossible}
use Rattle.account_spec.specs.Rules.{
  turn_of,
  answer_of,
  state_of,
  entered,
  feed_of,
  feed_frame_of,
  left_of,
  Answers,
  Feeds,
}
use Rattle.account.specs.steps.Account.{IsRead}

-- ---- an answer that leaves the account as it is where it refuses

module _ (a : Account) (o : Outcome Account) where
  pub answers-next : (b : Account) → accepted b ≡ o → Answers a o (Ok b)
  answers-next b e = record { answers = e; leaves = ap (left_of a) e }

  pub answers-same : (w : Refusal) → refused (row_of w) ≡ o → Answers a o (Err (w, a))
  answers-same w e = record { answers = e; leaves = ap (left_of a) e }

-- ---- the rows

pub line-impossible :
    (a : Account) (l : List ℕ) → impossible a ≡ true → Feeds a l (Err (Refusal.Account, a))
unfolding feed_of
line-impossible a l e = record { answers = rw e; leaves = rw e }

module _ (a : Account) (possible : impossible a ≡ false) where
  module _ (frame : Raw) where
    pub frame-entered :
        (r : Record) → turn_of (state_of a) frame ≡ accepted r →
        accepted (entered a r) ≡ feed_frame_of a frame
    unfolding feed_frame_of
    frame-entered r e = rw (possible, e) refl

    pub frame-refused :
        (w : ℕ × ℕ) → turn_of (state_of a) frame ≡ refused w → refused w ≡ feed_frame_of a frame
    unfolding feed_frame_of
    frame-refused w e = rw (possible, e) refl

  module _ (l : List ℕ) where
    pub line-framed :
        (frame : Raw) → parsed_of l ≡ accepted frame → feed_frame_of a frame ≡ feed_of a l
    unfolding feed_of feed_frame_of answer_of
    line-framed frame e = rw e refl

    pub line-unread : (w : ℕ × ℕ) → parsed_of l ≡ refused w → refused w ≡ feed_of a l
    unfolding feed_of answer_of
    line-unread w e = rw (possible, e) refl

    pub line-read :
        (r : Record) → answer_of (state_of a) l ≡ accepted r → IsRead a r
    unfolding answer_of
    line-read r e = let p = onward-passed (parsed_of l) (turn_of (state_of a)) r e in (p.0, p.2)

    pub line-entered :
        (r : Record) → answer_of (state_of a) l ≡ accepted r → accepted (entered a r) ≡ feed_of a l
    unfolding feed_of
    line-entered r e = rw (possible, e) refl

    pub line-refused : (w : ℕ × ℕ) → answer_of (state_of a) l ≡ refused w → refused w ≡ feed_of a l
    unfolding feed_of
    line-refused w e = rw (possible, e) refl

-- of a frame that the account takes, its record entered is the next account
next-is :
    (a : Account) (frame : Raw) (r : Record) (next : Account) →
    turn_of (state_of a) frame ≡ accepted r → feed_frame_of a frame ≡ accepted next →
    entered a r ≡ next
unfolding feed_frame_of
next-is a frame r next read takes =
    accepted-same (rw read at (row-passed (impossible a) _ _ next takes).1)

-- a line is read as its frame
module _ (a : Account) (l : List ℕ) where
  pub frame-read :
      (frame : Raw) → parsed_of l ≡ accepted frame →
      turn_of (state_of a) frame ≡ answer_of (state_of a) l
  unfolding answer_of
  frame-read frame e = rw e refl

  pub none-read : (w : ℕ × ℕ) → parsed_of l ≡ refused w → refused w ≡ answer_of (state_of a) l
  unfolding answer_of
  none-read w e = rw e refl
