-- A line that is read has passed rows 1 to 3, its record its own rows; an hour's soil is in the
-- tree's measure.
use Rattle.std.specs.Prelude.{Some}
use Prim.Native.Nat.{ℕ}
use mathlib.Core.Path.{◌≡◌, sym}
use mathlib.Core.Bool.{true, not}
use mathlib.Core.List.{List}
use borrow.Author.Tests.{not-false, eqb-true}
use lib.Dec.{eqb}
use lib.ListN.{length}
use Rattle.trees.specs.declared.Figures.{Figures}
use Rattle.trees.specs.Parameters.{no_parameters}
use Rattle.trees.specs.MeasuredFigures.{figures_in}
use Rattle.frames.specs.Answers.{accepted}
use Rattle.frames.specs.Ranges.{checked}
use Rattle.frames.specs.declared.records.Raw.{Raw}
use Rattle.frames.specs.declared.records.RawHour.{RawHour}
use Rattle.frames.specs.declared.records.Record.{Record}
use Rattle.frames.proofs.AnswerLaws.{accepted-same, row-passed, onward-passed, on_tree-passed}
use Rattle.frames.specs.Digits.{all_digits, byte_at}
use Rattle.frames.specs.Kinds.{is_length, length_of}
use Rattle.frames.specs.Layout.{frame_at, hour_of}
use Rattle.frames.specs.steps.Frames.{Sized}
use Rattle.frames.specs.Frames.{parsed_of, sound_of, record_of}

-- ---- a line that rows 1 to 3 let pass

pub record Passes (l : List ℕ) (frame : Raw) : Type 0 where
  pub digits : all_digits l ≡ true
  pub sized : Sized l
  pub same : frame ≡ frame_at l

pub parsed-passed : (l : List ℕ) (frame : Raw) → parsed_of l ≡ accepted frame → Passes l frame
unfolding parsed_of
parsed-passed l frame e =
    let sized = row-passed (not (is_length (length l))) _ _ frame e in
    let digits = row-passed (not (all_digits l)) _ _ frame sized.1 in
    let kind = row-passed (not (eqb (length_of (byte_at 0 l)) (length l))) _ _ frame digits.1 in
    record {
      digits = not-false (all_digits l) digits.0;
      sized = record {
        some = not-false (is_length (length l)) sized.0;
        own = eqb-true (length_of (byte_at 0 l)) (length l) (not-false _ kind.0);
      };
      same = sym (accepted-same kind.1);
    }

-- ---- a record that its own rows let pass

pub record SoundRead (s r : Record) : Type 0 where
  pub same : s ≡ r
  pub passes : checked s ≡ accepted tt

pub sound-read : (s r : Record) → sound_of s ≡ accepted r → SoundRead s r
unfolding sound_of
sound-read s r e =
    let p = onward-passed (checked s) (λ _. accepted s) r e in
    record { same = accepted-same p.2; passes = p.1 }

pub record HourRead (tree : ℕ) (raw : RawHour) (r : Record) : Type 0 where
  pub figures : Figures
  pub named : figures_in no_parameters tree ≡ Some figures
  pub is : SoundRead (Record.Hour (hour_of raw figures.measure)) r

pub hour-read :
    (tree : ℕ) (raw : RawHour) (r : Record) →
    record_of tree (Raw.Hour raw) ≡ accepted r → HourRead tree raw r
unfolding record_of
hour-read tree raw r e =
    let p = on_tree-passed (figures_in no_parameters tree) _ r e in
    record { figures = p.0; named = p.1; is = sound-read _ r p.2 }
