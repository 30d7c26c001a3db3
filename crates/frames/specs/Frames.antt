-- A line read alone, its tree given ("Frames"): rows 1 to 3, then those of the record that it says.
use Rattle.std.specs.Prelude.{ℕ, not, List, length, ◌==◌}
use Rattle.trees.specs.Parameters.{no_parameters}
use Rattle.trees.specs.MeasuredFigures.{figures_in}
use Rattle.frames.specs.Answers.{Outcome, accepted, row, onward}
use Rattle.frames.specs.Digits.{all_digits, byte_at}
use Rattle.frames.specs.Kinds.{is_length, length_of}
use Rattle.frames.specs.Layout.{frame_at, hour_of}
use Rattle.frames.specs.Ranges.{on_tree, checked}
use Rattle.frames.specs.declared.records.Raw.{Raw}
use Rattle.frames.specs.declared.records.Record.{Record}

unfoldable pub parsed_of : List ℕ → Outcome Raw
parsed_of l =
    row 1 (not (is_length (length l)))
    (row 2 (not (all_digits l))
    (row 3 (not (length_of (byte_at 0 l) == length l))
    (accepted (frame_at l))))

-- a record, or the row that refuses it
unfoldable pub sound_of : Record → Outcome Record
sound_of r = onward (checked r) (λ _. accepted r)

-- the given tree matters for an hour frame only, whose soil is in its measure; outside 1 to 7 it is
-- row 5
unfoldable pub record_of : ℕ → Raw → Outcome Record
record_of tree (Raw.Header h) = sound_of (Record.Header h)
record_of tree (Raw.Hour raw) =
    on_tree (figures_in no_parameters tree) (λ f. sound_of (Record.Hour (hour_of raw f.measure)))
record_of tree (Raw.End e) = sound_of (Record.End e)
record_of tree (Raw.Ceiling c) = sound_of (Record.Ceiling c)
record_of tree (Raw.Parameters p) = sound_of (Record.Parameters p)
record_of tree (Raw.Warmth w) = sound_of (Record.Warmth w)

unfoldable pub read_frame_of : ℕ → List ℕ → Outcome Record
read_frame_of tree l = onward (parsed_of l) (record_of tree)
