-- Written and read back is the same record, read and written back the same line ("Promises"); and
-- the rows that the writer can answer ("Frames").
use Rattle.std.specs.Prelude.{ℕ, ◌<◌, ◌≤◌, true, ◌≡◌, List, [], ◌∷◌, ◌++◌, length, take, drop}
use Rattle.std.specs.Prelude.{Option, Some, None}
use Rattle.trees.specs.declared.Figures.{Figures}
use Rattle.trees.specs.Parameters.{no_parameters}
use Rattle.trees.specs.MeasuredFigures.{figures_in}
use Rattle.trees.specs.declared.Measure.{Measure}
use Rattle.frames.specs.Answers.{accepted, refused}
use Rattle.frames.specs.Buffer.{buffer_after}
use Rattle.frames.specs.Layout.{frame_line}
use Rattle.frames.specs.Frames.{read_frame_of}
use Rattle.frames.specs.Rows.{one_of}
use Rattle.frames.specs.Writer.{write_of}
use Rattle.frames.specs.declared.records.Soil.{Soil}
use Rattle.frames.specs.declared.records.Soil.TheVariants.{Suction, Water}
use Rattle.frames.specs.declared.records.Record.{Record}

-- day, hour, count and a measured tree's temperatures are numbers of their width
abbrev pub InWidth : Record → Type 0
InWidth (Record.Header h) = Unit
InWidth (Record.Hour h) = (h.day < 65536) × (h.hour < 256)
InWidth (Record.End e) = e.hours < 65536
InWidth (Record.Ceiling c) = Unit
InWidth (Record.Parameters p) = (p.t_min < 65536) × (p.t_opt < 65536) × (p.t_max < 65536)
InWidth (Record.Warmth w) = Unit

abbrev pub measure_in : Soil → Measure
measure_in (Suction n) = Measure.Suction
measure_in (Water n) = Measure.Water

-- a tree that has this soil measure
abbrev pub HasMeasure : Option Figures → Measure → Type 0
HasMeasure (Some f) m = f.measure ≡ m
HasMeasure None m = ⊥

-- a tree of the hour's soil measure; for any other record any number will do
abbrev pub OfMeasure : ℕ → Record → Type 0
OfMeasure tree (Record.Header h) = Unit
OfMeasure tree (Record.Hour h) = HasMeasure (figures_in no_parameters tree) (measure_in h.soil)
OfMeasure tree (Record.End e) = Unit
OfMeasure tree (Record.Ceiling c) = Unit
OfMeasure tree (Record.Parameters p) = Unit
OfMeasure tree (Record.Warmth w) = Unit

-- the rows that refuse a record to be written, row 10 besides
abbrev pub writer_rows : List ℕ
writer_rows = 5 ∷ 6 ∷ 7 ∷ 8 ∷ 12 ∷ 17 ∷ 24 ∷ 25 ∷ []

pub record RoundTrip : Type 0 where
  -- a record that the writer accepts is read back as itself
  pub read_back :
      (r : Record) (buffer : List ℕ) (n tree : ℕ) → InWidth r → OfMeasure tree r →
      write_of r (length buffer) ≡ accepted n →
      read_frame_of tree (take n (buffer_after (accepted n) (frame_line r) buffer)) ≡ accepted r
  -- a line that is read as a record is written back as the same line
  pub written_back :
      (tree : ℕ) (l : List ℕ) (r : Record) (buffer : List ℕ) → read_frame_of tree l ≡ accepted r →
      length l ≤ length buffer →
      (write_of r (length buffer) ≡ accepted (length l))
      × (buffer_after (accepted (length l)) (frame_line r) buffer ≡ l ++ drop (length l) buffer)
  -- the writer answers no other row
  pub write_rows :
      (r : Record) (room n f : ℕ) → write_of r room ≡ refused (n, f) → one_of writer_rows n f ≡ true
