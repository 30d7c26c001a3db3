-- The round trip: a record that the writer accepts is read back as itself, a line that is read is
-- written back, and the writer answers no other rows.
use Rattle.trees.specs.declared.Figures.{Figures}
use Rattle.std.specs.Prelude.{Option, Some, None}
use Prim.Native.Nat.{ℕ, ◌≤◌, ◌<◌}
use mathlib.Core.Path.{◌≡◌, refl, sym, ap, subst, ◌∙◌}
use mathlib.Core.List.{List, ◌++◌}
use borrow.Author.Tests.{le-ltb}
use lib.Dec.{ltb}
use lib.ListN.{length, take, drop}
use lib.Seq.{take_at}
use Rattle.trees.specs.Parameters.{no_parameters, parameters_of}
use Rattle.trees.specs.Warmth.{warmth_of}
use Rattle.trees.specs.MeasuredFigures.{figures_in}
use Rattle.trees.specs.declared.Measure.{Measure}
use Rattle.frames.specs.Answers.{accepted}
use Rattle.frames.specs.Digits.{byte_at}
use Rattle.frames.specs.Fields.{fields_at}
use Rattle.frames.specs.Layout.{soil_number, hour_numbers, header_of, air_of, raw_hour_of, end_of}
use Rattle.frames.specs.Layout.{ceiling_of, soil_of, hour_of, frame_of, frame_at, air_kind, kind_of}
use Rattle.frames.specs.Layout.{numbers_of, frame_line}
use Rattle.frames.specs.Ranges.{on_tree, checked}
use Rattle.frames.specs.steps.Frames.{IsHour, with_deficit, with_pressure, with_humidity}
use Rattle.frames.specs.Frames.{parsed_of, sound_of, record_of, read_frame_of}
use Rattle.frames.specs.Buffer.{put_of, buffer_after}
use Rattle.frames.specs.Temperature.{signed_of, complement_of}
use Rattle.frames.specs.Writer.{text_of, write_of}
use Rattle.frames.specs.RoundTrip.{InWidth, measure_in, HasMeasure, OfMeasure, RoundTrip}
use Rattle.frames.specs.declared.records.Air.{Air}
use Rattle.frames.specs.declared.records.Air.TheVariants.{Deficit, Pressure, Humidity}
use Rattle.frames.specs.declared.records.Soil.{Soil}
use Rattle.frames.specs.declared.records.Soil.TheVariants.{Suction, Water}
use Rattle.frames.specs.declared.records.Hour.{Hour}
use Rattle.frames.specs.declared.records.Raw.{Raw}
use Rattle.frames.specs.declared.records.RawHour.{RawHour}
use Rattle.frames.specs.declared.records.Record.{Record}
use Rattle.frames.proofs.WrittenDigitLaws.{number_lt}
use Rattle.frames.proofs.AnswerLaws.{accepted-same, row-passed, onward-passed}
use Rattle.frames.proofs.WrittenOzoneLaws.{ozone-back, ozone-number}
use Rattle.frames.proofs.TemperatureLaws.{complement-signed, signed-complement}
use Rattle.frames.proofs.RangeLaws.{HourIn, InRange, checked-passed}
use Rattle.frames.proofs.ReadLaws.{parsed-passed, SoundRead, sound-read, hour-read}
use Rattle.frames.proofs.WidthLaws.{range-fits}
use Rattle.frames.proofs.FrameLaws.{frame_is, hour-framed, sized-within}
use Rattle.frames.proofs.LineLaws.{line-parsed, line_frame, line-written}
use Rattle.frames.proofs.KindLaws.{KindCase, header, hour, end, ceiling, parameters, warmth}
use Rattle.frames.proofs.KindLaws.{kind-cases}
use Rattle.frames.proofs.WriterRowLaws.{write-only}

-- ---- written, then read

soil-back : (s : Soil) → soil_of (measure_in s) (soil_number s) ≡ s
soil-back (Suction n) = refl
soil-back (Water n) = refl

hour-back : (h : Hour) (m : Measure) → m ≡ measure_in h.soil → HourIn h
    → hour_of (raw_hour_of h.air (hour_numbers h)) m ≡ h
unfolding hour_of
hour-back h m e i = rw (
  e,
  ozone-back h.ozone i.ozone,
  signed-complement h.temperature i.temperature,
  soil-back h.soil,
)

hour-measured :
    (choice : Option Figures) (h : Hour) → HasMeasure choice (measure_in h.soil) → HourIn h
    → on_tree choice
    (λ f. sound_of (Record.Hour (hour_of (raw_hour_of h.air (hour_numbers h)) f.measure)))
    ≡ sound_of (Record.Hour h)
hour-measured (Some f) h m i = rw (hour-back h f.measure m i)
hour-measured None h m i = absurd m

hour-frame :
    (h : Hour) (a : Air) → h.air ≡ a →
    frame_of (air_kind h.air) (hour_numbers h) ≡ Raw.Hour (raw_hour_of h.air (hour_numbers h))
unfolding frame_of
hour-frame h (Deficit n) e = rw e
hour-frame h (Pressure n p) e = rw e
hour-frame h (Humidity n) e = rw e

record-back :
    (tree : ℕ) (r : Record) → OfMeasure tree r → InRange r →
    record_of tree (frame_of (kind_of r) (numbers_of r)) ≡ sound_of r
unfolding record_of frame_of
record-back tree (Record.Header h) m i = refl
record-back tree (Record.Hour h) m i =
    ap (record_of tree) (hour-frame h h.air refl)
    ∙ hour-measured (figures_in no_parameters tree) h m i
record-back tree (Record.End e) m i = refl
record-back tree (Record.Ceiling c) m i = refl
record-back tree (Record.Parameters p) m i = refl
record-back tree (Record.Warmth w) m i = refl

pub read-line :
    (tree : ℕ) (r : Record) → InWidth r → OfMeasure tree r → checked r ≡ accepted tt →
    read_frame_of tree (frame_line r) ≡ accepted r
unfolding read_frame_of sound_of
read-line tree r w m e =
    let i = checked-passed r e in
    let fits = range-fits r i w in
    rw (line-parsed r fits, line_frame r fits) (record-back tree r m i ∙ rw e)

record Writable (r : Record) (n : ℕ) : Type 0 where
  passes : checked r ≡ accepted tt
  size : length (frame_line r) ≡ n

write-passed : (r : Record) (room n : ℕ) → write_of r room ≡ accepted n → Writable r n
unfolding write_of text_of
write-passed r room n e =
    let p = onward-passed (text_of r) (λ t. put_of t room) n e in
    let q = onward-passed (checked r) (λ _. accepted (frame_line r)) p.0 p.1 in
    let s = row-passed (ltb room (length p.0)) _ _ n p.2 in
    record { passes = q.1; size = ap length (accepted-same q.2) ∙ accepted-same s.1 }

read_back_lem :
    (r : Record) (buffer : List ℕ) (n tree : ℕ) → InWidth r → OfMeasure tree r →
    write_of r (length buffer) ≡ accepted n
    → read_frame_of tree (take n (buffer_after (accepted n) (frame_line r) buffer)) ≡ accepted r
read_back_lem r buffer n tree w m e =
    let p = write-passed r (length buffer) n e in
    rw (take_at (frame_line r) (drop n buffer) n p.size) (read-line tree r w m p.passes)

-- ---- read, then written

soil-number : (m : Measure) (n : ℕ) → soil_number (soil_of m n) ≡ n
soil-number Measure.Suction n = refl
soil-number Measure.Water n = refl

air-kind : (kind : ℕ) (ns : List ℕ) → IsHour kind → kind ≡ air_kind (air_of kind ns)
air-kind kind ns (with_deficit e) = rw e
air-kind kind ns (with_pressure e) = rw e
air-kind kind ns (with_humidity e) = rw e

module _ (l : List ℕ) where
  abbrev hour_in : ℕ → RawHour
  hour_in kind = raw_hour_of (air_of kind (fields_at kind l)) (fields_at kind l)

  temperature-number :
      (kind : ℕ) → (hour_in kind).temperature < 65536 →
      complement_of (signed_of (hour_in kind).temperature) ≡ (hour_in kind).temperature
  temperature-number kind = complement-signed (hour_in kind).temperature

  hour-numbers :
      (kind : ℕ) → IsHour kind → (m : Measure) →
      hour_numbers (hour_of (hour_in kind) m) ≡ fields_at kind l
  unfolding hour_of
  hour-numbers kind (with_deficit e) m =
      rw e
      (simp (ozone-number (hour_in 2).ozone, temperature-number 2 (number_lt _ l), soil-number m))
  hour-numbers kind (with_pressure e) m =
      rw e
      (simp (ozone-number (hour_in 4).ozone, temperature-number 4 (number_lt _ l), soil-number m))
  hour-numbers kind (with_humidity e) m =
      rw e
      (simp (ozone-number (hour_in 5).ozone, temperature-number 5 (number_lt _ l), soil-number m))

-- a record that passes, with the kind and the numbers of the line
record ReadFrom (l : List ℕ) (r : Record) : Type 0 where
  passes : checked r ≡ accepted tt
  kind : byte_at 0 l ≡ kind_of r
  numbers : numbers_of r ≡ fields_at (kind_of r) l

read-from :
    (l : List ℕ) (r r' : Record) → byte_at 0 l ≡ kind_of r →
    numbers_of r ≡ fields_at (kind_of r) l → SoundRead r r' → ReadFrom l r'
read-from l r r' kind numbers p =
    subst (ReadFrom l) p.same (record { passes = p.passes; kind = kind; numbers = numbers })

module _ (tree : ℕ) (l : List ℕ) (r : Record) (e : record_of tree (frame_at l) ≡ accepted r) where
  by_kind :
      {kind : ℕ} → byte_at 0 l ≡ kind →
      record_of tree (frame_of kind (fields_at kind l)) ≡ accepted r
  by_kind k = ap (record_of tree) (sym (frame_is l k)) ∙ e

  line-from : KindCase (byte_at 0 l) → ReadFrom l r
  unfolding record_of frame_of hour_of
  line-from (header k) =
      read-from l (Record.Header (header_of (fields_at 1 l))) r k refl (sound-read _ r (by_kind k))
  line-from (hour is) =
      let k = byte_at 0 l in
      let h =
      hour-read tree (hour_in l k) r (ap (record_of tree) (sym (hour-framed l is refl)) ∙ e) in
      let kind = air-kind k (fields_at k l) is in
      read-from l (Record.Hour (hour_of (hour_in l k) h.figures.measure)) r kind
      (rw (← kind) (hour-numbers l k is h.figures.measure)) h.is
  line-from (end k) =
      read-from l (Record.End (end_of (fields_at 3 l))) r k refl (sound-read _ r (by_kind k))
  line-from (ceiling k) =
      read-from l (Record.Ceiling (ceiling_of (fields_at 6 l))) r k refl
      (sound-read _ r (by_kind k))
  line-from (parameters k) =
      read-from l (Record.Parameters (parameters_of (fields_at 7 l))) r k refl
      (sound-read _ r (by_kind k))
  line-from (warmth k) =
      read-from l (Record.Warmth (warmth_of (fields_at 8 l))) r k refl (sound-read _ r (by_kind k))

pub line_read :
    (tree : ℕ) (l : List ℕ) (r : Record) → read_frame_of tree l ≡ accepted r →
    (checked r ≡ accepted tt) × (frame_line r ≡ l)
unfolding read_frame_of
line_read tree l r e =
    let p = onward-passed (parsed_of l) (record_of tree) r e in
    let q = parsed-passed l p.0 p.1 in
    let f =
    line-from tree l r (ap (record_of tree) (sym q.same) ∙ p.2)
    (kind-cases (byte_at 0 l) (sized-within l q.sized)) in
    (f.passes, line-written l r q.digits q.sized f.kind f.numbers)

written_back_lem :
    (tree : ℕ) (l : List ℕ) (r : Record) (buffer : List ℕ) → read_frame_of tree l ≡ accepted r →
    length l ≤ length buffer
    → (write_of r (length buffer) ≡ accepted (length l))
    × (buffer_after (accepted (length l)) (frame_line r) buffer ≡ l ++ drop (length l) buffer)
unfolding write_of text_of
written_back_lem tree l r buffer e h =
    let p = line_read tree l r e in
    (simp (p.0, p.1, le-ltb (length buffer) (length l) h), rw p.1)

pub round_trip : RoundTrip
round_trip = record {
  read_back = read_back_lem;
  written_back = written_back_lem;
  write_rows = λ r room. (write-only r room).only;
}
