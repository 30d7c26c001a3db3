-- An hour line with other digits in ozone's place is read as the hour with that ozone.
use Prim.Native.Nat.{ℕ, ◌≤◌, ◌<◌}
use mathlib.Core.Path.{◌≡◌, refl, sym, ap, subst, ◌∙◌}
use mathlib.Core.List.{List}
use native.Mathlib.Omega.{arith}
use Rattle.trees.specs.declared.Measure.{Measure}
use Rattle.trees.specs.Parameters.{no_parameters}
use Rattle.trees.specs.MeasuredFigures.{figures_in}
use Rattle.frames.specs.declared.records.Air.{Air}
use Rattle.frames.specs.declared.records.Hour.{Hour}
use Rattle.frames.specs.declared.records.Raw.{Raw}
use Rattle.frames.specs.declared.records.RawHour.{RawHour}
use Rattle.frames.specs.declared.records.Record.{Record}
use Rattle.frames.specs.Ozone.{with_ozone}
use Rattle.frames.specs.Answers.{accepted}
use Rattle.frames.proofs.AnswerLaws.{onward-passed}
use Rattle.frames.proofs.OzoneLaws.{ozone-passed}
use Rattle.frames.specs.Digits.{byte_at}
use Rattle.frames.specs.Fields.{fields_at}
use Rattle.frames.specs.Layout.{air_of, raw_hour_of, hour_of, frame_of, frame_at, frame_line}
use Rattle.frames.specs.steps.Frames.{IsHour, with_deficit, with_pressure, with_humidity}
use Rattle.frames.specs.Frames.{parsed_of, record_of, read_frame_of}
use Rattle.frames.proofs.KindLaws.{KindCase, header, hour, end, ceiling, parameters, warmth}
use Rattle.frames.proofs.KindLaws.{kind-cases}
use Rattle.frames.proofs.FrameLaws.{frame_is, hour-framed, sized-within}
use Rattle.frames.proofs.ReadLaws.{parsed-passed, sound-read, hour-read}
use Rattle.frames.specs.RoundTrip.{measure_in, HasMeasure}
use Rattle.frames.proofs.WrittenDigitLaws.{byte-lt, number_lt}
use Rattle.frames.proofs.RoundTrip.{read-line, line_read}
use Rattle.account_spec.specs.Lines.{line_with}

pub hour-inside : {g h : Hour} → Record.Hour g ≡ Record.Hour h → g ≡ h
hour-inside e = cc

line-is :
    (n : ℕ) (h : Hour) (a : Air) → h.air ≡ a →
    line_with n (frame_line (Record.Hour h)) ≡ frame_line (Record.Hour (with_ozone n h))
unfolding frame_line line_with
line-is n h a e = grind arith

-- ---- what an hour line says is as wide as its fields

hour-width :
    (l : List ℕ) (kind : ℕ) → IsHour kind → (air : Air) →
    ((raw_hour_of air (fields_at kind l)).day < 65536)
    × ((raw_hour_of air (fields_at kind l)).hour < 256)
hour-width l kind (with_deficit e) air = rw e (number_lt 2 l, byte-lt 6 l)
hour-width l kind (with_pressure e) air = rw e (number_lt 2 l, byte-lt 6 l)
hour-width l kind (with_humidity e) air = rw e (number_lt 2 l, byte-lt 6 l)

abbrev Wide : Raw → Type 0
Wide (Raw.Header h) = Unit
Wide (Raw.Hour raw) = (raw.day < 65536) × (raw.hour < 256)
Wide (Raw.End e) = Unit
Wide (Raw.Ceiling c) = Unit
Wide (Raw.Parameters p) = Unit
Wide (Raw.Warmth w) = Unit

frame-wide : (l : List ℕ) → KindCase (byte_at 0 l) → Wide (frame_at l)
unfolding frame_of
frame-wide l (header k) = rw (frame_is l k) tt
frame-wide l (hour is) =
    let k = byte_at 0 l in rw (hour-framed l is refl) (hour-width l k is (air_of k (fields_at k l)))
frame-wide l (end k) = rw (frame_is l k) tt
frame-wide l (ceiling k) = rw (frame_is l k) tt
frame-wide l (parameters k) = rw (frame_is l k) tt
frame-wide l (warmth k) = rw (frame_is l k) tt

raw-wide :
    (l : List ℕ) (raw : RawHour) → parsed_of l ≡ accepted (Raw.Hour raw) → Wide (Raw.Hour raw)
raw-wide l raw e =
    let p = parsed-passed l (Raw.Hour raw) e in
    subst Wide (sym p.same) (frame-wide l (kind-cases (byte_at 0 l) (sized-within l p.sized)))

-- ---- with another ozone

pub record LineFilled (tree n : ℕ) (l : List ℕ) (h : Hour) : Type 0 where
  pub raw : RawHour
  pub parsed : parsed_of (line_with n l) ≡ accepted (Raw.Hour raw)
  pub read : record_of tree (Raw.Hour raw) ≡ accepted (Record.Hour (with_ozone n h))

filled-raw :
    (tree n : ℕ) (l : List ℕ) (h : Hour) (frame : Raw) → parsed_of (line_with n l) ≡ accepted frame
    → record_of tree frame ≡ accepted (Record.Hour (with_ozone n h)) → LineFilled tree n l h
unfolding record_of
filled-raw tree n l h (Raw.Header x) p r = let e = (sound-read _ _ r).same in cc
filled-raw tree n l h (Raw.Hour raw) p r = record { raw = raw; parsed = p; read = r }
filled-raw tree n l h (Raw.End x) p r = let e = (sound-read _ _ r).same in cc
filled-raw tree n l h (Raw.Ceiling x) p r = let e = (sound-read _ _ r).same in cc
filled-raw tree n l h (Raw.Parameters x) p r = let e = (sound-read _ _ r).same in cc
filled-raw tree n l h (Raw.Warmth x) p r = let e = (sound-read _ _ r).same in cc

module _ (raw : RawHour) (m : Measure) (h : Hour) (same : hour_of raw m ≡ h) where
  hour-measure : m ≡ measure_in h.soil
  unfolding hour_of
  hour-measure = grind arith

  hour-wide : Wide (Raw.Hour raw) → (h.day < 65536) × (h.hour < 256)
  unfolding hour_of
  hour-wide w = grind arith

-- the line of an hour that is read, with a number up to 5000 in ozone's place, is read as the hour
-- with that ozone
pub line-filled :
    (tree n : ℕ) (l : List ℕ) (raw : RawHour) (h : Hour) → n ≤ 5000 →
    parsed_of l ≡ accepted (Raw.Hour raw) → record_of tree (Raw.Hour raw) ≡ accepted (Record.Hour h)
    → LineFilled tree n l h
unfolding read_frame_of
line-filled tree n l raw h small parsed read =
    let whole : read_frame_of tree l ≡ accepted (Record.Hour h) = rw parsed read in
    let p = line_read tree l (Record.Hour h) whole in
    let hr = hour-read tree raw (Record.Hour h) read in
    let m = hr.figures.measure in
    let same = hour-inside hr.is.same in
    let measured : HasMeasure (figures_in no_parameters tree) (measure_in h.soil) =
    rw hr.named (hour-measure raw m h same) in
    let is = ap (line_with n) (sym p.1) ∙ line-is n h h.air refl in
    let back =
    read-line tree (Record.Hour (with_ozone n h))
    (hour-wide raw m h same (raw-wide l raw parsed)) measured (ozone-passed n h small p.0) in
    let q =
    onward-passed (parsed_of (line_with n l)) (record_of tree)
    (Record.Hour (with_ozone n h)) (rw is back) in
    filled-raw tree n l h q.0 q.1 q.2
