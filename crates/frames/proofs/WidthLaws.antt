-- A record that its own rows let pass fits the widths of its line.
use mathlib.Core.Path.{◌≡◌, refl}
use mathlib.Core.List.{◌∷◌}
use native.Mathlib.Omega.{arith}
use Rattle.trees.specs.MeasuredFigures.{measured_figures}
use Rattle.frames.specs.Kinds.{one, widths_of}
use Rattle.frames.specs.Layout.{kind_of, numbers_of}
use Rattle.frames.specs.declared.records.Air.{Air}
use Rattle.frames.specs.declared.records.Air.TheVariants.{Deficit, Pressure, Humidity}
use Rattle.frames.specs.declared.records.Hour.{Hour}
use Rattle.frames.specs.declared.records.Record.{Record}
use Rattle.frames.proofs.RangeLaws.{HourIn, InRange}
use Rattle.frames.specs.RoundTrip.{InWidth}
use Rattle.frames.proofs.FieldLaws.{FitsWidths}
use Rattle.frames.proofs.TemperatureLaws.{complement-lt}
use Rattle.frames.proofs.WrittenOzoneLaws.{ozone-lt}

-- the kind and the numbers
abbrev pub FitsLine : Record → Type 0
FitsLine r = FitsWidths (one ∷ widths_of (kind_of r)) (kind_of r ∷ numbers_of r)

hour-fits :
    (h : Hour) → HourIn h → InWidth (Record.Hour h) → (a : Air) → h.air ≡ a →
    FitsLine (Record.Hour h)
hour-fits h i w (Deficit n) e =
    let t = complement-lt h.temperature i.temperature in
    let o = ozone-lt h.ozone i.ozone in
    let v = rw e at i.vapour in
    rw e (omega arith)
hour-fits h i w (Pressure n p) e =
    let t = complement-lt h.temperature i.temperature in
    let o = ozone-lt h.ozone i.ozone in
    let v = rw e at i.vapour in
    let q = rw e at i.pressure in
    rw e (omega arith)
hour-fits h i w (Humidity n) e =
    let t = complement-lt h.temperature i.temperature in
    let o = ozone-lt h.ozone i.ozone in
    let v = rw e at i.vapour in
    rw e (omega arith)

pub range-fits : (r : Record) → InRange r → InWidth r → FitsLine r
unfolding measured_figures
range-fits (Record.Header h) i w = omega arith
range-fits (Record.Hour h) i w = hour-fits h i w h.air refl
range-fits (Record.End e) i w = omega arith
range-fits (Record.Ceiling c) i w = omega arith
range-fits (Record.Parameters p) i w = omega arith
range-fits (Record.Warmth warmth) i w = omega arith
