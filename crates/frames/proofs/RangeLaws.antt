-- A record that rows 5 to 8, 10, 17, 24 and 25 let pass is in range.
use Rattle.std.specs.Prelude.{Option, Some, None}
use Prim.Native.Nat.{ℕ, zero, suc, ◌+◌, ◌≤◌, ◌<◌}
use mathlib.Core.Path.{◌≡◌, sym, ◌∙◌}
use mathlib.Core.Bool.{false, ◌||◌}
use mathlib.Core.Logic.{⊎_elim}
use native.Mathlib.Omega.{arith}
use borrow.Author.Tests.{ltb-false, ne_eqb}
use lib.Dec.{ltb}
use Rattle.exact.proofs.OrderLaws.{le-or-lt}
use Rattle.trees.specs.declared.Figures.{Figures}
use Rattle.trees.specs.declared.Warmth.{Warmth}
use Rattle.trees.specs.Figures.{figures_of}
use Rattle.trees.specs.Sound.{Sound}
use Rattle.trees.specs.declared.measured.Parameters.{Parameters}
use Rattle.trees.specs.Parameters.{no_parameters}
use Rattle.trees.specs.MeasuredFigures.{measured_figures, figures_in}
use Rattle.frames.specs.Answers.{accepted}
use Rattle.frames.specs.Temperature.{temperature_out}
use Rattle.frames.specs.Layout.{vapour_number, soil_number}
use Rattle.frames.specs.Ozone.{tenths_or}
use Rattle.frames.specs.Numbers.{is_outside}
use Rattle.frames.specs.Ranges.{ozone_out, vapour_out, soil_out, pressure_out, period_out}
use Rattle.frames.specs.Ranges.{warmth_out, checked}
use Rattle.frames.specs.Period.{period_hours}
use Rattle.frames.specs.declared.records.Header.{Header}
use Rattle.frames.specs.declared.records.Ceiling.{Ceiling}
use Rattle.frames.specs.declared.records.Air.{Air}
use Rattle.frames.specs.declared.records.Air.TheVariants.{Deficit, Pressure, Humidity}
use Rattle.frames.specs.declared.records.Soil.{Soil}
use Rattle.frames.specs.declared.records.Soil.TheVariants.{Suction, Water}
use Rattle.frames.specs.declared.records.Hour.{Hour}
use Rattle.frames.specs.declared.records.Record.{Record}
use Rattle.frames.proofs.AnswerLaws.{or-neither, row-passed, on_tree-passed}
use Rattle.frames.proofs.ParameterLaws.{parameters-sound, parameters-passed}

-- from low to high
pub record Inside (low high n : ℕ) : Type 0 where
  pub above : low ≤ n
  pub below : n ≤ high

inside_is : (low high n : ℕ) → is_outside low high n ≡ false → Inside low high n
inside_is low high n e =
    let p = or-neither (ltb n low) (ltb high n) e in
    record { above = ltb-false n low p.0; below = ltb-false high n p.1 }

pub record HeaderIn (h : Header) : Type 0 where
  pub tree : Inside 1 7 h.tree
  pub days : Inside 365 366 h.days
  pub first : Inside 1 h.last h.first
  pub last : h.last ≤ h.days
  pub level : Inside 1 10000 h.level

abbrev pub PressureIn : Air → Type 0
PressureIn (Deficit n) = Unit
PressureIn (Pressure n p) = Inside 5000 11000 p
PressureIn (Humidity n) = Unit

pub record HourIn (h : Hour) : Type 0 where
  pub ozone : tenths_or 0 h.ozone ≤ 5000
  pub ppfd : h.ppfd ≤ 3000
  pub radiation : h.radiation ≤ 1500
  pub temperature : temperature_out h.temperature ≡ false
  pub vapour : vapour_number h.air ≤ 10000
  pub air : vapour_out h.air ≡ false
  pub wind : h.wind ≤ 6000
  pub soil : soil_number h.soil ≤ 10000
  pub pressure : PressureIn h.air

pub record WarmthIn (w : Warmth) : Type 0 where
  pub ramps : w.rise + w.fall ≤ w.end
  pub end : Inside 1 5000 w.end

abbrev pub InRange : Record → Type 0
InRange (Record.Header h) = HeaderIn h
InRange (Record.Hour h) = HourIn h
InRange (Record.End e) = Unit
InRange (Record.Ceiling c) = Inside 1 5000 c.ozone
InRange (Record.Parameters p) = Sound (measured_figures p)
InRange (Record.Warmth w) = WarmthIn w

ozone-le : (o : Option ℕ) → ozone_out o ≡ false → tenths_or 0 o ≤ 5000
ozone-le (Some n) e = ltb-false 5000 n e
ozone-le None e = omega arith

vapour-le : (a : Air) → vapour_out a ≡ false → vapour_number a ≤ 10000
vapour-le (Deficit n) e = ltb-false 10000 n e
vapour-le (Pressure n p) e = ltb-false 10000 n e
vapour-le (Humidity n) e = omega (arith, ltb-false 1000 n e)

pressure-in : (a : Air) → pressure_out a ≡ false → PressureIn a
pressure-in (Deficit n) e = tt
pressure-in (Pressure n p) e = inside_is 5000 11000 p e
pressure-in (Humidity n) e = tt

soil-le : (s : Soil) → soil_out s ≡ false → soil_number s ≤ 10000
soil-le (Suction n) e = ltb-false 10000 n e
soil-le (Water n) e = omega (arith, ltb-false 1000 n e)

-- a number that is a tree

none-past : (ps : Parameters) (t : ℕ) → 7 < t → figures_in ps t ≡ None
unfolding figures_in figures_of
none-past ps t h =
    simp (
      ne_eqb t 1 (omega arith),
      ne_eqb t 2 (omega arith),
      ne_eqb t 3 (omega arith),
      ne_eqb t 4 (omega arith),
      ne_eqb t 5 (omega arith),
      ne_eqb t 6 (omega arith),
      ne_eqb t 7 (omega arith),
    )

unknown-not-tree : {A : Type 0} {f : Figures} → None ≡ Some f → A
unknown-not-tree e = let z : ◌≡◌ {A = ℕ} 0 1 = cc in absurd (omega arith)

tree-inside : (ps : Parameters) (t : ℕ) (f : Figures) → figures_in ps t ≡ Some f → Inside 1 7 t
unfolding figures_in figures_of
tree-inside ps zero f e = unknown-not-tree e
tree-inside ps (suc t) f e =
    ⊎_elim (λ h. record { above = omega arith; below = h })
    (λ h. unknown-not-tree (sym (none-past ps (suc t) h) ∙ e)) (le-or-lt (suc t) 7)

header-passed : (h : Header) → checked (Record.Header h) ≡ accepted tt → HeaderIn h
unfolding checked
header-passed h e =
    let tree = on_tree-passed (figures_in no_parameters h.tree) _ tt e in
    let days = row-passed (is_outside 365 366 h.days) _ _ tt tree.2 in
    let period = row-passed (period_out h _) _ _ tt days.1 in
    let level = row-passed (is_outside 1 10000 h.level) _ _ tt period.1 in
    let ramps = or-neither (ltb h.first 1 || ltb h.last h.first || ltb h.days h.last) _ period.0 in
    let last = or-neither (ltb h.first 1 || ltb h.last h.first) _ ramps.0 in
    let first = or-neither (ltb h.first 1) _ last.0 in
    record {
      tree = tree-inside no_parameters h.tree tree.0 tree.1;
      days = inside_is 365 366 h.days days.0;
      first =
          record { above = ltb-false h.first 1 first.0; below = ltb-false h.last h.first first.1 };
      last = ltb-false h.days h.last last.1;
      level = inside_is 1 10000 h.level level.0;
    }

hour-passed : (h : Hour) → checked (Record.Hour h) ≡ accepted tt → HourIn h
unfolding checked
hour-passed h e =
    let ozone = row-passed (ozone_out h.ozone) _ _ tt e in
    let ppfd = row-passed (ltb 3000 h.ppfd) _ _ tt ozone.1 in
    let radiation = row-passed (ltb 1500 h.radiation) _ _ tt ppfd.1 in
    let temperature = row-passed (temperature_out h.temperature) _ _ tt radiation.1 in
    let vapour = row-passed (vapour_out h.air) _ _ tt temperature.1 in
    let wind = row-passed (ltb 6000 h.wind) _ _ tt vapour.1 in
    let soil = row-passed (soil_out h.soil) _ _ tt wind.1 in
    let pressure = row-passed (pressure_out h.air) _ _ tt soil.1 in
    record {
      ozone = ozone-le h.ozone ozone.0;
      ppfd = ltb-false 3000 h.ppfd ppfd.0;
      radiation = ltb-false 1500 h.radiation radiation.0;
      temperature = temperature.0;
      vapour = vapour-le h.air vapour.0;
      air = vapour.0;
      wind = ltb-false 6000 h.wind wind.0;
      soil = soil-le h.soil soil.0;
      pressure = pressure-in h.air pressure.0;
    }

ceiling-passed : (c : Ceiling) → checked (Record.Ceiling c) ≡ accepted tt → Inside 1 5000 c.ozone
unfolding checked
ceiling-passed c e = inside_is 1 5000 c.ozone (row-passed (is_outside 1 5000 c.ozone) _ _ tt e).0

pub warmth-in : (w : Warmth) → warmth_out w ≡ false → WarmthIn w
warmth-in w e =
    let p = or-neither (ltb w.end (w.rise + w.fall)) _ e in
    record { ramps = ltb-false w.end (w.rise + w.fall) p.0; end = inside_is 1 5000 w.end p.1 }

warmth-passed : (w : Warmth) → checked (Record.Warmth w) ≡ accepted tt → WarmthIn w
unfolding checked
warmth-passed w e = warmth-in w (row-passed (warmth_out w) _ _ tt e).0

-- a period has the hours of a year at most
pub period-le : (h : Header) → checked (Record.Header h) ≡ accepted tt → period_hours h ≤ 8784
period-le h e = let range = header-passed h e in omega arith

pub checked-passed : (r : Record) → checked r ≡ accepted tt → InRange r
checked-passed (Record.Header h) e = header-passed h e
checked-passed (Record.Hour h) e = hour-passed h e
checked-passed (Record.End end) e = tt
checked-passed (Record.Ceiling c) e = ceiling-passed c e
checked-passed (Record.Parameters p) e = parameters-sound p (parameters-passed p e)
checked-passed (Record.Warmth w) e = warmth-passed w e
