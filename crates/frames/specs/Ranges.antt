-- The rows that a record meets by itself ("Turned-back lines"): 5 to 8 for a header, 10 for an
-- hour, 17 for a ceiling, 24 for parameters, 25 for warmth; and row 18.
use Rattle.std.specs.Prelude.{ℕ, ◌+◌, ◌-◌, Bool, false, not, ◌&&◌, ◌||◌, Option, Some, ◌==◌, nat_lt}
use Rattle.std.specs.Prelude.{None}
use Rattle.trees.specs.declared.Figures.{Figures}
use Rattle.trees.specs.declared.Warmth.{Warmth}
use Rattle.trees.specs.Figures.{ramp_days}
use Rattle.trees.specs.declared.measured.Parameters.{Parameters}
use Rattle.trees.specs.Parameters.{no_parameters}
use Rattle.trees.specs.Warmth.{has_warmth}
use Rattle.trees.specs.MeasuredFigures.{figures_in}
use Rattle.frames.specs.Numbers.{is_outside}
use Rattle.frames.specs.Parameters.{parameter_out}
use Rattle.frames.specs.Answers.{Outcome, accepted, refused, row, field}
use Rattle.frames.specs.Temperature.{temperature_out}
use Rattle.frames.specs.Ozone.{is_missing}
use Rattle.frames.specs.declared.records.Header.{Header}
use Rattle.frames.specs.declared.records.Air.{Air}
use Rattle.frames.specs.declared.records.Air.TheVariants.{Deficit, Pressure, Humidity}
use Rattle.frames.specs.declared.records.Soil.{Soil}
use Rattle.frames.specs.declared.records.Soil.TheVariants.{Suction, Water}
use Rattle.frames.specs.declared.records.Hour.{Hour}
use Rattle.frames.specs.declared.records.Record.{Record}

-- row 5 where a number is no tree, else what follows of the tree's figures
abbrev pub on_tree : {A : Type 0} → Option Figures → (Figures → Outcome A) → Outcome A
on_tree (Some f) next = next f
on_tree None next = refused (5, 0)

-- ozone 0 to 5000 tenths of ppb; missing is in range ("Hours without ozone")
abbrev pub ozone_out : Option ℕ → Bool
ozone_out (Some n) = nat_lt 5000 n
ozone_out None = false

-- VPD 0 to 10000 Pa, or in its place humidity 0 to 1000 tenths of a percent
abbrev pub vapour_out : Air → Bool
vapour_out (Deficit n) = nat_lt 10000 n
vapour_out (Pressure n p) = nat_lt 10000 n
vapour_out (Humidity n) = nat_lt 1000 n

-- pressure 5000 to 11000 tenths of hPa, where the frame has one
abbrev pub pressure_out : Air → Bool
pressure_out (Deficit n) = false
pressure_out (Pressure n p) = is_outside 5000 11000 p
pressure_out (Humidity n) = false

-- suction 0 to 10000 kPa, available water 0 to 1000 tenths of a percent
abbrev pub soil_out : Soil → Bool
soil_out (Suction n) = nat_lt 10000 n
soil_out (Water n) = nat_lt 1000 n

-- row 7: A < 1, E < A, E past the year, or E - A < f1 + f4
abbrev pub period_out : Header → ℕ → Bool
period_out h ramps =
    nat_lt h.first 1 || nat_lt h.last h.first || nat_lt h.days h.last
    || nat_lt (h.last - h.first) ramps

-- row 10: the first reading out of range, given whether the soil is unfit
abbrev pub hour_checked : Bool → Hour → Outcome Unit
hour_checked unfit h =
    field 1 (ozone_out h.ozone)
    (field 2 (nat_lt 3000 h.ppfd)
    (field 3 (nat_lt 1500 h.radiation)
    (field 4 (temperature_out h.temperature)
    (field 5 (vapour_out h.air)
    (field 6 (nat_lt 6000 h.wind)
    (field 7 unfit
    (field 8 (pressure_out h.air)
    (accepted tt))))))))

-- row 25: rise plus fall above end, or end not 1 to 5000 ("Leaf age by warmth")
abbrev pub warmth_out : Warmth → Bool
warmth_out w = nat_lt w.end (w.rise + w.fall) || is_outside 1 5000 w.end

-- a header of tree 7 has no ramps: they come with its parameters ("A laboratory's own tree")
unfoldable pub checked : Record → Outcome Unit
checked (Record.Header h) =
    on_tree (figures_in no_parameters h.tree) (λ f.
    row 6 (is_outside 365 366 h.days)
    (row 7 (period_out h (ramp_days f))
    (row 8 (is_outside 1 10000 h.level)
    (accepted tt))))
checked (Record.Hour h) = hour_checked (soil_out h.soil) h
checked (Record.End e) = accepted tt
checked (Record.Ceiling c) = row 17 (is_outside 1 5000 c.ozone) (accepted tt)
checked (Record.Parameters p) = row 24 (parameter_out p) (accepted tt)
checked (Record.Warmth w) = row 25 (warmth_out w) (accepted tt)

-- row 7 of a measured tree's ramps, tested where they come
abbrev pub ramps_out : Header → Parameters → Bool
ramps_out h p = period_out h (p.f1 + p.f4)

-- row 17 refuses a season's ceiling, which is 0 where none was fed
abbrev pub ceiling_out : ℕ → Bool
ceiling_out ceiling = not (ceiling == 0) && is_outside 1 5000 ceiling

-- row 25 refuses a season's warmth, which is all 0 where none was fed
abbrev pub warmth_broken : Warmth → Bool
warmth_broken w = has_warmth w && warmth_out w

-- row 18: ozone missing, and no ceiling ("Hours without ozone")
abbrev pub lacks_ceiling : ℕ → Option ℕ → Bool
lacks_ceiling ceiling ozone = is_missing ozone && ceiling == 0
