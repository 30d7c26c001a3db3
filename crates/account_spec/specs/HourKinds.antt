-- The kind of a season's hours ("Station pressure"): that of its first.
use Rattle.std.specs.Prelude.{ℕ, Bool, ◌&&◌, not, Option, Some, None, ◌==◌, nat_lt, if◌then◌else◌}
use Rattle.frames.specs.declared.records.Air.{Air}
use Rattle.frames.specs.Layout.{air_kind}
use Rattle.account_spec.specs.declared.HourKind.{HourKind}
use Rattle.account_spec.specs.declared.HourKind.TheVariants.{Deficit, Pressure, Humidity}

abbrev pub hour_kind : Air → HourKind
hour_kind (Air.Deficit d) = Deficit
hour_kind (Air.Pressure d p) = Pressure
hour_kind (Air.Humidity h) = Humidity

-- the kind of its frames, 0 where there is none
abbrev pub kind_number : Option HourKind → ℕ
kind_number None = 0
kind_number (Some Deficit) = 2
kind_number (Some Pressure) = 4
kind_number (Some Humidity) = 5

-- the kind with that number
abbrev pub numbered_kind : ℕ → Option HourKind
numbered_kind n =
    if n == 2 then Some Deficit
    else (if n == 4 then Some Pressure else (if n == 5 then Some Humidity else None))

-- row 15: a kind other than the season's first, 02, 04 or 05
abbrev pub is_mixed : Option HourKind → Air → Bool
is_mixed kind air = not (kind_number kind == 0) && not (kind_number kind == air_kind air)

-- hours without a kind, or a kind without hours
abbrev pub kind_out : Option HourKind → ℕ → Bool
kind_out None hours = nat_lt 0 hours
kind_out (Some kind) hours = hours == 0
