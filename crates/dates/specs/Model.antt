-- The manual's latitude model ("Dates from a place"): the exact start and end of the accumulation
-- period, in days of the year, at a latitude in tenths of a degree and a height in metres.
use Rattle.std.specs.Prelude.{ℕ, ◌-◌}
use Rattle.exact.specs.Frac.{Frac, ◌over◌, natural, ◌⊕◌, ◌⊖◌, ◌⊗◌}
use Rattle.exact.specs.Rounding.{round_up, round_down}

-- degrees north of 50° N, and south of it; the one that does not apply is 0
abbrev pub north : ℕ → Frac
north latitude = (latitude - 500) over 10

abbrev pub south : ℕ → Frac
south latitude = (500 - latitude) over 10

-- a day for each 100 m
abbrev pub climb : ℕ → Frac
climb height = height over 100

-- 1.5 days for each degree at the start, 2 days at the end
abbrev pub start_rate : Frac
start_rate = 15 over 10

abbrev pub end_rate : Frac
end_rate = natural 2

-- day 105 at 50° N; later to the north and with height, earlier to the south
unfoldable pub model_start : ℕ → ℕ → Frac
model_start latitude height =
    natural 105 ⊕ start_rate ⊗ north latitude ⊕ climb height ⊖ start_rate ⊗ south latitude

-- day 297 at 50° N; later to the south, earlier to the north and with height
unfoldable pub model_end : ℕ → ℕ → Frac
model_end latitude height =
    natural 297 ⊕ end_rate ⊗ south latitude ⊖ (end_rate ⊗ north latitude ⊕ climb height)

-- the start rounded up, the end rounded down; each is rounded once
abbrev pub first_day : ℕ → ℕ → ℕ
first_day latitude height = round_up (model_start latitude height)

abbrev pub last_day : ℕ → ℕ → ℕ
last_day latitude height = round_down (model_end latitude height)
