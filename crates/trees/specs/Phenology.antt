-- f_phen ("Factors"): by ramps, by the evergreen's dip, or by temperature (tree 3); by a
-- temperature sum ("Leaf age by warmth").
use Rattle.std.specs.Prelude.{ℕ, ◌-◌, ◌*◌, nat_lt, nat_le, if◌then◌else◌}
use Rattle.trees.specs.declared.Phenology.{Phenology}
use Rattle.trees.specs.declared.Phenology.TheVariants.{Ramps, Dip, Temperature}
use Rattle.trees.specs.declared.Figures.{Figures}
use Rattle.trees.specs.declared.Warmth.{Warmth}
use Rattle.trees.specs.Temperature.{inside}
use Rattle.exact.specs.Frac.{Frac, ◌over◌, natural, straight}

-- a at the first day, rising straight to 1 in f1 days, 1 until f4 days are left, falling straight
-- to e at the last day; a ramp of 0 days is none
unfoldable pub by_ramps : Figures → ℕ → ℕ → ℕ → Frac
by_ramps f first last day =
    if nat_lt (last - day) f.f4 then straight f.e 100 (last - day) f.f4
    else straight f.a 100 (day - first) f.f1

-- 1 to day 80, straight to 0.3 at 210, 0.3 to 260, straight to 1 at 320, then 1
unfoldable pub by_dip : ℕ → Frac
by_dip day =
    if nat_le day 80 then natural 1
    else (if nat_lt day 210 then straight 100 30 (day - 80) (210 - 80)
    else (if nat_le day 260 then 30 over 100
    else (if nat_lt day 320 then straight 30 100 (day - 260) (320 - 260) else natural 1)))

-- 1 where Tmin < T < Tmax, else 0
unfoldable pub by_temperature : ℕ → ℕ → ℕ → Frac
by_temperature t_min t_max temperature =
    if inside t_min t_max temperature then natural 1 else natural 0

abbrev by_kind : Phenology → Figures → ℕ → ℕ → ℕ → ℕ → Frac
by_kind Ramps f first last day temperature = by_ramps f first last day
by_kind Dip f first last day temperature = by_dip day
by_kind Temperature f first last day temperature = by_temperature f.t_min f.t_max temperature

-- with the first and the last day of the period
unfoldable pub phenology_of : Figures → ℕ → ℕ → ℕ → ℕ → Frac
phenology_of f first last day temperature = by_kind f.phenology f first last day temperature

-- at a temperature sum in tenths of a degree over hours, 240 of which are a °C day: a at 0, rising
-- straight to 1 at `rise`, 1 to `end` less `fall`, falling straight to e at `end`, past that 0; a
-- rise or a fall of 0 is none
unfoldable pub by_warmth : Figures → Warmth → ℕ → Frac
by_warmth f w sum =
    let end = 240 * w.end in
    let fall = 240 * w.fall in
    if nat_lt end sum then natural 0
    else (if nat_lt (end - sum) fall then straight f.e 100 (end - sum) fall
    else straight f.a 100 sum (240 * w.rise))
