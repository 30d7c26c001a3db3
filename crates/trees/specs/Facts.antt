-- The factor facts, for any sound figures: each factor's limits, its values at the ends of its
-- pieces, and which way it goes with its reading. A temperature x is in tenths of a degree above
-- -50.0 °C.
use Rattle.std.specs.Prelude.{ℕ, ◌+◌, ◌-◌, ◌*◌, ◌^◌, ◌≤◌, ◌<◌, ◌≡◌}
use Rattle.trees.specs.declared.Measure.TheVariants.{Suction, Water}
use Rattle.trees.specs.declared.Phenology.TheVariants.{Ramps, Dip, Temperature}
use Rattle.trees.specs.declared.Figures.{Figures}
use Rattle.trees.specs.declared.Warmth.{Warmth}
use Rattle.trees.specs.Sound.{Sound}
use Rattle.trees.specs.Temperature.{temperature_at, temperature_pair}
use Rattle.trees.specs.Deficit.{deficit_of}
use Rattle.trees.specs.SoilWater.{soil_water_of}
use Rattle.trees.specs.Phenology.{phenology_of, by_warmth}
use Rattle.exact.specs.Frac.{Frac, ◌over◌, natural, ◌⊕◌, ◌⊗◌, straight, ◌≼◌, ◌≈◌, Between}

-- ---- f_phen, as a function of the day

pub record RampFacts (f : Figures) (first last : ℕ) (on : ℕ → Frac) : Type 0 where
  -- a at A, where there is a first ramp, and straight to 1
  pub starts : 0 < f.f1 → on first ≈ f.a over 100
  pub rising :
      (day : ℕ) → first ≤ day → day ≤ first + f.f1 → on day ≈ straight f.a 100 (day - first) f.f1
  -- 1 from A+f1 to E-f4, both included: a ramp of 0 days is none
  pub between : (day : ℕ) → first + f.f1 ≤ day → day + f.f4 ≤ last → on day ≈ natural 1
  -- straight to e, at E, where there is a last ramp
  pub falling :
      (day : ℕ) → last ≤ day + f.f4 → day ≤ last → on day ≈ straight f.e 100 (last - day) f.f4
  pub ends : 0 < f.f4 → on last ≈ f.e over 100

-- each piece with both its ends, so that the pieces meet on days 80, 210, 260 and 320
pub record DipFacts (on : ℕ → Frac) : Type 0 where
  -- 1 to day 80
  pub before : (day : ℕ) → day ≤ 80 → on day ≈ natural 1
  -- straight to 0.3 at 210
  pub falling : (day : ℕ) → 80 ≤ day → day ≤ 210 → on day ≈ straight 100 30 (day - 80) (210 - 80)
  -- 0.3 to 260
  pub low : (day : ℕ) → 210 ≤ day → day ≤ 260 → on day ≈ 30 over 100
  -- straight to 1 at 320
  pub rising : (day : ℕ) → 260 ≤ day → day ≤ 320 → on day ≈ straight 30 100 (day - 260) (320 - 260)
  -- then 1
  pub after : (day : ℕ) → 320 ≤ day → on day ≈ natural 1

pub record PhenologyFacts (f : Figures) : Type 0 where
  -- 0 to 1
  pub limits :
      (first last day x : ℕ) → Between (natural 0) (natural 1) (phenology_of f first last day x)
  -- by ramps, in a period that row 7 lets pass
  pub ramps :
      f.phenology ≡ Ramps → (first last x : ℕ) → first + f.f1 + f.f4 ≤ last →
      RampFacts f first last (λ day. phenology_of f first last day x)
  -- tree 6's kind, whatever the period
  pub dip :
      f.phenology ≡ Dip → (first last x : ℕ) → DipFacts (λ day. phenology_of f first last day x)
  -- tree 3's kind: 1 where Tmin < T < Tmax
  pub warm :
      f.phenology ≡ Temperature → (first last day x : ℕ) → 10 * f.t_min < x → x < 10 * f.t_max →
      phenology_of f first last day x ≈ natural 1
  -- else 0
  pub cold :
      f.phenology ≡ Temperature → (first last day x : ℕ) → (10 * f.t_min < x → 10 * f.t_max ≤ x) →
      phenology_of f first last day x ≈ natural 0

-- ---- f_phen, as a function of a temperature sum ("Leaf age by warmth") in tenths of a degree over
-- hours, 240 of which are a °C day

pub record WarmthFacts (f : Figures) (w : Warmth) : Type 0 where
  -- 0 to 1
  pub limits : (sum : ℕ) → Between (natural 0) (natural 1) (by_warmth f w sum)
  -- past `end` 0
  pub past : (sum : ℕ) → 240 * w.end < sum → by_warmth f w sum ≈ natural 0
  -- the rest where row 25 lets the three pass
  -- a at 0, where there is a rise, and straight to 1
  pub starts : w.rise + w.fall ≤ w.end → 0 < w.rise → by_warmth f w 0 ≈ f.a over 100
  pub rising :
      w.rise + w.fall ≤ w.end → (sum : ℕ) → sum ≤ 240 * w.rise →
      by_warmth f w sum ≈ straight f.a 100 sum (240 * w.rise)
  -- 1 from `rise` to `end` less `fall`, both included: a rise or a fall of 0 is none
  pub between :
      (sum : ℕ) → 240 * w.rise ≤ sum → sum + 240 * w.fall ≤ 240 * w.end →
      by_warmth f w sum ≈ natural 1
  -- straight to e, at `end`, where there is a fall
  pub falling :
      w.rise + w.fall ≤ w.end → (sum : ℕ) → 240 * w.end ≤ sum + 240 * w.fall → sum ≤ 240 * w.end →
      by_warmth f w sum ≈ straight f.e 100 (240 * w.end - sum) (240 * w.fall)
  pub ends : 0 < w.fall → by_warmth f w (240 * w.end) ≈ f.e over 100

-- ---- f_temp

-- f_temp's pair, in units of 10⁻⁹
pub record PairFacts (f : Figures) (x : ℕ) : Type 0 where
  -- the lower number is not above f_temp at some k
  pub at : ℕ
  pub low : (temperature_pair f x).lower over 10 ^ 9 ≼ temperature_at at f x
  -- the upper one is not below it at any k
  pub high : (k : ℕ) → temperature_at k f x ≼ (temperature_pair f x).upper over 10 ^ 9
  -- at most 10⁻⁹ apart
  pub near : (temperature_pair f x).upper ≤ (temperature_pair f x).lower + 1

pub record TemperatureFacts (f : Figures) : Type 0 where
  -- f_min to 1
  pub limits : (k x : ℕ) → Between (f.f_min over 100) (natural 1) (temperature_at k f x)
  -- f_min unless Tmin < T < Tmax
  pub outside :
      (k x : ℕ) → (10 * f.t_min < x → 10 * f.t_max ≤ x) → temperature_at k f x ≈ f.f_min over 100
  -- 1 at Topt
  pub optimum : (k : ℕ) → temperature_at k f (10 * f.t_opt) ≈ natural 1
  -- it never falls as k grows
  pub grows : (k l x : ℕ) → k ≤ l → temperature_at k f x ≼ temperature_at l f x
  -- two numbers enclose it
  pub pair : (x : ℕ) → PairFacts f x

-- ---- f_VPD and f_SW: 1 at "max", f_min at "min", never outside f_min to 1

pub record DeficitFacts (f : Figures) : Type 0 where
  -- f_min to 1
  pub limits : (vpd : Frac) → Between (f.f_min over 100) (natural 1) (deficit_of f vpd)
  -- 1 at "max" and under it
  pub max : (vpd : Frac) → vpd ≼ natural f.vpd_max → deficit_of f vpd ≈ natural 1
  -- f_min at "min" and over it
  pub min : (vpd : Frac) → natural f.vpd_min ≼ vpd → deficit_of f vpd ≈ f.f_min over 100
  -- it falls as the deficit grows
  pub falls : (vpd vpd' : Frac) → vpd ≼ vpd' → deficit_of f vpd' ≼ deficit_of f vpd
  -- by no more than the line from 1 to f_min does over as many Pa
  pub near :
      (vpd vpd' w : Frac) → vpd' ≼ vpd ⊕ w →
      deficit_of f vpd ≼ deficit_of f vpd' ⊕ w ⊗ (100 - f.f_min) over
      (100 * (f.vpd_min - f.vpd_max))

pub record SoilWaterFacts (f : Figures) : Type 0 where
  -- f_min to 1
  pub limits : (reading : ℕ) → Between (f.f_min over 100) (natural 1) (soil_water_of f reading)
  -- 1 at "max", the wet end
  pub max : soil_water_of f f.soil_max ≈ natural 1
  -- f_min at "min"
  pub min : soil_water_of f f.soil_min ≈ f.f_min over 100
  -- it falls as the suction grows
  pub falls :
      f.measure ≡ Suction → (kpa kpa' : ℕ) → kpa ≤ kpa' → soil_water_of f kpa' ≼ soil_water_of f kpa
  -- it rises with the water
  pub rises :
      f.measure ≡ Water → (tenths tenths' : ℕ) → tenths ≤ tenths' →
      soil_water_of f tenths ≼ soil_water_of f tenths'

pub record FactorFacts : Type 0 where
  pub phenology : (f : Figures) → Sound f → PhenologyFacts f
  pub warmth : (f : Figures) → Sound f → (w : Warmth) → WarmthFacts f w
  pub temperature : (f : Figures) → Sound f → TemperatureFacts f
  pub deficit : (f : Figures) → Sound f → DeficitFacts f
  pub soil_water : (f : Figures) → Sound f → SoilWaterFacts f
