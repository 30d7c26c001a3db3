-- The facts of ozone's concentration, of f_light, of the share of g_max and of the boundary layer's
-- resistance, for any sound figures, period and hour.
use Rattle.std.specs.Prelude.{ℕ, ◌+◌, ◌*◌, ◌≤◌, ◌≡◌, pos}
use Rattle.exact.specs.Frac.{natural, ◌over◌, ◌⊗◌, ◌≼◌, ◌≈◌, Between}
use Rattle.trees.specs.declared.Figures.{Figures}
use Rattle.trees.specs.Sound.{Sound}
use Rattle.frames.specs.declared.records.Air.TheVariants.{Deficit, Pressure, Humidity}
use Rattle.frames.specs.declared.records.Hour.{Hour}
use Rattle.frames.specs.Ozone.{tenths_or}
use Rattle.dose_spec.specs.declared.Stand.{Stand}
use Rattle.dose_spec.specs.Light.{light_at}
use Rattle.dose_spec.specs.Deficit.{HasVpd}
use Rattle.dose_spec.specs.BoundaryLayer.{resistance_at}
use Rattle.dose_spec.specs.Conductance.{above_of, share_at}
use Rattle.dose_spec.specs.Dose.{per_ppb, concentration}
use Rattle.dose_spec.specs.Pair.{concentration_low, concentration_up}

-- ozone's concentration
pub record OzoneFacts (h : Hour) : Type 0 where
  -- without a pressure, kind 02: exact, 74808 = 18000·4.156
  pub plain :
      (vpd : ℕ) → h.air ≡ Deficit vpd →
      (concentration_low h ≡ 74808 * tenths_or 0 h.ozone)
      × (concentration_up h ≡ 74808 * tenths_or 0 h.ozone)
  -- kind 05 too
  pub humid :
      (rh : ℕ) → h.air ≡ Humidity rh →
      (concentration_low h ≡ 74808 * tenths_or 0 h.ozone)
      × (concentration_up h ≡ 74808 * tenths_or 0 h.ozone)
  -- with a pressure, kind 04: in whole numbers, for tenths of a degree above -50.0 °C;
  -- 92383 = 831447/9
  pub pressed : (vpd p : ℕ) → h.air ≡ Pressure vpd p →
      natural 18000 ⊗ concentration h ≈
      (4000000000 * tenths_or 0 h.ozone * p) over (92383 * (2 * above_of h.temperature + 4463))

-- f_light
pub record LightFacts (f : Figures) : Type 0 where
  -- 0 to 1
  pub limits : (k ppfd : ℕ) → Between (natural 0) (natural 1) (light_at k f ppfd)
  -- 0 where PPFD is 0
  pub dark : (k : ℕ) → light_at k f 0 ≈ natural 0
  -- it never falls as k grows
  pub grows : (k l ppfd : ℕ) → k ≤ l → light_at k f ppfd ≼ light_at l f ppfd

-- f_phen × f_light × max(f_min, f_temp·f_VPD·f_SW)
pub record ShareFacts (stand : Stand) (h : Hour) : Type 0 where
  -- 0 to 1
  pub limits : (k : ℕ) → Between (natural 0) (natural 1) (share_at k stand h)
  -- f_light stands outside the floor f_min: in the dark nothing is left
  pub dark : h.ppfd ≡ 0 → (k : ℕ) → share_at k stand h ≈ natural 0
  -- it never falls as k grows
  pub grows :
      HasVpd h.air (above_of h.temperature) → (k l : ℕ) → k ≤ l →
      share_at k stand h ≼ share_at l stand h

-- Rb, for a leaf in mm and a wind in cm/s, worked out at k
pub record BoundaryFacts (leaf : ℕ) : Type 0 where
  -- it falls as the wind rises
  pub falls :
      (k wind wind' : ℕ) → wind ≤ wind' → resistance_at k leaf wind' ≼ resistance_at k leaf wind
  -- a wind under 10 cm/s is read as 10
  pub level : (k wind : ℕ) → wind ≤ 10 → resistance_at k leaf wind ≡ resistance_at k leaf 10

pub record HourFacts : Type 0 where
  pub ozone : (h : Hour) → OzoneFacts h
  -- at sea level, 1013.2 hPa, and 20.0 °C a ppb is what it is without a pressure, 41.56 nmol m⁻³,
  -- to a hundredth
  pub sea_level : Between (4156 over 100) (4157 over 100) (per_ppb (Pressure 0 10132) (pos 200))
  pub light : (f : Figures) → LightFacts f
  pub boundary : (leaf : ℕ) → BoundaryFacts leaf
  pub share : (stand : Stand) → Sound stand.figures → (h : Hour) → ShareFacts stand h
