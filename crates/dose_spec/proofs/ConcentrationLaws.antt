-- Ozone's concentration: in whole numbers for each kind of hour, at most 29644 nmol m⁻³ in range,
-- growing with the reading; its two numbers enclose it and are at most 1 apart.
use Rattle.std.proofs.lemmas.Bool.Decides.{nat_tests}
use Prim.Native.Nat.{ℕ, ◌+◌, ◌*◌, ◌≤◌, max}
use mathlib.Core.Path.{◌≡◌, ap}
use native.Mathlib.Omega.{arith}
use lib.Dec.{lit<}
use lib.IntN.{ℤ}
use Rattle.exact.specs.Frac.{Frac, natural, ◌over◌, ◌⊗◌, ◌≼◌, ◌≈◌}
use Rattle.exact.specs.Rounding.{round_up, round_down, times_up, times_down}
use Rattle.exact.proofs.FracLaws.{≼_refl, ≼_trans, ⊗-mono, over-mono}
use Rattle.exact.proofs.RoundingLaws.{round_down-same, round_up-same, times_down-under}
use Rattle.exact.proofs.RoundingLaws.{times_up-over, times-order, times-next, times_up-most}
use Rattle.exact.proofs.RoundingLaws.{times_down-mono, times_up-mono}
use Rattle.trees.specs.declared.Figures.{Figures}
use Rattle.frames.specs.declared.records.Air.{Air}
use Rattle.frames.specs.declared.records.Air.TheVariants.{Deficit, Pressure, Humidity}
use Rattle.frames.specs.declared.records.Hour.{Hour}
use Rattle.frames.specs.Ozone.{tenths_or, with_ozone}
use Rattle.frames.proofs.RangeLaws.{PressureIn, HourIn}
use Rattle.dose_spec.specs.Conductance.{above_of}
use Rattle.dose_spec.specs.Dose.{kelvin, per_ppb, concentration}
use Rattle.dose_spec.specs.Pair.{concentration_low, concentration_up, most_concentration}
use Rattle.dose_spec.specs.Facts.{OzoneFacts}
use Rattle.dose_spec.proofs.BudgetLaws.{is_steep, top_in}

-- ---- in whole numbers

-- 8.31447 × (T + 273.15), 10⁸ times; it is not 0
gas-is : (t : ℤ) → (831447 over 100000 ⊗ kelvin t).num ≡ 450 * (92383 * (2 * above_of t + 4463))
gas-is t = omega arith

module _ (h : Hour) where
  abbrev x : ℕ
  x = above_of h.temperature

  -- where a ppb is 41.56 nmol m⁻³
  module _ (plain : per_ppb h.air h.temperature ≡ 4156 over 100) where
    plain_down : concentration_low h ≡ 74808 * tenths_or 0 h.ozone
    unfolding concentration_low concentration times_down round_down
    plain_down = grind arith

    plain-up : concentration_up h ≡ 74808 * tenths_or 0 h.ozone
    unfolding concentration_up concentration times_up round_up
    plain-up = rw plain (omega arith)

  module _ (vpd p : ℕ) (e : h.air ≡ Pressure vpd p) where
    abbrev pressed : Frac
    pressed = (4000000000 * tenths_or 0 h.ozone * p) over (92383 * (2 * x + 4463))

    pressed-is : natural 18000 ⊗ concentration h ≈ pressed
    unfolding concentration
    pressed-is =
        let gas : max 1 (831447 over 100000 ⊗ kelvin h.temperature).num
        ≡ 450 * (92383 * (2 * x + 4463)) =
        omega (arith, gas-is h.temperature) in
        let below : max 1 (92383 * (2 * x + 4463)) ≡ 92383 * (2 * x + 4463) = omega arith in
        rw e
        (record {
          cross = omega (
            arith,
            ap (λ (m : ℕ). tenths_or 0 h.ozone * p * m) gas,
            ap (λ (m : ℕ). tenths_or 0 h.ozone * p * m) below,
          );
        })

    pub pressed-down : concentration_low h ≡ round_down pressed
    unfolding concentration_low times_down
    pressed-down = round_down-same pressed-is

    pub pressed-up : concentration_up h ≡ round_up pressed
    unfolding concentration_up times_up
    pressed-up = round_up-same pressed-is

pub ozone-facts : (h : Hour) → OzoneFacts h
ozone-facts h = grind (arith, nat_tests, plain_down, plain-up, pressed-is)

-- ---- between its two numbers

module _ (h : Hour) where
  pub concentration-low : concentration_low h over 18000 ≼ concentration h
  unfolding concentration_low
  concentration-low = times_down-under 18000 (concentration h) (lit< tt)

  pub concentration-high : concentration h ≼ concentration_up h over 18000
  unfolding concentration_up
  concentration-high = times_up-over 18000 (concentration h) (lit< tt)

  pub concentration-order : concentration_low h ≤ concentration_up h
  unfolding concentration_low concentration_up
  concentration-order = times-order 18000 18000 (concentration h) (omega arith)

  pub concentration-gap : concentration_up h ≤ concentration_low h + 1
  unfolding concentration_low concentration_up
  concentration-gap = times-next 18000 (concentration h)

-- ---- in range: 500 ppb, 1100.0 hPa and -50.0 °C have the most

per_ppb-le : (a : Air) (t : ℤ) → PressureIn a → per_ppb a t ≼ 29644 over 500
per_ppb-le a t i = grind (arith, gas-is)

concentration-le : (h : Hour) → HourIn h → concentration h ≼ natural 29644
unfolding concentration
concentration-le h range = grind (arith, nat_tests, ≼_trans, ⊗-mono, over-mono, per_ppb-le)

pub concentration_up-le : (h : Hour) → HourIn h → concentration_up h ≤ most_concentration
unfolding concentration_up
concentration_up-le h range = times_up-most 18000 (concentration h) 29644 (concentration-le h range)

-- 20780 nmol m⁻³ where no pressure is read
abbrev pub top_of : Air → ℕ
top_of (Deficit vpd) = 374040000
top_of (Pressure vpd p) = most_concentration
top_of (Humidity rh) = 374040000

pub concentration_up-most :
    (h : Hour) → HourIn h → (a : Air) → h.air ≡ a → concentration_up h ≤ top_of a
concentration_up-most h range a e = grind (
  arith,
  (ozone-facts h).plain,
  (ozone-facts h).humid,
  range.ozone,
  concentration_up-le h range,
)

pub concentration_up-top :
    (f : Figures) (h : Hour) → HourIn h → (a : Air) → h.air ≡ a →
    concentration_up h ≤ top_in (is_steep f a)
concentration_up-top f h range a e = grind (arith, concentration_up-most h range a e)

-- ---- with none, and with a higher reading of ozone

none-le : (h : Hour) → concentration (with_ozone 0 h) ≼ natural 0
unfolding concentration
none-le h = record { cross = omega arith }

pub concentration_low-none : (h : Hour) → concentration_low (with_ozone 0 h) ≡ 0
unfolding concentration_up
concentration_low-none h =
    omega (
      arith,
      concentration-order (with_ozone 0 h),
      times_up-most 18000 (concentration (with_ozone 0 h)) 0 (none-le h),
    )

module _ (h : Hour) {m n : ℕ} (more : m ≤ n) where
  pub concentration-mono : concentration (with_ozone m h) ≼ concentration (with_ozone n h)
  unfolding concentration
  concentration-mono = ⊗-mono (over-mono 10 more) (≼_refl (per_ppb h.air h.temperature))

  pub concentration_low-mono :
      concentration_low (with_ozone m h) ≤ concentration_low (with_ozone n h)
  unfolding concentration_low
  concentration_low-mono = times_down-mono 18000 concentration-mono

  pub concentration_up-mono : concentration_up (with_ozone m h) ≤ concentration_up (with_ozone n h)
  unfolding concentration_up
  concentration_up-mono = times_up-mono 18000 concentration-mono
