-- F and the hour's dose, as functions of ozone's concentration z, the share x and the root r: they
-- grow with z and x and fall with r.
use Rattle.std.proofs.lemmas.Bool.Decides.{nat_tests}
use mathlib.Core.Path.{◌≡◌, refl}
use Prim.Native.Nat.{ℕ, ◌+◌, ◌-◌, ◌*◌, ◌^◌, ◌≤◌, ◌<◌, max}
use native.Mathlib.Nat.{mul-le-mul, mul-le-mul_left, mul-pos, mul-sub}
use native.Mathlib.Omega.{arith}
use Rattle.exact.specs.Frac.{Frac, natural, ◌over◌, ◌≼◌}
use Rattle.frames.specs.declared.records.Hour.{Hour}
use Rattle.dose_spec.specs.declared.Stand.{Stand}
use Rattle.dose_spec.specs.BoundaryLayer.{wind_read, root_up_at, resistance, resistance_at}
use Rattle.dose_spec.specs.Conductance.{share_at, conductance, conductance_at}
use Rattle.dose_spec.specs.Dose.{concentration, flux, dose, flux_at, dose_at}

-- F and the dose at a concentration, a share and a root, for g_max and Y
unfoldable pub shared_flux : ℕ → Frac → Frac → Frac → Frac
shared_flux g_max z x r = flux z (conductance g_max x) (resistance r)

unfoldable pub shared_dose : ℕ → ℕ → Frac → Frac → Frac → Frac
shared_dose y g_max z x r = dose y (shared_flux g_max z x r)

module _ (k : ℕ) (stand : Stand) (h : Hour) where
  abbrev root : Frac
  root = root_up_at k stand.figures.leaf (wind_read h.wind) over 10 ^ k

  pub flux_at-is :
      flux_at k stand h
      ≡ shared_flux stand.figures.g_max (concentration h) (share_at k stand h) root
  unfolding flux_at conductance_at resistance_at shared_flux
  flux_at-is = refl

  pub dose_at-is :
      dose_at k stand h
      ≡ shared_dose stand.figures.y stand.figures.g_max (concentration h) (share_at k stand h) root
  unfolding dose_at flux_at conductance_at resistance_at shared_dose shared_flux
  dose_at-is = refl

-- ---- F in whole numbers: a, b is x and c, d is r

unfoldable pub denominator : ℕ → ℕ → ℕ → ℕ → ℕ → ℕ
denominator g a b c d = 410000000 * (b * d) + 195000 * c * (10 * g * a + 164 * b)

denominator-pos : (g a b c d : ℕ) → 0 < b → 0 < d → 0 < denominator g a b c d
unfolding denominator
denominator-pos g a b c d p q = grind (arith, mul-pos p q)

reduce : (b e m n : ℕ) → 0 < n → m ≡ n → e * (41000 * b) * max 1 m ≡ 41000 * b * (e * n)
reduce b e m n p is = grind (arith, nat_tests)

module _ (g : ℕ) (z x r : Frac) where
  pub flux-num : (shared_flux g z x r).num ≡ 41000 * x.den * (10000 * z.num * g * (x.num * r.den))
  unfolding shared_flux flux
  flux-num = omega arith

  pub flux-den :
      (shared_flux g z x r).den ≡ 41000 * x.den * (z.den * denominator g x.num x.den r.num r.den)
  unfolding shared_flux flux denominator
  flux-den = grind (arith, nat_tests, reduce, denominator-pos)

  module _ (y : ℕ) where
    pub dose-num :
        (shared_dose y g z x r).num
        ≡ 3600 * ((shared_flux g z x r).num - y * (shared_flux g z x r).den)
    unfolding shared_dose dose
    dose-num = omega arith

    pub dose-den : (shared_dose y g z x r).den ≡ (shared_flux g z x r).den
    unfolding shared_dose dose
    dose-den = omega arith

    -- without ozone there is no dose
    pub dose-none : z.num ≡ 0 → shared_dose y g z x r ≼ natural 0
    dose-none e = grind (arith, dose-num, flux-num)

grows :
    (g p P s S a b c d : ℕ) → p * b ≤ a * P → c * S ≤ s * d →
    p * S * denominator g a b c d ≤ a * d * denominator g p P s S
unfolding denominator
grows g p P s S a b c d h k =
    grind (arith, mul-le-mul_left (S * d) h, mul-le-mul_left (a * p * g) k, mul-le-mul h k)

scale :
    (g u v m e m' e' X Y K L : ℕ) → m * e' ≤ m' * e → X * L ≤ Y * K →
    41000 * u * (10000 * m * g * X) * (41000 * v * (e' * L))
    ≤ 41000 * v * (10000 * m' * g * Y) * (41000 * u * (e * K))
scale g u v m e m' e' X Y K L h k = grind (arith, mul-le-mul_left (g * u * v) (mul-le-mul h k))

less : (y n d m e : ℕ) → n * e ≤ m * d → e * (n - y * d) ≤ d * (m - y * e)
less y n d m e h = grind (arith, mul-sub)

module _ (g : ℕ) {z x r z' x' r' : Frac} (more : z ≼ z') (up : x ≼ x') (down : r' ≼ r) where
  pub flux-mono : shared_flux g z x r ≼ shared_flux g z' x' r'
  flux-mono = grind (arith, nat_tests, flux-num, flux-den, scale, grows)

  pub dose-mono : (y : ℕ) → shared_dose y g z x r ≼ shared_dose y g z' x' r'
  dose-mono y = record {
    cross =
        rw (dose-num g z x r y, dose-den g z x r y, dose-num g z' x' r' y, dose-den g z' x' r' y)
        (omega (
          arith,
          less y (shared_flux g z x r).num (shared_flux g z x r).den (shared_flux g z' x' r').num
              (shared_flux g z' x' r').den flux-mono.cross,
        ));
  }
