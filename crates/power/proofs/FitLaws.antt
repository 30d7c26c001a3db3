-- Figures fit exactly where their temperatures and powers are those of `Sound`; sound figures do.
use Rattle.std.specs.Prelude.{Some}
use Rattle.std.proofs.Common.{◌≡◌, ℕ, ◌-◌, ◌*◌, ◌<◌, ◌≤◌, Bool, true, ◌&&◌, T, ltb, leb, eqb→eq}
use Rattle.std.proofs.Common.{ltb→lt, leb→le, lt-ltb, eq-eqb, le-leb}
use store.Enc.{and_l, and_r}
use Rattle.trees.specs.declared.Figures.{Figures}
use Rattle.trees.specs.Sound.{Sound}
use Rattle.trees.specs.Temperature.{temperature_pair}
use Rattle.power.specs.Answers.{rising, is_power, in_ratio, fit, factor_of}
use Rattle.power.specs.steps.Power.{Fits}

rising-lt :
    (t_min t_opt t_max : ℕ) → T (rising t_min t_opt t_max) →
    (30 ≤ t_min) × (t_min < t_opt) × (t_opt < t_max) × (t_max ≤ 250)
rising-lt t_min t_opt t_max h =
    let low = and_l (leb 30 t_min && ltb t_min t_opt) (ltb t_opt t_max && leb t_max 250) h in
    let high = and_r (leb 30 t_min && ltb t_min t_opt) (ltb t_opt t_max && leb t_max 250) h in (
      leb→le 30 t_min (and_l (leb 30 t_min) (ltb t_min t_opt) low),
      ltb→lt t_min t_opt (and_r (leb 30 t_min) (ltb t_min t_opt) low),
      ltb→lt t_opt t_max (and_l (ltb t_opt t_max) (leb t_max 250) high),
      leb→le t_max 250 (and_r (ltb t_opt t_max) (leb t_max 250) high),
    )

power_le : (n : ℕ) → T (is_power n) → (1 ≤ n) × (n ≤ 22)
power_le n h =
    (leb→le 1 n (and_l (leb 1 n) (leb n 22) h), leb→le n 22 (and_r (leb 1 n) (leb n 22) h))

power-true : (n : ℕ) → (1 ≤ n) × (n ≤ 22) → is_power n ≡ true
power-true n h = rw (le-leb 1 n h.0, le-leb n 22 h.1)

pub fit-fits : (f : Figures) → T (fit f) → Fits f
unfolding fit
fit-fits f h =
    let powers : Bool = is_power f.p && is_power f.q in
    let warm =
    rising-lt f.t_min f.t_opt f.t_max
    (and_l (rising f.t_min f.t_opt f.t_max) (powers && in_ratio f) h) in
    let rest = and_r (rising f.t_min f.t_opt f.t_max) (powers && in_ratio f) h in
    let both = and_l powers (in_ratio f) rest in
    record {
      t_min = warm.0;
      t_opt = warm.1;
      t_max = (warm.2, warm.3);
      p = power_le f.p (and_l (is_power f.p) (is_power f.q) both);
      q = power_le f.q (and_r (is_power f.p) (is_power f.q) both);
      ratio =
          eqb→eq (f.p * (f.t_opt - f.t_min)) (f.q * (f.t_max - f.t_opt))
          (and_r powers (in_ratio f) rest);
    }

pub sound-fits : (f : Figures) → Sound f → Fits f
sound-fits f s =
    record { t_min = s.t_min; t_opt = s.t_opt; t_max = s.t_max; p = s.p; q = s.q; ratio = s.ratio }

sound-fit : (f : Figures) → Sound f → fit f ≡ true
unfolding fit
sound-fit f s =
    rw (
      le-leb 30 f.t_min s.t_min,
      lt-ltb f.t_min f.t_opt s.t_opt,
      lt-ltb f.t_opt f.t_max s.t_max.0,
      le-leb f.t_max 250 s.t_max.1,
      power-true f.p s.p,
      power-true f.q s.q,
      eq-eqb (f.p * (f.t_opt - f.t_min)) (f.q * (f.t_max - f.t_opt)) s.ratio,
    )

pub sound-factor : (f : Figures) → Sound f → (x : ℕ) → factor_of f x ≡ Some (temperature_pair f x)
unfolding factor_of
sound-factor f s x = rw (sound-fit f s)
