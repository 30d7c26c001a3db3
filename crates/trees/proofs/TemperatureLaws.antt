-- f_temp, for any sound figures: at every k it lies between f_min and 1, it never falls as k grows,
-- and the pair encloses it.
use Rattle.std.proofs.lemmas.Bool.Decides.{nat_tests}
use Prim.Native.Nat.{ℕ, ◌+◌, ◌-◌, ◌*◌, ◌^◌, ◌≤◌, ◌<◌, max}
use mathlib.Core.Path.{◌≡◌, ap, subst}
use mathlib.Core.Bool.{Bool, true, false, cond}
use native.Mathlib.Nat.{add_comm, add-sub_of_le, mul-le-mul_right}
use native.Mathlib.Omega.{arith}
use lib.Dec.{T}
use lib.Pow.{pow-add}
use Rattle.trees.specs.declared.Figures.{Figures}
use Rattle.trees.specs.Sound.{Sound}
use Rattle.trees.specs.Temperature.{root_at, inside, temperature_at, temperature_pair}
use Rattle.trees.proofs.TemperatureRoot.{root_at-greatest, root_at-grows, root_at-next}
use Rattle.trees.proofs.TemperatureRoot.{root_at-optimum, greatest-le-one}
use Rattle.trees.proofs.TemperatureLookup.{inside-true}
use Rattle.exact.specs.declared.Bounds.{Bounds}
use Rattle.exact.specs.Frac.{Frac, ◌over◌, natural, ◌≼◌, greater}
use Rattle.exact.proofs.OrderLaws.{ten-pos}
use Rattle.exact.proofs.FracLaws.{≼_refl, ≼_trans, over-le}
use Rattle.exact.proofs.GreaterLaws.{greater-left, greater-right, greater-least, max-over-least}

cases : {A : Type 0} (P : A → Type 0) (b : Bool) (y z : A) → (T b → P y) → P z → P (cond b y z)
cases P true y z h k = h tt
cases P false y z h k = k

cases₂ :
    {A B : Type 0} (P : A → B → Type 0) (b : Bool) (o p : A) (y z : B) → (T b → P o y) → P p z →
    P (cond b o p) (cond b y z)
cases₂ P true o p y z h k = h tt
cases₂ P false o p y z h k = k

module _ (f : Figures) (s : Sound f) (x : ℕ) where
  abbrev f_min : Frac
  f_min = f.f_min over 100

  abbrev root : ℕ → Frac
  root k = root_at k f x over 10 ^ k

  root-mono : (k j : ℕ) → root k ≼ root (k + j)
  root-mono k j =
      over-le (ten-pos k) (ten-pos (k + j))
      (omega (
        arith,
        ap (λ (m : ℕ). root_at k f x * m) (pow-add 10 k j),
        mul-le-mul_right (10 ^ k) (root_at-grows f x s.q.0 k j),
      ))

  root-le : (k : ℕ) → T (inside f.t_min f.t_max x) → root k ≼ natural 1
  root-le k h =
      record {
        cross = omega (
          arith,
          greatest-le-one f s x (grind (arith, nat_tests)) (grind (arith, nat_tests))
              (root_at-greatest f x s.q.0 k),
        );
      }

  root-next : (k : ℕ) → root (k + 9) ≼ ((root_at 9 f x + 1) over 10 ^ 9)
  root-next k =
      over-le (ten-pos (k + 9)) (ten-pos 9)
      (omega (
        arith,
        ap (λ (m : ℕ). (root_at 9 f x + 1) * m) (pow-add 10 k 9),
        subst (λ (m : ℕ). root_at m f x < 10 ^ k * (root_at 9 f x + 1)) (add_comm 9 k)
            (root_at-next f x s.q.0 9 k),
      ))

  -- f_min ≤ f_temp ≤ 1
  pub temperature_at-above : (k : ℕ) → f_min ≼ temperature_at k f x
  unfolding temperature_at
  temperature_at-above k = grind (arith, nat_tests, greater-left, ≼_refl)

  f_min-le : f_min ≼ natural 1
  f_min-le = record { cross = omega (arith, s.f_min) }

  pub temperature_at-le : (k : ℕ) → temperature_at k f x ≼ natural 1
  unfolding temperature_at
  temperature_at-le k = grind (arith, cases, greater-least, f_min-le, root-le)

  pub temperature_at-outside :
      (k : ℕ) → (10 * f.t_min < x → 10 * f.t_max ≤ x) → temperature_at k f x ≡ f_min
  unfolding temperature_at
  temperature_at-outside k h = grind (arith, nat_tests)

  -- it never falls
  temperature_at-step : (k j : ℕ) → temperature_at k f x ≼ temperature_at (k + j) f x
  unfolding temperature_at
  temperature_at-step k j =
      cases₂ ◌≼◌ (inside f.t_min f.t_max x) (greater f_min (root k)) f_min
      (greater f_min (root (k + j))) f_min
      (λ h.
      greater-least f_min (root k) (greater-left f_min (root (k + j)))
      (≼_trans (root-mono k j) (greater-right f_min (root (k + j)))))
      (≼_refl f_min)

  pub temperature_at-mono : {k l : ℕ} → k ≤ l → temperature_at k f x ≼ temperature_at l f x
  temperature_at-mono {k} {l} h = rw (add-sub_of_le h) at (temperature_at-step k (l - k))

  -- the pair, in units of 10⁻⁹
  abbrev floor : ℕ
  floor = f.f_min * 10 ^ 7

  abbrev found : Bounds
  found = record { lower = max floor (root_at 9 f x); upper = max floor (root_at 9 f x + 1) }

  abbrev least : Bounds
  least = record { lower = floor; upper = floor }

  floor-is : (floor over 10 ^ 9) ≼ f_min
  floor-is = record { cross = omega arith }

  pub temperature_pair-low : ((temperature_pair f x).lower over 10 ^ 9) ≼ temperature_at 9 f x
  unfolding temperature_at temperature_pair
  temperature_pair-low =
      grind (arith, cases₂, max-over-least, ≼_trans, floor-is, greater-left, greater-right)

  pub temperature_pair-high :
      (k : ℕ) → temperature_at k f x ≼ ((temperature_pair f x).upper over 10 ^ 9)
  unfolding temperature_at temperature_pair
  temperature_pair-high k =
      let next : ((root_at 9 f x + 1) over 10 ^ 9) ≼ (max floor (root_at 9 f x + 1) over 10 ^ 9) =
      record { cross = omega arith } in
      cases₂ (λ (p : Bounds) v. v ≼ (p.upper over 10 ^ 9)) (inside f.t_min f.t_max x) found least
      (greater f_min (root k)) f_min
      (λ h.
      greater-least f_min (root k) (record { cross = omega arith })
      (≼_trans (≼_trans (root-mono k 9) (root-next k)) next))
      (record { cross = omega arith })

  pub temperature_pair-gap : (temperature_pair f x).upper ≤ (temperature_pair f x).lower + 1
  unfolding temperature_pair
  temperature_pair-gap = grind (arith, nat_tests)

  pub temperature_pair-order : (temperature_pair f x).lower ≤ (temperature_pair f x).upper
  unfolding temperature_pair
  temperature_pair-order = grind (arith, nat_tests)

  pub temperature_pair-le : (temperature_pair f x).lower ≤ 10 ^ 9
  temperature_pair-le =
      let l = ≼_trans temperature_pair-low (temperature_at-le 9) in omega (arith, l.cross)

pub temperature_at-optimum :
    (f : Figures) → Sound f → (k : ℕ) → natural 1 ≼ temperature_at k f (10 * f.t_opt)
unfolding temperature_at
temperature_at-optimum f s k =
    grind (arith, root_at-optimum, ten-pos, inside-true, ≼_trans, greater-right)
