-- What stands in a table, or f_min where nothing does, is the pair of the definition.
use Rattle.std.proofs.lemmas.Bool.Decides.{nat_tests}
use Prim.Native.Nat.{ℕ, ◌+◌, ◌-◌, ◌*◌, ◌<◌, ◌≤◌, max}
use mathlib.Core.Path.{◌≡◌}
use mathlib.Core.Bool.{true}
use mathlib.Core.List.{List}
use native.Mathlib.Omega.{arith}
use lib.ListN.{length, get_or}
use Rattle.trees.specs.declared.Figures.{Figures}
use Rattle.trees.specs.Sound.{Sound}
use Rattle.trees.specs.Temperature.{IsGreatest, root_at, inside, temperature_pair}
use Rattle.trees.specs.TemperatureTable.{IsTemperatureTable}
use Rattle.trees.proofs.TemperatureRoot.{root_at-is}
use Rattle.exact.specs.declared.Bounds.{Bounds}

module _ (t_min t_max x : ℕ) where
  pub inside-true : 10 * t_min < x → x < 10 * t_max → inside t_min t_max x ≡ true
  inside-true low high = grind (arith, nat_tests)

module _ (f : Figures) (x : ℕ) where
  -- f_min, wherever t is under it
  pub pair-floor :
      {r : Bounds} → (10 * f.t_min < x → x < 10 * f.t_max → root_at 9 f x < f.f_min * 10000000) →
      (r.lower ≡ f.f_min * 10000000) × (r.upper ≡ f.f_min * 10000000) → r ≡ temperature_pair f x
  unfolding temperature_pair
  pair-floor {r} under e = grind (arith, nat_tests)

module _ {f : Figures} {from x : ℕ} {ts : List ℕ} (s : Sound f) (t : IsTemperatureTable f from ts)
    (low : 10 * f.t_min < x) (high : x < 10 * f.t_max)
    (first : from ≤ x) (short : x < from + length ts) where
  abbrev found : ℕ
  found = get_or ts (x - from) 0

  found-greatest : IsGreatest 9 f x found
  found-greatest = grind (arith, nat_tests)

  found-is : root_at 9 f x ≡ found
  found-is = root_at-is f x s.q.0 found-greatest

  pub pair_read :
      {r : Bounds} →
      (r.lower ≡ max (f.f_min * 10000000) found)
      × (r.upper ≡ max (f.f_min * 10000000) (found + 1)) → r ≡ temperature_pair f x
  unfolding temperature_pair
  pair_read e = grind (arith, nat_tests, found-is)
