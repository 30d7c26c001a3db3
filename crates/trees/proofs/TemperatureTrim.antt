-- Where a trimmed table begins and ends, out of one test that is computed at its two ends and at
-- each tenth that was cut.
use Rattle.std.proofs.lemmas.Bool.Decides.{nat_tests}
use Prim.Native.Nat.{ℕ, zero, suc, ◌+◌, ◌-◌, ◌*◌, ◌^◌, ◌≤◌, ◌<◌}
use mathlib.Core.Path.{◌≡◌}
use mathlib.Core.Bool.{Bool, ◌&&◌}
use native.Mathlib.Omega.{arith}
use lib.Dec.{T, leb, ltb, leb→le, ltb→lt}
use store.Enc.{and_l, and_r}
use Rattle.trees.specs.declared.Figures.{Figures}
use Rattle.trees.specs.Sound.{Sound}
use Rattle.trees.specs.Temperature.{tried, allowed, root_at, temperature_pair, highest_reading}
use Rattle.trees.specs.TemperatureTable.{IsTrimmed}
use Rattle.trees.proofs.TemperatureRoot.{root_at-above, root_at-below}
use Rattle.trees.proofs.TemperatureLookup.{pair-floor}
use Rattle.exact.specs.declared.Bounds.{Bounds}
use Rattle.exact.proofs.TestedLaws.{all_from, all_from-each}

-- f_min, in units of 10⁻⁹
abbrev floor : Figures → ℕ
floor f = f.f_min * 10 ^ 7

abbrev reaches_test : Figures → ℕ → Bool
unfolding tried allowed
reaches_test f x = leb (tried f x (floor f)) (allowed 9 f x)

reaches-tested :
    (f : Figures) → zero < f.q → (x : ℕ) → T (reaches_test f x) → floor f ≤ root_at 9 f x
unfolding tried allowed
reaches-tested f root x h =
    root_at-above f x root 9 (leb→le (tried f x (floor f)) (allowed 9 f x) h)

-- t is under f_min
abbrev under_test : Figures → ℕ → Bool
unfolding tried allowed
under_test f x = ltb (allowed 9 f x) (tried f x (floor f))

under-tested :
    (f : Figures) → zero < f.q → (first n : ℕ) → T (all_from (under_test f) first n) → (x : ℕ) →
    first ≤ x → x < first + n → root_at 9 f x < floor f
unfolding tried allowed
under-tested f root first n h x p q =
    root_at-below f x root 9 (ltb→lt _ _ (all_from-each (under_test f) first n h x p q))

module _ (f : Figures) (first last : ℕ) where
  abbrev cold : ℕ
  cold = suc (10 * f.t_min)

  abbrev ends_test : Bool
  unfolding tried allowed
  ends_test = reaches_test f first && reaches_test f last

  abbrev cold_test : Bool
  unfolding tried allowed
  cold_test = all_from (under_test f) cold (first - cold)

  -- past Tmax, too: there w is 0 on whole numbers
  abbrev warm_test : Bool
  unfolding tried allowed
  warm_test = all_from (under_test f) (suc last) (highest_reading - last)

  abbrev cut_test : Bool
  unfolding tried allowed
  cut_test = cold_test && warm_test

  abbrev pub trimmed_test : Bool
  unfolding tried allowed
  trimmed_test = ends_test && cut_test

  pub trimmed-tested : Sound f → T trimmed_test → IsTrimmed f first last
  unfolding tried allowed
  trimmed-tested s h =
      let ends = and_l ends_test cut_test h in
      let cut = and_r ends_test cut_test h in
      record {
        begins =
            reaches-tested f s.q.0 first (and_l (reaches_test f first) (reaches_test f last) ends);
        ends =
            reaches-tested f s.q.0 last (and_r (reaches_test f first) (reaches_test f last) ends);
        colder = λ x low high.
            under-tested f s.q.0 cold (first - cold) (and_l cold_test warm_test cut) x low
            (omega arith);
        warmer = λ x low high highest.
            under-tested f s.q.0 (suc last) (highest_reading - last)
            (and_r cold_test warm_test cut) x low (omega arith);
      }

  -- what the table does not hold is under f_min
  trimmed-under :
      IsTrimmed f first last → (x : ℕ) → x ≤ highest_reading → (first ≤ x → last < x) →
      10 * f.t_min < x → x < 10 * f.t_max → root_at 9 f x < floor f
  trimmed-under h x highest outside low high = grind (arith, nat_tests)

-- f_min at each reading that the table does not hold
pub floor-pair :
    {f : Figures} {first last x : ℕ} {r : Bounds} → IsTrimmed f first last →
    x ≤ highest_reading → (first ≤ x → last < x) →
    (r.lower ≡ f.f_min * 10000000) × (r.upper ≡ f.f_min * 10000000) → r ≡ temperature_pair f x
floor-pair {f} {first} {last} {x} trimmed highest outside h =
    pair-floor f x (trimmed-under f first last trimmed x highest outside) h
