-- p and q ("Factors", "A laboratory's own tree"): p/q = (Tmax - Topt)/(Topt - Tmin) in lowest
-- terms, both at most 22.
use Rattle.std.specs.Prelude.{◌≡◌, ℕ, ◌-◌, ◌*◌, ◌/◌, ◌%◌, ◌<◌, ◌≤◌, ◌&&◌, ◌==◌, nat_le}
use Rattle.std.specs.Prelude.{if◌then◌else◌}
use Rattle.std.specs.Prelude.{nat_lt, Option, Some, None}
use Rattle.trees.specs.declared.ratio.Ratio.{Ratio}
use Rattle.exact.specs.Root.{least}

-- the least q from 1 for which q·fall is a multiple of rise, and the multiple
abbrev pub lowest_q : ℕ → ℕ → ℕ
lowest_q rise fall = least (λ q. nat_lt 0 q && q * fall % rise == 0) rise

abbrev pub lowest_p : ℕ → ℕ → ℕ
lowest_p rise fall = lowest_q rise fall * fall / rise

abbrev pub both_small : ℕ → ℕ → Option Ratio
both_small p q = if nat_le p 22 && nat_le q 22 then Some (record { p = p; q = q }) else None

-- of Tmin, Topt and Tmax; none where they do not rise
unfoldable pub powers_of : ℕ → ℕ → ℕ → Option Ratio
powers_of t_min t_opt t_max =
    if nat_lt t_min t_opt && nat_lt t_opt t_max
    then both_small (lowest_p (t_opt - t_min) (t_max - t_opt))
    (lowest_q (t_opt - t_min) (t_max - t_opt))
    else None

-- p/q is fall/rise, and no fraction with a smaller q is
pub record InLowestTerms (rise fall p q : ℕ) : Type 0 where
  pub positive : 1 ≤ q
  pub ratio : p * rise ≡ q * fall
  pub least : (r s : ℕ) → 1 ≤ s → r * rise ≡ s * fall → q ≤ s

pub record ArePowers (t_min t_opt t_max p q : ℕ) : Type 0 where
  pub rising : (t_min < t_opt) × (t_opt < t_max)
  pub lowest : InLowestTerms (t_opt - t_min) (t_max - t_opt) p q
  pub p_small : (1 ≤ p) × (p ≤ 22)
  pub q_small : (1 ≤ q) × (q ≤ 22)

-- what an answer says; where there is none, the temperatures do not rise, or one of the two is
-- above 22
abbrev pub PowersFacts : ℕ → ℕ → ℕ → Option Ratio → Type 0
PowersFacts t_min t_opt t_max (Some r) = ArePowers t_min t_opt t_max r.p r.q
PowersFacts t_min t_opt t_max None =
    (p q : ℕ) → t_min < t_opt → t_opt < t_max → InLowestTerms (t_opt - t_min) (t_max - t_opt) p q →
    p ≤ 22 →
    22 < q
