-- Row 13's limits ("Turned-back lines"): what a counted hour can bring at most, given by the
-- season.
use Rattle.std.specs.Prelude.{ℕ, Bool, ◌==◌, if◌then◌else◌}
use Rattle.account_spec.specs.declared.Season.{Season}

-- a laboratory's own tree
abbrev pub is_measured : Season → Bool
is_measured season = season.header.tree == 7

-- nmol m⁻²
abbrev pub most_hour : Season → ℕ
most_hour season = if is_measured season then 1500000 else 800000

-- nmol m⁻² between its two dose numbers
abbrev pub gap_each : Season → ℕ
gap_each season = if is_measured season then 40 else 4

-- tenths of ppb h
abbrev pub most_aot40 : Season → ℕ
most_aot40 season = 4600
