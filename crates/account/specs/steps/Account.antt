-- Serves the code's own steps; no reader need believe it.
use Rattle.std.specs.Prelude.{ℕ, ◌+◌, ◌*◌, ◌≤◌, ◌≡◌, Option, Some, None, Result, Ok, Err}
use Rattle.std.specs.Prelude.{if◌then◌else◌}
use Rattle.exact.specs.declared.Bounds.{Bounds}
use Rattle.trees.specs.declared.Figures.{Figures}
use Rattle.trees.specs.declared.Warmth.{Warmth}
use Rattle.trees.specs.Warmth.{has_warmth}
use Rattle.frames.specs.declared.records.Hour.{Hour}
use Rattle.frames.specs.declared.records.Raw.{Raw}
use Rattle.frames.specs.declared.records.Record.{Record}
use Rattle.frames.specs.declared.records.Refusal.{Refusal}
use Rattle.frames.specs.Answers.{Outcome, accepted, refused, row_of}
use Rattle.dose_spec.specs.declared.Stand.{Stand}
use Rattle.dose_spec.specs.HourDose.{tree_of, stand_of}
use Rattle.dose.specs.steps.Given.{counted_pair}
use Rattle.account_spec.specs.declared.Season.{Season}
use Rattle.account_spec.specs.declared.Sums.{Sums}
use Rattle.account_spec.specs.declared.Carried.{Carried}
use Rattle.account_spec.specs.declared.Account.{Account}
use Rattle.account_spec.specs.declared.Possible.{Possible}
use Rattle.account_spec.specs.Hours.{warmer, counted_sums, uncounted_sums}
use Rattle.account_spec.specs.Rules.{turn_of, state_of}

-- what an account that row 13 lets pass makes of a line: another one, or the row that refuses it
abbrev pub possible_as : Result Possible Refusal → Outcome Account
possible_as (Ok next) = accepted next.account
possible_as (Err w) = refused (row_of w)

-- some frame is read as the record
abbrev pub IsRead : Account → Record → Type 0
IsRead a r = (frame : Raw) × (turn_of (state_of a) frame ≡ accepted r)

-- ---- one hour

-- a season whose tree has figures, and its ceiling is in range
pub record HasStand (season : Season) : Type 0 where
  pub figures : Figures
  pub named : tree_of season.parameters season.header.tree ≡ accepted figures
  pub few : season.ceiling ≤ 5000

-- what its hours are dosed by, after a temperature sum
abbrev pub DosedBy : Season → ℕ → Stand → Type 0
DosedBy season sum stand =
    (f : Figures) → tree_of season.parameters season.header.tree ≡ accepted f →
    stand
    ≡ stand_of f (record { warmth = season.warmth; sum = sum }) season.header.first
    season.header.last season.ceiling

-- the pair of an hour after a temperature sum
abbrev pub PairAfter : Season → ℕ → Hour → Option Bounds → Type 0
PairAfter season sum h pair =
    (f : Figures) → tree_of season.parameters season.header.tree ≡ accepted f →
    pair
    ≡ counted_pair
    (stand_of f (record { warmth = season.warmth; sum = sum }) season.header.first
    season.header.last season.ceiling)
    h

abbrev pub carried_by : Warmth → Carried → Hour → Carried
carried_by w c h = if has_warmth w then warmer c h else c

-- what an hour adds: with its pair where it is counted
abbrev pub added : Option Bounds → ℕ → Hour → Sums
added (Some pair) ceiling h = counted_sums pair ceiling h
added None ceiling h = uncounted_sums

-- sums that so many hours can have made of small ones: no number overflows
pub record Grown (s : Sums) : Type 0 where
  pub hours : s.hours ≤ 10000
  pub counted : s.counted ≤ 10000 + s.hours
  pub missing : s.missing ≤ 10000 + s.hours
  pub lower : s.lower ≤ 1000000000000 + 10000000 * s.hours
  pub upper : s.upper ≤ 1000000000000 + 10000000 * s.hours
  pub least : s.least ≤ 1000000000 + 65536 * s.hours
  pub most : s.most ≤ 1000000000 + 65536 * s.hours
