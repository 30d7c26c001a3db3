-- The account, and row 13 ("Account", "Turned-back lines").
use Rattle.std.specs.Prelude.{ℕ, suc, ◌+◌, ◌-◌, ◌*◌, ◌/◌, ◌%◌, Bool, true, false, not, ◌&&◌, ◌==◌}
use Rattle.std.specs.Prelude.{nat_lt, if◌then◌else◌}
use Rattle.std.specs.Prelude.{◌||◌, List, [], ◌∷◌, ◌++◌, ℤ, pos, negsuc, Option, Some}
use Rattle.std.specs.Prelude.{None}
use Rattle.frames.specs.declared.records.Record.{Record}
use Rattle.frames.specs.Answers.{Outcome, accepted, refused}
use Rattle.trees.specs.Parameters.{no_parameters, parameter_numbers, is_fed, all_zero}
use Rattle.trees.specs.Warmth.{no_warmth, has_warmth}
use Rattle.frames.specs.Parameters.{parameter_out}
use Rattle.frames.specs.Ranges.{checked, ceiling_out, warmth_broken, ramps_out}
use Rattle.frames.specs.Period.{period_hours, all_given}
use Rattle.account_spec.specs.declared.Phase.{Phase}
use Rattle.account_spec.specs.declared.Phase.TheVariants.{Fresh, Open, Closed}
use Rattle.account_spec.specs.declared.Season.{Season}
use Rattle.account_spec.specs.declared.Sums.{Sums}
use Rattle.account_spec.specs.declared.Carried.{Carried}
use Rattle.account_spec.specs.declared.Account.{Account}
use Rattle.account_spec.specs.declared.HourKind.{HourKind}
use Rattle.account_spec.specs.Limits.{is_measured, most_hour, gap_each, most_aot40}
use Rattle.account_spec.specs.HourKinds.{kind_number, kind_out}
use Rattle.account_spec.specs.Hours.{no_sums, none_carried}

-- the fresh account: header fields, ceiling, parameters, warmth and figures 0
abbrev pub no_season : Season
no_season = record {
  header = record { tree = 0; days = 0; first = 0; last = 0; level = 0 };
  ceiling = 0;
  parameters = no_parameters;
  warmth = no_warmth;
}

abbrev pub fresh_account : Account
fresh_account = record {
  phase = Fresh;
  season = no_season;
  kind = None;
  sums = no_sums;
  carried = none_carried;
}

abbrev pub is_fresh : Phase → Bool
is_fresh Fresh = true
is_fresh Open = false
is_fresh Closed = false

abbrev pub is_closed : Phase → Bool
is_closed Fresh = false
is_closed Open = false
is_closed Closed = true

-- phases are compared by their numbers (row 23)
abbrev pub phase_number : Phase → ℕ
phase_number Fresh = 0
phase_number Open = 1
phase_number Closed = 2

-- the phase with that number
abbrev pub numbered_phase : ℕ → Option Phase
numbered_phase n =
    if n == 0 then Some Fresh
    else (if n == 1 then Some Open else (if n == 2 then Some Closed else None))

-- open or closed
abbrev pub is_begun : Phase → Bool
is_begun phase = not (is_fresh phase)

abbrev pub is_refused : {A : Type 0} → Outcome A → Bool
is_refused (accepted a) = false
is_refused (refused r) = true

-- parameters that rows 24 or 7 refuse, or of another tree ("A laboratory's own tree")
abbrev pub parameters_broken : Season → Bool
parameters_broken season =
    is_fed season.parameters
    && (not (is_measured season) || parameter_out season.parameters
    || ramps_out season.header season.parameters)

-- the header is broken by rows 5 to 8, or the ceiling by row 17, or the parameters, or the warmth
-- by row 25
abbrev pub is_broken : Season → Bool
is_broken season =
    is_refused (checked (Record.Header season.header)) || ceiling_out season.ceiling
    || parameters_broken season || warmth_broken season.warmth

abbrev pub season_numbers : Season → List ℕ
season_numbers s =
    let h = s.header in
    let w = s.warmth in
    h.tree ∷ h.days ∷ h.first ∷ h.last ∷ h.level ∷ s.ceiling ∷ w.rise ∷ w.fall ∷ w.end
    ∷ parameter_numbers s.parameters

abbrev pub sums_numbers : Sums → List ℕ
sums_numbers s = s.hours ∷ s.counted ∷ s.missing ∷ s.lower ∷ s.upper ∷ s.least ∷ s.most ∷ []

-- a number below 0 is one with 1 before it: -(n + 1) as 1, n
abbrev signed_numbers : ℤ → List ℕ
signed_numbers (pos n) = 0 ∷ n ∷ []
signed_numbers (negsuc n) = 1 ∷ n ∷ []

abbrev pub carried_numbers : Carried → List ℕ
carried_numbers c = c.sum ∷ signed_numbers c.total

-- every header field, the ceiling, every parameter, the warmth and every figure is 0; the
-- temperature sums are 0 wherever the warmth is
abbrev pub is_blank : Account → Bool
is_blank a = all_zero (season_numbers a.season) && all_zero (sums_numbers a.sums)

abbrev pub any_of : List Bool → Bool
any_of [] = false
any_of (b ∷ bs) = b || any_of bs

-- counted > hours; without ozone > counted, or any with no ceiling
abbrev pub counts_out : Season → Sums → List Bool
counts_out season s =
    nat_lt s.hours s.counted ∷ nat_lt s.counted s.missing
    ∷ (season.ceiling == 0 && nat_lt 0 s.missing) ∷ []

-- lower > upper; upper > 800000·counted; gap > 4 for each counted hour with ozone and 800000 for
-- each without; for tree 7 1500000 and 40
abbrev pub doses_out : Season → Sums → List Bool
doses_out season s =
    nat_lt s.upper s.lower
    ∷ nat_lt (most_hour season * s.counted) s.upper
    ∷ nat_lt (gap_each season * (s.counted - s.missing) + most_hour season * s.missing)
    (s.upper - s.lower)
    ∷ []

-- AOT40's lower > its upper; upper > 4600·counted; width > 4600 for each hour without
abbrev pub aot40_out : Season → Sums → List Bool
aot40_out season s =
    nat_lt s.most s.least
    ∷ nat_lt (most_aot40 season * s.counted) s.most
    ∷ nat_lt (most_aot40 season * s.missing) (s.most - s.least)
    ∷ []

abbrev pub sums_out : Season → Sums → List Bool
sums_out season s = counts_out season s ++ doses_out season s ++ aot40_out season s

-- tree 7, and its parameters are still to come
abbrev pub awaits : Season → Bool
awaits season = is_measured season && not (is_fed season.parameters)

-- and yet a kind, a ceiling or hours
abbrev pub unmeasured_in : Season → Option HourKind → ℕ → Bool
unmeasured_in season kind hours =
    awaits season && (not (kind_number kind == 0) || not (season.ceiling == 0) || nat_lt 0 hours)

-- warmth without parameters ("Leaf age by warmth")
abbrev pub warmth_alone : Season → Bool
warmth_alone season = has_warmth season.warmth && not (is_fed season.parameters)

-- a total of so many hours above 600 tenths for each, or under -500 for each
abbrev pub total_out : ℕ → ℤ → Bool
total_out hours (pos n) = nat_lt (600 * hours) n
total_out hours (negsuc n) = nat_lt (500 * hours) (suc n)

-- the sum above 600 tenths for each hour of whole days, the total out of what the running day's
-- hours give; any of the two without warmth
abbrev pub carried_out : Season → ℕ → Carried → Bool
carried_out season hours c =
    if has_warmth season.warmth
    then nat_lt (600 * (24 * (hours / 24))) c.sum || total_out (hours % 24) c.total
    else not (all_zero (carried_numbers c))

-- row 13: open or closed with header broken by 5 to 8, ceiling by 17, parameters by 24 or 7 or
-- warmth by 25; hours past the period; sums that no hours give; hours without a kind or a kind
-- without hours; tree 7 with more than its header, but without parameters; warmth without
-- parameters; temperature sums that no hours give; fresh with a header field, ceiling, parameter,
-- warmth or figure not 0; closed with hours due
unfoldable pub impossible : Account → Bool
impossible a =
    (is_begun a.phase && is_broken a.season)
    || nat_lt (period_hours a.season.header) a.sums.hours
    || any_of (sums_out a.season a.sums)
    || kind_out a.kind a.sums.hours
    || unmeasured_in a.season a.kind a.sums.hours
    || warmth_alone a.season
    || carried_out a.season a.sums.hours a.carried
    || (is_fresh a.phase && not (is_blank a))
    || (is_closed a.phase && not (all_given a.season.header a.sums.hours))
