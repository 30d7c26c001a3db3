-- The account as bytes: the one list of widths, an account's numbers in that order, the bytes of an
-- account and the account of bytes.
use Rattle.std.specs.Prelude.{ℕ, Bool, not, ◌||◌, List, [], ◌∷◌, ◌++◌, ℤ, length, ◌==◌, nat_lt}
use Rattle.std.specs.Prelude.{slice_index, if◌then◌else◌}
use Rattle.std.specs.Prelude.{Option, Some, None}
use Rattle.frames.specs.Answers.{Outcome, accepted, row}
use Rattle.frames.specs.Temperature.{signed_of, complement_of}
use Rattle.trees.specs.Parameters.{parameters_of}
use Rattle.trees.specs.Warmth.{warmth_of}
use Rattle.frames.specs.Layout.{header_of}
use Rattle.account_spec.specs.declared.Phase.{Phase}
use Rattle.account_spec.specs.declared.Phase.TheVariants.{Fresh, Open, Closed}
use Rattle.account_spec.specs.declared.HourKind.{HourKind}
use Rattle.account_spec.specs.declared.HourKind.TheVariants.{Deficit, Pressure, Humidity}
use Rattle.account_spec.specs.declared.Season.{Season}
use Rattle.account_spec.specs.declared.Sums.{Sums}
use Rattle.account_spec.specs.declared.Account.{Account}
use Rattle.account_spec.specs.HourKinds.{kind_number}
use Rattle.account_spec.specs.Account.{phase_number, season_numbers, sums_numbers}
use Rattle.stored.specs.Packing.{packed, unpacked, slice, total_width}

-- of this layout
abbrev pub version : ℕ
version = 1

-- version, phase, kind; hours, counted, missing, lower, upper, least, most; temperature sum,
-- running total; tree, days, first, last, level; ceiling; rise, fall, end; the sixteen parameters
abbrev pub widths : List ℕ
widths =
    1 ∷ 1 ∷ 1 ∷ 2 ∷ 2 ∷ 2 ∷ 8 ∷ 8 ∷ 4 ∷ 4 ∷ 4 ∷ 2
    ∷ 1 ∷ 2 ∷ 2 ∷ 2 ∷ 2 ∷ 2 ∷ 2 ∷ 2 ∷ 2
    ∷ 2 ∷ 2 ∷ 2 ∷ 2 ∷ 2 ∷ 2 ∷ 2 ∷ 2 ∷ 2 ∷ 2 ∷ 2 ∷ 2 ∷ 2 ∷ 2 ∷ 2 ∷ 2 ∷ []

-- the bytes of an account
abbrev pub account_width : ℕ
account_width = total_width widths

-- ---- an account's numbers, and the account of such numbers

-- those before the season's: phase, kind and running total by their numbers
abbrev pub front_numbers : Account → List ℕ
front_numbers a =
    version ∷ phase_number a.phase ∷ kind_number a.kind
    ∷ (sums_numbers a.sums ++ a.carried.sum ∷ complement_of a.carried.total ∷ [])

abbrev pub account_numbers : Account → List ℕ
account_numbers a = front_numbers a ++ season_numbers a.season

unfoldable pub phase_of : ℕ → Phase
phase_of n = if n == 0 then Fresh else (if n == 1 then Open else Closed)

unfoldable pub hour_kind_of : ℕ → Option HourKind
hour_kind_of n =
    if n == 0 then None
    else (if n == 2 then Some Deficit else (if n == 4 then Some Pressure else Some Humidity))

-- 0, 2, 4 or 5
abbrev pub is_kind : ℕ → Bool
is_kind n = n == 0 || n == 2 || n == 4 || n == 5

abbrev pub sums_from : List ℕ → Sums
sums_from ns = record {
  hours = slice_index ns 3;
  counted = slice_index ns 4;
  missing = slice_index ns 5;
  lower = slice_index ns 6;
  upper = slice_index ns 7;
  least = slice_index ns 8;
  most = slice_index ns 9;
}

abbrev pub season_from : List ℕ → Season
season_from ns = record {
  header = header_of (slice 12 5 ns);
  ceiling = slice_index ns 17;
  warmth = warmth_of (slice 18 3 ns);
  parameters = parameters_of (slice 21 16 ns);
}

abbrev pub account_from : Phase → Option HourKind → ℤ → List ℕ → Account
account_from phase kind total ns = record {
  phase = phase;
  season = season_from ns;
  kind = kind;
  sums = sums_from ns;
  carried = record { sum = slice_index ns 10; total = total };
}

-- ---- bytes

-- the bytes of an account: 88
unfoldable pub account_bytes : Account → List ℕ
account_bytes a = packed widths (account_numbers a)

unfoldable pub account_in : List ℕ → Account
account_in l =
    let ns = unpacked widths 0 l in
    account_from (phase_of (slice_index ns 1)) (hour_kind_of (slice_index ns 2))
    (signed_of (slice_index ns 11)) ns

-- fewer bytes than an account has, another layout's version, or a phase or kind that no account has
unfoldable pub holds_none : List ℕ → Bool
holds_none l =
    nat_lt (length l) (total_width widths)
    || not (slice_index l 0 == version)
    || nat_lt 2 (slice_index l 1)
    || not (is_kind (slice_index l 2))

-- the account at the front of these bytes, or row 13
unfoldable pub take_up_of : List ℕ → Outcome Account
take_up_of l = row 13 (holds_none l) (accepted (account_in l))
