-- Serves the code's own steps; no reader need believe it.
use Rattle.std.specs.Prelude.{ℕ, ◌+◌, ◌*◌, ◌/◌, ◌≤◌, ◌<◌, ◌≡◌, true, false, [], pos, length}
use Rattle.frames.specs.declared.records.Hour.{Hour}
use Rattle.frames.specs.declared.records.Record.{Record}
use Rattle.frames.specs.Answers.{accepted}
use Rattle.frames.specs.Ranges.{checked, ceiling_out, warmth_broken}
use Rattle.frames.specs.Period.{period_hours, all_given}
use Rattle.dose_spec.specs.declared.Stand.{Stand}
use Rattle.dose_spec.specs.HourDose.{stand_for}
use Rattle.account_spec.specs.declared.Season.{Season}
use Rattle.account_spec.specs.declared.Account.{Account}
use Rattle.account_spec.specs.Limits.{most_hour, most_aot40}
use Rattle.account_spec.specs.Hours.{stand_in, none_carried, carried_over}
use Rattle.account_spec.specs.Enclosed.{AllDosed, AllRead}
use Rattle.account_spec.specs.Account.{no_season, is_fresh, is_begun, is_closed, parameters_broken}
use Rattle.account_spec.specs.Account.{awaits, warmth_alone, total_out, carried_out}
use Rattle.account_spec.specs.Book.{Book, kind_of_hours, book_sums, day_total, book_carried}

-- no row of `hour_dose` refuses the hour: the season has a tree and a period, row 10 lets the hour
-- pass, and its soil is in the tree's measure
abbrev pub Dosable : Season → Hour → Type 0
Dosable season h =
    (stand : Stand) ×
    (stand_for season.parameters season.header.tree (record { warmth = season.warmth; sum = 0 })
    season.header.first season.header.last season.ceiling h ≡ accepted stand)

abbrev pub RecordDosable : Season → Record → Type 0
RecordDosable season (Record.Header h) = Unit
RecordDosable season (Record.Hour h) = Dosable season h
RecordDosable season (Record.End e) = Unit
RecordDosable season (Record.Ceiling c) = Unit
RecordDosable season (Record.Parameters p) = Unit
RecordDosable season (Record.Warmth w) = Unit

-- sums of a year at most, to which another hour can be added
pub record Room (a : Account) : Type 0 where
  pub hours : a.sums.hours ≤ 8784
  pub counted : a.sums.counted ≤ 8784
  pub missing : a.sums.missing ≤ 8784
  pub lower : a.sums.lower ≤ most_hour a.season * 8784
  pub upper : a.sums.upper ≤ most_hour a.season * 8784
  pub least : a.sums.least ≤ most_aot40 a.season * 8784
  pub most : a.sums.most ≤ most_aot40 a.season * 8784
  pub sum : a.carried.sum ≤ 600 * 8784
  pub total : total_out 24 a.carried.total ≡ false

-- ---- a book, and the account that stands for it

abbrev pub account_of : Book → Account
account_of b = record {
  phase = b.phase;
  season = b.season;
  kind = kind_of_hours b.hours;
  sums = book_sums b;
  carried = carried_over (stand_in b.season) none_carried b.hours;
}

-- what the account carries is the book's, and within row 13's limits; no hour is listed for a later
-- day than the running one
pub record CarriedRight (b : Book) : Type 0 where
  pub is : (account_of b).carried ≡ book_carried b
  pub within : carried_out b.season (length b.hours) (account_of b).carried ≡ false
  pub later :
      (day : ℕ) → b.season.header.first + length b.hours / 24 < day → day_total day b.hours ≡ pos 0

-- some list of lines gives the book
pub record Proper (b : Book) : Type 0 where
  pub dosed-hours : AllDosed b.season b.hours
  pub header : is_begun b.phase ≡ true → checked (Record.Header b.season.header) ≡ accepted tt
  pub ceiling : ceiling_out b.season.ceiling ≡ false
  pub parameters : parameters_broken b.season ≡ false
  pub warmth : warmth_broken b.season.warmth ≡ false
  pub alone : warmth_alone b.season ≡ false
  -- before its parameters tree 7 has a header alone
  pub awaiting : awaits b.season ≡ true → (b.season.ceiling ≡ 0) × (b.hours ≡ [])
  pub all_read : b.season.ceiling ≡ 0 → AllRead b.hours
  pub within : length b.hours ≤ period_hours b.season.header
  pub blank : is_fresh b.phase ≡ true → (b.season ≡ no_season) × (b.hours ≡ [])
  pub given : is_closed b.phase ≡ true → all_given b.season.header (length b.hours) ≡ true
  pub carried : CarriedRight b
