-- The season's promise ("The book"): one claim about every list of lines fed and readings taken
-- from a fresh account on.
use Rattle.std.specs.Prelude.{ℕ, zero, suc, ◌+◌, ◌-◌, ◌*◌, ◌≤◌, ◌≡◌, List, [], ◌∷◌, ◌++◌, ◌==◌}
use Rattle.std.specs.Prelude.{if◌then◌else◌, length, Result, Ok, Err, codes}
use Rattle.frames.specs.declared.records.Refusal.{Refusal}
use Rattle.trees.specs.Sound.{Sound}
use Rattle.frames.specs.declared.records.Hour.{Hour}
use Rattle.frames.specs.Ozone.{all_read_as, AllFill}
use Rattle.frames.specs.Answers.{Outcome, accepted, refused, reply}
use Rattle.frames.specs.Digits.{byte, number}
use Rattle.dose_spec.specs.declared.Stand.{Stand}
use Rattle.dose_spec.specs.Dose.{NotAbove, NotBelow}
use Rattle.dose_spec.specs.Enclosure.{gap_most}
use Rattle.account_spec.specs.declared.Season.{Season}
use Rattle.account_spec.specs.declared.Account.{Account}
use Rattle.account_spec.specs.declared.Carried.{Carried}
use Rattle.account_spec.specs.declared.Totals.{Totals}
use Rattle.account_spec.specs.Limits.{most_hour, gap_each, most_aot40}
use Rattle.account_spec.specs.Hours.{stand_in, none_carried, carried_over}
use Rattle.account_spec.specs.Enclosed.{AllChecked, AllMost, AllDosed, AllRead, gap_hour}
use Rattle.account_spec.specs.Enclosed.{HoursEnclosed}
use Rattle.account_spec.specs.Account.{fresh_account}
use Rattle.account_spec.specs.Rules.{left_by, Fed}
use Rattle.account_spec.specs.Reading.{word_of, verdict_word}
use Rattle.account_spec.specs.Book.{Book, empty_book, book_answer, book_next, counted_of}
use Rattle.account_spec.specs.Book.{missing_of, excess_over, book_carried, pod_in, book_pod, Above}
use Rattle.account_spec.specs.Runs.{Event, fed, taken, Run, Call, line, reading, RunOf, reply_in}
use Rattle.account_spec.specs.Runs.{replies_of}

-- ---- a line

-- what leaf age by warmth takes from the hours ("Leaf age by warmth"): the account carries the sum
-- of the book's earlier days and the running day's total, and the exact dose goes by them
pub record CarriedKept (a : Account) (b : Book) : Type 0 where
  pub account : a.carried ≡ book_carried b
  pub dose : carried_over (stand_in b.season) none_carried b.hours ≡ book_carried b

-- the line gets the book's answer; row 13 never comes up; a refused line leaves the account as it
-- was
pub record LineKept (a : Account) (b : Book) (l : List ℕ) (r : Fed) : Type 0 where
  pub answer : reply_in r ≡ reply (book_answer b l)
  pub possible : (field : ℕ) → reply_in r ≡ refused (13, field) → ⊥
  pub unchanged : (row : ℕ × ℕ) → reply_in r ≡ refused row → left_by r ≡ a
  pub carried : CarriedKept (left_by r) (book_next b (book_answer b l))

-- ---- a reading

-- of a filling of the book's hours ("Hours without ozone"): two numbers that enclose its exact
-- POD1, two that enclose its AOT40, and a verdict that is true of it
pub record FillingKept (b : Book) (t : Totals) (fs : List Hour) : Type 0 where
  pub low : NotAbove t.sums.lower (pod_in b fs)
  pub high : NotBelow t.sums.upper (pod_in b fs)
  pub least : t.sums.least ≤ excess_over (counted_of fs)
  pub most : excess_over (counted_of fs) ≤ t.sums.most
  pub exceeded :
      word_of t.verdict ≡ codes "exceeded" → Above (b.season.header.level * 10000) (pod_in b fs)
  pub below :
      word_of t.verdict ≡ codes "below" → NotBelow (b.season.header.level * 10000) (pod_in b fs)

-- of a book without a missing ozone: its AOT40; two numbers that enclose its exact POD1, at most 4
-- (tree 7: 40) apart for each counted hour; a verdict that is true of it
pub record ReadKept (b : Book) (t : Totals) : Type 0 where
  pub least : t.sums.least ≡ excess_over (counted_of b.hours)
  pub most : t.sums.most ≡ excess_over (counted_of b.hours)
  pub low : NotAbove t.sums.lower (book_pod b)
  pub high : NotBelow t.sums.upper (book_pod b)
  pub gap : t.sums.upper ≤ t.sums.lower + gap_each b.season * t.sums.counted
  pub exceeded :
      word_of t.verdict ≡ codes "exceeded" → Above (b.season.header.level * 10000) (book_pod b)
  pub below :
      word_of t.verdict ≡ codes "below" → NotBelow (b.season.header.level * 10000) (book_pod b)

-- the book's hours, counted hours and those of them without ozone; its AOT40 with a missing ozone
-- read as 0 and as the ceiling; dose numbers at most 4 (tree 7: 40) apart for each counted hour
-- with ozone and 800000 (1500000) for each without; the verdict by the rule; all of it right for
-- every filling
pub record TotalsKept (b : Book) (t : Totals) : Type 0 where
  pub hours : t.sums.hours ≡ length b.hours
  pub counted : t.sums.counted ≡ length (counted_of b.hours)
  pub missing : t.sums.missing ≡ length (missing_of (counted_of b.hours))
  pub least : t.sums.least ≡ excess_over (counted_of (all_read_as 0 b.hours))
  pub most : t.sums.most ≡ excess_over (counted_of (all_read_as b.season.ceiling b.hours))
  pub width : t.sums.most ≤ t.sums.least + most_aot40 b.season * t.sums.missing
  pub order : t.sums.lower ≤ t.sums.upper
  pub gap :
      t.sums.upper ≤ t.sums.lower +
      (gap_each b.season * (t.sums.counted - t.sums.missing) + most_hour b.season * t.sums.missing)
  pub verdict : word_of t.verdict ≡ verdict_word b.phase b.season t.sums
  pub filled : (fs : List Hour) → AllFill b.season.ceiling b.hours fs → FillingKept b t fs
  -- where nothing is missing, what stood before
  pub read : AllRead b.hours → ReadKept b t

-- row 13 never comes up
abbrev pub ReadingKept : Book → Result Totals Refusal → Type 0
ReadingKept b (Ok t) = TotalsKept b t
ReadingKept b (Err r) = ⊥

abbrev pub SaysExceeded : Result Totals Refusal → Type 0
SaysExceeded (Ok t) = word_of t.verdict ≡ codes "exceeded"
SaysExceeded (Err r) = ⊥

-- every reading says "exceeded"
abbrev pub AllExceeded : List Event → Type 0
AllExceeded [] = Unit
AllExceeded (fed l r ∷ es) = AllExceeded es
AllExceeded (taken r ∷ es) = SaysExceeded r × AllExceeded es

-- ---- the whole list, the book kept beside the account

abbrev pub Kept : Account → Book → List Event → Type 0
Kept a b [] = Unit
Kept a b (fed l r ∷ es) = LineKept a b l r × Kept (left_by r) (book_next b (book_answer b l)) es
Kept a b (taken r ∷ es) = ReadingKept b r × (SaysExceeded r → AllExceeded es) × Kept a b es

-- ---- a run that shows it

-- the evergreen's day of "Report", with one counted hour: header, a line that is refused, hours 0
-- to 23 with a reading after each, end
abbrev day_header : List ℕ
day_header = byte 1 (byte 6 (number 365 (number 1 (number 1 (number 520 [])))))

abbrev at_noon : ℕ → ℕ → ℕ
at_noon hour n = if hour == 12 then n else 0

abbrev day_hour : ℕ → List ℕ
day_hour hour =
    byte 2 (number 1 (byte hour
    (number 500
    (number (at_noon hour 500)
    (number (at_noon hour 400) (number 230 (number 1000 (number 300 (number 1000 [])))))))))

-- so many hours from one on
abbrev day_hours : ℕ → ℕ → List Call
day_hours hour zero = []
day_hours hour (suc n) = line (day_hour hour) ∷ reading ∷ day_hours (1 + hour) n

abbrev pub day_calls : List Call
day_calls =
    line day_header ∷ line (byte 1 (byte 4 [])) ∷ reading ∷ day_hours 0 24
    ++ line (byte 3 (number 24 [])) ∷ reading ∷ []

abbrev pub acceptances : ℕ → List (Outcome Unit)
acceptances zero = []
acceptances (suc n) = accepted tt ∷ acceptances n

-- ---- the whole promise

pub record SeasonPromise : Type 0 where
  pub kept : (es : List Event) → Run fresh_account es → Kept fresh_account empty_book es
  pub exists : (calls : List Call) → RunOf fresh_account calls
  pub day :
      (r : RunOf fresh_account day_calls) →
      replies_of r.events ≡ accepted tt ∷ refused (1, 0) ∷ acceptances 25
  -- the sums of any list of hours, for any sound figures, any first and last day and any ceiling
  pub listed :
      (stand : Stand) → Sound stand.figures → stand.ceiling ≤ 5000 →
      (each : ℕ) (c : Carried) (hs : List Hour) → AllChecked hs →
      AllMost stand.figures.g_max each hs →
      HoursEnclosed (gap_most stand.figures) each (accepted stand) c hs
  -- so those of any part of a season
  pub enclosed :
      (season : Season) → season.ceiling ≤ 5000 → (c : Carried) (hs : List Hour) →
      AllDosed season hs →
      HoursEnclosed (gap_hour season) (most_hour season) (stand_in season) c hs
