-- Reading the account ("Account"): the sums that it carries and the verdict, refused only by row
-- 13.
use Rattle.std.specs.Prelude.{ℕ, ◌*◌, ◌≡◌, List, Result, nat_lt, nat_le, if◌then◌else◌, codes}
use Rattle.frames.specs.declared.records.Refusal.{Refusal}
use Rattle.frames.specs.Answers.{Outcome, accepted, row, outcome_of}
use Rattle.account_spec.specs.declared.Phase.{Phase}
use Rattle.account_spec.specs.declared.Season.{Season}
use Rattle.account_spec.specs.declared.Sums.{Sums}
use Rattle.account_spec.specs.declared.Account.{Account}
use Rattle.account_spec.specs.declared.Verdict.{Verdict}
use Rattle.account_spec.specs.declared.Verdict.TheVariants.{None, Undecided, Exceeded, Below}
use Rattle.account_spec.specs.declared.Totals.{Totals}
use Rattle.account_spec.specs.Account.{is_fresh, impossible}

-- ---- the verdict

-- the word of each case of a verdict
abbrev pub word_of : Verdict → List ℕ
word_of None = codes "none"
word_of Exceeded = codes "exceeded"
word_of Below = codes "below"
word_of Undecided = codes "undecided"

-- the rule, for words and for cases alike: fresh is "none"; lower above level × 10000 "exceeded";
-- upper at most that "below"; else "undecided"
abbrev by_rule : {A : Type 0} → A → A → A → A → Phase → Season → Sums → A
by_rule none exceeded below undecided phase season sums =
    let level = season.header.level * 10000 in
    if is_fresh phase then none
    else (if nat_lt level sums.lower then exceeded
    else (if nat_le sums.upper level then below else undecided))

unfoldable pub verdict_word : Phase → Season → Sums → List ℕ
verdict_word = by_rule (codes "none") (codes "exceeded") (codes "below") (codes "undecided")

unfoldable pub verdict_of : Phase → Season → Sums → Verdict
verdict_of = by_rule None Exceeded Below Undecided

-- ---- a reading

abbrev pub totals_of : Account → Totals
totals_of a = record { sums = a.sums; verdict = verdict_of a.phase a.season a.sums }

unfoldable pub read_of : Account → Outcome Totals
read_of a = row 13 (impossible a) (accepted (totals_of a))

-- what `read` promises
pub record Reads (a : Account) (r : Result Totals Refusal) : Type 0 where
  pub answers : outcome_of r ≡ read_of a
