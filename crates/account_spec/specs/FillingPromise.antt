-- What filling brings ("Hours without ozone"): the lines are accepted too, the figures of both ends
-- are those of lines, and no verdict is turned.
use Rattle.std.specs.Prelude.{ℕ, ◌≤◌, ◌≡◌, List, [], ◌∷◌, Ok, Err, codes}
use Rattle.account_spec.specs.Rules.{Fed}
use Rattle.frames.specs.Answers.{accepted}
use Rattle.account_spec.specs.declared.Account.{Account}
use Rattle.account_spec.specs.Account.{fresh_account}
use Rattle.account_spec.specs.Reading.{word_of, totals_of, read_of}
use Rattle.account_spec.specs.Runs.{Event, fed, taken, Run, account_after, TakesAll}
use Rattle.account_spec.specs.Lines.{lines_read_as, FillsLines}

-- ---- the lines that a run accepted

abbrev if_accepted : Fed → List ℕ → List (List ℕ) → List (List ℕ)
if_accepted (Ok a) l ls = l ∷ ls
if_accepted (Err (r, a)) l ls = ls

abbrev pub accepted_lines : List Event → List (List ℕ)
accepted_lines [] = []
accepted_lines (fed l r ∷ es) = if_accepted r l (accepted_lines es)
accepted_lines (taken r ∷ es) = accepted_lines es

-- ---- filled

-- the same season from other lines, all accepted
pub record Taken (a : Account) (ls : List (List ℕ)) : Type 0 where
  pub account : Account
  pub takes : TakesAll fresh_account ls account
  pub reads : read_of account ≡ accepted (totals_of account)
  pub phase : account.phase ≡ a.phase
  pub season : account.season ≡ a.season
  pub hours : account.sums.hours ≡ a.sums.hours
  pub counted : account.sums.counted ≡ a.sums.counted

-- the lower figures do not fall, the upper ones do not rise, and the verdict stays where it was
-- "exceeded" or "below"
pub record Narrower (a b : Account) : Type 0 where
  pub lower : a.sums.lower ≤ b.sums.lower
  pub upper : b.sums.upper ≤ a.sums.upper
  pub least : a.sums.least ≤ b.sums.least
  pub most : b.sums.most ≤ a.sums.most
  pub exceeded :
      word_of (totals_of a).verdict ≡ codes "exceeded" →
      word_of (totals_of b).verdict ≡ codes "exceeded"
  pub below :
      word_of (totals_of a).verdict ≡ codes "below" → word_of (totals_of b).verdict ≡ codes "below"

pub record FillingPromise : Type 0 where
  -- the lines that a run accepted, fed alone, leave the same account
  pub alone :
      (es : List Event) → Run fresh_account es →
      TakesAll fresh_account (accepted_lines es) (account_after fresh_account es)
  -- its lower figures are those of these lines with every ozone FFFF read as 0
  pub zero : (ls : List (List ℕ)) (a : Account) → TakesAll fresh_account ls a →
      (t : Taken a (lines_read_as 0 ls)) × (t.account.sums.lower ≡ a.sums.lower)
      × (t.account.sums.least ≡ a.sums.least)
  -- its upper ones those of these lines with each read as the ceiling
  pub ceiling : (ls : List (List ℕ)) (a : Account) → TakesAll fresh_account ls a →
      (t : Taken a (lines_read_as a.season.ceiling ls)) × (t.account.sums.upper ≡ a.sums.upper)
      × (t.account.sums.most ≡ a.sums.most)
  -- filled within the ceiling, in part or wholly, no verdict is turned
  pub filled :
      (ls ms : List (List ℕ)) (a : Account) → TakesAll fresh_account ls a →
      FillsLines a.season.ceiling ls ms →
      (t : Taken a ms) × Narrower a t.account
