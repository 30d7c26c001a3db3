-- A trial ("Trials"): the answer that feeding a line would give, and the reading that would follow.
use Rattle.std.specs.Prelude.{ℕ, ◌≡◌, List}
use Rattle.account_spec.specs.declared.Account.{Account}
use Rattle.account_spec.specs.Rules.{feed_of, left_of, Feeds}
use Rattle.account_spec.specs.Reading.{Reads}
use Rattle.trial.specs.declared.Trial.{Trial}

-- the account that would follow: the tried one where the line is refused
abbrev pub next_of : Account → List ℕ → Account
next_of a l = left_of a (feed_of a l)

-- what `try_line` promises: the answer is feeding's, the reading is that of the account that would
-- follow
pub record Tries (a : Account) (l : List ℕ) (t : Trial) : Type 0 where
  pub tried : t.tried ≡ a
  pub answer : Feeds a l t.answer
  pub reading : Reads (next_of a l) t.reading
