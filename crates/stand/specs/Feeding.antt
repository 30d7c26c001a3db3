-- Feeding a list of accounts a line ("Several trees, one reading"): rows 22, 13 and 23, then every
-- account takes it or none.
use Rattle.std.specs.Prelude.{ℕ, ◌≡◌, Bool, false, ◌||◌, List, [], ◌∷◌, length, Result, ◌==◌}
use Rattle.std.specs.Prelude.{nat_lt}
use Rattle.frames.specs.declared.records.Refusal.{Refusal}
use Rattle.frames.specs.Answers.{Outcome, row, reply, outcome_of}
use Rattle.account_spec.specs.declared.Account.{Account}
use Rattle.account_spec.specs.Account.{impossible}
use Rattle.account_spec.specs.Rules.{feed_of}
use Rattle.stand.specs.Together.{together, left_together}
use Rattle.stand.specs.Alike.{unlike}

-- row 22: empty or over six
abbrev pub size_out : ℕ → Bool
size_out n = n == 0 || nat_lt 6 n

-- row 13 for any of them
unfoldable pub any_impossible : List Account → Bool
any_impossible [] = false
any_impossible (a ∷ xs) = impossible a || any_impossible xs

unfoldable pub feed_all_of : List Account → List ℕ → Outcome (List Account)
feed_all_of xs l =
    row 22 (size_out (length xs))
    (row 13 (any_impossible xs)
    (row 23 (unlike xs)
    (together (λ a. feed_of a l) xs)))

-- what `feed_all` promises of the list before and after
pub record FeedsAll (before : List Account) (l : List ℕ) (r : Result Unit Refusal)
    (after : List Account) : Type 0 where
  pub answers : outcome_of r ≡ reply (feed_all_of before l)
  pub leaves : after ≡ left_together before (feed_all_of before l)
