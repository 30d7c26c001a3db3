-- Feeding the list of accounts that stands in bytes: row 22 by their room, row 13 where the bytes
-- of one hold none, then as any list is fed.
use Rattle.std.specs.Prelude.{ℕ, ◌*◌, ◌≡◌, List, ◌++◌, drop, Result}
use Rattle.frames.specs.declared.records.Refusal.{Refusal}
use Rattle.frames.specs.Answers.{Outcome, accepted, refused, row, onward, reply, outcome_of}
use Rattle.account_spec.specs.declared.Account.{Account}
use Rattle.stored.specs.Packing.{total_width}
use Rattle.stored.specs.Layout.{widths}
use Rattle.stand.specs.Feeding.{size_out, feed_all_of}
use Rattle.stored.specs.InBytes.{accounts_bytes, count_in, list_in}

unfoldable pub fed_listed_of : List ℕ → List ℕ → Outcome (List Account)
fed_listed_of before line =
    row 22 (size_out (count_in before)) (onward (list_in before) (λ xs. feed_all_of xs line))

-- the bytes of the accounts that the line leaves, past them untouched; on a refusal all of it
abbrev pub listed_after : List ℕ → Outcome (List Account) → List ℕ
listed_after before (accepted ys) =
    accounts_bytes ys ++ drop (total_width widths * count_in before) before
listed_after before (refused w) = before

-- what `feed_all` promises of the bytes before and after: those left hold the list that the line
-- leaves
pub record FeedsListed (before line : List ℕ) (answer : Result Unit Refusal)
    (after : List ℕ) : Type 0 where
  pub answers : outcome_of answer ≡ reply (fed_listed_of before line)
  pub leaves : after ≡ listed_after before (fed_listed_of before line)
  pub holds :
      (ys : List Account) → fed_listed_of before line ≡ accepted ys → list_in after ≡ accepted ys
