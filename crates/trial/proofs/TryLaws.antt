-- A line that is tried on an account which row 13 lets pass, and on one that it refuses.
use Rattle.std.specs.Prelude.{Result, Ok, Err}
use Rattle.std.specs.Result.{result_unwrap_or}
use Prim.Native.Nat.{ℕ}
use mathlib.Core.Path.{◌≡◌, refl, ap, ◌∙◌}
use mathlib.Core.Bool.{true}
use mathlib.Core.List.{List}
use Rattle.frames.specs.declared.records.Refusal.{Refusal}
use Rattle.account_spec.specs.declared.Totals.{Totals}
use Rattle.account_spec.specs.declared.Account.{Account}
use Rattle.account_spec.specs.declared.Possible.{Possible}
use Rattle.account_spec.specs.Account.{impossible}
use Rattle.account_spec.specs.Rules.{feed_of, left_of}
use Rattle.account_spec.specs.Reading.{totals_of, read_of, Reads}
use Rattle.account.specs.steps.Account.{possible_as}
use Rattle.account.proofs.FrameLaws.{line-impossible}
use Rattle.trial.specs.Trial.{Tries}
use Rattle.trial.proofs.TrialLaws.{feed-impossible}

-- the account that would follow
module _ (held : Possible) (l : List ℕ) where
  pub left-is :
      (fed : Result Possible Refusal) → possible_as fed ≡ feed_of held.account l →
      (left : Possible) → left ≡ result_unwrap_or fed held →
      left.account ≡ left_of held.account (feed_of held.account l)
  left-is (Ok next) e left is =
      ap (λ (p : Possible). p.account) is ∙ ap (left_of held.account) e
  left-is (Err w) e left is =
      ap (λ (p : Possible). p.account) is ∙ ap (left_of held.account) e

-- it is read without a test
pub reads-totals :
    (held : Possible) (totals : Totals) → totals ≡ totals_of held.account →
    Reads held.account (Ok totals)
unfolding read_of
reads-totals held totals e = record { answers = rw (held.possible, e) refl }

pub tries-impossible :
    (a : Account) (l : List ℕ) → impossible a ≡ true →
    Tries a l
    (record { tried = a; answer = Err (Refusal.Account, a); reading = Err Refusal.Account })
unfolding read_of
tries-impossible a l e =
    record {
      tried = refl;
      answer = line-impossible a l e;
      reading = record { answers = rw (feed-impossible a l e, e) refl };
    }
