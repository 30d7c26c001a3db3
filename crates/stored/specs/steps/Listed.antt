-- Serves the code's own steps; no reader need believe it.
use Rattle.std.specs.Prelude.{ℕ, ◌*◌, ◌≡◌, List, [], ◌∷◌, ◌++◌, length, drop, Result, Ok, Err}
use Rattle.frames.specs.declared.records.Refusal.{Refusal}
use Rattle.frames.specs.Answers.{Outcome, accepted, refused, row_of}
use Rattle.account_spec.specs.declared.Account.{Account}
use Rattle.stored.specs.Packing.{total_width}
use Rattle.stored.specs.Layout.{widths}
use Rattle.stored.specs.RoundTrip.{TakenUp}
use Rattle.stored.specs.InBytes.{accounts_bytes}

-- the accounts taken up, or their refusal
abbrev pub taken_as : Result Unit Refusal → List Account → Outcome (List Account)
taken_as (Ok tt) xs = accepted xs
taken_as (Err r) xs = refused (row_of r)

-- the bytes of each are taken up as the account
abbrev pub TakenUpAll : List Account → Type 0
TakenUpAll [] = Unit
TakenUpAll (a ∷ xs) = TakenUp a × TakenUpAll xs

-- accounts at the front of the bytes, past them untouched
pub record StoresAll (xs : List Account) (before after : List ℕ) : Type 0 where
  pub leaves : after ≡ accounts_bytes xs ++ drop (total_width widths * length xs) before
  pub back : TakenUpAll xs
