-- The two round trips: every account is taken up as itself, and bytes that hold an account are
-- stored as themselves.
use Rattle.std.specs.Prelude.{ℕ, ◌≡◌, List, ◌++◌, drop}
use Rattle.frames.specs.Answers.{accepted}
use Rattle.account_spec.specs.declared.Account.{Account}
use Rattle.stored.specs.Packing.{total_width}
use Rattle.stored.specs.Layout.{widths, account_bytes, take_up_of}

-- an account's bytes are taken up as the account, whatever follows them
pub record TakenUp (a : Account) : Type 0 where
  pub back : (rest : List ℕ) → take_up_of (account_bytes a ++ rest) ≡ accepted a

-- an account that these bytes hold, stored at their front, leaves them as they are
pub record StoredBack (l : List ℕ) : Type 0 where
  pub same :
      (a : Account) → take_up_of l ≡ accepted a → account_bytes a ++ drop (total_width widths) l ≡ l
