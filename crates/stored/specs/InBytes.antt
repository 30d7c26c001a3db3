-- A list of accounts as bytes: each account as `stored` has it, one after the other.
use Rattle.std.specs.Prelude.{ℕ, zero, suc, ◌/◌, List, [], ◌∷◌, ◌++◌, length, drop}
use Rattle.frames.specs.Answers.{Outcome, accepted, onward}
use Rattle.account_spec.specs.declared.Account.{Account}
use Rattle.stored.specs.Packing.{total_width}
use Rattle.stored.specs.Layout.{widths, account_bytes, take_up_of}

unfoldable pub accounts_bytes : List Account → List ℕ
accounts_bytes [] = []
accounts_bytes (a ∷ xs) = account_bytes a ++ accounts_bytes xs

-- n accounts from the front on, or row 13 where the bytes of one hold none
unfoldable pub accounts_in : ℕ → List ℕ → Outcome (List Account)
accounts_in zero l = accepted []
accounts_in (suc n) l =
    onward (take_up_of l)
    (λ a. onward (accounts_in n (drop (total_width widths) l)) (λ xs. accepted (a ∷ xs)))

-- how many accounts the bytes have room for; those behind the last whole one belong to none
abbrev pub count_in : List ℕ → ℕ
count_in l = length l / total_width widths

-- the list that the bytes hold
abbrev pub list_in : List ℕ → Outcome (List Account)
list_in l = accounts_in (count_in l) l
