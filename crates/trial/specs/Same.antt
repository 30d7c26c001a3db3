-- Whether two accounts are equal, for row 16 ("Trials"): by the derived `==`, in every field, each
-- nested one too. `TrialPromise.same` says that this is equality.
use Rattle.std.specs.Prelude.{Bool}
use Rattle.account_spec.specs.declared.Account.{Account}
use Rattle.account_spec.specs.contracts.AccountPartialEq.TheImpl as accounts

unfoldable pub is_same : Account → Account → Bool
is_same a b = accounts.ghosts.eq a b
