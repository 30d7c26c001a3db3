-- What taking a trial answers, by what each test says.
use Rattle.std.specs.Prelude.{Ok, Err}
use mathlib.Core.Path.{◌≡◌}
use native.Mathlib.Omega.{arith}
use mathlib.Core.Bool.{true, false}
use Rattle.frames.specs.declared.records.Refusal.{Refusal}
use Rattle.frames.specs.Answers.{Outcome, accepted, refused, row, row_of}
use Rattle.account_spec.specs.declared.Account.{Account}
use Rattle.account_spec.specs.Account.{impossible}
use Rattle.trial.specs.declared.Trial.{Trial}
use Rattle.trial.specs.Same.{is_same}
use Rattle.trial.specs.Taking.{take_with, take_of, TakesTrial}

-- ---- the rows, in their order

module _ (a tried : Account) (answer : Outcome Account) where
  pub take-impossible : impossible a ≡ true → take_with a tried answer ≡ refused (13, 0)
  unfolding take_with
  take-impossible e = rw e

  pub take-other :
      impossible a ≡ false → is_same a tried ≡ false → take_with a tried answer ≡ refused (16, 0)
  unfolding take_with
  take-other possible e = rw (possible, e)

-- ---- the replies

module _ (a : Account) (t : Trial) where
  replies-refused : (r : Refusal) → take_of a t ≡ refused (row_of r) → TakesTrial a t (Err (r, a))
  replies-refused r e = grind arith

  pub takes-impossible : impossible a ≡ true → TakesTrial a t (Err (Refusal.Account, a))
  unfolding take_of take_with
  takes-impossible e = grind arith

  module _ (possible : impossible a ≡ false) where
    pub takes-other : is_same a t.tried ≡ false → TakesTrial a t (Err (Refusal.Tried, a))
    unfolding take_of take_with
    takes-other e = grind arith

    module _ (same : is_same a t.tried ≡ true) where
      pub takes-refused :
          (r : Refusal) (b : Account) → t.answer ≡ Err (r, b) → TakesTrial a t (Err (r, a))
      unfolding take_of take_with
      takes-refused r b e = grind arith

      module _ (b : Account) (accepts : t.answer ≡ Ok b) where
        next-is : take_of a t ≡ row 13 (impossible b) (accepted b)
        unfolding take_of take_with
        next-is = rw (possible, same, accepts)

        pub takes-next-impossible : impossible b ≡ true → TakesTrial a t (Err (Refusal.Account, a))
        unfolding take_of take_with
        takes-next-impossible e = grind arith

        pub takes-next : impossible b ≡ false → TakesTrial a t (Ok b)
        unfolding take_of take_with
        takes-next e = grind arith
