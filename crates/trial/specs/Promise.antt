-- What holds of every trial that is taken ("Trials").
use Rattle.std.specs.Prelude.{ℕ, ◌≡◌, true, false, List, ◌↔◌}
use Rattle.frames.specs.Answers.{accepted, refused, row, outcome_of}
use Rattle.account_spec.specs.declared.Account.{Account}
use Rattle.account_spec.specs.Account.{impossible}
use Rattle.account_spec.specs.Rules.{feed_of, fed_as, left_by, Feeds, Fed}
use Rattle.account_spec.specs.Reading.{Reads}
use Rattle.trial.specs.declared.Trial.{Trial}
use Rattle.trial.specs.Same.{is_same}
use Rattle.trial.specs.Trial.{Tries}
use Rattle.trial.specs.Taking.{answer_in, take_of, TakesTrial}

pub record TrialPromise : Type 0 where
  -- no field is left out of the comparison
  pub same : (a b : Account) → (is_same a b ≡ true) ↔ (a ≡ b)
  -- a trial that `try_line` made, taken with the tried account, gives exactly what `feed` gives,
  -- and its reading is what `read` then gives
  pub taken :
      (a : Account) (l : List ℕ) (t : Trial) → Tries a l t → (r : Fed) → TakesTrial a t r →
      Feeds a l r × Reads (left_by r) t.reading
  -- with any other account it is row 13, else row 16
  pub other :
      (a : Account) (t : Trial) → (a ≡ t.tried → ⊥) →
      take_of a t ≡ row 13 (impossible a) (refused (16, 0))
  -- a trial made otherwise gives what it carries
  pub carries :
      (t : Trial) → impossible t.tried ≡ false → take_of t.tried t ≡ answer_in (fed_as t.answer)
  -- no trial makes an account impossible
  pub possible : (a b : Account) (t : Trial) → take_of a t ≡ accepted b → impossible b ≡ false
  -- taken twice it is row 16, unless nothing changed
  pub twice :
      (a b : Account) (t : Trial) → take_of a t ≡ accepted b → (b ≡ a → ⊥) →
      take_of b t ≡ refused (16, 0)
  -- the account and the reading of a trial that is refused are the tried account's own
  pub refused_tried :
      (a : Account) (l : List ℕ) (t : Trial) → Tries a l t → (w : ℕ × ℕ) → feed_of a l ≡ refused w →
      (left_by t.answer ≡ a) × Reads a t.reading
  -- the trial of an impossible account answers row 13, and so does its reading
  pub impossible_tried : (a : Account) (l : List ℕ) (t : Trial) → Tries a l t → impossible a ≡ true
      → (fed_as t.answer ≡ refused (13, 0)) × (outcome_of t.reading ≡ refused (13, 0))
