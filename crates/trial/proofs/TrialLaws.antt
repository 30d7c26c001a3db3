-- What holds of every trial that is taken: a trial that was made and is taken is the line fed.
use Prim.Native.Nat.{ℕ}
use mathlib.Core.Path.{◌≡◌, refl, sym, ap, subst, ◌∙◌}
use mathlib.Core.Bool.{true, false}
use mathlib.Core.List.{List}
use native.Mathlib.Omega.{arith}
use Rattle.std.proofs.lemmas.Bool.{false_from_ne_true}
use Rattle.frames.specs.Answers.{Outcome, accepted, refused, row, outcome_of}
use Rattle.account_spec.specs.declared.Account.{Account}
use Rattle.account_spec.specs.Account.{impossible}
use Rattle.account_spec.specs.Rules.{feed_of, left_of, fed_as, left_by, Answers, Feeds, Fed}
use Rattle.account_spec.specs.Reading.{read_of, Reads}
use Rattle.trial.specs.declared.Trial.{Trial}
use Rattle.trial.specs.Same.{is_same}
use Rattle.trial.specs.Trial.{Tries}
use Rattle.trial.specs.Taking.{answer_in, take_with, take_of, TakesTrial}
use Rattle.trial.specs.Promise.{TrialPromise}
use Rattle.trial.proofs.SameLaws.{same-is}
use Rattle.account_spec.proofs.NextLaws.{next-possible}

-- ---- any trial

pub other :
    (a tried : Account) (answer : Outcome Account) → (a ≡ tried → ⊥) →
    take_with a tried answer ≡ row 13 (impossible a) (refused (16, 0))
unfolding take_with
other a tried answer h =
    rw (false_from_ne_true (is_same a tried) (λ e. h ((same-is a tried).0 e))) refl

pub carries :
    (a : Account) (answer : Outcome Account) → impossible a ≡ false →
    take_with a a answer ≡ answer_in answer
unfolding take_with
carries a answer e = rw (e, (same-is a a).1 refl) refl

-- ---- a trial that is accepted

record Accepts (a b : Account) (t : Trial) : Type 0 where
  same : a ≡ t.tried
  possible : impossible b ≡ false

accepts : (a b : Account) (t : Trial) → take_of a t ≡ accepted b → Accepts a b t
unfolding take_of take_with
accepts a b t e = grind (arith, (same-is a t.tried).0)

twice :
    (a b : Account) (t : Trial) → take_of a t ≡ accepted b → (b ≡ a → ⊥) →
    take_of b t ≡ refused (16, 0)
unfolding take_of take_with
twice a b t e h = let k = accepts a b t e in grind (arith, (same-is b t.tried).0)

-- ---- a trial that was made

pub feed-impossible :
    (a : Account) (l : List ℕ) → impossible a ≡ true → feed_of a l ≡ refused (13, 0)
unfolding feed_of
feed-impossible a l e = rw e refl

-- what the answer to a line carries is the answer
carried-is : (a : Account) (l : List ℕ) (o : Outcome Account) → feed_of a l ≡ o → answer_in o ≡ o
carried-is a l o e = grind (arith, next-possible a)

-- taken with the tried account, the answer to a line is the answer
pub take-fed : (a : Account) (l : List ℕ) → take_with a a (feed_of a l) ≡ feed_of a l
unfolding take_with
take-fed a l =
    grind (arith, (same-is a a).1 refl, feed-impossible a l, carried-is a l (feed_of a l) refl)

module _ (a : Account) (l : List ℕ) (t : Trial) (made : Tries a l t) where
  pub taken_is : take_of a t ≡ feed_of a l
  unfolding take_of
  taken_is = rw (made.tried, made.answer.answers) (take-fed a l)

  taken : (r : Fed) → TakesTrial a t r → Feeds a l r × Reads (left_by r) t.reading
  taken r k = (
    subst (λ (o : Outcome Account). Answers a o r) taken_is k,
    subst (λ (x : Account). Reads x t.reading)
        (sym (k.leaves ∙ ap (left_of a) taken_is)) made.reading,
  )

  refused-tried : (w : ℕ × ℕ) → feed_of a l ≡ refused w → (left_by t.answer ≡ a) × Reads a t.reading
  refused-tried w e =
      let same = ap (left_of a) e in
      (made.answer.leaves ∙ same, subst (λ (x : Account). Reads x t.reading) same made.reading)

  impossible-tried :
      impossible a ≡ true →
      (fed_as t.answer ≡ refused (13, 0)) × (outcome_of t.reading ≡ refused (13, 0))
  unfolding read_of
  impossible-tried e = (
    made.answer.answers ∙ feed-impossible a l e,
    made.reading.answers ∙ rw (feed-impossible a l e, e) refl,
  )

pub trial-promise : TrialPromise
unfolding take_of
trial-promise = record {
  same = same-is;
  taken = taken;
  other = λ a t. other a t.tried (fed_as t.answer);
  carries = λ t. carries t.tried (fed_as t.answer);
  possible = λ a b t e. (accepts a b t e).possible;
  twice = twice;
  refused_tried = refused-tried;
  impossible_tried = impossible-tried;
}
