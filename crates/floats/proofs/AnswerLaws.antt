-- What `feed_floats` answers: the frame's answer, or row 26 after the rows that look at no reading.
use Rattle.std.specs.Prelude.{Err}
use Rattle.std.proofs.Common.{◌≡◌, ℕ, sym, refl, ap, ◌∙◌, subst}
use Rattle.frames.specs.declared.records.Raw.{Raw}
use Rattle.frames.specs.declared.records.RawHour.{RawHour}
use Rattle.frames.specs.declared.records.Refusal.{Refusal}
use Rattle.frames.specs.Answers.{Outcome, accepted, refused, onward, row_of}
use Rattle.frames.proofs.AnswerLaws.{refused-not-accepted, accepted-same, onward-passed}
use Rattle.account_spec.specs.declared.Account.{Account}
use Rattle.account_spec.specs.Rules.{feed_frame_of, Answers, Fed}
use Rattle.account_spec.specs.Timely.{timely_of}
use Rattle.floats.specs.declared.FloatReadings.{FloatReadings}
use Rattle.floats.specs.Numbers.{raw_of}
use Rattle.floats.specs.Feeding.{hour_at, feed_floats_of, wholes_of}
use Rattle.floats.proofs.FeedLaws.{feed-whole}

-- a step that refuses nothing
refused-first :
    {A B : Type 0} (o : Outcome A) (f : A → B) (w : ℕ × ℕ) →
    refused w ≡ onward o (λ a. accepted (f a)) → o ≡ refused w
refused-first (accepted a) f w e = refused-not-accepted e
refused-first (refused v) f w e = let same : v ≡ w = cc in ap refused same

module _ (a : Account) (day hour : ℕ) (r : FloatReadings) where
  pub whole-answers :
      (raw : RawHour) → accepted raw ≡ onward (wholes_of r) (λ w. accepted (raw_of day hour w)) →
      (fed : Fed) → Answers a (feed_frame_of a (Raw.Hour raw)) fed
      → Answers a (feed_floats_of a day hour r) fed
  whole-answers raw e fed k =
      let p = onward-passed (wholes_of r) (λ w. accepted (raw_of day hour w)) raw (sym e) in
      subst (λ (o : Outcome Account). Answers a o fed)
      (sym (feed-whole a day hour p.0 r p.1
      ∙ ap (λ (x : RawHour). feed_frame_of a (Raw.Hour x)) (accepted-same p.2)))
      k

  module _ (broken : Refusal)
      (framed : refused (row_of broken) ≡ onward (wholes_of r) (λ w. accepted (raw_of day hour w)))
      (hour_is : RawHour) (is : hour_is ≡ hour_at day hour) where
    timely-is : (o : Outcome Unit) → o ≡ timely_of a hour_is → timely_of a (hour_at day hour) ≡ o
    timely-is o e = sym (e ∙ ap (timely_of a) is)

    pub broken-answers :
        accepted tt ≡ timely_of a hour_is →
        Answers a (feed_floats_of a day hour r) (Err (broken, a))
    unfolding feed_floats_of
    broken-answers e =
        let w = refused-first (wholes_of r) (raw_of day hour) (row_of broken) framed in
        record {
          answers = rw (timely-is (accepted tt) e, w) refl;
          leaves = rw (timely-is (accepted tt) e, w) refl;
        }

    pub untimely-answers :
        (row : Refusal) → refused (row_of row) ≡ timely_of a hour_is →
        Answers a (feed_floats_of a day hour r) (Err (row, a))
    unfolding feed_floats_of
    untimely-answers row e = record {
      answers = rw (timely-is (refused (row_of row)) e) refl;
      leaves = rw (timely-is (refused (row_of row)) e) refl;
    }
