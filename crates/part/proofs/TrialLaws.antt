-- Trials in bytes, by what the calls below them answer.
use Rattle.std.specs.Prelude.{Result, Ok, Err}
use Prim.Native.Nat.{ℕ}
use mathlib.Core.Path.{◌≡◌, refl, sym, ap, ◌∙◌}
use mathlib.Core.Bool.{Bool, true, false}
use mathlib.Core.List.{List, ◌++◌}
use lib.Dec.{ltb}
use lib.ListN.{length, drop}
use Rattle.frames.specs.declared.records.Refusal.{Refusal}
use Rattle.frames.specs.Answers.{Outcome, accepted, refused, row_of, outcome_of}
use Rattle.frames.specs.Buffer.{Prints}
use Rattle.frames.proofs.AnswerLaws.{accepted-same, refused-not-accepted}
use Rattle.account_spec.specs.declared.Account.{Account}
use Rattle.account_spec.specs.Rules.{fed_as, Fed}
use Rattle.stored.specs.Layout.{take_up_of}
use Rattle.stored.specs.declared.answers.Tried.{Tried}
use Rattle.stored.specs.Code.{code_of, code_of_row}
use Rattle.stored.specs.Reading.{readout_of, no_trial}
use Rattle.trial.specs.declared.Trial.{Trial}
use Rattle.trial.specs.Trial.{Tries}
use Rattle.trial.specs.Taking.{take_of, TakesTrial}
use Rattle.stored.specs.TrialLayout.{Contents, contents_of, answer_carried, trial_width}
use Rattle.stored.specs.TrialLayout.{trial_bytes, contents_in, HoldsTrial}
use Rattle.stored.specs.TrialLayout.{held_as as trial_held_as}
use Rattle.stored.specs.TrialRoundTrip.{TrialTakenUp}
use Rattle.stored.proofs.ContentsLaws.{contents-same}
use Rattle.stored.proofs.TrialRoundTripLaws.{trial-length, fed-answer}
use Rattle.part.specs.Calls.{fed_in}
use Rattle.part.specs.Trials.{contents_by, tried_in, tried_of, trial_after, TriesBytes, taken_from}
use Rattle.part.proofs.HeldLaws.{fed-is}

refused-same : {v w : ℕ × ℕ} → ◌≡◌ {A = Outcome ℕ} (refused v) (refused w) → v ≡ w
refused-same e = cc

-- ---- trying

tries-row :
    (account line before after : List ℕ) (answer : Tried) (r : ℕ × ℕ) →
    tried_in account line (length before) ≡ refused r →
    answer ≡ no_trial (code_of_row r) → after ≡ before
    → TriesBytes account line before answer after
tries-row account line before after answer r q is same = record {
  answers = is ∙ ap tried_of (sym q);
  leaves = same ∙ ap (trial_after before) (sym q);
  holds = λ c e. refused-not-accepted (sym q ∙ e);
  carries = λ c e. refused-not-accepted (sym q ∙ e);
}

pub tries-none :
    (account line before : List ℕ) (held : Result Account Refusal)
    (why : Refusal) (answer : Tried) → outcome_of held ≡ take_up_of account → held ≡ Err why
    → answer ≡ no_trial (code_of_row (row_of why)) → TriesBytes account line before answer before
unfolding tried_in
tries-none account line before held why answer taken e is =
    tries-row account line before before answer (row_of why)
    (rw (sym taken ∙ ap outcome_of e) refl) is refl

module _ (account line before after : List ℕ) (a : Account) (t : Trial) (w : Result ℕ Refusal)
    (has : take_up_of account ≡ accepted a) (made : Tries a line t)
    (p : Prints (accepted (trial_bytes (contents_of t))) before w after)
    (back : outcome_of w ≡ accepted trial_width → TrialTakenUp t) where
  same : contents_of t ≡ contents_by a line
  same = contents-same (ap code_of made.answer.answers) made.tried made.answer.leaves

  test-is :
      (b : Bool) → ltb (length before) trial_width ≡ b →
      ltb (length before) (length (trial_bytes (contents_of t))) ≡ b
  test-is b f = ap (λ (n : ℕ). ltb (length before) n) (trial-length (contents_of t)) ∙ f

  short-by :
      (b : Bool) → ltb (length before) trial_width ≡ b → (why : Refusal) (answer : Tried) →
      w ≡ Err why → answer ≡ no_trial (code_of_row (row_of why))
      → TriesBytes account line before answer after
  unfolding tried_in
  short-by true f why answer e is =
      let row_is : row_of why ≡ (12, 0) =
      refused-same (ap outcome_of (sym e) ∙ p.answers ∙ rw (test-is true f) refl) in
      tries-row account line before after answer (12, 0) (rw (has, f) refl)
      (is ∙ ap (λ (r : ℕ × ℕ). no_trial (code_of_row r)) row_is)
      (p.leaves ∙ rw (test-is true f) refl)
  short-by false f why answer e is =
      let q : refused (row_of why) ≡ accepted (length (trial_bytes (contents_of t))) =
      ap outcome_of (sym e) ∙ p.answers ∙ rw (test-is false f) refl in
      refused-not-accepted q

  pub tries-short :
      (why : Refusal) (answer : Tried) → w ≡ Err why →
      answer ≡ no_trial (code_of_row (row_of why)) → TriesBytes account line before answer after
  tries-short = short-by (ltb (length before) trial_width) refl

  made_bytes :
      ltb (length before) trial_width ≡ false →
      after ≡ trial_bytes (contents_by a line) ++ drop trial_width before
  made_bytes f =
      p.leaves
      ∙ rw (test-is false f) refl
      ∙ ap (λ (n : ℕ). trial_bytes (contents_of t) ++ drop n before) (trial-length (contents_of t))
      ∙ ap (λ (c : Contents). trial_bytes c ++ drop trial_width before) same

  made_held :
      ltb (length before) trial_width ≡ false → contents_in after ≡ accepted (contents_by a line)
  made_held f =
      let up =
      back (p.answers ∙ rw (test-is false f) refl ∙ ap accepted (trial-length (contents_of t))) in
      ap contents_in
      (made_bytes f ∙ ap (λ (c : Contents). trial_bytes c ++ drop trial_width before) (sym same))
      ∙ up.back (drop trial_width before)
      ∙ ap accepted same

  carried : answer_carried (contents_by a line) ≡ fed_in account line
  carried =
      ap answer_carried (sym same) ∙ fed-answer t.answer ∙ made.answer.answers
      ∙ sym (fed-is a account has line)

  abbrev told : Tried
  told = record {
    code = 0;
    answer = code_of (fed_as t.answer);
    reading = readout_of (outcome_of t.reading);
  }

  told_is : told ≡ tried_of (accepted (contents_by a line))
  told_is = rw (made.answer.answers, made.reading.answers) refl

  made-by-test :
      (b : Bool) → ltb (length before) trial_width ≡ b → (n : ℕ) (answer : Tried) → w ≡ Ok n →
      answer ≡ told → TriesBytes account line before answer after
  unfolding tried_in
  made-by-test true f n answer e is =
      let q : accepted n ≡ refused (12, 0) =
      ap outcome_of (sym e) ∙ p.answers ∙ rw (test-is true f) refl in
      refused-not-accepted (sym q)
  made-by-test false f n answer e is =
      let q : tried_in account line (length before) ≡ accepted (contents_by a line) =
      rw (has, f) refl in
      record {
        answers = is ∙ told_is ∙ ap tried_of (sym q);
        leaves = made_bytes f ∙ ap (trial_after before) (sym q);
        holds = λ c g. made_held f ∙ sym q ∙ g;
        carries = λ c g. ap answer_carried (accepted-same (sym g ∙ q)) ∙ carried;
      }

  pub tries-made :
      (n : ℕ) (answer : Tried) → w ≡ Ok n → answer ≡ told →
      TriesBytes account line before answer after
  tries-made = made-by-test (ltb (length before) trial_width) refl

-- ---- taking

module _ (a : Account) (trial : List ℕ) (found : Result Trial Refusal)
    (holds : HoldsTrial (contents_in trial) found) where
  pub taken_none : (why : Refusal) → found ≡ Err why → refused (row_of why) ≡ taken_from trial a
  taken_none why e =
      let q : contents_in trial ≡ refused (row_of why) = sym holds.answers ∙ ap trial_held_as e in
      rw q refl

  pub taken-trial :
      (t : Trial) → found ≡ Ok t → (fed : Fed) → TakesTrial a t fed →
      fed_as fed ≡ taken_from trial a
  unfolding take_of
  taken-trial t e fed takes =
      let q : contents_in trial ≡ accepted (contents_of t) =
      sym holds.answers ∙ ap trial_held_as e in
      let is : taken_from trial a ≡ take_of a t = rw (q, fed-answer t.answer) refl in
      takes.answers ∙ sym is
