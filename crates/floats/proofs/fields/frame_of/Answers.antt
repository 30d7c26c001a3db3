-- `floats::fields::frame_of` meets its contract.
use Rattle.std.specs.Prelude.{Result, Err}
use Rattle.std.proofs.Common.{◌≡◌, refl, rules}
use Rattle.frames.specs.Answers.{Outcome, outcome_of}
use Rattle.frames.specs.declared.records.RawHour.{RawHour}
use Rattle.frames.specs.declared.records.Refusal.{Refusal}
use Rattle.floats.proofs.FieldLaws.{frame-by}
use Rattle.floats.proofs.fields.frame_of.Goals as goal

-- a refusal handed on
handed :
    (s : Result RawHour Refusal) (w : Refusal) (o : Outcome RawHour) →
    s ≡ Err w → outcome_of (Err w) ≡ o → outcome_of s ≡ o
handed s w o e = rw e (λ k. k)

pub returns-in_err-natural_field : goal.returns-in_err-natural_field
returns-in_err-natural_field c =
    handed _ c.in_err-natural_field.field-0.0 _ (search rules)
    (frame-by c.args.day c.args.hour c.args.r c.in_err-natural_field.ensures refl refl
    refl refl refl refl)

pub returns-in_err-natural_field-2 : goal.returns-in_err-natural_field-2
returns-in_err-natural_field-2 c =
    handed _ c.in_err-natural_field-2.field-0.0 _ (search rules)
    (frame-by c.args.day c.args.hour c.args.r c.in_ok-natural_field.ensures
    c.in_err-natural_field-2.ensures refl refl refl refl refl)

pub returns-in_err-natural_field-3 : goal.returns-in_err-natural_field-3
returns-in_err-natural_field-3 c =
    handed _ c.in_err-natural_field-3.field-0.0 _ (search rules)
    (frame-by c.args.day c.args.hour c.args.r c.in_ok-natural_field.ensures
    c.in_ok-natural_field-2.ensures c.in_err-natural_field-3.ensures refl refl refl refl)

pub returns-in_err-complement_field : goal.returns-in_err-complement_field
returns-in_err-complement_field c =
    handed _ c.in_err-complement_field.field-0.0 _ (search rules)
    (frame-by c.args.day c.args.hour c.args.r c.in_ok-natural_field.ensures
    c.in_ok-natural_field-2.ensures c.in_ok-natural_field-3.ensures
    c.in_err-complement_field.ensures refl refl refl)

pub returns-in_err-natural_field-4 : goal.returns-in_err-natural_field-4
returns-in_err-natural_field-4 c =
    handed _ c.in_err-natural_field-4.field-0.0 _ (search rules)
    (frame-by c.args.day c.args.hour c.args.r c.in_ok-natural_field.ensures
    c.in_ok-natural_field-2.ensures c.in_ok-natural_field-3.ensures c.in_ok-complement_field.ensures
    c.in_err-natural_field-4.ensures refl refl)

pub returns-in_err-natural_field-5 : goal.returns-in_err-natural_field-5
returns-in_err-natural_field-5 c =
    handed _ c.in_err-natural_field-5.field-0.0 _ (search rules)
    (frame-by c.args.day c.args.hour c.args.r c.in_ok-natural_field.ensures
    c.in_ok-natural_field-2.ensures c.in_ok-natural_field-3.ensures c.in_ok-complement_field.ensures
    c.in_ok-natural_field-4.ensures c.in_err-natural_field-5.ensures refl)

pub returns-in_err-natural_field-6 : goal.returns-in_err-natural_field-6
returns-in_err-natural_field-6 c =
    handed _ c.in_err-natural_field-6.field-0.0 _ (search rules)
    (frame-by c.args.day c.args.hour c.args.r c.in_ok-natural_field.ensures
    c.in_ok-natural_field-2.ensures c.in_ok-natural_field-3.ensures c.in_ok-complement_field.ensures
    c.in_ok-natural_field-4.ensures c.in_ok-natural_field-5.ensures
    c.in_err-natural_field-6.ensures)

pub returns : goal.returns
returns c =
    frame-by c.args.day c.args.hour c.args.r c.in_ok-natural_field.ensures
    c.in_ok-natural_field-2.ensures c.in_ok-natural_field-3.ensures c.in_ok-complement_field.ensures
    c.in_ok-natural_field-4.ensures c.in_ok-natural_field-5.ensures c.in_ok-natural_field-6.ensures
