-- `floats::fields::natural_field` meets its contract.
use Rattle.std.proofs.Common.{◌≡◌, sym, ap, ◌∙◌, rules}
use Rattle.std.specs.Prelude.{Err}
use Rattle.frames.specs.Answers.{accepted}
use Rattle.frames.specs.declared.records.Refusal.{Refusal}
use Rattle.floats.specs.Numbers.{natural_bytes}
use Rattle.floats.proofs.FieldLaws.{natural-says, natural-held, bits-back}
use Rattle.floats.proofs.fields.natural_field.Goals as goal

pub returns-in_err-z : goal.returns-in_err-z
returns-in_err-z c =
    let none = c.in_err-z.ensures.ok_part in
    let row = rw none at c.in_err-z.ensures.value in
    let e : c.from_residual.result ≡ Err c.in_err-z.field-0.0 = search rules in
    let why : c.in_err-z.field-0.0 ≡ Refusal.Float c.args.field = cc row in
    rw (e, why) (natural-says c.args.field _ _ (sym none ∙ c.whole_number.ensures))

pub returns : goal.returns
returns c =
    let number = sym c.in_ok-z.ensures.ok_part ∙ c.whole_number.ensures in
    ap accepted
    (c.unwrap_or.ensures ∙ natural-held _ _ c.try_from.ensures
    ∙ ap natural_bytes (bits-back _ _ number))
    ∙ natural-says c.args.field _ _ number
