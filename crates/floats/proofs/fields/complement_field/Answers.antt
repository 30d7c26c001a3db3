-- `floats::fields::complement_field` meets its contract.
use Rattle.std.proofs.Common.{◌≡◌, sym, ap, ◌∙◌, rules}
use Rattle.std.specs.Prelude.{Err}
use Rattle.frames.specs.Answers.{accepted}
use Rattle.frames.specs.declared.records.Refusal.{Refusal}
use Rattle.floats.specs.Numbers.{complement_bytes}
use Rattle.floats.proofs.FieldLaws.{complement-says, complement-held, bits-back}
use Rattle.floats.proofs.fields.complement_field.Goals as goal

pub returns-in_err-z : goal.returns-in_err-z
returns-in_err-z c =
    let none = c.in_err-z.ensures.ok_part in
    let row = rw none at c.in_err-z.ensures.value in
    let e : c.from_residual.result ≡ Err c.in_err-z.field-0.0 = search rules in
    let why : c.in_err-z.field-0.0 ≡ Refusal.Float c.args.field = cc row in
    rw (e, why) (complement-says c.args.field _ _ (sym none ∙ c.whole_number.ensures))

pub returns : goal.returns
returns c =
    let number = sym c.in_ok-z.ensures.ok_part ∙ c.whole_number.ensures in
    ap accepted
    (complement-held _ _ _ _ (λ t k. search rules) c.try_from.ensures c.map_or.ensures
    ∙ ap complement_bytes (bits-back _ _ number))
    ∙ complement-says c.args.field _ _ number
