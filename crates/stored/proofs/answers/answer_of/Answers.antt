-- `stored::answers::answer_of` meets its contract.
use Prim.Native.Nat.{ℕ}
use mathlib.Core.Path.{sym, ap, ◌∙◌}
use Rattle.std.specs.Prelude.{Some}
use Rattle.frames.specs.Answers.{refused}
use Rattle.stored.proofs.CodeLaws.{coded-accepted, coded-refused, coded_none, code-promise}
use Rattle.stored.proofs.answers.answer_of.Goals as goal

pub returns-then-code-eq0 : goal.returns-then-code-eq0
returns-then-code-eq0 c =
    record { result_value = coded-accepted _ c.if-code-eq0.true; promise = code-promise }

pub refusal_of-requires : goal.refusal_of-requires
refusal_of-requires c = sym c.is_row.ensures ∙ c.if-is_row.true

pub returns-then-is_row : goal.returns-then-is_row
returns-then-is_row c = record {
  result_value =
      ap (λ (w : ℕ × ℕ). Some (refused w)) c.refusal_of.ensures
      ∙ coded-refused _ c.if-code-eq0.false (sym c.is_row.ensures ∙ c.if-is_row.true);
  promise = code-promise;
}

pub returns : goal.returns
returns c = record {
  result_value = coded_none _ c.if-code-eq0.false (sym c.is_row.ensures ∙ c.if-is_row.false);
  promise = code-promise;
}
