-- `dose::hour_dose` meets its contract: each row in its turn, and by the tree's figures the rest.
use Rattle.std.proofs.Common.{sym, ap, ◌∙◌}
use Rattle.std.proofs.lemmas.Result.{err_from_is_err_and}
use Rattle.frames.specs.Answers.{onward}
use Rattle.dose_spec.proofs.BenchCases.{bench-cases}
use Rattle.dose_spec.proofs.EnclosureLaws.{enclosure}
use Rattle.dose_spec.proofs.ShareLaws.{hour-facts}
use Rattle.dose.specs.steps.Rows.{dosing_as, hour_by}
use Rattle.dose.proofs.SplitLaws.{split-is}
use Rattle.dose.proofs.hour_dose.Goals as goal

pub returns-in_err-run : goal.returns-in_err-run
returns-in_err-run c =
    let a = c.args in
    let out = err_from_is_err_and c.from_residual.result c.from_residual.ensures.1 in
    let run = sym c.dosing.ensures ∙ ap dosing_as c.in_err-run.was in
    record {
      result_value =
          rw (out.1, out.2)
          (sym (ap (λ o. onward o (λ stand. hour_by stand a.h)) run) ∙ split-is _ _ _ _ _ _ _);
      enclosure = enclosure;
      facts = hour-facts;
      bench_cases = bench-cases;
    }

pub returns : goal.returns
returns c =
    let a = c.args in
    let run = sym c.dosing.ensures ∙ ap dosing_as c.in_ok-run.was in
    record {
      result_value =
          c.dose_by.ensures
          ∙ (sym (ap (λ o. onward o (λ stand. hour_by stand a.h)) run) ∙ split-is _ _ _ _ _ _ _);
      enclosure = enclosure;
      facts = hour-facts;
      bench_cases = bench-cases;
    }
