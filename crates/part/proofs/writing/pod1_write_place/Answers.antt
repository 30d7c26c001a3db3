-- `part::writing::pod1_write_place` meets its contract: by whether the place has a header.
use Rattle.frames.specs.Answers.{outcome_of}
use mathlib.Core.Path.{refl, sym, ap, ◌∙◌}
use Rattle.part.specs.Frames.{placed_text}
use Rattle.part.proofs.CallLaws.{prints-accepted, prints-refused}
use Rattle.part.proofs.writing.pod1_write_place.Goals as goal

pub returns-in-Ok : goal.returns-in-Ok
unfolding placed_text
returns-in-Ok c = let q = sym c.header_at.ensures.result_value ∙ ap outcome_of c.in-Ok.is in
    let line = c.write.ensures.prints_bytes in
    record {
      prints_bytes = prints-accepted _ _ _ _ _ c.in-Ok.header q line;
      promise = c.header_at.ensures.promise;
    }

pub returns-in-Err : goal.returns-in-Err
unfolding placed_text
returns-in-Err c = let q = sym c.header_at.ensures.result_value ∙ ap outcome_of c.in-Err.is in
    record {
      prints_bytes = prints-refused _ _ _ _ _ _ c.printed_of.ensures c.in-Err.refusal q refl refl;
      promise = c.header_at.ensures.promise;
    }
