-- `floats::feed_floats` meets its contract.
use Rattle.floats.proofs.PromiseLaws.{float-promise}
use Rattle.floats.proofs.AnswerLaws.{whole-answers, broken-answers, untimely-answers}
use Rattle.floats.proofs.feed_floats.Goals as goal

pub returns-in-Ok : goal.returns-in-Ok
returns-in-Ok c = record {
  answers = whole-answers _ _ _ _ _ c.in-Ok.ensures _ c.feed_frame.ensures;
  promise = float-promise;
}

pub returns-in-Ok-timely : goal.returns-in-Ok-timely
returns-in-Ok-timely c = record {
  answers = broken-answers _ _ _ _ _ c.in-Err.ensures _ c.hour_at.ensures c.in-Ok-timely.ensures;
  promise = float-promise;
}

pub returns-in-Err-timely : goal.returns-in-Err-timely
returns-in-Err-timely c = record {
  answers =
      untimely-answers _ _ _ _ _ c.in-Err.ensures _ c.hour_at.ensures _ c.in-Err-timely.ensures;
  promise = float-promise;
}
