-- What is promised of every header made from a place holds.
use Rattle.dates.specs.Promise.{PlacePromise}
use Rattle.dates.specs.Model.{model_start, model_end}
use Rattle.exact.proofs.RoundingLaws.{round_up-ceiling, round_down-floor}
use Rattle.dates.proofs.ModelLaws.{sixty-is, edges-is, extremes-is, model-kept, thousand-is}
use Rattle.dates.proofs.RuleLaws.{pole-is, period-in, place_out_lem, placed-rows, placed-made}
use Rattle.dates.proofs.RuleLaws.{placed-passed, without-model}
use Rattle.dates.proofs.HeaderLaws.{header-kept}

pub place_promise : PlacePromise
place_promise = record {
  first = λ latitude height. round_up-ceiling (model_start latitude height);
  last = λ latitude height. round_down-floor (model_end latitude height);
  model = model-kept;
  sixty = sixty-is;
  edges = edges-is;
  extremes = extremes-is;
  thousand = thousand-is;
  out = place_out_lem;
  pole = pole-is;
  without_model = without-model;
  period = period-in;
  rows = placed-rows;
  made = placed-made;
  header = λ tree days level latitude height h e.
      header-kept h (placed-passed tree days level latitude height h e);
}
