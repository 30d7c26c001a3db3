-- `FloatPromise` holds.
use Rattle.floats.specs.Promise.{FloatPromise}
use Rattle.floats.proofs.WholeLaws.{whole-taken, whole-broken, whole_unique, positive-whole}
use Rattle.floats.proofs.WholeLaws.{negative-whole, minus-zero, normal-value, subnormal-value}
use Rattle.floats.proofs.WholeLaws.{no_value}
use Rattle.floats.proofs.RangeLaws.{ranges-same, hour-said}
use Rattle.floats.proofs.FeedLaws.{feed-broken, feed-untimely, feed-whole, wholes-are, line-fed}

pub float-promise : FloatPromise
float-promise = record {
  taken = whole-taken;
  refused26 = whole-broken;
  unique = whole_unique;
  positive = positive-whole;
  negative = negative-whole;
  minus_zero = minus-zero;
  normal = normal-value;
  subnormal = subnormal-value;
  unbounded = no_value;
  line = line-fed;
  said = hour-said;
  frame = λ a day hour r w are. feed-whole a day hour w r (wholes-are r w are);
  ranges = ranges-same;
  untimely = feed-untimely;
  first = feed-broken;
}
