-- `dose::light::decay` meets its contract: each table passes one computed test, and the three
-- entries make decay_low.
use Rattle.std.proofs.Common.{arith}
use Rattle.exact.proofs.SeriesCommon.{common_den, common_num}
use Rattle.dose_spec.proofs.DecayTests.{table-tested}
use Rattle.dose.proofs.DecayLookup.{found-is, two-le, three-le}
use Rattle.dose.proofs.light.decay.Goals as goal

pub overflow_mul-result : goal.overflow_mul-result
overflow_mul-result c = omega (
  arith,
  two-le c.args.n c.decay_entry-a.result c.decay_entry-b.result c.decay_entry-c.result
      c.decay_entry-a.ensures c.decay_entry-b.ensures c.decay_entry-c.ensures,
)

pub overflow_mul-result-2 : goal.overflow_mul-result-2
overflow_mul-result-2 c = omega (
  arith,
  three-le c.args.n c.decay_entry-a.result c.decay_entry-b.result c.decay_entry-c.result
      c.decay_entry-a.ensures c.decay_entry-b.ensures c.decay_entry-c.ensures,
)

pub returns : goal.returns
returns c =
    found-is c.args.n c.decay_entry-a.result c.decay_entry-b.result c.decay_entry-c.result
    c.decay_entry-a.ensures c.decay_entry-b.ensures c.decay_entry-c.ensures

pub decay_entry-a-requires-clause-table : goal.decay_entry-a-requires-clause-table
unfolding common_den common_num
decay_entry-a-requires-clause-table c = table-tested 1 _ tt

pub decay_entry-b-requires-clause-table : goal.decay_entry-b-requires-clause-table
unfolding common_den common_num
decay_entry-b-requires-clause-table c = table-tested 100 _ tt

pub decay_entry-c-requires-clause-table : goal.decay_entry-c-requires-clause-table
unfolding common_den common_num
decay_entry-c-requires-clause-table c = table-tested 10000 _ tt
