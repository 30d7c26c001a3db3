-- `dose::humidity::saturation` meets its contract: the array passes one computed test.
use Rattle.exact.proofs.SeriesCommon.{common_num, common_den}
use Rattle.dose_spec.specs.Vapour.{celsius, exponent}
use Rattle.dose.proofs.TableLaws.{entry_read}
use Rattle.dose.proofs.humidity.saturation.Goals as goal

pub returns : goal.returns
unfolding celsius exponent common_num common_den
returns c = entry_read c.entry_in.ensures c.args.x.in_range tt
