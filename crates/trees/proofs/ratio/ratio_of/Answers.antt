-- `trees::ratio::ratio_of` meets its contract.
use Rattle.std.proofs.Common.{arith}
use Rattle.trees.proofs.LowestLaws.{powers-rising, powers-none-low, powers-none-high}
use Rattle.trees.proofs.ratio.ratio_of.Goals as goal

pub returns-then-t_opt-t_min : goal.returns-then-t_opt-t_min
returns-then-t_opt-t_min c = record {
  value = (powers-none-low _ _ _ (omega arith)).0;
  facts = (powers-none-low _ _ _ (omega arith)).1;
}

pub returns-then-t_max-t_opt : goal.returns-then-t_max-t_opt
returns-then-t_max-t_opt c = record {
  value = (powers-none-high _ _ _ (omega arith) (omega arith)).0;
  facts = (powers-none-high _ _ _ (omega arith) (omega arith)).1;
}

pub returns : goal.returns
returns c = record {
  value = (powers-rising _ _ _ (omega arith) (omega arith) c.lowest_terms.ensures).0;
  facts = (powers-rising _ _ _ (omega arith) (omega arith) c.lowest_terms.ensures).1;
}
