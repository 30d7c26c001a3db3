-- `trees::factors::f_vpd` meets its contract.
use mathlib.Core.Path.{◌∙◌}
use Rattle.std.proofs.Math.Nat.{max_comm}
use Rattle.trees.specs.Deficit.{deficit_of}
use Rattle.trees.proofs.DeficitLaws.{deficit-pair}
use Rattle.trees.proofs.FactsLaws.{factor-facts}
use Rattle.trees.proofs.factors.f_vpd.Goals as goal

pub returns : goal.returns
unfolding deficit_of
returns c = let is = c.max-den.ensures ∙ max_comm _ 1 in
    record {
      deficit_pair =
          deficit-pair _ _ _ (rw is at c.deficit_factor-lower.ensures)
          (rw is at c.deficit_factor-upper.ensures);
      facts = factor-facts;
    }
