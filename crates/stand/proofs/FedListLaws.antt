-- What holds of every list of lines fed to a list of accounts: `ListPromise`.
use Rattle.stand.specs.Runs.{accepted_in}
use Rattle.stand.specs.Promise.{ListPromise}
use Rattle.stand.proofs.TogetherLaws.{together-is}
use Rattle.stand.proofs.AlikeLaws.{unlike-common, common-unlike}
use Rattle.stand.proofs.RunLaws.{run_alone, at-alone, run-shared}
use Rattle.stand.proofs.RefusedLaws.{line-together}
use Rattle.stand.proofs.ContinuedLaws.{alone-continued}

pub list-promise : ListPromise
list-promise = record {
  step = together-is;
  alike = λ xs. (unlike-common xs, common-unlike xs);
  line = line-together;
  alone = run_alone;
  shared = run-shared;
  season = λ xs ys es run a b k own.
      alone-continued a own (accepted_in es) b (at-alone xs ys es run a b k);
}
