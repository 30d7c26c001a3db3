-- `stored::trials::named_in` meets its contract.
use mathlib.Core.Path.{◌≡◌, ap, ◌∙◌}
use native.Mathlib.Omega.{arith}
use Rattle.stored.specs.Packing.{big_endian_at}
use Rattle.stored.specs.Code.{coded_of}
use Rattle.stored.specs.TrialLayout.{code_width}
use Rattle.stored.proofs.trials.named_in.Goals as goal

pub returns : goal.returns
unfolding big_endian_at
returns c =
    let code : c.from_be_bytes.result ≡ big_endian_at code_width 0 c.args.code.now =
    rw c.from_be_bytes.ensures (omega arith) in
    c.answer_of.ensures.result_value ∙ ap coded_of code
