-- `stored::trials::put_code` meets its contract.
use Prim.Native.Nat.{ℕ}
use mathlib.Core.Path.{sym, ap, ◌∙◌}
use mathlib.Core.List.{[]}
use native.Mathlib.Omega.{arith}
use lib.Seq.{sets, sets-eq}
use Rattle.stored.specs.Packing.{big_endian}
use Rattle.stored.specs.TrialLayout.{code_width}
use Rattle.stored.proofs.trials.put_code.Goals as goal

pub returns-clause-is : goal.returns-clause-is
unfolding big_endian
returns-clause-is c =
    let b = c.args.buffer.now in
    rw (c.copy_from_slice.ensures.after, c.to_be_bytes.ensures)
    (sym (sets-eq (big_endian code_width c.of_fed.result []) b 0 (omega arith))
    ∙ ap (λ (n : ℕ). sets b 0 (big_endian code_width n [])) c.of_fed.ensures)
