-- `frames::writing_digits::put_numbers` meets its contract.
use Rattle.std.proofs.Common.{refl, arith}
use Rattle.std.proofs.lemmas.List.{take_all}
use Rattle.frames.proofs.WriterLaws.{numbers-next}
use Rattle.frames.proofs.writing_digits.put_numbers.Goals as goal

pub loop-i-init : goal.loop-i-init
loop-i-init c = (refl, refl)

pub loop-i-preserved : goal.loop-i-preserved
loop-i-preserved c = let l = c.loop-i in
    let ns = c.args.ns.now in
    numbers-next _ ns l.buf _ l.i l.invariant.0
    (omega arith) c.requires l.invariant.1 c.put_number.ensures

pub returns : goal.returns
returns c = rw (take_all c.loop-i.i c.args.ns.now c.loop-i-test.false) at c.loop-i.invariant.0
