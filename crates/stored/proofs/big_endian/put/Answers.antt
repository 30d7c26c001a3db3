-- `stored::big_endian::put` meets its contract.
use native.Mathlib.Omega.{arith}
use Rattle.stored.proofs.PackingLaws.{put-part}
use Rattle.stored.proofs.big_endian.put.Goals as goal

pub returns : goal.returns
returns c = let a = c.args in
    rw (c.copy_from_slice.ensures.after, c.to_be_bytes.ensures)
    (put-part a.b.now a.at a.width a.n (omega arith) (omega arith))
