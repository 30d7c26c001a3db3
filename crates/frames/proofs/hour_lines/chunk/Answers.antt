-- `frames::hour_lines::chunk` meets its contract: so many of its characters are read.
use Prim.Native.Nat.{ℕ, ◌+◌, ◌*◌}
use mathlib.Core.Path.{ap₂}
use native.Mathlib.Omega.{arith}
use Rattle.frames.proofs.ChunkLaws.{chunk-none, read_more}
use Rattle.frames.proofs.hour_lines.chunk.Goals as goal

pub loop-i-init : goal.loop-i-init
loop-i-init c = chunk-none _ _ _ (omega arith)

pub loop-i-preserved : goal.loop-i-preserved
loop-i-preserved c = let a = c.args in
    let said = ap₂ (λ (x y : ℕ). x * 16 + y)
    c.digit_value-high.ensures.of_any c.digit_value-low.ensures.of_any in
    rw c.is_digit-digits.ensures
    (read_more a.line.now a.from c.loop-i.i c.loop-i.digits c.loop-i.bytes
    (omega arith) c.loop-i.invariant _ said)
