-- `frames::hour_lines::read` meets its contract: a line that goes the way of the chunks is read as
-- `frames::parse` reads it.
use Prim.Native.Nat.{◌≤◌}
use mathlib.Core.Path.{◌≡◌}
use native.Mathlib.Omega.{arith}
use borrow.Author.Tests.{eqb-true}
use lib.ListN.{length}
use Rattle.frames.specs.steps.HourLines.{LengthOf}
use Rattle.frames.proofs.HourLaws.{hour-read}
use Rattle.frames.proofs.hour_lines.read.Goals as goal

pub returns-then-d-e : goal.returns-then-d-e
returns-then-d-e c =
    let same : length c.args.line.now ≡ c.length_of.result =
    eqb-true (length c.args.line.now) c.length_of.result c.if-n-length_of.true-raw in
    let low : 36 ≤ length c.args.line.now = c.if-n-ge-DIGITS.true in
    let sized : LengthOf c.args.kind (length c.args.line.now) =
    rw same (c.length_of.ensures (omega (arith, same, low))) in
    hour-read _ (c.args.line.now) _ _ _ _ _ _ _ (sized)
    (low) c.chunk-d.ensures c.chunk-e.ensures c.chunk-f.ensures
    c.is_digit.ensures _ c.if-d-e.true (c.hour_at.ensures (c.args.line.now))
