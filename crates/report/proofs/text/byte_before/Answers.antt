-- `report::text::byte_before` meets its contract.
use native.Mathlib.Omega.{arith}
use Rattle.text_spec.proofs.TextLaws.{byte-before}
use Rattle.report.proofs.text.byte_before.Goals as goal

pub returns : goal.returns
returns c = let t = c.args.t in
    record { text = byte-before t.bytes t.at _ (omega arith) (omega arith); room = omega arith }
