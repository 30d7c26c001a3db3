-- `power::rounded::times` meets its contract.
use Rattle.std.proofs.Common.{arith}
use Rattle.power.proofs.RoundedLaws.{fits-full, near_times, near-doubled}
use Rattle.power.proofs.rounded.times.Goals as goal

pub returns-then-mantissa-lt-HALF : goal.returns-then-mantissa-lt-HALF
returns-then-mantissa-lt-HALF c = let near =
    near_times c.args.x c.args.y c.high_product-mantissa.ensures (fits-full _ (omega arith))
    (fits-full _ (omega arith)) (omega arith)
    (omega arith) in record {
      product = record { near = λ v w f g. near-doubled (omega arith) (near v w f g) };
      within = record { short = omega arith; positive = omega arith; exponent = omega arith };
    }

pub returns : goal.returns
returns c = let near =
    near_times c.args.x c.args.y c.high_product-mantissa.ensures (fits-full _ (omega arith))
    (fits-full _ (omega arith)) (omega arith)
    (omega arith) in
    record {
      product = record { near = near };
      within = record { short = omega arith; positive = omega arith; exponent = omega arith };
    }
