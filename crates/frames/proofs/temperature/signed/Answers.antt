-- `frames::temperature::signed` meets its contract.
use mathlib.Core.Path.{◌∙◌}
use borrow.Author.Rules.{rules}
use Rattle.frames.proofs.SignedLaws.{plain}
use Rattle.frames.proofs.TemperatureLaws.{signed-is}
use Rattle.frames.proofs.temperature.signed.Goals as goal

pub returns : goal.returns
returns c = plain c.cast_signed.result (search rules) ∙ c.cast_signed.ensures ∙ signed-is c.args.n
