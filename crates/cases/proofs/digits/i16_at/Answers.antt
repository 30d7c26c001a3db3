-- `cases::digits::i16_at` meets its contract.
use mathlib.Core.Path.{ap, ◌∙◌}
use borrow.Author.Rules.{rules}
use Rattle.frames.specs.Temperature.{signed_of}
use Rattle.frames.proofs.SignedLaws.{plain}
use Rattle.cases.proofs.digits.i16_at.Goals as goal

pub returns : goal.returns
returns c = plain c.signed.result (search rules) ∙ c.signed.ensures ∙ ap signed_of c.u16_at.ensures
