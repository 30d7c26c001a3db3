-- `frames::temperature::complement` meets its contract.
use mathlib.Core.Path.{ap, ◌∙◌}
use borrow.Author.Rules.{rules}
use mir.Syntax.{w16}
use mir.Val.{of_z}
use Rattle.frames.proofs.SignedLaws.{plain}
use Rattle.frames.proofs.TemperatureLaws.{complement-is}
use Rattle.frames.proofs.temperature.complement.Goals as goal

pub returns : goal.returns
returns c =
    let t = c.args.t in
    c.cast_unsigned.ensures ∙ ap (of_z w16) (plain t (search rules)) ∙ complement-is t
