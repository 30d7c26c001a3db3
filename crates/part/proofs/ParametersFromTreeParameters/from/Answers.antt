-- The parameters of a maker's numbers meet their contract.
use borrow.Author.Rules.{rules}
use Rattle.frames.proofs.SignedLaws.{plain}
use Rattle.part.proofs.ParametersFromTreeParameters.from.Goals as goal

pub returns : goal.returns
returns c = let p = c.args.p in
    rw (c.complement.ensures, c.complement-2.ensures, c.complement-3.ensures)
    (rw (plain p.t_min (search rules), plain p.t_opt (search rules), plain p.t_max (search rules)))
