-- `stored::taking::hour_kind_of` meets its contract.
use Rattle.stored.proofs.FieldLaws.{kind-none, kind-given}
use Rattle.stored.proofs.taking.hour_kind_of.Goals as goal

pub returns-then-n-eq0 : goal.returns-then-n-eq0
returns-then-n-eq0 c = kind-none c.args.n c.if-n-eq0.true

pub returns : goal.returns
returns c = kind-given c.args.n c.if-n-eq0.false _ c.try_from.ensures _ c.in_ok-try_from.was
