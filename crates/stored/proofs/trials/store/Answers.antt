-- `stored::trials::store` meets its contract.
use mathlib.Core.Path.{subst}
use native.Mathlib.Omega.{arith}
use Rattle.frames.proofs.BufferLaws.{prints-short, prints-whole}
use Rattle.stored.specs.RoundTrip.{TakenUp}
use Rattle.stored.specs.TrialLayout.{contents_of, trial_width, trial_bytes}
use Rattle.stored.proofs.TrialRoundTripLaws.{trial-length, laid, trial-taken-up}
use Rattle.stored.proofs.trials.store.Goals as goal

pub returns-then-buffer-lt-SIZE-clause-prints : goal.returns-then-buffer-lt-SIZE-clause-prints
returns-then-buffer-lt-SIZE-clause-prints c =
    let t = contents_of c.args.trial in
    prints-short (trial_bytes t) c.args.buffer.now (omega (arith, trial-length t))

pub returns-clause-prints : goal.returns-clause-prints
returns-clause-prints c =
    let t = contents_of c.args.trial in
    let b = c.args.buffer.now in
    prints-whole (trial_bytes t) b _ trial_width (trial-length t) (omega arith)
    (laid t b _ _ _ (omega arith) c.put_code.ensures.is _ c.store.ensures.prints _
    c.left_by-next.ensures _ c.store-2.ensures.prints)

pub returns-clause-back : goal.returns-clause-back
returns-clause-back c = λ e.
    trial-taken-up c.args.trial c.put_code.ensures.small c.store.ensures.back
    (subst TakenUp c.left_by-next.ensures c.store-2.ensures.back)
