-- `dose::hour::dosed` meets its contract.
use Rattle.std.proofs.Common.{◌≡◌, ℕ, ◌+◌, ◌-◌, ◌*◌, ◌≤◌, sym, ◌∙◌, ap₂, arith}
use Rattle.dose_spec.specs.Pair.{concentration_up, lower_of, upper_of, quotient, root_low}
use Rattle.dose_spec.specs.Pair.{most_concentration}
use Rattle.frames.specs.declared.records.Hour.{Hour}
use Rattle.frames.specs.declared.records.Record.{Record}
use Rattle.frames.specs.Answers.{accepted}
use Rattle.frames.specs.Ozone.{read_as}
use Rattle.frames.specs.Ranges.{checked}
use Rattle.frames.proofs.OzoneLaws.{read-passed}
use Rattle.frames.proofs.RangeLaws.{checked-passed}
use Rattle.dose_spec.proofs.ConcentrationLaws.{concentration-order, concentration_up-le}
use Rattle.dose_spec.proofs.HourLaws.{shares-order, shares-top}
use Rattle.dose_spec.proofs.PairLaws.{share_low-same, share_up-same}
use Rattle.dose.proofs.hour.dosed.Goals as goal

-- ozone read as a number
thick :
    (m : ℕ) (h : Hour) → m ≤ 5000 → checked (Record.Hour h) ≡ accepted tt →
    concentration_up (read_as m h) ≤ most_concentration
thick m h small passed =
    concentration_up-le (read_as m h)
    (checked-passed (Record.Hour (read_as m h)) (read-passed m h small passed))

pub pair-requires : goal.pair-requires
pair-requires c = let stand = c.args.dosing.stand in
    let sound = c.args.dosing.sound in
    let h = c.args.passed.hour in
    let passes = c.args.passed.passes in
    let thin = thick 0 h (omega arith) passes in
    let most = shares-top stand sound h passes in
    record {
      concentration = (
        omega (arith, c.concentration-c.ensures.lower, concentration-order (read_as 0 h), thin),
        omega (
          arith,
          c.concentration-c.ensures.upper,
          thick stand.ceiling h c.args.dosing.few passes,
        ),
      );
      share = (
        omega (arith, c.shares-s.ensures.lower, shares-order stand sound h passes, most),
        omega (arith, c.shares-s.ensures.upper, most),
      );
    }

pub returns : goal.returns
unfolding lower_of upper_of
returns c = let a = c.args in
    let f = a.dosing.stand.figures in
    let h = a.passed.hour in
    let root = root_low f.leaf h.wind in
    ap₂ (λ l u. record { lower = l; upper = u })
    (c.pair.ensures.lower
    ∙ ap₂ (λ n p. quotient f.g_max n p (root + 1) 1 - 3600 * f.y) c.concentration-c.ensures.lower
    (c.shares-s.ensures.lower ∙ sym (share_low-same a.dosing.stand _ h)))
    (c.pair.ensures.upper
    ∙ ap₂ (λ n p. (quotient f.g_max n p root 0 + 1) - 3600 * f.y) c.concentration-c.ensures.upper
    (c.shares-s.ensures.upper ∙ sym (share_up-same a.dosing.stand _ h)))
