-- `dose::ozone::at` meets its contract; no product passes 64 bits, whatever the readings.
use Rattle.std.proofs.Common.{◌≡◌, ℕ, ◌+◌, ◌*◌, sym, ap, ◌∙◌, mul-le-mul, arith, w16, w64, Fits}
use Rattle.std.proofs.Common.{rules}
use Rattle.exact.specs.Frac.{Frac, ◌over◌}
use Rattle.exact.specs.Rounding.{round_up, round_down}
use Rattle.frames.specs.Ozone.{with_ozone}
use Rattle.frames.proofs.SignedLaws.{at_plain}
use Rattle.dose_spec.specs.Conductance.{above_of}
use Rattle.dose_spec.proofs.ConcentrationLaws.{ozone-facts, pressed-down, pressed-up}
use Rattle.dose.proofs.ozone.at.Goals as goal

product-fits : {o p : ℕ} → Fits w16 o → Fits w16 p → Fits w64 (4000000000 * o * p)
product-fits f g = record { fits = omega (arith, mul-le-mul f.fits g.fits) }

pub returns-in-Deficit : goal.returns-in-Deficit
returns-in-Deficit c = let facts = ozone-facts (with_ozone c.args.ozone c.args.h) in
    record {
      lower = grind (arith, c.plain.ensures.lower, c.in-Deficit, facts.plain, facts.humid);
      upper = grind (arith, c.plain.ensures.upper, c.in-Deficit, facts.plain, facts.humid);
    }

pub returns-in-Pressure : goal.returns-in-Pressure
returns-in-Pressure c = let h = with_ozone c.args.ozone c.args.h in
    let tenths : c.above.result ≡ above_of c.args.h.temperature =
    at_plain c.args.h.temperature (search rules) above_of c.above.ensures in
    let of : ℕ → Frac =
    λ t. (4000000000 * c.args.ozone * c.in-Pressure.p) over (92383 * (2 * t + 4463)) in
    record {
      lower =
          c.rounded.ensures.lower ∙ ap (λ t. round_down (of t)) tenths
          ∙ sym (pressed-down h _ _ c.in-Pressure.is);
      upper =
          c.rounded.ensures.upper ∙ ap (λ t. round_up (of t)) tenths
          ∙ sym (pressed-up h _ _ c.in-Pressure.is);
    }
