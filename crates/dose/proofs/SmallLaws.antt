-- The pair of an hour that row 10 lets pass can be added to sums.
use Rattle.std.specs.Prelude.{Some}
use Prim.Native.Nat.{◌≤◌}
use mathlib.Core.Path.{◌≡◌}
use native.Mathlib.Omega.{arith}
use Rattle.exact.specs.declared.Bounds.{Bounds}
use Rattle.trees.specs.Sound.{Sound}
use Rattle.frames.specs.declared.records.Hour.{Hour}
use Rattle.frames.specs.declared.records.Record.{Record}
use Rattle.frames.specs.Answers.{accepted}
use Rattle.frames.specs.Ranges.{checked}
use Rattle.dose_spec.specs.declared.Stand.{Stand}
use Rattle.dose_spec.specs.Pair.{hour_pair}
use Rattle.dose_spec.proofs.BudgetLaws.{most_dose-le}
use Rattle.dose_spec.proofs.EnclosureLaws.{enclosure}
use Rattle.dose.specs.steps.Given.{Small}

pub pair-small :
    (stand : Stand) → Sound stand.figures → stand.ceiling ≤ 5000 → (h : Hour) →
    checked (Record.Hour h) ≡ accepted tt → (pair : Bounds) → pair ≡ hour_pair stand h →
    Small (Some pair)
pair-small stand sound few h passes pair is =
    let own = enclosure.pair stand sound few h passes in
    let most = most_dose-le stand.figures.g_max h.air in
    rw is (
      omega (arith, own.order, own.most, most, sound.g_max.1),
      omega (arith, own.most, most, sound.g_max.1),
    )
