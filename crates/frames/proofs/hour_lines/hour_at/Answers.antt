-- `frames::hour_lines::hour_at` meets its contract: each number of a chunk stands in the line where
-- the chunk begins and so much further.
use mathlib.Core.Path.{◌≡◌, ap, ap₂, ◌∙◌}
use native.Mathlib.Omega.{arith}
use Rattle.frames.specs.declared.records.Air.TheVariants.{Deficit, Pressure, Humidity}
use Rattle.frames.specs.Digits.{number_at}
use Rattle.frames.specs.Fields.{fields_at}
use Rattle.frames.specs.Layout.{air_of}
use Rattle.frames.proofs.KindLaws.{deficit-left}
use Rattle.frames.proofs.ChunkLaws.{number-says}
use Rattle.frames.proofs.HourLaws.{hour-is, pressure-says, soil-before, soil-last, air-pressure}
use Rattle.frames.proofs.HourLaws.{air-humidity, air-deficit}
use Rattle.frames.proofs.hour_lines.hour_at.Goals as goal
use Rattle.frames.proofs.hour_lines.hour_at.Goals.{in-4, in-5, in_default}
use Rattle.frames.proofs.hour_lines.hour_at.Goals.{then-kind-eq-PRESSURE_KIND}
use Rattle.frames.proofs.hour_lines.hour_at.Goals.{else-kind-eq-PRESSURE_KIND}

pub returns : goal.returns
returns c = λ l h.
    let vapour =
    c.number-vapour.ensures ∙ number-says l 16 _ h.second 8 24 (omega arith) (omega arith) in
    let air : c.match-kind.air ≡ air_of c.args.kind (fields_at c.args.kind l) =
    elim c.match-kind.branch [
      | in-4 w ↦
          w.air-is
          ∙ ap₂ Pressure vapour (c.number-last.ensures ∙ pressure-says _ l _ _ _ h w.in-4.is)
          ∙ air-pressure _ l w.in-4.is
      | in-5 w ↦ w.air-is ∙ ap Humidity vapour ∙ air-humidity _ l w.in-5.is
      | in_default w ↦
          w.air-is ∙ ap Deficit vapour
          ∙ air-deficit _ l (deficit-left _ h.sized.hour (λ e. omega arith) (λ e. omega arith))
    ] in
    let soil : c.if-kind-eq-PRESSURE_KIND.soil ≡ number_at 32 l =
    elim c.if-kind-eq-PRESSURE_KIND.branch [
      | then-kind-eq-PRESSURE_KIND w ↦
          w.soil-is ∙ w.number-soil.ensures
          ∙ soil-before _ l _ _ _ h w.if-kind-eq-PRESSURE_KIND.true
      | else-kind-eq-PRESSURE_KIND w ↦
          w.soil-is ∙ c.number-last.ensures ∙ soil-last _ l _ _ _ h w.if-kind-eq-PRESSURE_KIND.false
    ] in
    hour-is l h.sized.hour
    (c.number.ensures ∙ number-says l 0 _ h.first 2 2 (omega arith) (omega arith))
    (h.first.byte 6 (omega arith))
    (c.number-2.ensures ∙ number-says l 0 _ h.first 8 8 (omega arith) (omega arith))
    (c.number-3.ensures ∙ number-says l 0 _ h.first 12 12 (omega arith) (omega arith))
    (c.number-4.ensures ∙ number-says l 16 _ h.second 0 16 (omega arith) (omega arith))
    (c.number-5.ensures ∙ number-says l 16 _ h.second 4 20 (omega arith) (omega arith))
    air
    (c.number-6.ensures ∙ number-says l 16 _ h.second 12 28 (omega arith) (omega arith))
    soil
