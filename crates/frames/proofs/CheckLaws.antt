-- A header that rows 5 to 8 let pass is accepted.
use Rattle.std.specs.Prelude.{Some}
use mathlib.Core.Path.{◌≡◌}
use mathlib.Core.Bool.{false}
use Rattle.trees.specs.declared.Figures.{Figures}
use Rattle.trees.specs.Figures.{ramp_days}
use Rattle.trees.specs.Parameters.{no_parameters}
use Rattle.trees.specs.MeasuredFigures.{figures_in}
use Rattle.frames.specs.Answers.{accepted}
use Rattle.frames.specs.Numbers.{is_outside}
use Rattle.frames.specs.Ranges.{period_out, checked}
use Rattle.frames.specs.declared.records.Header.{Header}
use Rattle.frames.specs.declared.records.Record.{Record}

pub level_in :
    (h : Header) {f : Figures} → figures_in no_parameters h.tree ≡ Some f →
    is_outside 365 366 h.days ≡ false → period_out h (ramp_days f) ≡ false
    → is_outside 1 10000 h.level ≡ false → accepted tt ≡ checked (Record.Header h)
unfolding checked
level_in h tree year period level = rw (tree, year, period, level)
