-- What `stretch` prints.
use Rattle.std.specs.Prelude.{ℕ, List}
use Rattle.frames.specs.Answers.{Outcome, accepted, refused}
use Rattle.stretch.specs.Worst.{Worst, found, none_yet, stopped_by}
use Rattle.text_spec.specs.Season.{refusal_line}
use Rattle.report.specs.Calls.{pair_line, none_yet_line, refused_line}

-- of a season
abbrev worst_line : Worst → List ℕ
worst_line (found sum day) = pair_line sum day
worst_line none_yet = none_yet_line
worst_line (stopped_by row line) = refusal_line row.0 line

unfoldable pub stretch_line : Outcome Worst → List ℕ
stretch_line (accepted w) = worst_line w
stretch_line (refused r) = refused_line r.0
