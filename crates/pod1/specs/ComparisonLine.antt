-- The first line that `compare` prints.
use Rattle.std.specs.Prelude.{ℕ, List}
use Rattle.compare.specs.Comparison.{Compared, figures, refused_text, refused_both}
use Rattle.report.specs.Calls.{pair_line, refused_line, text_refused_line}

unfoldable pub comparison_line : Compared → List ℕ
comparison_line (figures hours sum line) = pair_line hours sum
comparison_line (refused_text text row line) = text_refused_line text row.0 line
comparison_line (refused_both row) = refused_line row.0
