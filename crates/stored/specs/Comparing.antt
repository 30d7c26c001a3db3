-- What comparing gives, as numbers: the figures and the place of the first differing line, or the
-- code of a refusal with the text and its line, and zeros.
use Rattle.std.specs.Prelude.{ℕ, Option, Some, None}
use Rattle.compare.specs.Comparison.{Compared, figures, refused_text, refused_both}
use Rattle.stored.specs.declared.comparing.ComparisonNumbers.{ComparisonNumbers}

-- where the line starts and ends; 0 and 0 where there is none
abbrev place_numbers : Option (ℕ × ℕ) → ℕ × ℕ
place_numbers None = (0, 0)
place_numbers (Some place) = place

abbrev pub differing : ℕ → ℕ → ℕ × ℕ → ComparisonNumbers
differing hours sum place = record {
  code = 0;
  text = 0;
  line = 0;
  hours = hours;
  sum = sum;
  start = place.0;
  end = place.1;
}

abbrev pub not_compared : ℕ → ℕ → ℕ → ComparisonNumbers
not_compared code text line =
    record { code = code; text = text; line = line; hours = 0; sum = 0; start = 0; end = 0 }

-- the row alone is the code, as in the report: no field is told of a text's line
abbrev pub compared_of : Compared → ComparisonNumbers
compared_of (figures hours sum line) = differing hours sum (place_numbers line)
compared_of (refused_text text row line) = not_compared row.0 text line
compared_of (refused_both row) = not_compared row.0 0 0
