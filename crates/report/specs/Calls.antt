-- The lines of the other calls' answers: two numbers, "none yet", and a call, a header or one of
-- two texts refused.
use Rattle.std.specs.Prelude.{ℕ, List, [], ◌∷◌, ◌++◌, codes}
use Rattle.text_spec.specs.Lines.{line_feed}
use Rattle.text_spec.specs.Text.{decimal, space}

-- a word and a number before the text
abbrev pub phrase : List ℕ → ℕ → List ℕ → List ℕ
phrase word n rest = word ++ decimal n rest

-- "A B"
abbrev pub pair_line : ℕ → ℕ → List ℕ
pair_line a b = decimal a (space ∷ decimal b (line_feed ∷ []))

-- "none yet"
abbrev pub none_yet_line : List ℕ
none_yet_line = codes "none yet" ++ line_feed ∷ []

-- "refused N"
abbrev pub refused_line : ℕ → List ℕ
refused_line row = phrase (codes "refused ") row (line_feed ∷ [])

-- "refused N header H"
abbrev pub header_refused_line : ℕ → ℕ → List ℕ
header_refused_line row header =
    phrase (codes "refused ") row (phrase (codes " header ") header (line_feed ∷ []))

-- "text T refused N line L"
abbrev pub text_refused_line : ℕ → ℕ → ℕ → List ℕ
text_refused_line text row line =
    phrase (codes "text ") text
    (space ∷ phrase (codes "refused ") row (phrase (codes " line ") line (line_feed ∷ [])))
