-- Hour lines without ozone, and the ways to fill them ("Hours without ozone").
use Rattle.std.specs.Prelude.{ℕ, ◌+◌, ◌≤◌, ◌≡◌, Bool, true, false, List, [], ◌∷◌, ◌++◌, map}
use Rattle.std.specs.Prelude.{if◌then◌else◌}
use Rattle.std.specs.Prelude.{take, drop}
use Rattle.frames.specs.declared.records.Raw.{Raw}
use Rattle.frames.specs.Ozone.{is_missing}
use Rattle.frames.specs.Answers.{Outcome, accepted, refused}
use Rattle.frames.specs.Digits.{number}
use Rattle.frames.specs.Kinds.{one, two, size_of, span}
use Rattle.frames.specs.Layout.{ozone_of}
use Rattle.frames.specs.Frames.{parsed_of}

-- ozone stands past kind, day and hour
abbrev ozone_at : ℕ
ozone_at = span (one ∷ two ∷ one ∷ [])

-- the line with other digits in ozone's place
unfoldable pub line_with : ℕ → List ℕ → List ℕ
line_with n l = take ozone_at l ++ number n (drop (ozone_at + size_of two) l)

-- an hour line with ozone FFFF
abbrev lacks_in : Outcome Raw → Bool
lacks_in (accepted (Raw.Header h)) = false
lacks_in (accepted (Raw.Hour raw)) = is_missing (ozone_of raw.ozone)
lacks_in (accepted (Raw.End e)) = false
lacks_in (accepted (Raw.Ceiling c)) = false
lacks_in (accepted (Raw.Parameters p)) = false
lacks_in (accepted (Raw.Warmth w)) = false
lacks_in (refused row) = false

unfoldable pub lacks_ozone : List ℕ → Bool
lacks_ozone l = lacks_in (parsed_of l)

-- lines with every ozone FFFF read as a number
abbrev line_read_as : ℕ → List ℕ → List ℕ
line_read_as n l = if lacks_ozone l then line_with n l else l

abbrev pub lines_read_as : ℕ → List (List ℕ) → List (List ℕ)
lines_read_as n ls = map (line_read_as n) ls

-- lines with some of them filled, or all, each with any number up to the ceiling
pub data FillsLine (ceiling : ℕ) (l : List ℕ) : List ℕ → Type 0 where
  same : FillsLine ceiling l l
  filled : lacks_ozone l ≡ true → (n : ℕ) → n ≤ ceiling → FillsLine ceiling l (line_with n l)

pub data FillsLines (ceiling : ℕ) : List (List ℕ) → List (List ℕ) → Type 0 where
  none : FillsLines ceiling [] []
  lines :
      {l m : List ℕ} {ls ms : List (List ℕ)} → FillsLine ceiling l m → FillsLines ceiling ls ms →
      FillsLines ceiling (l ∷ ls) (m ∷ ms)
