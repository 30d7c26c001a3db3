-- The rows that a line read alone can answer ("Frames").
use Rattle.std.specs.Prelude.{ℕ, Bool, true, ◌&&◌, ◌||◌, ◌≡◌, List, [], ◌∷◌, ◌==◌}
use Rattle.frames.specs.Answers.{refused}
use Rattle.frames.specs.Digits.{within}
use Rattle.frames.specs.Kinds.{among}
use Rattle.frames.specs.Frames.{read_frame_of}

-- a row of the list, with no field; or row 10 with field 1 to 8
abbrev pub one_of : List ℕ → ℕ → ℕ → Bool
one_of rows n f = among rows n && f == 0 || n == 10 && within 1 8 f

-- the rows that refuse a line read alone, row 10 besides
abbrev pub reader_rows : List ℕ
reader_rows = 1 ∷ 2 ∷ 3 ∷ 5 ∷ 6 ∷ 7 ∷ 8 ∷ 17 ∷ 24 ∷ 25 ∷ []

-- the reader answers no other row
pub record ReaderRows : Type 0 where
  pub read_rows :
      (tree : ℕ) (l : List ℕ) (n f : ℕ) → read_frame_of tree l ≡ refused (n, f) →
      one_of reader_rows n f ≡ true
