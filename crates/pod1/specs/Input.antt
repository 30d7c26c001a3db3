-- What reading a text answers.
use Rattle.std.specs.Prelude.{ℕ, Option, Some, None}

-- the bytes that are there: none where a read failed
abbrev pub bytes_in : Option ℕ → ℕ
bytes_in (Some n) = n
bytes_in None = 0
