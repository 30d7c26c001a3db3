-- A code: 0, or the row that refuses the call plus 256 times the field that rows 10 and 26 name.
use Rattle.std.specs.Prelude.{ℕ, ◌+◌, ◌*◌, ◌/◌, ◌%◌, Bool, ◌&&◌, ◌||◌, Option, Some, ◌==◌, nat_le}
use Rattle.std.specs.Prelude.{if◌then◌else◌}
use Rattle.std.specs.Prelude.{None, Result}
use Rattle.frames.specs.declared.records.Refusal.{Refusal}
use Rattle.frames.specs.Answers.{Outcome, accepted, refused, outcome_of}

-- ---- the code of an answer

abbrev pub code_of_row : ℕ × ℕ → ℕ
code_of_row r = r.0 + 256 * r.1

abbrev pub code_of : {A : Type 0} → Outcome A → ℕ
code_of (accepted a) = 0
code_of (refused r) = code_of_row r

-- ---- the answer of a code

-- rows 1 to 26, a field with rows 10 and 26 only
abbrev pub is_row : ℕ → ℕ → Bool
is_row row field = nat_le 1 row && nat_le row 26 && (field == 0 || row == 10 || row == 26)

-- 0, or a row's
unfoldable pub is_code : ℕ → Bool
is_code code = code == 0 || is_row (code % 256) (code / 256)

-- accepted with this value, or refused by the code's row
unfoldable pub named_answer : {A : Type 0} → ℕ → A → Outcome A
named_answer code a = if code == 0 then accepted a else refused (code % 256, code / 256)

-- none for a number that is no code
unfoldable pub coded_of : ℕ → Option (Outcome Unit)
coded_of code = if is_code code then Some (named_answer code tt) else None

abbrev pub coded_as : Option (Result Unit Refusal) → Option (Outcome Unit)
coded_as None = None
coded_as (Some r) = Some (outcome_of r)
