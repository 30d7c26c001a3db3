-- Answers by the rows of "Turned-back lines": accepted with a value, or refused by a row, rows 10
-- and 26 with their field.
use Rattle.std.specs.Prelude.{ℕ, Bool, Result, Ok, Err, if◌then◌else◌}
use Rattle.frames.specs.declared.records.Refusal.{Refusal}
use Rattle.frames.specs.declared.records.Refusal.TheVariants.{Length, Digit, Kind, Turn, Tree, Year}
use Rattle.frames.specs.declared.records.Refusal.TheVariants.{Period, Level, Due, Range, Count}
use Rattle.frames.specs.declared.records.Refusal.TheVariants.{Buffer, Account, Place, Mixed, Tried}
use Rattle.frames.specs.declared.records.Refusal.TheVariants.{Ceiling, NoCeiling, Unlike, Days}
use Rattle.frames.specs.declared.records.Refusal.TheVariants.{Scratch, ListSize, UnlikeAccounts}
use Rattle.frames.specs.declared.records.Refusal.TheVariants.{Parameter, Warmth, Float}

-- refused by a row: its number, and the field that rows 10 and 26 name (0 for every other row)
pub data Outcome (A : Type 0) : Type 0 where
  accepted : A → Outcome A
  refused : ℕ × ℕ → Outcome A

-- refused by the row where its condition holds, else what follows
abbrev pub row : {A : Type 0} → ℕ → Bool → Outcome A → Outcome A
row n condition next = if condition then refused (n, 0) else next

-- row 10 with its field
abbrev pub field : {A : Type 0} → ℕ → Bool → Outcome A → Outcome A
field n condition next = if condition then refused (10, n) else next

-- the next step on what the first one accepted
abbrev pub onward : {A B : Type 0} → Outcome A → (A → Outcome B) → Outcome B
onward (accepted a) next = next a
onward (refused r) next = refused r

-- accepted, or the row
abbrev pub reply : {A : Type 0} → Outcome A → Outcome Unit
reply (accepted a) = accepted tt
reply (refused w) = refused w

-- the row of each case of a refusal, and the field of rows 10 and 26
abbrev pub row_of : Refusal → ℕ × ℕ
row_of Length = (1, 0)
row_of Digit = (2, 0)
row_of Kind = (3, 0)
row_of Turn = (4, 0)
row_of Tree = (5, 0)
row_of Year = (6, 0)
row_of Period = (7, 0)
row_of Level = (8, 0)
row_of Due = (9, 0)
row_of (Range f) = (10, f)
row_of Count = (11, 0)
row_of Buffer = (12, 0)
row_of Account = (13, 0)
row_of Place = (14, 0)
row_of Mixed = (15, 0)
row_of Tried = (16, 0)
row_of Ceiling = (17, 0)
row_of NoCeiling = (18, 0)
row_of Unlike = (19, 0)
row_of Days = (20, 0)
row_of Scratch = (21, 0)
row_of ListSize = (22, 0)
row_of UnlikeAccounts = (23, 0)
row_of Parameter = (24, 0)
row_of Warmth = (25, 0)
row_of (Float f) = (26, f)

-- what a call answers, by its row
abbrev pub outcome_of : {A : Type 0} → Result A Refusal → Outcome A
outcome_of (Ok a) = accepted a
outcome_of (Err r) = refused (row_of r)
