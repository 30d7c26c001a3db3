-- Codes and answers are one to one.
use Rattle.std.specs.Prelude.{ℕ, ◌≡◌, Some}
use Rattle.frames.specs.declared.records.Refusal.{Refusal}
use Rattle.frames.specs.Answers.{Outcome, refused, row_of}
use Rattle.stored.specs.Code.{code_of_row, code_of, coded_of}

pub record CodePromise : Type 0 where
  -- the code of the answer that a code names is that code
  pub same :
      (code : ℕ) (answer : Outcome Unit) → coded_of code ≡ Some answer → code_of answer ≡ code
  -- every refusal is named by its code
  pub named : (r : Refusal) → coded_of (code_of_row (row_of r)) ≡ Some (refused (row_of r))
