-- What is written into a lent buffer ("Frames", "Report"): row 12 by the text's exact length; past
-- the text untouched, on a refusal all of it.
use Rattle.std.specs.Prelude.{ℕ, ◌≡◌, List, ◌++◌, length, drop, Result, nat_lt}
use Rattle.frames.specs.declared.records.Refusal.{Refusal}
use Rattle.frames.specs.Answers.{Outcome, accepted, refused, row, onward, outcome_of}

-- row 12 by the text's exact length, else the number of bytes written
abbrev pub put_of : List ℕ → ℕ → Outcome ℕ
put_of text room = row 12 (nat_lt room (length text)) (accepted (length text))

-- the buffer after the answer: past the text untouched, on a refusal all of it
abbrev pub buffer_after : Outcome ℕ → List ℕ → List ℕ → List ℕ
buffer_after (accepted n) text buffer = text ++ drop n buffer
buffer_after (refused r) text buffer = buffer

abbrev text_after : Outcome (List ℕ) → List ℕ → List ℕ
text_after (accepted text) buffer = buffer_after (put_of text (length buffer)) text buffer
text_after (refused r) buffer = buffer

-- what writing a text, or its refusal, answers and leaves in the buffer
pub record Prints (text : Outcome (List ℕ)) (before : List ℕ) (answer : Result ℕ Refusal)
    (after : List ℕ) : Type 0 where
  pub answers : outcome_of answer ≡ onward text (λ t. put_of t (length before))
  pub leaves : after ≡ text_after text before
