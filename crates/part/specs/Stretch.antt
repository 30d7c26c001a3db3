-- "The worst stretch of days" of a season text, with a lent buffer.
use Rattle.std.specs.Prelude.{ℕ, ◌≡◌, List, length}
use Rattle.stretch.specs.Worst.{worst_of, scratch_after}
use Rattle.stored.specs.declared.stretching.StretchNumbers.{StretchNumbers}
use Rattle.stored.specs.Stretching.{stretch_of}

-- what `FindsWorst` answers, as numbers, and leaves
pub record TellsWorst (text : List ℕ) (days : ℕ) (before : List ℕ) (answer : StretchNumbers)
    (after : List ℕ) : Type 0 where
  pub answers : answer ≡ stretch_of (worst_of text days (length before))
  pub leaves : after ≡ scratch_after (worst_of text days (length before)) days before
