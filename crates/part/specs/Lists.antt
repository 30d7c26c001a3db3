-- One line to several accounts that stand in bytes one after the other ("Several trees, one
-- reading").
use Rattle.std.specs.Prelude.{ℕ, ◌≡◌, List, Result}
use Rattle.frames.specs.declared.records.Refusal.{Refusal}
use Rattle.stored.specs.Feeding.{fed_listed_of, FeedsListed}
use Rattle.stored.specs.Code.{code_of}

-- the code of what `FeedsListed` replies; the bytes as it leaves them
pub record FeedsAllBytes (before line : List ℕ) (answer : ℕ) (after : List ℕ) : Type 0 where
  pub answers : answer ≡ code_of (fed_listed_of before line)
  pub reply : Result Unit Refusal
  pub feeds : FeedsListed before line reply after
