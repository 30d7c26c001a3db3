-- The promise of trials in bytes, over trials and takings that are tied by the contracts of
-- `pod1_trial` and `pod1_take`, as they stand at the functions.
use Prim.Native.Nat.{ℕ}
use mathlib.Core.Path.{◌≡◌}
use mathlib.Core.List.{List}
use Rattle.stored.specs.Layout.{take_up_of}
use Rattle.stored.specs.declared.answers.Tried.{Tried}
use Rattle.part.specs.Trials.{TakenAsFed, TrialBytesPromise}
use Rattle.part.proofs.TakenLaws.{trial-bytes-promise}
use Rattle.part.proofs.Cited.{Tries, Takes}

made-taken :
    (tried line before trial : List ℕ) (made : Tried) →
    Tries tried line before made trial → made.code ≡ 0
    → (account : List ℕ) → take_up_of account ≡ take_up_of tried → (answer : ℕ) (after : List ℕ) →
    Takes account trial answer after → TakenAsFed account line made answer after
made-taken tried line before trial made k z account same answer after t =
    trial-bytes-promise.taken tried line before trial made k z account same answer after t.0

pub trials-cited : TrialBytesPromise
trials-cited = record {
  taken = λ tried line before trial made k z account same answer after t.
      made-taken tried line before trial made k z account same answer after
      (t, trial-bytes-promise);
  other = trial-bytes-promise.other;
  none = trial-bytes-promise.none;
  carries = trial-bytes-promise.carries;
}
