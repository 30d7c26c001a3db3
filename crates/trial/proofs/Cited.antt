-- The promise of trials, over trials and takings that are tied by the contracts of `try_line` and
-- `take`, as they stand at the functions.
use Prim.Native.Nat.{ℕ}
use mathlib.Core.List.{List, []}
use denote.Ref.{Bor}
use Rattle.account_spec.specs.declared.Account.{Account}
use Rattle.account_spec.specs.Rules.{left_by, Feeds, Fed}
use Rattle.account_spec.specs.Reading.{Reads}
use Rattle.trial.specs.declared.Trial.{Trial}
use Rattle.trial.specs.Promise.{TrialPromise}
use Rattle.trial.proofs.TrialLaws.{trial-promise}
use Rattle.trial.proofs.try_line.Reads as trial-reads
use Rattle.trial.proofs.take.Reads as take-reads

abbrev lent : List ℕ → Bor (List ℕ)
lent l = record { ref_ptr = (0, 0); now = l }

-- what a call of `try_line` promises, and one of `take`
abbrev Made : Account → List ℕ → Trial → Type 0
Made a l t = trial-reads.Post ([], tt) (a, (lent l, tt)) t (a, (lent l, tt))

abbrev Taken : Account → Trial → Fed → Type 0
Taken a t r = take-reads.Post tt (a, (t, tt)) r (a, (t, tt))

made-taken :
    (a : Account) (l : List ℕ) (t : Trial) → Made a l t → (r : Fed) → Taken a t r →
    Feeds a l r × Reads (left_by r) t.reading
made-taken a l t made r k = trial-promise.taken a l t made r k.0

pub promise_cited : TrialPromise
promise_cited = record {
  same = trial-promise.same;
  taken = λ a l t made r k. made-taken a l t made r (k, trial-promise);
  other = trial-promise.other;
  carries = trial-promise.carries;
  possible = trial-promise.possible;
  twice = trial-promise.twice;
  refused_tried = trial-promise.refused_tried;
  impossible_tried = trial-promise.impossible_tried;
}
