-- Lines fed to a list that stands in bytes are a run of the list that they hold.
use Rattle.frames.specs.declared.records.Refusal.{Refusal}
use Rattle.std.specs.Prelude.{Result}
use Prim.Native.Nat.{ℕ}
use mathlib.Core.Path.{◌≡◌, refl, sym, ap, ◌∙◌}
use mathlib.Core.Bool.{Bool, true, false}
use mathlib.Core.List.{List}
use lib.ListN.{length}
use Rattle.frames.specs.Answers.{Outcome, accepted, refused, row, onward, reply}
use Rattle.account_spec.specs.declared.Account.{Account}
use Rattle.stand.specs.Together.{left_together}
use Rattle.stand.specs.Feeding.{size_out, feed_all_of, FeedsAll}
use Rattle.stand.specs.Runs.{LineFed, ListRun}
use Rattle.stand.proofs.FedListLaws.{list-promise}
use Rattle.stored.specs.InBytes.{count_in, list_in}
use Rattle.stored.specs.Feeding.{fed_listed_of, listed_after, FeedsListed}
use Rattle.stored.specs.Promise.{ListedRun, HoldsRun, ListedPromise}
use Rattle.stored.proofs.TakingLaws.{taken-length}

row-again : {A : Type 0} (s t : Bool) (o : Outcome A) → s ≡ t → row 22 s (row 22 t o) ≡ row 22 t o
row-again s true o e = rw e
row-again s false o e = rw e

module _ (b : List ℕ) (xs : List Account) (held : list_in b ≡ accepted xs) where
  -- row 22 by the bytes' room is row 22 by the list's length
  fed-is : (line : List ℕ) → fed_listed_of b line ≡ feed_all_of xs line
  unfolding fed_listed_of feed_all_of
  fed-is line =
      ap (λ (o : Outcome (List Account)).
      row 22 (size_out (count_in b)) (onward o (λ ys. feed_all_of ys line)))
      held
      ∙ row-again (size_out (count_in b)) (size_out (length xs)) _
      (ap size_out (sym (taken-length (count_in b) b xs held)))

  -- the bytes that a line leaves hold the list that it leaves
  left-held :
      (line after : List ℕ) (r : Result Unit Refusal) → FeedsListed b line r after →
      (o : Outcome (List Account)) → fed_listed_of b line ≡ o →
      list_in after ≡ accepted (left_together xs o)
  left-held line after r k (accepted ys) e = k.holds ys e
  left-held line after r k (refused w) e = ap list_in (k.leaves ∙ ap (listed_after b) e) ∙ held

  fed-all :
      (line after : List ℕ) (r : Result Unit Refusal) → FeedsListed b line r after →
      FeedsAll xs line r (left_together xs (feed_all_of xs line))
  fed-all line after r k = record { answers = k.answers ∙ ap reply (fed-is line); leaves = refl }

listed-run :
    (b left : List ℕ) (es : List LineFed) → ListedRun b es left → (xs : List Account) →
    list_in b ≡ accepted xs → HoldsRun xs es left
listed-run b left es ListedRun.stop xs held =
    record { accounts = xs; held = held; run = ListRun.stop }
listed-run b left es (ListedRun.feeds {after = after} {fed = fed} {es = rest} k run) xs held =
    let line = fed.line in
    let ys = left_together xs (feed_all_of xs line) in
    let more =
    listed-run after left rest run ys
    (left-held b xs held line after fed.reply k (feed_all_of xs line) (fed-is b xs held line)) in
    record {
      accounts = more.accounts;
      held = more.held;
      run = ListRun.feeds (fed-all b xs held line after fed.reply k) more.run;
    }

pub listed-promise : ListedPromise
listed-promise = record { list = list-promise; runs = listed-run }
