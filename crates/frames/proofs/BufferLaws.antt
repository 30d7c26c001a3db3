-- A text at the front of a lent buffer, or row 12 where the buffer is shorter.
use Rattle.std.specs.Prelude.{Result, Ok, Err}
use Prim.Native.Nat.{ℕ, ◌≤◌, ◌<◌}
use mathlib.Core.Path.{◌≡◌, sym, ap, subst, ◌∙◌}
use mathlib.Core.List.{List, ◌++◌}
use native.Mathlib.Omega.{arith}
use borrow.Author.Tests.{lt-ltb, le-ltb}
use lib.ListN.{length, drop}
use Rattle.frames.specs.declared.records.Refusal.{Refusal}
use Rattle.frames.specs.Answers.{accepted}
use Rattle.frames.specs.Buffer.{Prints}

module _ (text before : List ℕ) where
  pub prints-short :
      length before < length text → Prints (accepted text) before (Err Refusal.Buffer) before
  prints-short h =
      let short = lt-ltb (length before) (length text) h in
      record { answers = simp short; leaves = simp short }

  pub prints-whole :
      (after : List ℕ) (n : ℕ) → length text ≡ n → n ≤ length before →
      after ≡ text ++ drop n before → Prints (accepted text) before (Ok n) after
  prints-whole after n e h p =
      let long = le-ltb (length before) (length text) (omega arith) in
      record {
        answers = simp long (ap accepted (sym e));
        leaves = p ∙ simp long (ap (λ k. text ++ drop k before) (sym e));
      }

pub prints-same :
    {text line before after : List ℕ} {answer : Result ℕ Refusal} → text ≡ line →
    Prints (accepted text) before answer after → Prints (accepted line) before answer after
prints-same {before = before} {after = after} {answer = answer} e p =
    subst (λ (t : List ℕ). Prints (accepted t) before answer after) e p
