-- The exported calls, by what the calls below them answer.
use Rattle.std.specs.Prelude.{Result, Ok, Err}
use Rattle.std.specs.Result.{ForOk, MatchResult}
use Prim.Native.Nat.{ℕ, ◌≤◌}
use mathlib.Core.Path.{◌≡◌, sym, ap, ◌∙◌}
use mathlib.Core.Bool.{Bool, true, false}
use mathlib.Core.List.{List, ◌++◌}
use native.Mathlib.Omega.{arith}
use borrow.Author.Tests.{le-ltb}
use lib.Dec.{ltb}
use lib.ListN.{length, drop}
use Rattle.frames.specs.Answers.{Outcome, accepted, refused, onward, row_of, outcome_of}
use Rattle.frames.specs.Buffer.{Prints}
use Rattle.frames.specs.declared.records.Refusal.{Refusal}
use Rattle.frames.proofs.AnswerLaws.{onward-passed}
use Rattle.account_spec.specs.declared.Account.{Account}
use Rattle.stored.specs.Packing.{total_width}
use Rattle.stored.specs.Layout.{widths, account_bytes, take_up_of}
use Rattle.stored.specs.RoundTrip.{TakenUp}
use Rattle.stored.proofs.HeldLaws.{taken-room}
use Rattle.stored.proofs.AccountLaws.{account-length}
use Rattle.stored.specs.declared.answers.Printed.{Printed}
use Rattle.stored.specs.Code.{code_of, code_of_row}
use Rattle.stored.specs.Writing.{printed_of}
use Rattle.part.specs.Calls.{Stores, LeavesBytes, PrintsBytes}

-- ---- storing

module _ (a : Account) (before after : List ℕ) (w : Result ℕ Refusal)
    (p : Prints (accepted (account_bytes a)) before w after) (back : TakenUp a) where
  abbrev short : Bool
  short = ltb (length before) (length (account_bytes a))

  put-bytes : short ≡ false → after ≡ account_bytes a ++ drop (length (account_bytes a)) before
  put-bytes e = p.leaves ∙ rw e

  put-held : short ≡ false → take_up_of after ≡ accepted a
  put-held e = ap take_up_of (put-bytes e) ∙ back.back (drop (length (account_bytes a)) before)

  put-code : short ≡ false → code_of (outcome_of w) ≡ 0
  put-code e = ap code_of p.answers ∙ rw e

  short-code : short ≡ true → code_of (outcome_of w) ≡ 12
  short-code e = ap code_of p.answers ∙ rw e

  own-stored : (code : ℕ) → code ≡ code_of (outcome_of w) → Stores a before code after
  own-stored code is = record {
    answers = is ∙ ap code_of p.answers;
    leaves = p.leaves;
    holds = λ none. grind (arith, put-held, short-code);
  }

-- an account, given as one that it equals
pub stores : (a given : Account) (before after : List ℕ) (w : Result ℕ Refusal) → given ≡ a
    → Prints (accepted (account_bytes given)) before w after → TakenUp given
    → (code : ℕ) → code ≡ code_of (outcome_of w) → Stores a before code after
stores a given before after w e p back =
    own-stored a before after w (rw e at p) (rw e at back)

-- ---- the account that an answer gives, over the bytes of the one before

row-leaves :
    (before : List ℕ) (o : Outcome Account) (r : ℕ × ℕ) (code : ℕ) → o ≡ refused r →
    code ≡ code_of_row r → LeavesBytes before o code before
row-leaves before o r code q is =
    record { answers = grind arith; leaves = grind arith; holds = λ a e. grind arith }

module _ (before : List ℕ) (given : Result Account Refusal) where
  pub refused-leaves :
      (why : Refusal) (code : ℕ) → given ≡ Err why → code ≡ code_of_row (row_of why) →
      LeavesBytes before (outcome_of given) code before
  refused-leaves why code e is =
      row-leaves before (outcome_of given) (row_of why) code (ap outcome_of e) is

  pub accepted-leaves :
      total_width widths ≤ length before →
      (next : Account) (after : List ℕ) (w : Result ℕ Refusal) (code : ℕ) → given ≡ Ok next
      → Prints (accepted (account_bytes next)) before w after → TakenUp next →
      code ≡ code_of (outcome_of w) → LeavesBytes before (outcome_of given) code after
  accepted-leaves room next after w code e p back is =
      let size = account-length next in
      let long = le-ltb (length before) (length (account_bytes next)) (omega (arith, size, room)) in
      record {
        answers = grind (arith, put-code next before after w p back long);
        leaves = grind (arith, put-bytes next before after w p back long, size);
        holds = λ b f. grind (arith, put-held next before after w p back long);
      }

-- ---- a step on the account that the bytes hold

-- what the step gives, or the refusal of bytes that hold none
pub onward-given :
    {A : Type 0} (before : List ℕ) (step : Account → Outcome A) (given : Result A Refusal)
    (Gives : Account → Type 0) → ((a : Account) → Gives a → outcome_of given ≡ step a)
    → (held : Result Account Refusal) → outcome_of held ≡ take_up_of before →
    MatchResult held Gives (λ e. given ≡ Err e) → outcome_of given ≡ onward (take_up_of before) step
onward-given before step given Gives gives (Ok a) taken m =
    gives a m ∙ ap (λ (o : Outcome Account). onward o step) taken
onward-given before step given Gives gives (Err why) taken m =
    ap outcome_of m ∙ ap (λ (o : Outcome Account). onward o step) taken

-- there is room for the account that it gives
pub given-room :
    (before : List ℕ) (step : Account → Outcome Account) (given : Result Account Refusal) →
    outcome_of given ≡ onward (take_up_of before) step →
    ForOk given (λ _. total_width widths ≤ length before)
given-room before step given q a e =
    let first = onward-passed (take_up_of before) step a (sym q ∙ ap outcome_of e) in
    taken-room before first.0 first.1

-- ---- a text that a first step gives or refuses

module _ {A : Type 0} (o : Outcome A) (text : A → Outcome (List ℕ)) (before after : List ℕ)
    (w : Result ℕ Refusal) (answer : Printed) (is : answer ≡ printed_of (outcome_of w)) where
  pub prints-refused :
      (why : Refusal) → o ≡ refused (row_of why) → w ≡ Err why → after ≡ before →
      PrintsBytes (onward o text) before answer after
  prints-refused why q v left = record {
    written = w;
    prints = record { answers = ap outcome_of v ∙ rw q; leaves = left ∙ rw q };
    answers = is;
  }

pub prints-accepted : {A : Type 0} (o : Outcome A) (text : A → Outcome (List ℕ))
    (before after : List ℕ) (answer : Printed) (a : A) → o ≡ accepted a
    → PrintsBytes (text a) before answer after → PrintsBytes (onward o text) before answer after
prints-accepted o text before after answer a q p = rw q p
