-- The rows that refuse a line, never 13; each has a case of its own.
use Prim.Native.Nat.{ℕ}
use mathlib.Core.Path.{◌≡◌, refl, sym, subst}
use mathlib.Core.Bool.{Bool, true, false, not, ◌&&◌}
use mathlib.Core.List.{List, [], ◌∷◌}
use mathlib.Core.Logic.{⊎_elim}
use borrow.Author.Tests.{eqb-true}
use native.Mathlib.Omega.{arith}
use lib.Dec.{eqb}
use Rattle.std.proofs.lemmas.Bool.Decides.{nat_tests}
use lib.ListN.{get_or}
use Rattle.frames.specs.declared.records.Raw.{Raw}
use Rattle.frames.specs.declared.records.Refusal.{Refusal}
use Rattle.frames.specs.declared.records.Refusal.TheVariants.{Length, Digit, Kind, Turn, Tree, Year}
use Rattle.frames.specs.declared.records.Refusal.TheVariants.{Period, Level, Due, Range, Count}
use Rattle.frames.specs.declared.records.Refusal.TheVariants.{Buffer, Account, Place, Mixed, Tried}
use Rattle.frames.specs.declared.records.Refusal.TheVariants.{Ceiling, NoCeiling, Parameter, Warmth}
use Rattle.frames.specs.Answers.{refused, row_of}
use Rattle.frames.proofs.AnswerLaws.{and_both, or-either}
use Rattle.frames.specs.Ranges.{lacks_ceiling, ramps_out}
use Rattle.frames.specs.Digits.{within}
use Rattle.frames.specs.Layout.{ozone_of}
use Rattle.frames.specs.Kinds.{among}
use Rattle.frames.specs.Frames.{parsed_of, record_of}
use Rattle.frames.specs.Rows.{one_of}
use Rattle.frames.proofs.KindLaws.{among-passes}
use Rattle.frames.proofs.RowLaws.{Only, accepted-only, row-only, onward-only, only_wider}
use Rattle.frames.proofs.RowLaws.{parsed-only, record-only}
use Rattle.account_spec.specs.declared.State.{State}
use Rattle.account_spec.specs.HourKinds.{is_mixed}
use Rattle.account_spec.specs.Rules.{out_of_turn, is_due, count_wrong, due_of, turn_of, answer_of}
use Rattle.account_spec.specs.Book.{Book, book_state, book_answer}

-- row 10 besides
abbrev answer_rows : List ℕ
answer_rows = 1 ∷ 2 ∷ 3 ∷ 4 ∷ 5 ∷ 6 ∷ 7 ∷ 8 ∷ 9 ∷ 11 ∷ 15 ∷ 17 ∷ 18 ∷ 24 ∷ 25 ∷ []

module _ (s : State) where
  -- by the frame that rows 1 to 3 let pass
  frame-only : (frame : Raw) → Only answer_rows (turn_of s frame)
  unfolding turn_of due_of among
  frame-only (Raw.Header h) =
      row-only (out_of_turn s (Raw.Header h)) _ _ _ refl
      (only_wider refl (record-only _ (Raw.Header h)))
  frame-only (Raw.Hour h) =
      row-only (out_of_turn s (Raw.Hour h)) _ _ _ refl
      (row-only (is_mixed s.kind h.air) _ _ _ refl
      (row-only (not (is_due s h)) _ _ _ refl
      (row-only (lacks_ceiling s.season.ceiling (ozone_of h.ozone)) _ _ _ refl
      (only_wider refl (record-only _ (Raw.Hour h))))))
  frame-only (Raw.End x) =
      row-only (out_of_turn s (Raw.End x)) _ _ _ refl
      (row-only (count_wrong s x.hours) _ _ _ refl (accepted-only _))
  frame-only (Raw.Parameters p) =
      row-only (out_of_turn s (Raw.Parameters p)) _ _ _ refl
      (onward-only (record_of s.season.header.tree (Raw.Parameters p)) _
      (only_wider refl (record-only _ (Raw.Parameters p)))
      (λ r. row-only (ramps_out s.season.header p) _ _ _ refl (accepted-only _)))
  frame-only (Raw.Warmth w) =
      row-only (out_of_turn s (Raw.Warmth w)) _ _ _ refl
      (only_wider refl (record-only _ (Raw.Warmth w)))
  frame-only (Raw.Ceiling c) =
      row-only (out_of_turn s (Raw.Ceiling c)) _ _ _ refl
      (only_wider refl (record-only _ (Raw.Ceiling c)))

  answer-only : (l : List ℕ) → Only answer_rows (answer_of s l)
  unfolding answer_of among
  answer-only l = onward-only (parsed_of l) (turn_of s) (only_wider refl (parsed-only l)) frame-only

-- ---- each row's case

pub record RefusalRow (n f : ℕ) : Type 0 where
  pub refusal : Refusal
  pub is : row_of refusal ≡ (n, f)
  pub possible : eqb n 13 ≡ false

-- by its number; no case answers 0, and row 10's has its field
abbrev refusals : List Refusal
refusals =
    Account ∷ Length ∷ Digit ∷ Kind ∷ Turn ∷ Tree ∷ Year ∷ Period ∷ Level ∷ Due ∷ Account ∷ Count
    ∷ Buffer ∷ Account ∷ Place ∷ Mixed ∷ Tried ∷ Ceiling
    ∷ NoCeiling ∷ Account ∷ Account ∷ Account ∷ Account ∷ Account ∷ Parameter ∷ Warmth ∷ []

abbrev refusal_at : ℕ → Refusal
refusal_at n = get_or refusals n Account

abbrev is_case : ℕ → Bool
is_case n = eqb (row_of (refusal_at n)).0 n && eqb (row_of (refusal_at n)).1 0 && not (eqb n 13)

case_row : (n : ℕ) → is_case n ≡ true → RefusalRow n 0
case_row n e = record {
  refusal = refusal_at n;
  is = grind (arith, nat_tests);
  possible = grind (arith, nat_tests);
}

one-row : (n f : ℕ) → one_of answer_rows n f ≡ true → RefusalRow n f
unfolding among
one-row n f e =
    ⊎_elim
    (λ s.
    let both = and_both (among answer_rows n) (eqb f 0) s in
    subst (RefusalRow n) (sym (eqb-true f 0 both.1))
    (case_row n (among-passes is_case answer_rows n refl both.0)))
    (λ s.
    let ten = eqb-true n 10 (and_both (eqb n 10) (within 1 8 f) s).0 in
    record { refusal = Range f; is = rw ten refl; possible = rw ten refl })
    (or-either (among answer_rows n && eqb f 0) (eqb n 10 && within 1 8 f) e)

pub answer-row :
    (b : Book) (l : List ℕ) (n f : ℕ) → book_answer b l ≡ refused (n, f) → RefusalRow n f
unfolding book_answer
answer-row b l n f e = one-row n f ((answer-only (book_state b) l).only n f e)
