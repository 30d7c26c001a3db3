-- Bytes that hold an account, and bytes that hold none, by the tests of `holds_none`.
use Rattle.std.specs.Prelude.{Option, Result, Ok, Err, ok_or, ltb}
use Prim.Native.Nat.{ℕ, ◌≤◌, ◌<◌}
use mathlib.Core.Path.{◌≡◌, refl, sym, ap, ◌∙◌}
use mathlib.Core.Bool.{Bool, true, false, not, ◌||◌, or-true}
use mathlib.Core.List.{List}
use borrow.Author.Tests.{le-ltb, lt-ltb, eq-eqb, ne_eqb}
use Rattle.std.proofs.lemmas.Bool.Decides.{nat_tests}
use native.Mathlib.Omega.{arith}
use lib.ListN.{length, get_or, take}
use lib.Seq.{length-take-le}
use Rattle.std.proofs.lemmas.List.{get_or-take}
use Rattle.frames.specs.Temperature.{signed_of}
use Rattle.frames.specs.declared.records.Refusal.{Refusal}
use Rattle.frames.specs.Answers.{Outcome, accepted, refused, row, row_of, outcome_of}
use Rattle.frames.proofs.AnswerLaws.{row-passed, refused-not-accepted, accepted-same}
use Rattle.account_spec.specs.declared.Phase.{Phase}
use Rattle.account_spec.specs.declared.HourKind.{HourKind}
use Rattle.account_spec.specs.declared.Account.{Account}
use Rattle.account_spec.specs.Account.{numbered_phase}
use Rattle.stored.specs.Packing.{total_width}
use Rattle.stored.proofs.FieldLaws.{phase-read}
use Rattle.stored.proofs.PackingLaws.{unpacked-front}
use Rattle.stored.specs.Layout.{version, widths, account_width, phase_of, hour_kind_of, is_kind}
use Rattle.stored.specs.Layout.{account_from, account_in, holds_none, take_up_of}

two-rows : {A : Type 0} (s t : Bool) (x : Outcome A) → row 13 (s || t) x ≡ row 13 s (row 13 t x)
two-rows true t x = refl
two-rows false t x = refl

-- ---- what the tests let pass

module _ (l : List ℕ) (e : holds_none l ≡ false) where
  pub held-room : total_width widths ≤ length l
  unfolding holds_none
  held-room = grind (arith, nat_tests)

  pub held-version : get_or l 0 0 ≡ version
  unfolding holds_none
  held-version = grind (arith, nat_tests)

  pub held-phase : get_or l 1 0 ≤ 2
  unfolding holds_none
  held-phase = grind (arith, nat_tests)

  pub held-kind : is_kind (get_or l 2 0) ≡ true
  unfolding holds_none
  held-kind = grind (arith, nat_tests)

pub taken-room :
    (l : List ℕ) (a : Account) → take_up_of l ≡ accepted a → total_width widths ≤ length l
unfolding take_up_of
taken-room l a e = held-room l (grind arith)

-- ---- how it is computed

pub none-short : (l : List ℕ) → length l < total_width widths → true ≡ holds_none l
unfolding holds_none
none-short l h = simp (lt-ltb (length l) (total_width widths) h)

pub none-version : (l : List ℕ) → (get_or l 0 0 ≡ version → ⊥) → true ≡ holds_none l
unfolding holds_none
none-version l h = simp (ne_eqb (get_or l 0 0) version h, or-true)

pub taken_none : (l : List ℕ) → holds_none l ≡ true → refused (13, 0) ≡ take_up_of l
unfolding take_up_of
taken_none l e = simp e

-- ---- test by test

refused-elsewhere :
    {A B : Type 0} (t : Bool) (w : ℕ × ℕ) (x : A) (y : Outcome B) →
    refused w ≡ row 13 t (accepted x) → refused w ≡ row 13 t y
refused-elsewhere true w x y e = let same : w ≡ (13, 0) = cc in ap refused same
refused-elsewhere false w x y e = refused-not-accepted e

module _ (l : List ℕ) (room : account_width ≤ length l) (current : get_or l 0 0 ≡ version) where
  by-tests :
      take_up_of l
      ≡ row 13 (ltb 2 (get_or l 1 0))
      (row 13 (not (is_kind (get_or l 2 0))) (accepted (account_in l)))
  unfolding take_up_of holds_none
  by-tests =
      simp (le-ltb (length l) account_width room, eq-eqb (get_or l 0 0) version current)
      (two-rows (ltb 2 (get_or l 1 0)) _ _)

  module _ (p : Result Phase Refusal)
      (phase : p ≡ ok_or (numbered_phase (get_or l 1 0)) Refusal.Account) where
    phase-by : outcome_of p ≡ row 13 (ltb 2 (get_or l 1 0)) (accepted (phase_of (get_or l 1 0)))
    phase-by = rw phase (phase-read (get_or l 1 0))

    pub phase-refused : (w : Refusal) → p ≡ Err w → refused (row_of w) ≡ take_up_of l
    phase-refused w e = refused-elsewhere _ _ _ _ (rw e at phase-by) ∙ sym by-tests

    module _ (own : Phase) (ok : p ≡ Ok own) where
      phase-passed :
          (ltb 2 (get_or l 1 0) ≡ false) × (accepted (phase_of (get_or l 1 0)) ≡ accepted own)
      phase-passed = row-passed _ _ _ own (sym (rw ok at phase-by))

      module _ (k : Result (Option HourKind) Refusal)
          (kind :
          outcome_of k
          ≡ row 13 (not (is_kind (get_or l 2 0))) (accepted (hour_kind_of (get_or l 2 0)))) where
        pub kind-refused : (w : Refusal) → k ≡ Err w → refused (row_of w) ≡ take_up_of l
        kind-refused w e = rw (by-tests, phase-passed.0) (refused-elsewhere _ _ _ _ (rw e at kind))

        -- and what they then say
        module _ (of : Option HourKind) (is : k ≡ Ok of) where
          kind-passed :
              (not (is_kind (get_or l 2 0)) ≡ false)
              × (accepted (hour_kind_of (get_or l 2 0)) ≡ accepted of)
          kind-passed = row-passed _ _ _ of (sym (rw is at kind))

          pub both-are : (own ≡ phase_of (get_or l 1 0)) × (of ≡ hour_kind_of (get_or l 2 0))
          both-are = (sym (accepted-same phase-passed.1), sym (accepted-same kind-passed.1))

          pub taken-is : accepted (account_in l) ≡ take_up_of l
          taken-is = sym (by-tests ∙ rw (phase-passed.0, kind-passed.0) refl)

-- ---- the bytes of an account alone

module _ (l : List ℕ) (room : account_width ≤ length l) where
  front-none : holds_none (take account_width l) ≡ holds_none l
  unfolding holds_none
  front-none =
      let size : length (take account_width l) ≡ account_width =
      length-take-le account_width l room in
      simp (
        le-ltb (length (take account_width l)) account_width (omega (arith, size)),
        le-ltb (length l) account_width room,
        get_or-take account_width l 0 0 (omega arith),
        get_or-take account_width l 1 0 (omega arith),
        get_or-take account_width l 2 0 (omega arith),
      )

  front-account : account_in (take account_width l) ≡ account_in l
  unfolding account_in
  front-account =
      ap (λ (ns : List ℕ).
      account_from (phase_of (get_or ns 1 0)) (hour_kind_of (get_or ns 2 0))
      (signed_of (get_or ns 11 0)) ns)
      (unpacked-front account_width l widths 0 (omega arith))

  pub front-taken : take_up_of (take account_width l) ≡ take_up_of l
  unfolding take_up_of
  front-taken = rw (front-none, front-account) refl
