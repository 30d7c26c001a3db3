-- A phase, a kind and a running total are those of their numbers, and a number that one of them has
-- is its number.
use Rattle.std.specs.Prelude.{Option, Some, None, Result, Ok, Err, cond, not, ltb, ok_or}
use Prim.Native.Nat.{ℕ, zero, suc, ◌%◌, ◌≤◌, ◌<◌}
use mathlib.Core.Path.{◌≡◌, refl}
use mathlib.Core.Bool.{Bool, true, false, ◌||◌}
use mathlib.Core.Logic.{⊎_elim}
use native.Mathlib.Omega.{arith}
use borrow.Author.Tests.{lt-ltb, eqb-true, ne_eqb}
use lib.Dec.{eqb}
use Rattle.std.proofs.lemmas.Bool.Decides.{nat_tests}
use lib.IntN.{ℤ, pos, negsuc}
use mir.Syntax.{w16}
use mir.Val.{SFits}
use Rattle.frames.specs.declared.records.Refusal.{Refusal}
use Rattle.frames.specs.Answers.{Outcome, accepted, refused, row, row_of, outcome_of}
use Rattle.frames.specs.Temperature.{signed_of, complement_of}
use Rattle.frames.proofs.AnswerLaws.{or-either}
use Rattle.account_spec.specs.declared.Phase.{Phase}
use Rattle.account_spec.specs.declared.HourKind.{HourKind}
use Rattle.account_spec.specs.declared.HourKind.TheVariants.{Deficit, Pressure, Humidity}
use Rattle.account_spec.specs.HourKinds.{kind_number, numbered_kind}
use Rattle.account_spec.specs.Account.{phase_number, numbered_phase}
use Rattle.stored.specs.Layout.{phase_of, hour_kind_of, is_kind}

pub phase-back : (p : Phase) → phase_of (phase_number p) ≡ p
unfolding phase_of
phase-back p = grind arith

pub phase-le : (p : Phase) → phase_number p ≤ 2
phase-le p = grind arith

pub phase-number : (n : ℕ) → n ≤ 2 → phase_number (phase_of n) ≡ n
unfolding phase_of
phase-number n h = grind (arith, nat_tests)

pub kind-back : (k : Option HourKind) → hour_kind_of (kind_number k) ≡ k
unfolding hour_kind_of
kind-back None = refl
kind-back (Some Deficit) = refl
kind-back (Some Pressure) = refl
kind-back (Some Humidity) = refl

pub kind-le : (k : Option HourKind) → kind_number k ≤ 5
kind-le None = omega arith
kind-le (Some Deficit) = omega arith
kind-le (Some Pressure) = omega arith
kind-le (Some Humidity) = omega arith

pub kind-byte : (k : Option HourKind) → is_kind (kind_number k % 256) ≡ true
kind-byte None = refl
kind-byte (Some Deficit) = refl
kind-byte (Some Pressure) = refl
kind-byte (Some Humidity) = refl

module _ (n : ℕ) where
  kind-of :
      (m : ℕ) → kind_number (hour_kind_of m) ≡ m → eqb n m ≡ true → kind_number (hour_kind_of n) ≡ n
  kind-of m e t = rw (eqb-true n m t) e

  pub kind-number : is_kind n ≡ true → kind_number (hour_kind_of n) ≡ n
  unfolding hour_kind_of
  kind-number e =
      ⊎_elim
      (λ e₃.
      ⊎_elim (λ e₂. ⊎_elim (kind-of 0 refl) (kind-of 2 refl) (or-either (eqb n 0) (eqb n 2) e₂))
      (kind-of 4 refl) (or-either (eqb n 0 || eqb n 2) (eqb n 4) e₃))
      (kind-of 5 refl)
      (or-either (eqb n 0 || eqb n 2 || eqb n 4) (eqb n 5) e)

-- ---- what a byte says: a phase, or a kind with 0 for none

pub phase-read :
    (n : ℕ) →
    outcome_of (ok_or (numbered_phase n) Refusal.Account) ≡ row 13 (ltb 2 n) (accepted (phase_of n))
unfolding phase_of
phase-read zero = refl
phase-read (suc zero) = refl
phase-read (suc (suc zero)) = refl
phase-read (suc (suc (suc n))) =
    let m = suc (suc (suc n)) in
    simp (
      lt-ltb 2 m (omega arith),
      ne_eqb m 0 (omega arith),
      ne_eqb m 1 (omega arith),
      ne_eqb m 2 (omega arith),
    )

abbrev some_of : Result HourKind Refusal → Outcome (Option HourKind)
some_of (Ok k) = accepted (Some k)
some_of (Err r) = refused (row_of r)

abbrev kind_read : ℕ → Outcome (Option HourKind)
kind_read n = row 13 (not (is_kind n)) (accepted (hour_kind_of n))

kind-tests :
    (a b c : Bool) →
    some_of (ok_or
    (cond a (Some Deficit) (cond b (Some Pressure) (cond c (Some Humidity) None))) Refusal.Account)
    ≡ row 13 (not (a || b || c))
    (accepted (cond a (Some Deficit) (cond b (Some Pressure) (Some Humidity))))
kind-tests true b c = refl
kind-tests false true c = refl
kind-tests false false true = refl
kind-tests false false false = refl

pub kind-none : (n : ℕ) → n ≡ 0 → accepted None ≡ kind_read n
unfolding hour_kind_of
kind-none n e = rw e refl

module _ (n : ℕ) (some : n ≡ 0 → ⊥) (r : Result HourKind Refusal)
    (is : r ≡ ok_or (numbered_kind n) Refusal.Account) where
  kind-by : some_of r ≡ kind_read n
  unfolding hour_kind_of
  kind-by = rw (is, ne_eqb n 0 some) (kind-tests (eqb n 2) (eqb n 4) (eqb n 5))

  pub kind-given : (k : HourKind) → r ≡ Ok k → accepted (Some k) ≡ kind_read n
  kind-given k e = rw e at kind-by

  pub kind-refused : (w : Refusal) → r ≡ Err w → refused (row_of w) ≡ kind_read n
  kind-refused w e = rw e at kind-by

pub total-lt : (t : ℤ) → SFits w16 t → complement_of t < 65536
unfolding complement_of
total-lt t f = grind (arith, f.sfits)

pub total-back : (t : ℤ) → SFits w16 t → signed_of (complement_of t) ≡ t
unfolding signed_of complement_of
total-back (pos n) f = let h : n < 32768 = f.sfits in grind (arith, nat_tests)
total-back (negsuc n) f = let h : n < 32768 = f.sfits in grind (arith, nat_tests)
