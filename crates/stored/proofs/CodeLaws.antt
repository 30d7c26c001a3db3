-- Codes and answers are one to one; a code's answer by its tests.
use Prim.Native.Nat.{ℕ, ◌+◌, ◌*◌, ◌/◌, ◌%◌, ◌≤◌}
use mathlib.Core.Path.{◌≡◌, refl, sym, ap, ◌∙◌}
use mathlib.Core.Bool.{Bool, true, false, cond, ◌&&◌, ◌||◌, or-true}
use Rattle.std.specs.Prelude.{Option, Some, None}
use native.Mathlib.Omega.{arith}
use borrow.Author.Tests.{eqb-true, leb-true, ne_eqb}
use lib.Dec.{eqb, leb}
use Rattle.frames.specs.declared.records.Refusal.{Refusal}
use Rattle.frames.specs.declared.records.Refusal.TheVariants.{Range, Float}
use Rattle.frames.specs.Answers.{Outcome, accepted, refused, row_of}
use Rattle.frames.proofs.AnswerLaws.{and_both}
use Rattle.stored.specs.Code.{code_of_row, code_of, is_row, is_code, named_answer, coded_of}
use Rattle.stored.specs.CodePromise.{CodePromise}

-- ---- a row and a field

module _ (row field : ℕ) (e : is_row row field ≡ true) where
  abbrev bounds :
      (leb 1 row && leb row 26 ≡ true) × (eqb field 0 || eqb row 10 || eqb row 26 ≡ true)
  bounds = and_both (leb 1 row && leb row 26) (eqb field 0 || eqb row 10 || eqb row 26) e

  row-pos : 1 ≤ row
  row-pos = leb-true 1 row (and_both (leb 1 row) (leb row 26) bounds.0).0

  row-le : row ≤ 26
  row-le = leb-true row 26 (and_both (leb 1 row) (leb row 26) bounds.0).1

refusal-row : (r : Refusal) → is_row (row_of r).0 (row_of r).1 ≡ true
refusal-row (Range f) = simp or-true
refusal-row (Float f) = simp or-true
refusal-row r = refl

-- ---- a code's answer

module _ {A : Type 0} (a : A) where
  code_at :
      (code : ℕ) (t : Bool) → eqb code 0 ≡ t →
      code_of (cond t (accepted a) (refused (code % 256, code / 256))) ≡ code
  code_at code true e = sym (eqb-true code 0 e)
  code_at code false e = omega arith

  answer-code : (code : ℕ) → code_of (named_answer code a) ≡ code
  unfolding named_answer
  answer-code code = code_at code (eqb code 0) refl

-- the code of a refusal is not 0, and its row and field are the refusal's
record Read (row field code : ℕ) : Type 0 where
  other : eqb code 0 ≡ false
  low : code % 256 ≡ row
  high : code / 256 ≡ field

row_read : (row field : ℕ) → is_row row field ≡ true → Read row field (row + 256 * field)
row_read row field e =
    let pos = row-pos row field e in
    let le = row-le row field e in
    record {
      other = ne_eqb (row + 256 * field) 0 (λ z. omega arith);
      low = omega arith;
      high = omega arith;
    }

module _ (r : Refusal) where
  abbrev read : Read (row_of r).0 (row_of r).1 (code_of_row (row_of r))
  read = row_read (row_of r).0 (row_of r).1 (refusal-row r)

  pub code-answer :
      {A : Type 0} (a : A) → named_answer (code_of_row (row_of r)) a ≡ refused (row_of r)
  unfolding named_answer
  code-answer a = simp (read.other, read.low, read.high)

  pub code_is : is_code (code_of_row (row_of r)) ≡ true
  unfolding is_code
  code_is = simp (read.other, read.low, read.high) (refusal-row r)

-- ---- by the tests

pub coded-accepted : (code : ℕ) → code ≡ 0 → Some (accepted tt) ≡ coded_of code
unfolding coded_of is_code named_answer
coded-accepted code e = rw e

module _ (code : ℕ) (other : code ≡ 0 → ⊥) where
  pub coded-refused :
      is_row (code % 256) (code / 256) ≡ true →
      Some (refused (code % 256, code / 256)) ≡ coded_of code
  unfolding coded_of is_code named_answer
  coded-refused e = simp (ne_eqb code 0 other, e)

  pub coded_none : is_row (code % 256) (code / 256) ≡ false → None ≡ coded_of code
  unfolding coded_of is_code named_answer
  coded_none e = simp (ne_eqb code 0 other, e)

-- ---- one to one

some_same : {A : Type 0} {a b : A} → Some a ≡ Some b → a ≡ b
some_same e = cc

coded-same :
    (code : ℕ) (o : Outcome Unit) (t : Bool) →
    cond t (Some (named_answer code tt)) None ≡ Some o → code_of o ≡ code
coded-same code o true e = ap code_of (sym (some_same e)) ∙ answer-code tt code
coded-same code o false e = let z : ◌≡◌ {A = ℕ} 0 1 = cc in absurd (omega arith)

coded-some :
    (code : ℕ) (o : Outcome Unit) (t : Bool) →
    cond t (Some (named_answer code tt)) None ≡ Some o → t ≡ true
coded-some code o true e = refl
coded-some code o false e = let z : ◌≡◌ {A = ℕ} 0 1 = cc in absurd (omega arith)

coded-unknown :
    (code : ℕ) (t : Bool) →
    ◌≡◌ {A = Option (Outcome Unit)} (cond t (Some (named_answer code tt)) None) None → t ≡ false
coded-unknown code true e = let z : ◌≡◌ {A = ℕ} 0 1 = cc in absurd (omega arith)
coded-unknown code false e = refl

module _ (code : ℕ) where
  -- a number that names an answer is a code
  pub named-code : (o : Outcome Unit) → coded_of code ≡ Some o → is_code code ≡ true
  unfolding coded_of
  named-code o e = coded-some code o (is_code code) e

  pub unknown-code : coded_of code ≡ None → is_code code ≡ false
  unfolding coded_of
  unknown-code e = coded-unknown code (is_code code) e

coded-named : (r : Refusal) → coded_of (code_of_row (row_of r)) ≡ Some (refused (row_of r))
unfolding coded_of
coded-named r = simp (code_is r) (ap Some (code-answer r tt))

pub code-promise : CodePromise
unfolding coded_of
code-promise = record { same = λ code o e. coded-same code o (is_code code) e; named = coded-named }
