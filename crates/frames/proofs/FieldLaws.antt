-- Numbers that fit their widths are read back from their digits, at any place; a line of digits is
-- written back from the numbers read out of it.
-- For any list of widths.
use Prim.Native.Nat.{ℕ, suc, ◌+◌, ◌*◌, ◌/◌, ◌%◌, ◌≤◌, ◌<◌}
use mathlib.Core.Path.{◌≡◌, refl, sym, ap, ap₂, ◌∙◌}
use mathlib.Core.Bool.{true}
use mathlib.Core.List.{List, [], ◌∷◌}
use native.Mathlib.Nat.{add-zero}
use native.Mathlib.Numerals.{add-one, add-two}
use native.Mathlib.Omega.{arith}
use lib.ListN.{length, get_or, drop, drop_of_length-le}
use lib.Seq.{drop-cons, drop-drop, get_or-drop}
use Rattle.frames.specs.Digits.{value_of, all_digits, byte_at, number_at, digit_of, byte, number}
use Rattle.frames.specs.Kinds.{Width, one, two, size_of, span}
use Rattle.frames.specs.Fields.{value_at, digits_as, numbers_at, digits_of}
use Rattle.frames.proofs.DigitLaws.{value-lt, digit_at}
use Rattle.frames.proofs.WrittenDigitLaws.{byte-lt, value-digit, digit-valid, digit_value}

abbrev power_of : Width → ℕ
power_of one = 256
power_of two = 65536

-- as many numbers as widths, each below its width's power
abbrev pub FitsWidths : List Width → List ℕ → Type 0
FitsWidths [] [] = Unit
FitsWidths [] (n ∷ ns) = ⊥
FitsWidths (w ∷ ws) [] = ⊥
FitsWidths (w ∷ ws) (n ∷ ns) = (n < power_of w) × FitsWidths ws ns

-- ---- written, then read

module _ (at k : ℕ) (l s : List ℕ) (e : drop at l ≡ s) where
  rest_at : drop (at + k) l ≡ drop k s
  rest_at = sym (drop-drop k at l) ∙ ap (drop k) e

  cell_at : get_or l (at + k) 0 ≡ get_or s k 0
  cell_at = sym (get_or-drop at l k 0) ∙ ap (λ (t : List ℕ). get_or t k 0) e

byte-read :
    (at : ℕ) (l : List ℕ) (n : ℕ) (rest : List ℕ) → drop at l ≡ byte n rest →
    n < 256 → byte_at at l ≡ n
unfolding byte_at
byte-read at l n rest e h =
    let p : get_or l at 0 ≡ digit_of (n / 16) = rw add-zero at (cell_at at 0 l _ e) in
    simp (
      p,
      cell_at at 1 l _ e,
      value-digit (n / 16) (omega arith),
      value-digit (n % 16) (omega arith),
    )
    (omega arith)

value_read :
    (w : Width) (at : ℕ) (l : List ℕ) (n : ℕ) (rest : List ℕ) → drop at l ≡ digits_as w n rest →
    n < power_of w → value_at w at l ≡ n
unfolding number_at
value_read one at l n rest e h = byte-read at l n rest e h
value_read two at l n rest e h =
    simp (
      byte-read at l (n / 256) _ e (omega arith),
      byte-read (at + 2) l (n % 256) rest (rest_at at 2 l _ e) (omega arith),
    )
    (omega arith)

digits-rest : (w : Width) (n : ℕ) (rest : List ℕ) → drop (size_of w) (digits_as w n rest) ≡ rest
digits-rest one n rest = refl
digits-rest two n rest = refl

pub numbers-digits :
    (ws : List Width) (ns : List ℕ) (at : ℕ) (l : List ℕ) → drop at l ≡ digits_of ws ns →
    FitsWidths ws ns → numbers_at ws at l ≡ ns
numbers-digits [] [] at l e f = refl
numbers-digits [] (n ∷ ns) at l e f = absurd f
numbers-digits (w ∷ ws) [] at l e f = absurd f
numbers-digits (w ∷ ws) (n ∷ ns) at l e f =
    ap₂ ◌∷◌ (value_read w at l n _ e f.0)
    (numbers-digits ws ns (at + size_of w) l
    (rest_at at (size_of w) l _ e ∙ digits-rest w n (digits_of ws ns)) f.1)

byte-valid :
    (n : ℕ) (rest : List ℕ) → n < 256 → all_digits rest ≡ true → all_digits (byte n rest) ≡ true
unfolding all_digits
byte-valid n rest h e =
    simp (digit-valid (n / 16) (omega arith), digit-valid (n % 16) (omega arith)) e

value-valid :
    (w : Width) (n : ℕ) (rest : List ℕ) → n < power_of w → all_digits rest ≡ true →
    all_digits (digits_as w n rest) ≡ true
value-valid one n rest h e = byte-valid n rest h e
value-valid two n rest h e =
    byte-valid (n / 256) (byte (n % 256) rest) (omega arith)
    (byte-valid (n % 256) rest (omega arith) e)

pub digits-valid :
    (ws : List Width) (ns : List ℕ) → FitsWidths ws ns → all_digits (digits_of ws ns) ≡ true
unfolding all_digits
digits-valid [] [] f = refl
digits-valid [] (n ∷ ns) f = absurd f
digits-valid (w ∷ ws) [] f = absurd f
digits-valid (w ∷ ws) (n ∷ ns) f = value-valid w n (digits_of ws ns) f.0 (digits-valid ws ns f.1)

-- ---- read, then written

module _ (l : List ℕ) (valid : all_digits l ≡ true) where
  cells :
      (at : ℕ) → at + 2 ≤ length l →
      drop at l ≡ get_or l at 0 ∷ get_or l (at + 1) 0 ∷ drop (at + 2) l
  cells at h =
      rw (add-one, add-two)
      (drop-cons l at 0 (omega arith)
      ∙ ap (◌∷◌ (get_or l at 0)) (drop-cons l (suc at) 0 (omega arith)))

  byte-written : (at : ℕ) → at + 2 ≤ length l → byte (byte_at at l) (drop (at + 2) l) ≡ drop at l
  unfolding byte_at
  byte-written at h =
      let a = value_of (get_or l at 0) in
      let b = value_of (get_or l (at + 1) 0) in
      let p : a < 16 = value-lt (get_or l at 0) in
      let q : b < 16 = value-lt (get_or l (at + 1) 0) in
      let x : (a * 16 + b) / 16 ≡ a = omega arith in
      let y : (a * 16 + b) % 16 ≡ b = omega arith in
      simp (
        x,
        y,
        digit_value (get_or l at 0) (digit_at l at valid (omega arith)),
        digit_value (get_or l (at + 1) 0) (digit_at l (at + 1) valid (omega arith)),
      )
      (sym (cells at h))

  number-written :
      (at : ℕ) → at + 4 ≤ length l → number (number_at at l) (drop (at + 4) l) ≡ drop at l
  unfolding number_at
  number-written at h =
      let p : byte_at at l < 256 = byte-lt at l in
      let q : byte_at (at + 2) l < 256 = byte-lt (at + 2) l in
      let x : (byte_at at l * 256 + byte_at (at + 2) l) / 256 ≡ byte_at at l = omega arith in
      let y : (byte_at at l * 256 + byte_at (at + 2) l) % 256 ≡ byte_at (at + 2) l = omega arith in
      let next : at + 4 ≡ at + 2 + 2 = omega arith in
      simp (x, y, next)
      (ap (byte (byte_at at l)) (byte-written (at + 2) (omega arith))
      ∙ byte-written at (omega arith))

  value_written :
      (w : Width) (at : ℕ) → at + size_of w ≤ length l →
      digits_as w (value_at w at l) (drop (at + size_of w) l) ≡ drop at l
  value_written one at h = byte-written at h
  value_written two at h = number-written at h

  pub digits-numbers :
      (ws : List Width) (at : ℕ) → length l ≡ at + span ws →
      digits_of ws (numbers_at ws at l) ≡ drop at l
  digits-numbers [] at h = sym (drop_of_length-le l {i = at} (omega arith))
  digits-numbers (w ∷ ws) at h =
      ap (digits_as w (value_at w at l)) (digits-numbers ws (at + size_of w) (omega arith))
      ∙ value_written w at (omega arith)
