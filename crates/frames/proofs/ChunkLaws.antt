-- The 16 characters of a chunk, read one after the other; three chunks that cover a line of digits
-- hold its bytes.
use Prim.Native.Nat.{ℕ, suc, ◌+◌, ◌-◌, ◌*◌, ◌≤◌, ◌<◌}
use mathlib.Core.Path.{◌≡◌, refl, ap, ap₂, ◌∙◌}
use mathlib.Core.Bool.{Bool, true, ◌&&◌}
use mathlib.Core.Logic.{⊎_elim}
use mathlib.Core.List.{List, [], ◌∷◌}
use native.Mathlib.Omega.{arith}
use lib.ListN.{length, get_or, set, length-set}
use lib.Seq.{get_or-set_same, get_or-set_other}
use Rattle.exact.proofs.OrderLaws.{le-or-lt}
use Rattle.frames.proofs.AnswerLaws.{and_both}
use Rattle.frames.specs.Digits.{is_digit, bits_of, all_digits, byte_at, number_at}
use Rattle.frames.proofs.DigitLaws.{bits-value, digit_at}
use Rattle.frames.specs.steps.HourLines.{ReadTo, SaysBytes}

-- ---- one character more

abbrev said : List ℕ → ℕ → ℕ
said l at = bits_of (get_or l at 0) * 16 + bits_of (get_or l (at + 1) 0)

-- a place below n + 1 is below n or is n
below : {n i : ℕ} (P : ℕ → Type 0) → P n → (i < n → P i) → i < n + 1 → P i
below {n} {i} P here others h =
    ⊎_elim (λ le. let e : i ≡ n = omega arith in rw e here) (λ lt. others lt) (le-or-lt n i)

pub chunk-none :
    (l : List ℕ) (from : ℕ) (bytes : List ℕ) → length bytes ≡ 16 → ReadTo l from 0 true bytes
chunk-none l from bytes e =
    record { size = e; bits = λ i h. absurd (omega arith); whole = λ t i h. absurd (omega arith) }

module _ (l : List ℕ) (from n : ℕ) (digits : Bool) (bytes : List ℕ) (h : n < 16)
    (r : ReadTo l from n digits bytes) where
  pub read_more :
      (b : ℕ) → b ≡ said l (from + n) →
      ReadTo l from (n + 1) (digits && is_digit (get_or l (from + n) 0)) (set bytes n b)
  read_more b e =
      record {
        size = length-set bytes n b ∙ r.size;
        bits = λ i.
            below (λ j. get_or (set bytes n b) j 0 ≡ said l (from + j))
            (get_or-set_same bytes n b 0 (omega (arith, r.size)) ∙ e)
            (λ lt. get_or-set_other bytes n i b 0 (λ same. absurd (omega arith)) ∙ r.bits i lt);
        whole = λ t i.
            let both = and_both digits (is_digit (get_or l (from + n) 0)) t in
            below (λ j. is_digit (get_or l (from + j) 0) ≡ true) both.1 (λ lt. r.whole both.0 i lt);
      }

-- ---- a line of digits by its chunks

all_digits_lem :
    (l : List ℕ) → ((i : ℕ) → i < length l → is_digit (get_or l i 0) ≡ true) → all_digits l ≡ true
unfolding all_digits
all_digits_lem [] each = refl
all_digits_lem (c ∷ l) each =
    ap₂ (λ (x y : Bool). x && y) (each 0 (omega arith))
    (all_digits_lem l (λ i h. each (suc i) (omega arith)))

-- two chunks one after the other, one that ends at the last character but one, and the last
pub chunks-digits :
    (l : List ℕ) (a b c : List ℕ) → 36 ≤ length l → length l ≤ 40 → ReadTo l 0 16 true a →
    ReadTo l 16 16 true b → ReadTo l (length l - 17) 16 true c
    → is_digit (get_or l (length l - 1) 0) ≡ true → all_digits l ≡ true
chunks-digits l a b c low high first second last end = all_digits_lem l each
  where
    place : (i j : ℕ) → j ≡ i → is_digit (get_or l j 0) ≡ true → is_digit (get_or l i 0) ≡ true
    place i j e d = rw e at d

    each : (i : ℕ) → i < length l → is_digit (get_or l i 0) ≡ true
    each i h =
        ⊎_elim
        (λ p.
        ⊎_elim
        (λ q.
        ⊎_elim
        (λ r. place i (length l - 1) (omega arith) end)
        (λ r.
        place i (length l - 17 + (i - (length l - 17))) (omega arith)
        (last.whole refl (i - (length l - 17)) (omega arith)))
        (le-or-lt (length l - 1) i))
        (λ q. place i (16 + (i - 16)) (omega arith) (second.whole refl (i - 16) (omega arith)))
        (le-or-lt 32 i))
        (λ p. place i (0 + i) (omega arith) (first.whole refl i p))
        (le-or-lt 16 i)

pub chunk-says :
    (l : List ℕ) (from : ℕ) (digits : Bool) (bytes : List ℕ) → all_digits l ≡ true →
    from + 17 ≤ length l → ReadTo l from 16 digits bytes → SaysBytes l from bytes
unfolding byte_at
chunk-says l from digits bytes all room r =
    record {
      byte = λ i h.
          r.bits i h
          ∙ ap₂ (λ (x y : ℕ). x * 16 + y)
          (bits-value (get_or l (from + i) 0) (digit_at l (from + i) all (omega arith)))
          (bits-value (get_or l (from + i + 1) 0) (digit_at l (from + i + 1) all (omega arith)));
    }

-- the two-byte number at a place of a chunk, by its place in the line
pub number-says :
    (l : List ℕ) (from : ℕ) (bytes : List ℕ) → SaysBytes l from bytes → (at place : ℕ) →
    at + 2 < 16 → from + at ≡ place
    → get_or bytes at 0 * 256 + get_or bytes (at + 2) 0 ≡ number_at place l
unfolding number_at
number-says l from bytes says at place h e =
    let past : from + (at + 2) ≡ place + 2 = omega arith in
    ap₂ (λ (x y : ℕ). x * 256 + y) (says.byte at (omega arith) ∙ ap (λ (n : ℕ). byte_at n l) e)
    (says.byte (at + 2) h ∙ ap (λ (n : ℕ). byte_at n l) past)
