-- The values of a line's characters, read one after the other.
use Prim.Native.Nat.{ℕ, ◌+◌, ◌<◌}
use mathlib.Core.Path.{◌≡◌, refl, ◌∙◌}
use mathlib.Core.Bool.{true}
use mathlib.Core.Logic.{⊎_elim}
use mathlib.Core.List.{List}
use native.Mathlib.Omega.{arith}
use lib.ListN.{length, get_or, set, length-set, replicate, get_or-replicate, length-replicate}
use lib.ListN.{get_or-eq_default}
use lib.Seq.{get_or-set_same, get_or-set_other}
use Rattle.frames.specs.Digits.{bits_of, all_digits}
use Rattle.frames.specs.Kinds.{longest}
use Rattle.frames.specs.steps.Frames.{Values, SaysValues}
use Rattle.exact.proofs.OrderLaws.{le-or-lt}
use Rattle.frames.proofs.DigitLaws.{bits-lt, bits-value, digit_at}

-- the first n values are those of the line's characters
pub record ReadValues (l : List ℕ) (n : ℕ) (vs : List ℕ) : Type 0 where
  pub values : Values vs
  pub bits : (i : ℕ) → i < n → get_or vs i 0 ≡ bits_of (get_or l i 0)

zeros-small : (i : ℕ) → get_or (replicate longest 0) i 0 < 16
zeros-small i =
    ⊎_elim
    (λ h. omega (
      arith,
      get_or-eq_default {A = ℕ} (replicate longest 0) 0 {n = i}
          (rw (length-replicate {A = ℕ} longest 0) h),
    ))
    (λ h. omega (arith, get_or-replicate {A = ℕ} longest i 0 0 h))
    (le-or-lt longest i)

pub read_none : (l : List ℕ) → ReadValues l 0 (replicate longest 0)
read_none l = record {
  values = record { size = length-replicate {A = ℕ} longest 0; small = zeros-small };
  bits = λ i h. absurd (omega arith);
}

module _ (l : List ℕ) (n : ℕ) (vs : List ℕ) (h : n < longest) (r : ReadValues l n vs) where
  abbrev more : List ℕ
  more = set vs n (bits_of (get_or l n 0))

  at_n : get_or more n 0 ≡ bits_of (get_or l n 0)
  at_n = get_or-set_same vs n (bits_of (get_or l n 0)) 0 (omega (arith, r.values.size))

  -- a fact of each place: of place n, and of the others
  places :
      (P : ℕ → ℕ → Type 0) → ((i : ℕ) → (i ≡ n → ⊥) → P i (get_or vs i 0)) →
      P n (bits_of (get_or l n 0)) → (i : ℕ) → P i (get_or more i 0)
  places P others here i =
      ⊎_elim
      (λ le.
      ⊎_elim (λ ge. let e : i ≡ n = omega arith in rw (e, at_n) here)
      (λ lt.
      rw (get_or-set_other vs n i (bits_of (get_or l n 0)) 0 (λ e. absurd (omega arith)))
      (others i (λ e. absurd (omega arith))))
      (le-or-lt n i))
      (λ gt.
      rw (get_or-set_other vs n i (bits_of (get_or l n 0)) 0 (λ e. absurd (omega arith)))
      (others i (λ e. absurd (omega arith))))
      (le-or-lt i n)

  pub read_more : ReadValues l (n + 1) more
  read_more =
      record {
        values = record {
          size = length-set vs n (bits_of (get_or l n 0)) ∙ r.values.size;
          small = places (λ i v. v < 16) (λ i ne. r.values.small i) (bits-lt (get_or l n 0));
        };
        bits =
            places (λ i v. i < n + 1 → v ≡ bits_of (get_or l i 0))
            (λ i ne lt. r.bits i (omega (arith, ne))) (λ lt. refl);
      }

pub read-says : (l vs : List ℕ) → ReadValues l (length l) vs → all_digits l ≡ true → SaysValues vs l
read-says l vs r d =
    record { values = λ i h. r.bits i h ∙ bits-value (get_or l i 0) (digit_at l i d h) }
