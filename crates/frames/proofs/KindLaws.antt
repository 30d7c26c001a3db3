-- The table of kinds: every length is within the longest, and a number with a length is a kind's.
use Prim.Native.Nat.{ℕ, zero, suc, max, ◌≤◌, ◌<◌}
use mathlib.Core.Path.{◌≡◌, refl, sym, subst}
use mathlib.Core.Bool.{Bool, true, false, false≢true, ◌&&◌}
use mathlib.Core.Logic.{⊎_elim}
use mathlib.Core.List.{List, [], ◌∷◌, map, foldr}
use native.Mathlib.Omega.{arith}
use borrow.Author.Tests.{eqb-true}
use lib.Dec.{eqb}
use lib.ListN.{length, get_or, get_or-eq_default}
use Rattle.frames.specs.Kinds.{Width, one, kinds, widths_of, size_of, digits_in, lengths, longest}
use Rattle.frames.specs.Kinds.{among, is_length, length_of}
use Rattle.frames.specs.steps.Frames.{IsHour, with_deficit, with_pressure, with_humidity}
use Rattle.exact.proofs.OrderLaws.{le-or-lt}
use Rattle.frames.proofs.AnswerLaws.{and_both, or-either}

-- a test that every number of a list passes is passed by each that is among them
abbrev pub all_pass : (ℕ → Bool) → List ℕ → Bool
all_pass test [] = true
all_pass test (m ∷ ms) = test m && all_pass test ms

pub among-passes :
    (test : ℕ → Bool) (l : List ℕ) (n : ℕ) → all_pass test l ≡ true →
    among l n ≡ true → test n ≡ true
unfolding among
among-passes test [] n all e = absurd (false≢true e)
among-passes test (m ∷ ms) n all e =
    let p = and_both (test m) (all_pass test ms) all in
    ⊎_elim (λ same. subst (λ k. test k ≡ true) (eqb-true m n same) p.0)
    (λ rest. among-passes test ms n p.1 rest) (or-either (eqb m n) (among ms n) e)

-- ---- the lengths of lines

among-le : (ms : List ℕ) (n : ℕ) → among ms n ≡ true → n ≤ foldr max 0 ms
unfolding among
among-le [] n e = absurd (false≢true e)
among-le (m ∷ ms) n e =
    ⊎_elim (λ p. omega (arith, eqb-true m n p)) (λ q. omega (arith, among-le ms n q))
    (or-either (eqb m n) (among ms n) e)

-- each has the digits of its kind
among-ge :
    (table : List (List Width)) (n : ℕ) → among (map digits_in table) n ≡ true → size_of one ≤ n
unfolding among
among-ge [] n e = absurd (false≢true e)
among-ge (ws ∷ table) n e =
    ⊎_elim (λ p. omega (arith, eqb-true (digits_in ws) n p)) (λ q. among-ge table n q)
    (or-either (eqb (digits_in ws) n) (among (map digits_in table) n) e)

pub length-le : (n : ℕ) → is_length n ≡ true → n ≤ longest
length-le n e = among-le lengths n e

pub length-ge : (n : ℕ) → is_length n ≡ true → size_of one ≤ n
length-ge n e = among-ge kinds n e

-- no line is longer than the longest
pub length_none : (n : ℕ) → longest < n → is_length n ≡ false
length_none n h = go (is_length n) refl
  where
    go : (t : Bool) → is_length n ≡ t → is_length n ≡ false
    go true e = absurd (omega (arith, length-le n e))
    go false e = e

-- ---- the numbers of kinds

-- no kind has the number 0, nor one past the table
kind-none : (b : ℕ) → (0 < b → length kinds < b) → 0 ≡ length_of b
unfolding length_of
kind-none zero h = refl
kind-none (suc b) h = sym (get_or-eq_default lengths 0 {n = b} (omega (arith, h (omega arith))))

pub kind-within : (b : ℕ) → 0 < length_of b → (1 ≤ b) × (b ≤ length kinds)
kind-within b h =
    ⊎_elim
    (λ p.
    ⊎_elim (λ q. (p, q)) (λ q. absurd (omega (arith, kind-none b (λ r. q))))
    (le-or-lt b (length kinds)))
    (λ p. absurd (omega (arith, kind-none b (λ r. absurd (omega arith)))))
    (le-or-lt 1 b)

length_at :
    (table : List (List Width)) (i : ℕ) → i < length table →
    get_or (map digits_in table) i 0 ≡ digits_in (get_or table i [])
length_at [] i h = absurd (omega arith)
length_at (ws ∷ table) zero h = refl
length_at (ws ∷ table) (suc i) h = length_at table i (omega arith)

pub length-is : (b : ℕ) → (1 ≤ b) × (b ≤ length kinds) → length_of b ≡ digits_in (widths_of b)
unfolding length_of
length-is zero h = absurd (omega arith)
length-is (suc b) h = length_at kinds b (omega arith)

-- the kinds, by their numbers
pub data KindCase (b : ℕ) : Type 0 where
  header : b ≡ 1 → KindCase b
  hour : IsHour b → KindCase b
  end : b ≡ 3 → KindCase b
  ceiling : b ≡ 6 → KindCase b
  parameters : b ≡ 7 → KindCase b
  warmth : b ≡ 8 → KindCase b

pub kind-cases : (b : ℕ) → (1 ≤ b) × (b ≤ length kinds) → KindCase b
kind-cases zero h = absurd (omega arith)
kind-cases (suc zero) h = header refl
kind-cases (suc (suc zero)) h = hour (with_deficit refl)
kind-cases (suc (suc (suc zero))) h = end refl
kind-cases (suc (suc (suc (suc zero)))) h = hour (with_pressure refl)
kind-cases (suc (suc (suc (suc (suc zero))))) h = hour (with_humidity refl)
kind-cases (suc (suc (suc (suc (suc (suc zero)))))) h = ceiling refl
kind-cases (suc (suc (suc (suc (suc (suc (suc zero))))))) h = parameters refl
kind-cases (suc (suc (suc (suc (suc (suc (suc (suc zero)))))))) h = warmth refl
kind-cases (suc (suc (suc (suc (suc (suc (suc (suc (suc b))))))))) h = absurd (omega arith)

pub hour-left :
    (b : ℕ) → KindCase b → (b ≡ 1 → ⊥) → (b ≡ 3 → ⊥) → (b ≡ 6 → ⊥) → (b ≡ 7 → ⊥) →
    (b ≡ 8 → ⊥) → IsHour b
hour-left b (header e) p q r s t = absurd (p e)
hour-left b (hour is) p q r s t = is
hour-left b (end e) p q r s t = absurd (q e)
hour-left b (ceiling e) p q r s t = absurd (r e)
hour-left b (parameters e) p q r s t = absurd (s e)
hour-left b (warmth e) p q r s t = absurd (t e)

pub deficit-left : (b : ℕ) → IsHour b → (b ≡ 4 → ⊥) → (b ≡ 5 → ⊥) → b ≡ 2
deficit-left b (with_deficit e) p q = e
deficit-left b (with_pressure e) p q = absurd (p e)
deficit-left b (with_humidity e) p q = absurd (q e)

-- a line of any kind of hour has the places of kind 02's fields
pub hour-ge : (b n : ℕ) → IsHour b → length_of b ≤ n → length_of 2 ≤ n
unfolding length_of
hour-ge b n (with_deficit e) h = omega (arith, rw e at h)
hour-ge b n (with_pressure e) h = omega (arith, rw e at h)
hour-ge b n (with_humidity e) h = omega (arith, rw e at h)
