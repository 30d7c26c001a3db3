-- What a word's digits say, digit after digit: a number kept at the greatest says what the whole
-- number says.
use Prim.Native.Nat.{ℕ, ◌+◌, ◌-◌, ◌*◌, ◌≤◌, ◌<◌, min}
use mathlib.Core.Path.{◌≡◌, refl, sym, ap, ◌∙◌}
use mathlib.Core.Bool.{cond, true, false}
use mathlib.Core.List.{List, [], ◌∷◌}
use mathlib.Core.Logic.{⊎_elim}
use Rattle.std.specs.Prelude.{Option, Some, None}
use native.Mathlib.Nat.{min-eq_left, min-eq_right, not-suc-le-zero}
use native.Mathlib.Numerals.{add-one}
use native.Mathlib.Omega.{arith}
use lib.ListN.{length, get_or, drop, drop_of_length-le}
use lib.Seq.{drop-cons}
use Rattle.exact.proofs.OrderLaws.{le-or-lt}
use Rattle.pod1.specs.Number.{greatest_number, is_decimal, said_after, number_of}

said_after-greatest :
    (m n : ℕ) (l : List ℕ) → greatest_number ≤ m → greatest_number ≤ n →
    said_after m l ≡ said_after n l
unfolding said_after
said_after-greatest m n [] p q = ap Some (min-eq_right p ∙ sym (min-eq_right q))
said_after-greatest m n (c ∷ cs) p q =
    ap (λ (r : Option ℕ). cond (is_decimal c) r None)
    (said_after-greatest (m * 10 + (c - 48)) (n * 10 + (c - 48)) cs (omega arith) (omega arith))

said_after-min : (m : ℕ) (l : List ℕ) → said_after m l ≡ said_after (min m greatest_number) l
said_after-min m l =
    ⊎_elim
    (λ p. ap (λ (k : ℕ). said_after k l) (sym (min-eq_left p)))
    (λ p.
    said_after-greatest m greatest_number l (omega arith) (omega arith)
    ∙ ap (λ (k : ℕ). said_after k l) (sym (min-eq_right (omega arith))))
    (le-or-lt m greatest_number)

-- a product and a sum that stop at the greatest
pub said_after-saturated :
    (m d : ℕ) (l : List ℕ) →
    said_after (min (min (m * 10) greatest_number + d) greatest_number) l
    ≡ said_after (m * 10 + d) l
said_after-saturated m d l =
    sym (said_after-min (min (m * 10) greatest_number + d) l)
    ∙ ⊎_elim
    (λ p. ap (λ (k : ℕ). said_after (k + d) l) (min-eq_left p))
    (λ p.
    ap (λ (k : ℕ). said_after (k + d) l) (min-eq_right (omega arith))
    ∙ said_after-greatest (greatest_number + d) (m * 10 + d) l (omega arith) (omega arith))
    (le-or-lt (m * 10) greatest_number)

pub number_of-start : (l : List ℕ) → 0 < length l → number_of l ≡ said_after 0 l
unfolding number_of
number_of-start [] h = absurd (not-suc-le-zero h)
number_of-start (c ∷ cs) h = refl

pub number_of-empty : (l : List ℕ) → length l ≡ 0 → number_of l ≡ None
unfolding number_of
number_of-empty [] h = refl
number_of-empty (c ∷ cs) h = absurd (omega arith)

module _ (m : ℕ) (l : List ℕ) (i : ℕ) where
  pub said_after-end : length l ≤ i → m ≤ greatest_number → said_after m (drop i l) ≡ Some m
  unfolding said_after
  said_after-end h p = rw (drop_of_length-le l {i = i} h) (ap Some (min-eq_left p))

  pub said_after-digit :
      i < length l → is_decimal (get_or l i 0) ≡ true →
      said_after m (drop i l) ≡ said_after (m * 10 + (get_or l i 0 - 48)) (drop (i + 1) l)
  unfolding said_after
  said_after-digit h p = rw (drop-cons l i 0 h, add-one) (simp p)

  pub said_after-other :
      i < length l → is_decimal (get_or l i 0) ≡ false → said_after m (drop i l) ≡ None
  unfolding said_after
  said_after-other h p = rw (drop-cons l i 0 h) (simp p)
