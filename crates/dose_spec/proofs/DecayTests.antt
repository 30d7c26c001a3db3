-- The table's rule and the digits' lower bounds, each out of one computed test.
use Rattle.std.proofs.lemmas.Bool.Decides.{nat_tests}
use mathlib.Core.Path.{◌≡◌}
use mathlib.Core.Bool.{Bool, true, ◌&&◌}
use mathlib.Core.List.{List, [], ◌∷◌}
use mathlib.Core.Logic.{⊎_elim}
use Prim.Native.Nat.{ℕ, zero, suc, ◌+◌, ◌*◌, ◌/◌, ◌^◌, ◌≤◌, ◌<◌}
use native.Mathlib.Nat.{zero-add, add-suc, suc-add, le_of_suc-le-suc, not-suc-le-zero}
use native.Mathlib.Nat.{eq-or-lt_of_le, mul-le-mul_left, one-mul}
use native.Mathlib.Omega.{arith}
use lib.Dec.{T, eqb, eqb→eq, lit<, lit≤}
use lib.ListN.{get_or}
use Rattle.exact.specs.Frac.{◌over◌, ◌≼◌}
use Rattle.exact.specs.Series.{decay_at}
use Rattle.exact.proofs.SeriesCommon.{common_den, common_num}
use Rattle.exact.proofs.SeriesBounds.{decay_at-down, rest_test, decay_at-ge}
use Rattle.dose_spec.specs.Light.{digit_terms, decay_entry}
use Rattle.dose_spec.specs.steps.Flux.{IsDecayTable}

-- an entry on the common denominator, where it is cheap
abbrev rounded : ℕ → ℕ
rounded n = 10 ^ 9 * common_den digit_terms 10000 / common_num digit_terms n 10000

decay_entry-is : (n : ℕ) → decay_entry n ≡ rounded n
unfolding decay_entry
decay_entry-is n = decay_at-down (10 ^ 9) digit_terms n 10000 (lit< tt)

-- ---- a place's table: each digit from d on, m of them, 0 past its end

abbrev every_test : ℕ → ℕ → ℕ → List ℕ → Bool
every_test place d zero es = true
every_test place d (suc m) [] = eqb 0 (rounded (place * d)) && every_test place (suc d) m []
every_test place d (suc m) (e ∷ es) = eqb e (rounded (place * d)) && every_test place (suc d) m es

every-tested :
    (place d m : ℕ) (es : List ℕ) → T (every_test place d m es) → (i : ℕ) → i < m →
    get_or es i 0 ≡ rounded (place * (d + i))
every-tested place d zero es h i l = absurd (not-suc-le-zero l)
every-tested place d (suc m) [] h zero l = grind (arith, nat_tests, eqb→eq)
every-tested place d (suc m) [] h (suc i) l =
    rw (add-suc, ← (suc-add d i))
    (every-tested place (suc d) m [] (grind (arith, nat_tests)) i (le_of_suc-le-suc l))
every-tested place d (suc m) (e ∷ es) h zero l = grind (arith, nat_tests, eqb→eq)
every-tested place d (suc m) (e ∷ es) h (suc i) l =
    rw (add-suc, ← (suc-add d i))
    (every-tested place (suc d) m es (grind (arith, nat_tests)) i (le_of_suc-le-suc l))

module _ (place : ℕ) (table : List ℕ) where
  abbrev pub table_test : Bool
  table_test = every_test place 0 100 table

  pub table-tested : T table_test → IsDecayTable place table
  table-tested h = record {
    entries = λ d l. rw decay_entry-is (rw zero-add at (every-tested place 0 100 table h d l));
  }

-- ---- each digit of a place, below m

abbrev digits_test : ℕ → ℕ → Bool
digits_test place zero = true
digits_test place (suc m) =
    rest_test (place * m) 10000 (rounded (place * m)) (10 ^ 9) digit_terms && digits_test place m

digits-tested :
    (place m : ℕ) → T (digits_test place m) → (i : ℕ) → i < m →
    T (rest_test (place * i) 10000 (rounded (place * i)) (10 ^ 9) digit_terms)
digits-tested place zero h i l = absurd (not-suc-le-zero l)
digits-tested place (suc m) h i l =
    ⊎_elim (λ e. rw e (grind (arith, nat_tests)))
    (λ s. digits-tested place m (grind (arith, nat_tests)) i s)
    (eq-or-lt_of_le (le_of_suc-le-suc l))

module _ (place m : ℕ) (place-pos : 0 < place) (near : place * m ≤ 10000 * suc digit_terms)
    (test : T (digits_test place m)) where
  digit-ge :
      (i : ℕ) → i < m → (k : ℕ) → decay_entry (place * i) over 10 ^ 9 ≼ decay_at k (place * i) 10000
  digit-ge i l k =
      rw (decay_entry-is (place * i))
      (decay_at-ge (place * i) 10000 (rounded (place * i)) (10 ^ 9) (lit< tt) (lit< tt) digit_terms
      (omega (arith, mul-le-mul_left place l)) (digits-tested place m test i l) k)

-- ---- in base 100: n % 100, n / 100 % 100 and n / 10000

pub ones-ge : (i : ℕ) → i < 100 → (k : ℕ) → decay_entry i over 10 ^ 9 ≼ decay_at k i 10000
unfolding common_den common_num
ones-ge i l k = rw (one-mul) at (digit-ge 1 100 (lit< tt) (lit≤ tt) tt i l k)

pub hundreds-ge :
    (i : ℕ) → i < 100 → (k : ℕ) → decay_entry (100 * i) over 10 ^ 9 ≼ decay_at k (100 * i) 10000
unfolding common_den common_num
hundreds-ge = digit-ge 100 100 (lit< tt) (lit≤ tt) tt

pub myriads-ge :
    (i : ℕ) → i < 65 → (k : ℕ) → decay_entry (10000 * i) over 10 ^ 9 ≼ decay_at k (10000 * i) 10000
unfolding common_den common_num
myriads-ge = digit-ge 10000 65 (lit< tt) (lit≤ tt) tt
