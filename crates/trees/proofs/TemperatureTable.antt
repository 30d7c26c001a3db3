-- A table's rule at each of its entries, out of one test that is computed over the whole table.
use Rattle.std.proofs.lemmas.Bool.Decides.{nat_tests}
use Prim.Native.Nat.{ℕ, zero, suc, ◌+◌, ◌<◌}
use mathlib.Core.Bool.{Bool, true, ◌&&◌}
use mathlib.Core.List.{List, [], ◌∷◌}
use native.Mathlib.Nat.{add-zero, add-suc, suc-add, le_of_suc-le-suc, not-suc-le-zero}
use native.Mathlib.Omega.{arith}
use lib.Dec.{T, leb, ltb}
use lib.ListN.{length, get_or}
use Rattle.trees.specs.declared.Figures.{Figures}
use Rattle.trees.specs.Temperature.{tried, allowed, IsGreatest}
use Rattle.trees.specs.TemperatureTable.{IsTemperatureTable}

abbrev pub greatest_test : Figures → ℕ → ℕ → Bool
unfolding tried allowed
greatest_test f x t = leb (tried f x t) (allowed 9 f x) && ltb (allowed 9 f x) (tried f x (t + 1))

pub greatest-tested : (f : Figures) (x t : ℕ) → T (greatest_test f x t) → IsGreatest 9 f x t
unfolding tried allowed
greatest-tested f x t h =
    record { under = grind (arith, nat_tests); above = grind (arith, nat_tests) }

-- each entry is the greatest, the first one at x
abbrev every_test : Figures → ℕ → List ℕ → Bool
unfolding tried allowed
every_test f x [] = true
every_test f x (t ∷ ts) = greatest_test f x t && every_test f (suc x) ts

entry-tested :
    (f : Figures) (x : ℕ) (ts : List ℕ) → T (every_test f x ts) → (i : ℕ) → i < length ts →
    IsGreatest 9 f (x + i) (get_or ts i 0)
unfolding tried allowed
entry-tested f x [] h i l = absurd (not-suc-le-zero l)
entry-tested f x (t ∷ ts) h zero l = rw add-zero (greatest-tested f x t (grind (arith, nat_tests)))
entry-tested f x (t ∷ ts) h (suc i) l =
    rw (add-suc, ← (suc-add x i))
    (entry-tested f (suc x) ts (grind (arith, nat_tests)) i (le_of_suc-le-suc l))

module _ (f : Figures) (from : ℕ) (ts : List ℕ) where
  abbrev pub table_test : Bool
  unfolding tried allowed
  table_test = every_test f from ts

  pub table-tested : T table_test → IsTemperatureTable f from ts
  unfolding tried allowed
  table-tested h = record { entries = entry-tested f from ts h }
