-- An array that passes one computed test can be read at each reading of its part of the tree's
-- table, and gives the tree's pair.
use Prim.Native.Nat.{ℕ, zero, suc, ◌+◌, ◌-◌, ◌*◌, ◌<◌, ◌≤◌}
use mathlib.Core.Path.{◌≡◌}
use mathlib.Core.Bool.{Bool, true, ◌&&◌}
use mathlib.Core.List.{List, [], ◌∷◌}
use native.Mathlib.Omega.{arith}
use Rattle.std.proofs.lemmas.Bool.Decides.{nat_tests}
use lib.Dec.{T, leb, ltb}
use lib.ListN.{length, get_or}
use Rattle.trees.specs.declared.Figures.{Figures}
use Rattle.trees.specs.Sound.{Sound}
use Rattle.trees.specs.Temperature.{temperature_pair, tried, allowed}
use Rattle.trees.proofs.TemperatureTable.{table_test, table-tested}
use Rattle.trees.proofs.TemperatureLookup.{pair_read}
use Rattle.trees.proofs.TemperatureTrim.{trimmed_test, trimmed-tested}
use Rattle.exact.specs.declared.Bounds.{Bounds}
use Rattle.power.specs.steps.Tables.{Readable, ReadAs, IsTable}

-- every entry is at most 1
abbrev small_test : List ℕ → Bool
small_test [] = true
small_test (t ∷ ts) = leb t 1000000000 && small_test ts

small-tested : (ts : List ℕ) → T (small_test ts) → (i : ℕ) → get_or ts i 0 ≤ 1000000000
small-tested [] h i = omega arith
small-tested (t ∷ ts) h zero = grind (arith, nat_tests)
small-tested (t ∷ ts) h (suc i) = grind (arith, nat_tests, (small-tested ts))

-- f_min is a percentage, and neither the first entry nor the last is under it
abbrev ends_test : ℕ → List ℕ → Bool
ends_test f_min ts =
    leb f_min 100
    && (leb (f_min * 10000000) (get_or ts 0 0)
    && leb (f_min * 10000000) (get_or ts (length ts - 1) 0))

abbrev read_test : ℕ → List ℕ → Bool
read_test f_min ts = ends_test f_min ts && small_test ts

readable :
    {f_min from x : ℕ} {ts : List ℕ} → T (read_test f_min ts) → from ≤ x → x < from + length ts →
    Readable f_min ts from x
readable {ts = ts} h first last = grind (arith, nat_tests, small-tested ts)

-- the part lies between Tmin and Tmax, and its entries are the tree's
abbrev pub part_test : Figures → ℕ → List ℕ → Bool
unfolding tried allowed
part_test f from ts =
    ltb (10 * f.t_min) from && (leb (from + length ts) (10 * f.t_max) && table_test f from ts)

read-pair :
    {f : Figures} → Sound f → {from x : ℕ} {ts : List ℕ} {r : Bounds} → ReadAs f.f_min ts from x r →
    T (part_test f from ts) → r ≡ temperature_pair f x
unfolding tried allowed
read-pair {f} sound {from} {x} {ts} h tested =
    let low : 10 * f.t_min < from = grind (arith, nat_tests) in
    let high : from + length ts ≤ 10 * f.t_max = grind (arith, nat_tests) in
    let table : T (table_test f from ts) = grind (arith, nat_tests) in
    let asked = h.asked in
    pair_read sound (table-tested f from ts table) (omega arith)
    (omega arith) asked.first asked.last (h.lower, h.upper)

-- a tree's table, by three computed tests
pub table_is :
    {f : Figures} → Sound f → {first : ℕ} {ts : List ℕ} → 0 < length ts →
    T (trimmed_test f first (first + length ts - 1)) → T (read_test f.f_min ts) →
    T (part_test f first ts) → IsTable f first ts
unfolding part_test
table_is {f} sound {first} {ts} filled cut reads tested = record {
  percent = grind (arith, nat_tests);
  filled = filled;
  trimmed = trimmed-tested f first (first + length ts - 1) sound cut;
  readable = λ x low high. readable reads low high;
  pairs = λ {x} {r} h. read-pair sound h tested;
}
