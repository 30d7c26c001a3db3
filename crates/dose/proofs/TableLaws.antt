-- An array that passes one computed test is the table.
use Prim.Native.Nat.{ℕ, zero, suc, ◌+◌, ◌<◌, ◌≤◌}
use mathlib.Core.Path.{◌≡◌}
use mathlib.Core.Bool.{Bool, true, ◌&&◌}
use mathlib.Core.List.{List, [], ◌∷◌}
use native.Mathlib.Nat.{add-suc, suc-add, not-suc-le-zero}
use native.Mathlib.Omega.{arith}
use Rattle.std.proofs.lemmas.Bool.Decides.{nat_tests}
use lib.Dec.{T, eqb}
use lib.ListN.{length, get_or}
use Rattle.trees.specs.Temperature.{highest_reading}
use Rattle.dose_spec.specs.Vapour.{celsius, exponent}
use Rattle.dose_spec.specs.HumidityPair.{entry_of}
use Rattle.dose_spec.proofs.EntryLaws.{signed_entry}
use Rattle.dose_spec.proofs.FactsLaws.{entry_of-is}
use Rattle.dose.specs.steps.Humidity.{EntryRead}

abbrev computed : ℕ → ℕ
computed x = signed_entry (exponent (celsius x))

-- the first entry is that of x
abbrev pub table_test : ℕ → List ℕ → Bool
table_test x [] = true
table_test x (t ∷ ts) = eqb t (computed x) && table_test (suc x) ts

tested :
    (x : ℕ) (ts : List ℕ) → T (table_test x ts) → (i : ℕ) → i < length ts →
    get_or ts i 0 ≡ computed (x + i)
tested x [] h i l = absurd (not-suc-le-zero l)
tested x (t ∷ ts) h zero l = grind (arith, nat_tests)
tested x (t ∷ ts) h (suc i) l = grind (arith, nat_tests, suc-add, add-suc, (tested (suc x) ts))

pub entry_read :
    {x r : ℕ} {ts : List ℕ} → EntryRead ts x r → x ≤ highest_reading → T (table_test 0 ts) →
    r ≡ entry_of x
entry_read {x} {r} {ts} h highest test =
    grind (arith, h.entry, tested 0 ts test x h.within, entry_of-is x highest)
