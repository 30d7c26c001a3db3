-- The table's entry at every reading, by one computed test.
use Prim.Native.Nat.{ℕ, ◌≤◌}
use native.Mathlib.Omega.{arith}
use Rattle.exact.proofs.SeriesCommon.{common_num, common_den}
use Rattle.exact.proofs.TestedLaws.{all_from-each}
use Rattle.trees.specs.Temperature.{highest_reading}
use Rattle.dose_spec.specs.Vapour.{celsius, exponent}
use Rattle.dose_spec.specs.HumidityPair.{entry_k}
use Rattle.dose_spec.proofs.EntryLaws.{Rounded, signed_entry, signed_test, signed-rounded}

pub entry-rounded :
    (x : ℕ) → x ≤ highest_reading →
    Rounded (exponent (celsius x)) (signed_entry (exponent (celsius x)))
unfolding entry_k celsius exponent common_num common_den
entry-rounded x h =
    signed-rounded (exponent (celsius x))
    (all_from-each (λ (n : ℕ). signed_test (exponent (celsius n))) 0 1101 tt x
    (omega arith) (omega arith))
