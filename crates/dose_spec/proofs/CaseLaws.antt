-- The worked cases of the table's entry, each by a computed test.
use Prim.Native.Nat.{ℕ}
use mathlib.Core.Path.{◌≡◌, ◌∙◌}
use lib.Dec.{T, eqb, eqb→eq}
use Rattle.exact.proofs.SeriesCommon.{common_num, common_den}
use Rattle.dose_spec.specs.Vapour.{celsius, exponent}
use Rattle.dose_spec.specs.HumidityPair.{entry_k, entry_of}
use Rattle.dose_spec.specs.HumidityFacts.{SaturationCases}
use Rattle.dose_spec.proofs.EntryLaws.{signed_entry, signed_test, signed-rounded, entry-is}

case :
    (x s : ℕ) → T (eqb (signed_entry (exponent (celsius x))) s) →
    T (signed_test (exponent (celsius x))) → entry_of x ≡ s
unfolding entry_k
case x s equal test =
    entry-is x (signed_entry (exponent (celsius x))) (signed-rounded (exponent (celsius x)) test)
    ∙ eqb→eq (signed_entry (exponent (celsius x))) s equal

pub saturation-cases : SaturationCases
unfolding entry_k celsius exponent common_num common_den
saturation-cases =
    record { cold = case 400 _ tt tt; zero = case 500 _ tt tt; warm = case 700 _ tt tt }
