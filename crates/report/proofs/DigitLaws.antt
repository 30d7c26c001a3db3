-- A number's decimal text before the rest of a text is the library's decimal text, which the crate
-- `itoa` writes.
use Prim.Native.Nat.{ℕ, ◌+◌, ◌%◌, ◌≤◌, ◌<◌, ◌^◌}
use mathlib.Core.Path.{◌≡◌, sym, ◌∙◌}
use mathlib.Core.List.{List, [], ◌∷◌, ◌++◌, append_assoc}
use native.Mathlib.Omega.{arith}
use lib.ListN.{length}
use Rattle.std.specs.Fmt as fmt
use Rattle.std.proofs.lemmas.Fmt.{decimal_by_steps, length-decimal-le}
use Rattle.text_spec.specs.Text.{decimal}
use Rattle.text_spec.proofs.DecimalLaws.{decimal-last, decimal_step}

pub decimal_before : (n : ℕ) → n < 2 ^ 64 → (rest : List ℕ) → decimal n rest ≡ fmt.decimal n ++ rest
decimal_before = decimal_by_steps (λ m ds. (rest : List ℕ) → decimal m rest ≡ ds ++ rest)
    (λ m l rest. decimal-last m rest l)
    (λ m ds l h rest.
    decimal_step m rest l ∙ h ((48 + m % 10) ∷ rest)
    ∙ sym (append_assoc ds ((48 + m % 10) ∷ []) rest))

pub at_most_twenty : (n : ℕ) → n < 2 ^ 64 → length (fmt.decimal n) ≤ 20
at_most_twenty n h = length-decimal-le 20 n (omega arith) (omega arith) (omega arith)
