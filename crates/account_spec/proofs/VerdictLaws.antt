-- A verdict's word by the rule, and what "exceeded" and "below" say of the exact POD1 that the sums
-- enclose.
use Prim.Native.Nat.{ℕ, ◌*◌, ◌≤◌, ◌<◌}
use mathlib.Core.Path.{◌≡◌}
use mathlib.Core.Bool.{false}
use native.Mathlib.Omega.{arith}
use native.Mathlib.Nat.{mul-le-mul_right}
use Rattle.std.specs.Prelude.{codes}
use Rattle.std.proofs.lemmas.Bool.Decides.{nat_tests}
use Rattle.exact.specs.Frac.{Frac}
use Rattle.dose_spec.specs.Dose.{NotAbove}
use Rattle.account_spec.specs.declared.Phase.{Phase}
use Rattle.account_spec.specs.declared.Season.{Season}
use Rattle.account_spec.specs.declared.Sums.{Sums}
use Rattle.account_spec.specs.Account.{is_fresh}
use Rattle.account_spec.specs.Reading.{word_of, verdict_word, verdict_of}
use Rattle.account_spec.specs.Book.{Above}

-- ---- the rule

pub record IsExceeded (phase : Phase) (season : Season) (lower : ℕ) : Type 0 where
  pub begun : is_fresh phase ≡ false
  pub above : season.header.level * 10000 < lower

module _ (phase : Phase) (season : Season) (sums : Sums) where
  abbrev level : ℕ
  level = season.header.level * 10000

  -- the enum's word is the rule's
  pub word-is : word_of (verdict_of phase season sums) ≡ verdict_word phase season sums
  unfolding verdict_of verdict_word
  word-is = grind arith

  pub exceeded-is :
      verdict_word phase season sums ≡ codes "exceeded" → IsExceeded phase season sums.lower
  unfolding verdict_word
  exceeded-is e = grind (arith, nat_tests)

  pub is-exceeded :
      IsExceeded phase season sums.lower → verdict_word phase season sums ≡ codes "exceeded"
  unfolding verdict_word
  is-exceeded x = grind (arith, nat_tests)

  pub below-is : verdict_word phase season sums ≡ codes "below" → sums.upper ≤ level
  unfolding verdict_word
  below-is e = grind (arith, nat_tests)

-- ---- the exact POD1

pub above-pod : (n m : ℕ) (pod : ℕ → Frac) → n < m → NotAbove m pod → Above n pod
above-pod n m pod e low = record {
  at = low.at;
  over = record {
    cross =
        omega (arith, low.under.cross, mul-le-mul_right (pod low.at).den e, (pod low.at).positive);
  };
}
