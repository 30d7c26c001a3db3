-- The three entries of a number make decay_low, and nothing on the way leaves 64 bits.
use Rattle.std.proofs.Common.{◌≡◌, ℕ, ◌*◌, ◌/◌, ◌%◌, ◌^◌, ◌≤◌, mul-le-mul, arith}
use Rattle.dose_spec.specs.Light.{decay_entry, decay_low}
use Rattle.dose_spec.proofs.DecayLaws.{decay_entry-le}

found-le : (n a : ℕ) → a ≡ decay_entry n → a ≤ 10 ^ 9
found-le n a e = rw e (decay_entry-le n)

module _ (n a b c : ℕ) (a-is : a ≡ decay_entry (1 * (n % 100)))
    (b-is : b ≡ decay_entry (100 * (n / 100 % 100)))
    (c-is : c ≡ decay_entry (10000 * (n / 100 / 100))) where
  pub found-is : a * b / 10 ^ 9 * c / 10 ^ 9 ≡ decay_low n
  unfolding decay_low
  found-is =
      let ones : 1 * (n % 100) ≡ n % 100 = omega arith in
      let myriads : n / 100 / 100 ≡ n / 10000 = omega arith in
      cc

  pub two-le : a * b ≤ 10 ^ 18
  two-le = omega (arith, mul-le-mul (found-le _ a a-is) (found-le _ b b-is))

  pub three-le : a * b / 10 ^ 9 * c ≤ 10 ^ 18
  three-le =
      let two : a * b / 10 ^ 9 ≤ 10 ^ 9 = omega (arith, two-le) in
      omega (arith, mul-le-mul two (found-le _ c c-is))
