-- Temperature in tenths of °C, two's complement in two bytes, -500 to 600 ("Frames").
use Rattle.std.specs.Prelude.{ℕ, ◌-◌, Bool, ◌||◌, ℤ, pos, negsuc, neg_ℤ, nat_lt, if◌then◌else◌}
use Rattle.std.specs.Int.Signed.{lt_z}

-- negsuc n is -(n + 1)
unfoldable pub signed_of : ℕ → ℤ
signed_of n = if nat_lt n 32768 then pos n else negsuc (65535 - n)

unfoldable pub complement_of : ℤ → ℕ
complement_of (pos n) = n
complement_of (negsuc n) = 65535 - n

unfoldable pub temperature_out : ℤ → Bool
temperature_out t = lt_z t (neg_ℤ (pos 500)) || lt_z (pos 600) t
