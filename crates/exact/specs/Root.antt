-- The greatest number, up to a bound, that passes a test: what a root rounded down is, whatever the
-- root. The least: a root rounded up.
use Rattle.std.specs.Prelude.{ℕ, zero, suc, ◌*◌, Bool, nat_le, if◌then◌else◌}

-- 0 where none passes; a meaning, never run
unfoldable pub greatest : (ℕ → Bool) → ℕ → ℕ
greatest passes zero = zero
greatest passes (suc n) = if passes (suc n) then suc n else greatest passes n

-- the least number, up to a bound, that passes a test; the bound where none below it does
unfoldable pub least : (ℕ → Bool) → ℕ → ℕ
least passes zero = zero
least passes (suc n) = if passes (least passes n) then least passes n else suc n

-- √n, rounded down: no t above n has t² ≤ n
unfoldable pub square_root : ℕ → ℕ
square_root n = greatest (λ t. nat_le (t * t) n) n
