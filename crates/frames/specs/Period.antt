-- The hours of a header's accumulation period ("Frames", "The book").
use Rattle.std.specs.Prelude.{ℕ, ◌+◌, ◌-◌, ◌*◌, Bool, ◌==◌}
use Rattle.frames.specs.declared.records.Header.{Header}

-- hours run from day A hour 0 to day E hour 23: 24·(E-A+1), none where E < A; all are given when
-- they are so many
abbrev pub period_hours : Header → ℕ
period_hours h = 24 * (h.last + 1 - h.first)

abbrev pub all_given : Header → ℕ → Bool
all_given h n = n == period_hours h
