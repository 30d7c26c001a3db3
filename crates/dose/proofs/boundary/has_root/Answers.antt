-- `dose::boundary::has_root` meets its contract: r² ≤ k/w < (r + 1)² where it says so.
use Rattle.std.proofs.Common.{◌≡◌, ℕ, ◌+◌, ◌*◌, ◌/◌, ◌<◌, ◌≤◌, le-div_iff_mul-le, div-lt_iff_lt-mul}
use Rattle.std.proofs.Common.{arith}
use Rattle.std.proofs.lemmas.Bool.Decides.{nat_tests}
use Rattle.exact.specs.Root.{square_root}
use Rattle.exact.proofs.SquareLaws.{square_root-is}
use Rattle.dose.proofs.boundary.has_root.Goals as goal

-- r² ≤ k/w where r²·w ≤ k, and k/w < (r + 1)² where k < (r + 1)²·w
quotient-root :
    (k w r : ℕ) → 0 < w → r * r * w ≤ k → k < (r + 1) * (r + 1) * w → r ≡ square_root (k / w)
quotient-root k w r pos under over =
    square_root-is (k / w) r ((le-div_iff_mul-le pos).1 under) ((div-lt_iff_lt-mul pos).1 over)

pub returns-then-r-w : goal.returns-then-r-w
returns-then-r-w c =
    λ e. quotient-root _ _ _ (omega arith) (grind (arith, nat_tests)) (grind (arith, nat_tests))
