-- The part of a list from a place on: what is lent, and the list once another part is back.
use Prim.Native.Nat.{ℕ, ◌-◌}
use mathlib.Core.Path.{◌≡◌}
use mathlib.Core.List.{List, ◌++◌, append-nil}
use native.Mathlib.Omega.{arith}
use lib.ListN.{length, take, drop, length-append, length-drop}
use lib.Seq.{take_all, drop-length, take_at, drop_at}

pub part-lent : (l : List ℕ) (k : ℕ) → take (length l - k) (drop k l) ≡ drop k l
part-lent l k = take_all (length l - k) (drop k l) (omega (arith, length-drop k l))

-- behind a front p
pub part-back :
    (p d e : List ℕ) (n : ℕ) → length p ≡ n →
    take n (p ++ d) ++ (e ++ drop (length (p ++ d) - n) (drop n (p ++ d))) ≡ p ++ e
part-back p d e n size =
    let left : length (p ++ d) - n ≡ length d = omega (arith, length-append p d) in
    rw (left, take_at p d n size, drop_at p d n size, drop-length, append-nil)
