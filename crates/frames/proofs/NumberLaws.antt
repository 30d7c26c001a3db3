-- Two lists of numbers are the same exactly where they are equal.
use Prim.Native.Nat.{ℕ}
use mathlib.Core.Path.{◌≡◌, refl}
use mathlib.Core.Bool.{true, false≢true}
use mathlib.Core.List.{List, [], ◌∷◌}
use borrow.Author.Tests.{eqb-true, eq-eqb}
use lib.Dec.{eqb}
use Rattle.frames.specs.Numbers.{same_numbers}
use Rattle.frames.proofs.AnswerLaws.{and_both}

pub numbers-equal : (ms ns : List ℕ) → same_numbers ms ns ≡ true → ms ≡ ns
numbers-equal [] [] e = refl
numbers-equal [] (n ∷ ns) e = absurd (false≢true e)
numbers-equal (m ∷ ms) [] e = absurd (false≢true e)
numbers-equal (m ∷ ms) (n ∷ ns) e =
    let both = and_both (eqb m n) (same_numbers ms ns) e in
    rw (eqb-true m n both.0, numbers-equal ms ns both.1) refl

pub numbers-same : (ns : List ℕ) → same_numbers ns ns ≡ true
numbers-same [] = refl
numbers-same (n ∷ ns) = simp (eq-eqb n n refl, numbers-same ns)
