-- Past row 23 any two accounts of a list have their numbers in common: each has the first one's.
use Prim.Native.Nat.{ℕ}
use mathlib.Core.Path.{◌≡◌, refl, sym, subst, ◌∙◌}
use mathlib.Core.Bool.{true, false, not}
use mathlib.Core.List.{List, [], ◌∷◌}
use borrow.Author.Tests.{not-false}
use Rattle.frames.specs.Numbers.{same_numbers}
use Rattle.frames.proofs.AnswerLaws.{or-neither}
use Rattle.frames.proofs.NumberLaws.{numbers-equal, numbers-same}
use Rattle.account_spec.specs.declared.Account.{Account}
use Rattle.stand.specs.Alike.{common_numbers, is_alike, any_unlike, unlike}
use Rattle.stand.specs.Promise.{In}

pub alike-common : (a b : Account) → is_alike a b ≡ true → common_numbers a ≡ common_numbers b
unfolding is_alike
alike-common a b e = numbers-equal (common_numbers a) (common_numbers b) e

any-common :
    (a b : Account) (xs : List Account) → any_unlike a xs ≡ false → In b xs →
    common_numbers a ≡ common_numbers b
unfolding any_unlike
any-common a b xs e (In.here {xs = rest}) =
    alike-common a b
    (not-false (is_alike a b) (or-neither (not (is_alike a b)) (any_unlike a rest) e).0)
any-common a b xs e (In.later {b = c} {xs = rest} k) =
    any-common a b rest (or-neither (not (is_alike a c)) (any_unlike a rest) e).1 k

first-common :
    (a b : Account) (xs : List Account) → any_unlike a xs ≡ false → In b (a ∷ xs) →
    common_numbers a ≡ common_numbers b
first-common a b xs e In.here = refl
first-common a b xs e (In.later k) = any-common a b xs e k

pub unlike-common :
    (xs : List Account) → unlike xs ≡ false → (a b : Account) → In a xs → In b xs →
    common_numbers a ≡ common_numbers b
unlike-common [] e a b k l = elim k [ ]
unlike-common (c ∷ xs) e a b k l = sym (first-common c a xs e k) ∙ first-common c b xs e l

-- ---- the other way: row 23 comes up only where two differ

common-alike : (a b : Account) → common_numbers a ≡ common_numbers b → is_alike a b ≡ true
unfolding is_alike
common-alike a b e =
    subst (λ (ns : List ℕ). same_numbers (common_numbers a) ns ≡ true) e
    (numbers-same (common_numbers a))

common-any :
    (a : Account) (xs : List Account) →
    ((b : Account) → In b xs → common_numbers a ≡ common_numbers b) → any_unlike a xs ≡ false
unfolding any_unlike
common-any a [] same = refl
common-any a (b ∷ xs) same =
    rw (common-alike a b (same b In.here), common-any a xs (λ c k. same c (In.later k))) refl

pub common-unlike :
    (xs : List Account) →
    ((a b : Account) → In a xs → In b xs → common_numbers a ≡ common_numbers b) → unlike xs ≡ false
common-unlike [] same = refl
common-unlike (a ∷ xs) same = common-any a xs (λ b k. same a b In.here (In.later k))
