-- A list takes a step together: each place takes it by itself, or the first that refuses answers.
use Prim.Native.Nat.{ℕ}
use mathlib.Core.Path.{◌≡◌, refl, sym}
use mathlib.Core.List.{List, [], ◌∷◌}
use native.Mathlib.Omega.{arith}
use Rattle.frames.specs.Answers.{Outcome, accepted, refused, onward}
use Rattle.frames.proofs.AnswerLaws.{refused-not-accepted}
use Rattle.stand.specs.Together.{together, Each, FirstRefuses, Together}

-- ---- two lists, place by place

pub each_same : {A : Type 0} {R : A → A → Type 0} → ((a : A) → R a a) → (xs : List A) → Each R xs xs
each_same each [] = Each.none
each_same each (a ∷ xs) = Each.more (each a) (each_same each xs)

pub each-through :
    {A : Type 0} {R S T : A → A → Type 0} → ((a b c : A) → R a b → S b c → T a c) →
    {xs ys zs : List A} → Each R xs ys → Each S ys zs → Each T xs zs
each-through joined Each.none Each.none = Each.none
each-through joined (Each.more {a = a} {b = b} r rs) (Each.more {b = c} s ss) =
    Each.more (joined a b c r s) (each-through joined rs ss)

-- ---- a step

module _ {A : Type 0} (step : A → Outcome A) where
  abbrev AllTake : List A → List A → Type 0
  AllTake xs ys = Each (λ a b. step a ≡ accepted b) xs ys

  together-all : (xs ys : List A) → together step xs ≡ accepted ys → AllTake xs ys
  unfolding together
  together-all [] ys e = grind (arith, Each.none)
  together-all (a ∷ xs) ys e = grind (arith, together-all xs, Each.more)

  -- by what the head answers, then the rest
  by-answers :
      (a : A) (xs : List A) (w : ℕ × ℕ) (head : Outcome A) (rest : Outcome (List A)) →
      step a ≡ head →
      onward head (λ b. onward rest (λ ys. accepted (b ∷ ys))) ≡ refused w →
      (rest ≡ refused w → FirstRefuses step w xs) → FirstRefuses step w (a ∷ xs)
  by-answers a xs w head rest is e later = grind (arith, FirstRefuses.here, FirstRefuses.later)

  together-first : (xs : List A) (w : ℕ × ℕ) → together step xs ≡ refused w → FirstRefuses step w xs
  unfolding together
  together-first [] w e = refused-not-accepted (sym e)
  together-first (a ∷ xs) w e =
      by-answers a xs w (step a) (together step xs) refl e (together-first xs w)

  pub together-is : (xs : List A) → Together step xs
  together-is xs = record { all = together-all xs; first = together-first xs }
