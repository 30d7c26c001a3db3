-- A list and a step, any whatever ("Several trees, one reading"): each takes it, or the first one
-- that refuses answers for all and none changes.
use Rattle.std.specs.Prelude.{ℕ, ◌≡◌, List, [], ◌∷◌}
use Rattle.frames.specs.Answers.{Outcome, accepted, refused, onward}

unfoldable pub together : {A : Type 0} → (A → Outcome A) → List A → Outcome (List A)
together step [] = accepted []
together step (a ∷ xs) = onward (step a) (λ b. onward (together step xs) (λ ys. accepted (b ∷ ys)))

-- the list that is left
abbrev pub left_together : {A : Type 0} → List A → Outcome (List A) → List A
left_together xs (accepted ys) = ys
left_together xs (refused w) = xs

-- ---- what that says

-- two lists, place by place
pub data Each {A B : Type 0} (R : A → B → Type 0) : List A → List B → Type 0 where
  none : Each R [] []
  more :
      {a : A} {b : B} {xs : List A} {ys : List B} → R a b → Each R xs ys → Each R (a ∷ xs) (b ∷ ys)

-- the first one that refuses does so by this row
pub data FirstRefuses {A : Type 0} (step : A → Outcome A) (w : ℕ × ℕ) : List A → Type 0 where
  here : {a : A} {xs : List A} → step a ≡ refused w → FirstRefuses step w (a ∷ xs)
  later :
      {a b : A} {xs : List A} → step a ≡ accepted b → FirstRefuses step w xs →
      FirstRefuses step w (a ∷ xs)

pub record Together {A : Type 0} (step : A → Outcome A) (xs : List A) : Type 0 where
  pub all : (ys : List A) → together step xs ≡ accepted ys → Each (λ a b. step a ≡ accepted b) xs ys
  pub first : (w : ℕ × ℕ) → together step xs ≡ refused w → FirstRefuses step w xs
