-- An accepted answer has passed every test before it.
use Rattle.std.specs.Prelude.{Option, Some, None}
use Prim.Native.Nat.{ℕ}
use mathlib.Core.Path.{◌≡◌, refl}
use mathlib.Core.Bool.{Bool, true, false, true≢false, false≢true, cond, ◌&&◌, ◌||◌}
use mathlib.Core.Logic.{◌⊎◌, inl, inr}
use native.Mathlib.Omega.{arith}
use Rattle.trees.specs.declared.Figures.{Figures}
use Rattle.frames.specs.Answers.{Outcome, accepted, refused, onward}
use Rattle.frames.specs.Ranges.{on_tree}

-- ---- tests

pub and_both : (a b : Bool) → (a && b) ≡ true → (a ≡ true) × (b ≡ true)
and_both true b e = (refl, e)
and_both false b e = absurd (false≢true e)

pub or-either : (a b : Bool) → (a || b) ≡ true → (a ≡ true) ⊎ (b ≡ true)
or-either true b e = inl refl
or-either false b e = inr e

pub or-neither : (a b : Bool) → (a || b) ≡ false → (a ≡ false) × (b ≡ false)
or-neither true b e = absurd (true≢false e)
or-neither false b e = (refl, e)

-- ---- answers

pub refused-not-accepted : {A B : Type 0} {w : ℕ × ℕ} {a : A} → refused w ≡ accepted a → B
refused-not-accepted e = let z : ◌≡◌ {A = ℕ} 0 1 = cc in absurd (omega arith)

pub accepted-same : {A : Type 0} {a b : A} → accepted a ≡ accepted b → a ≡ b
accepted-same e = cc

-- `row` and `field`, by their test
pub row-passed :
    {A : Type 0} (t : Bool) (w : ℕ × ℕ) (next : Outcome A) (a : A) →
    cond t (refused w) next ≡ accepted a → (t ≡ false) × (next ≡ accepted a)
row-passed true w next a e = refused-not-accepted e
row-passed false w next a e = (refl, e)

pub onward-passed :
    {A B : Type 0} (o : Outcome A) (next : A → Outcome B) (b : B) → onward o next ≡ accepted b
    → (a : A) × (o ≡ accepted a) × (next a ≡ accepted b)
onward-passed (accepted a) next b e = (a, refl, e)
onward-passed (refused w) next b e = refused-not-accepted e

pub on_tree-passed :
    {A : Type 0} (choice : Option Figures) (next : Figures → Outcome A) (a : A) →
    on_tree choice next ≡ accepted a
    → (f : Figures) × (choice ≡ Some f) × (next f ≡ accepted a)
on_tree-passed (Some f) next a e = (f, refl, e)
on_tree-passed None next a e = refused-not-accepted e
