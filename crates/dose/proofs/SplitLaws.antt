-- The rows of an hour's dose, one after the other, are those of its run and then its own.
use Rattle.std.specs.Prelude.{Option, Some, None}
use Prim.Native.Nat.{ℕ}
use mathlib.Core.Path.{◌≡◌, refl}
use mathlib.Core.Bool.{Bool, true, false}
use Rattle.exact.specs.declared.Bounds.{Bounds}
use Rattle.trees.specs.declared.Figures.{Figures}
use Rattle.trees.specs.declared.measured.Parameters.{Parameters}
use Rattle.frames.specs.declared.records.Hour.{Hour}
use Rattle.frames.specs.Answers.{Outcome, accepted, refused, row, onward}
use Rattle.frames.specs.Ranges.{on_tree}
use Rattle.dose_spec.specs.declared.Age.{Age}
use Rattle.dose_spec.specs.declared.Stand.{Stand}
use Rattle.dose_spec.specs.HourDose.{stand_by, stand_for, hour_dose_of}
use Rattle.dose.specs.steps.Rows.{run_of, hour_by}

-- an answer handed on through a row, and through a choice of figures
through :
    {A B : Type 0} (n : ℕ) (test : Bool) (o : Outcome A) (next : A → Outcome B) →
    onward (row n test o) next ≡ row n test (onward o next)
through n true o next = refl
through n false o next = refl

through-tree :
    {A B : Type 0} (choice : Option Figures) (o : Figures → Outcome A) (next : A → Outcome B) →
    onward (on_tree choice o) next ≡ on_tree choice (λ f. onward (o f) next)
through-tree (Some f) o next = refl
through-tree None o next = refl

through-both :
    {A B C : Type 0} (o : Outcome A) (then : A → Outcome B) (next : B → Outcome C) →
    onward (onward o then) next ≡ onward o (λ a. onward (then a) next)
through-both (accepted a) then next = refl
through-both (refused w) then next = refl

module _ (ps : Parameters) (tree : ℕ) (age : Age) (first last ceiling : ℕ) (h : Hour) where
  pub split-is :
      onward (run_of ps tree age first last ceiling) (λ stand. hour_by stand h)
      ≡ hour_dose_of ps tree age first last ceiling h
  unfolding hour_dose_of stand_for stand_by
  split-is = simp (
    through {A = Stand} {B = Bounds},
    through-tree {A = Stand} {B = Bounds},
    through-both {A = Unit} {B = Stand} {C = Bounds},
  )
