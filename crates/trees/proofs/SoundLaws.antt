-- The six trees' figures are sound.
use Rattle.std.specs.Prelude.{Option, Some, None}
use Prim.Native.Nat.{ℕ}
use mathlib.Core.Path.{◌≡◌}
use mathlib.Core.Bool.{Bool, true, false, cond}
use native.Mathlib.Omega.{arith}
use Rattle.trees.specs.declared.Figures.{Figures}
use Rattle.trees.specs.Figures.{boreal_spruce, birch, continental_spruce, beech, oak, evergreen}
use Rattle.trees.specs.Figures.{figures_of}
use Rattle.trees.specs.Sound.{Sound}

pub boreal_spruce-sound : Sound boreal_spruce
boreal_spruce-sound = omega arith

pub birch-sound : Sound birch
birch-sound = omega arith

pub continental_spruce-sound : Sound continental_spruce
continental_spruce-sound = omega arith

pub beech-sound : Sound beech
beech-sound = omega arith

pub oak-sound : Sound oak
oak-sound = omega arith

pub evergreen-sound : Sound evergreen
evergreen-sound = omega arith

-- what holds of the six holds of any tree that is chosen

module _ (P : Figures → Type 0) where
  abbrev Chosen : Option Figures → Type 0
  Chosen (Some f) = P f
  Chosen None = Unit

  either :
      (t : Bool) (f : Figures) (rest : Option Figures) → P f → Chosen rest →
      Chosen (cond t (Some f) rest)
  either true f rest s r = s
  either false f rest s r = r

  pub figures-all :
      P boreal_spruce → P birch → P continental_spruce → P beech → P oak → P evergreen →
      (t : ℕ) (f : Figures) → figures_of t ≡ Some f → P f
  unfolding figures_of
  figures-all a b c d e g t f chosen = grind (arith, either)

pub figures-sound : (t : ℕ) (f : Figures) → figures_of t ≡ Some f → Sound f
figures-sound =
    figures-all Sound boreal_spruce-sound birch-sound continental_spruce-sound beech-sound
    oak-sound evergreen-sound
