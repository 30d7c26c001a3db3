-- What the tests say of the answer: figures that fit have their pair, worked out between Tmin and
-- Tmax and f_min outside.
use Rattle.std.specs.Prelude.{Option, Some, None}
use Rattle.std.proofs.Common.{◌≡◌, ℕ, Bool, true, false, T, sym, ap, ◌∙◌, subst}
use Rattle.exact.specs.declared.Bounds.{Bounds}
use Rattle.trees.specs.declared.Figures.{Figures}
use Rattle.trees.specs.Temperature.{temperature_pair}
use Rattle.power.specs.Answers.{fit, factor_of, SoundFactor}
use Rattle.power.proofs.FitLaws.{sound-factor}

-- a test that came out true
pub holds : {b c : Bool} → b ≡ c → b ≡ true → T c
holds e h = subst T (sym h ∙ e) tt

module _ (f : Figures) (x : ℕ) where
  abbrev Answers : Option Bounds → Type 0
  Answers r = (r ≡ factor_of f x) × SoundFactor f x r

  answered : {r : Option Bounds} → r ≡ factor_of f x → Answers r
  answered e = (e, record { pair = λ s. e ∙ sound-factor f s x })

  pub factor-pair :
      {b : Bool} {r : Bounds} → b ≡ fit f → b ≡ true → r ≡ temperature_pair f x → Answers (Some r)
  unfolding factor_of
  factor-pair b-is h e = answered (rw (sym b-is ∙ h) (ap Some e))

  pub factor-unfit : {b : Bool} → b ≡ fit f → b ≡ false → Answers None
  unfolding factor_of
  factor-unfit b-is h = answered (rw (sym b-is ∙ h))
