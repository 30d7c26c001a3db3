-- The derived `==` of two accounts is equality: field by field.
use Rattle.std.specs.Prelude.{Option, Some, None}
use Rattle.std.specs.Option.{option_eq}
use Rattle.std.proofs.lemmas.Grind.{common_steps}
use mathlib.Core.Path.{◌≡◌, refl}
use mathlib.Core.Bool.{true}
use mathlib.Core.Logic.{◌↔◌}
use native.Mathlib.Omega.{arith}
use borrow.Author.Rules.{rules}
use Rattle.account_spec.specs.declared.Phase.{Phase}
use Rattle.account_spec.specs.declared.Phase.TheVariants.{Fresh, Open, Closed}
use Rattle.account_spec.specs.declared.HourKind.{HourKind}
use Rattle.account_spec.specs.declared.HourKind.TheVariants.{Deficit, Pressure, Humidity}
use Rattle.account_spec.specs.declared.Sums.{Sums}
use Rattle.account_spec.specs.declared.Carried.{Carried}
use Rattle.account_spec.specs.declared.Account.{Account}
use Rattle.account_spec.specs.contracts.PhasePartialEq.TheImpl as phases
use Rattle.account_spec.specs.contracts.HourKindPartialEq.TheImpl as hour_kinds
use Rattle.account_spec.specs.contracts.SumsPartialEq.TheImpl as every_sum
use Rattle.account_spec.specs.contracts.CarriedPartialEq.TheImpl as both_carried
use Rattle.account_spec.proofs.SameLaws.{season-same}
use Rattle.trial.specs.Same.{is_same}

phase-same : (p : Phase) → phases.ghosts.eq p p ≡ true
phase-same Fresh = refl
phase-same Open = refl
phase-same Closed = refl

kind-same : (k : Option HourKind) → option_eq hour_kinds.ghosts.eq k k ≡ true
kind-same None = refl
kind-same (Some Deficit) = refl
kind-same (Some Pressure) = refl
kind-same (Some Humidity) = refl

sums-same : (s : Sums) → every_sum.ghosts.eq s s ≡ true
sums-same s = search rules

carried-same : (c : Carried) → both_carried.ghosts.eq c c ≡ true
carried-same c = search rules

account-same : (a : Account) → is_same a a ≡ true
unfolding is_same
account-same a =
    rw (
      phase-same a.phase,
      season-same a.season,
      kind-same a.kind,
      sums-same a.sums,
      carried-same a.carried,
    )
    refl

account-equal : (a b : Account) → is_same a b ≡ true → a ≡ b
unfolding is_same
account-equal a b e = grind (arith, common_steps)

pub same-is : (a b : Account) → (is_same a b ≡ true) ↔ (a ≡ b)
same-is a b = (account-equal a b, λ e. rw e (account-same b))
