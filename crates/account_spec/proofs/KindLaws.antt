-- A season has a kind exactly where it has hours, and an hour that row 15 lets pass leaves it.
use Rattle.std.specs.Prelude.{Option, Some, None}
use Prim.Native.Nat.{ℕ, suc}
use mathlib.Core.Path.{◌≡◌, refl, sym, ap, ◌∙◌}
use mathlib.Core.Bool.{false, not}
use mathlib.Core.List.{List, [], ◌∷◌, ◌++◌}
use native.Mathlib.Omega.{arith}
use borrow.Author.Tests.{eqb-true, ne_eqb, not-false}
use lib.Dec.{eqb}
use lib.ListN.{length, get_or}
use Rattle.frames.specs.declared.records.Air.{Air}
use Rattle.frames.specs.declared.records.Hour.{Hour}
use Rattle.frames.specs.Layout.{air_kind}
use Rattle.account_spec.specs.declared.HourKind.{HourKind}
use Rattle.account_spec.specs.declared.HourKind.TheVariants.{Deficit, Pressure, Humidity}
use Rattle.account_spec.specs.HourKinds.{hour_kind, is_mixed, kind_out}
use Rattle.account_spec.specs.Book.{kind_of_hours}

pub some-kind : (air : Air) (n : ℕ) → kind_out (Some (hour_kind air)) (suc n) ≡ false
some-kind air n = ne_eqb (suc n) 0 (omega arith)

pub kind-in : (hs : List Hour) → kind_out (kind_of_hours hs) (length hs) ≡ false
kind-in [] = refl
kind-in (h ∷ hs) = some-kind h.air (length hs)

-- ---- a case for each kind, by its number

abbrev pub numbered : ℕ → Option HourKind
numbered n = get_or (None ∷ None ∷ Some Deficit ∷ None ∷ Some Pressure ∷ Some Humidity ∷ []) n None

pub kind-numbered : (air : Air) → Some (hour_kind air) ≡ numbered (air_kind air)
kind-numbered (Air.Deficit d) = refl
kind-numbered (Air.Pressure d p) = refl
kind-numbered (Air.Humidity d) = refl

pub mixed-is :
    (first next : Air) →
    is_mixed (Some (hour_kind first)) next ≡ not (eqb (air_kind first) (air_kind next))
mixed-is (Air.Deficit d) next = refl
mixed-is (Air.Pressure d p) next = refl
mixed-is (Air.Humidity d) next = refl

-- ---- one kind

-- airs that are not mixed
one-kind :
    (first next : Air) → is_mixed (Some (hour_kind first)) next ≡ false →
    Some (hour_kind next) ≡ Some (hour_kind first)
one-kind first next m =
    let same =
    eqb-true (air_kind first) (air_kind next) (not-false _ (sym (mixed-is first next) ∙ m)) in
    kind-numbered next ∙ ap numbered (sym same) ∙ sym (kind-numbered first)

-- an hour that row 15 lets pass leaves the season's kind
pub kind-same :
    (hs : List Hour) (h : Hour) → is_mixed (kind_of_hours hs) h.air ≡ false →
    Some (hour_kind h.air) ≡ kind_of_hours (hs ++ h ∷ [])
kind-same [] h m = refl
kind-same (x ∷ hs) h m = one-kind x.air h.air m
