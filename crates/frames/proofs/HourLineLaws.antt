-- What reading a line gives, by what rows 1 to 3 make of it; an hour that is given stands in the
-- line, and its air is of the kind.
use Rattle.std.specs.Prelude.{Some, None}
use Prim.Native.Nat.{ℕ}
use mathlib.Core.Path.{◌≡◌, refl, ap}
use mathlib.Core.Bool.{Bool, true, false, cond}
use mathlib.Core.List.{List}
use native.Mathlib.Omega.{arith}
use borrow.Author.Tests.{eq-eqb, eqb-true}
use lib.Dec.{eqb}
use Rattle.frames.specs.Answers.{Outcome, accepted, refused}
use Rattle.frames.specs.declared.records.Raw.{Raw}
use Rattle.frames.specs.declared.records.RawHour.{RawHour}
use Rattle.frames.specs.Layout.{air_kind}
use Rattle.frames.specs.Frames.{parsed_of}
use Rattle.frames.specs.Read.{hour_read_of}

-- ---- the answer, by what the line says

module _ (kind : ℕ) {o : Outcome Raw} where
  module _ {raw : RawHour} (e : o ≡ accepted (Raw.Hour raw)) where
    pub read_is : air_kind raw.air ≡ kind → Some raw ≡ hour_read_of kind o
    unfolding hour_read_of
    read_is k = rw (e, eq-eqb (air_kind raw.air) kind k)

-- ---- the hour of an answer

given-of :
    (t : Bool) (raw given : RawHour) → Some raw ≡ cond t (Some given) None →
    (t ≡ true) × (given ≡ raw)
given-of true raw given e = (refl, cc)
given-of false raw given e = let z : ◌≡◌ {A = ℕ} 0 1 = cc in absurd (omega arith)

abbrev Given : ℕ → Outcome Raw → RawHour → Type 0
Given kind o raw = (o ≡ accepted (Raw.Hour raw)) × (air_kind raw.air ≡ kind)

given :
    (kind : ℕ) (o : Outcome Raw) (raw : RawHour) → Some raw ≡ hour_read_of kind o → Given kind o raw
unfolding hour_read_of
given kind (accepted (Raw.Hour h)) raw e =
    let g = given-of (eqb (air_kind h.air) kind) raw h e in (
      ap (λ (x : RawHour). accepted (Raw.Hour x)) g.1,
      rw g.1 at (eqb-true (air_kind h.air) kind g.0),
    )
given kind (accepted (Raw.Header h)) raw e = let z : ◌≡◌ {A = ℕ} 0 1 = cc in absurd (omega arith)
given kind (accepted (Raw.End h)) raw e = let z : ◌≡◌ {A = ℕ} 0 1 = cc in absurd (omega arith)
given kind (accepted (Raw.Ceiling h)) raw e = let z : ◌≡◌ {A = ℕ} 0 1 = cc in absurd (omega arith)
given kind (accepted (Raw.Parameters h)) raw e =
    let z : ◌≡◌ {A = ℕ} 0 1 = cc in absurd (omega arith)
given kind (accepted (Raw.Warmth h)) raw e = let z : ◌≡◌ {A = ℕ} 0 1 = cc in absurd (omega arith)
given kind (refused w) raw e = let z : ◌≡◌ {A = ℕ} 0 1 = cc in absurd (omega arith)

pub read-hour :
    (kind : ℕ) (l : List ℕ) (raw : RawHour) → Some raw ≡ hour_read_of kind (parsed_of l) →
    (parsed_of l ≡ accepted (Raw.Hour raw)) × (air_kind raw.air ≡ kind)
read-hour kind l raw e = given kind (parsed_of l) raw e
