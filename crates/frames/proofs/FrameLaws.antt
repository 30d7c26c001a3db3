-- A line by rows 1 to 3, the frame of a line by its kind, and the hour that a frame's numbers say.
use Prim.Native.Nat.{ℕ, ◌≤◌}
use mathlib.Core.Path.{◌≡◌, sym, ap, ◌∙◌}
use mathlib.Core.Bool.{true, false}
use mathlib.Core.List.{List}
use native.Mathlib.Nat.{le_of_eq}
use native.Mathlib.Omega.{arith}
use lib.Dec.{eqb}
use lib.ListN.{length}
use Rattle.frames.specs.Answers.{accepted, refused}
use Rattle.frames.specs.Digits.{all_digits, byte_at}
use Rattle.frames.specs.Kinds.{one, kinds, size_of, is_length, length_of}
use Rattle.frames.specs.Fields.{fields_at}
use Rattle.frames.specs.Layout.{air_of, raw_hour_of, frame_of, frame_at}
use Rattle.frames.specs.steps.Frames.{IsHour, with_deficit, with_pressure, with_humidity, Sized}
use Rattle.frames.specs.Frames.{parsed_of}
use Rattle.frames.proofs.KindLaws.{length-ge, kind-within}
use Rattle.frames.specs.declared.records.Air.{Air}
use Rattle.frames.specs.declared.records.Raw.{Raw}

-- ---- a line by the first of rows 1 to 3 that refuses it

module _ (l : List ℕ) where
  pub length-out : is_length (length l) ≡ false → refused (1, 0) ≡ parsed_of l
  unfolding parsed_of
  length-out sized = rw sized

  module _ (sized : is_length (length l) ≡ true) where
    pub digits-out : all_digits l ≡ false → refused (2, 0) ≡ parsed_of l
    unfolding parsed_of
    digits-out digits = rw (sized, digits)

    module _ (digits : all_digits l ≡ true) where
      pub kind-out : eqb (length_of (byte_at 0 l)) (length l) ≡ false → refused (3, 0) ≡ parsed_of l
      unfolding parsed_of
      kind-out own = rw (sized, digits, own)

      pub kind-in :
          eqb (length_of (byte_at 0 l)) (length l) ≡ true → accepted (frame_at l) ≡ parsed_of l
      unfolding parsed_of
      kind-in own = rw (sized, digits, own)

-- ---- a line of some kind

pub frame_is :
    (l : List ℕ) {kind : ℕ} → byte_at 0 l ≡ kind → frame_at l ≡ frame_of kind (fields_at kind l)
unfolding frame_at
frame_is l e = rw e

-- an hour's numbers are those of kind 02 and, past them, its own
pub hour-same :
    (l : List ℕ) {kind : ℕ} → IsHour kind → (air : Air) →
    raw_hour_of air (fields_at 2 l) ≡ raw_hour_of air (fields_at kind l)
hour-same l (with_deficit e) air = rw e
hour-same l (with_pressure e) air = rw e
hour-same l (with_humidity e) air = rw e

hour-of-kind :
    (ns : List ℕ) {kind : ℕ} → IsHour kind →
    frame_of kind ns ≡ Raw.Hour (raw_hour_of (air_of kind ns) ns)
unfolding frame_of
hour-of-kind ns (with_deficit e) = rw e
hour-of-kind ns (with_pressure e) = rw e
hour-of-kind ns (with_humidity e) = rw e

pub hour-framed :
    (l : List ℕ) {kind : ℕ} → IsHour kind → byte_at 0 l ≡ kind →
    frame_at l ≡ Raw.Hour (raw_hour_of (air_of kind (fields_at kind l)) (fields_at kind l))
hour-framed l {kind} is k = frame_is l k ∙ hour-of-kind (fields_at kind l) is

module _ (l : List ℕ) (sized : Sized l) where
  -- its kind's byte is in it
  pub sized-ge : size_of one ≤ length l
  sized-ge = length-ge (length l) sized.some

  pub sized-within : (1 ≤ byte_at 0 l) × (byte_at 0 l ≤ length kinds)
  sized-within = kind-within (byte_at 0 l) (omega (arith, sized-ge, sized.own))

  pub sized-le : {kind : ℕ} → byte_at 0 l ≡ kind → length_of kind ≤ length l
  sized-le e = le_of_eq (ap length_of (sym e) ∙ sized.own)
