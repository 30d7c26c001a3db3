-- A record's line passes rows 1 to 3 and holds the record's kind and numbers; a line that passes
-- them is the one of its kind and numbers.
use Prim.Native.Nat.{ℕ}
use mathlib.Core.Path.{◌≡◌, refl, ap, ◌∙◌}
use mathlib.Core.Bool.{true}
use mathlib.Core.Logic.{◌⊎◌, inl, inr}
use mathlib.Core.List.{List, [], ◌∷◌, ◌++◌}
use native.Mathlib.Omega.{arith}
use borrow.Author.Tests.{eq-eqb}
use lib.ListN.{length, get_or, drop}
use Rattle.frames.specs.Answers.{accepted}
use Rattle.frames.specs.Digits.{all_digits, byte_at, number}
use Rattle.frames.specs.Kinds.{one, widths_of, among, is_length, length_of}
use Rattle.frames.specs.Fields.{numbers_at, digits_of, fields_at}
use Rattle.frames.specs.Layout.{hour_numbers, frame_of, frame_at, air_kind, kind_of, numbers_of}
use Rattle.frames.specs.Layout.{frame_line}
use Rattle.frames.specs.steps.Frames.{Sized}
use Rattle.frames.specs.Frames.{parsed_of}
use Rattle.frames.specs.declared.records.Air.{Air}
use Rattle.frames.specs.declared.records.Air.TheVariants.{Deficit, Pressure, Humidity}
use Rattle.frames.specs.declared.records.Hour.{Hour}
use Rattle.frames.specs.declared.records.Record.{Record}
use Rattle.frames.proofs.KindLaws.{length-is}
use Rattle.frames.proofs.FrameLaws.{frame_is, sized-within}
use Rattle.frames.proofs.FieldLaws.{digits-valid, numbers-digits, digits-numbers}
use Rattle.frames.proofs.WidthLaws.{FitsLine}

-- ---- the line of a record

module _ (h : Hour) where
  pub plain-line :
      ((n : ℕ) × (h.air ≡ Deficit n)) ⊎ ((n : ℕ) × (h.air ≡ Humidity n)) →
      frame_line (Record.Hour h) ≡ digits_of (one ∷ widths_of 2) (air_kind h.air ∷ hour_numbers h)
  unfolding frame_line
  plain-line (inl w) = rw w.1
  plain-line (inr w) = rw w.1

  pub pressure-line :
      {n p : ℕ} → h.air ≡ Pressure n p →
      frame_line (Record.Hour h)
      ≡ digits_of (one ∷ widths_of 2) (air_kind h.air ∷ hour_numbers h) ++ number p []
  unfolding frame_line
  pressure-line e = rw e

  hour-length :
      (a : Air) → h.air ≡ a →
      (is_length (length (frame_line (Record.Hour h))) ≡ true)
      × (length_of (air_kind h.air) ≡ length (frame_line (Record.Hour h)))
  unfolding frame_line among length_of
  hour-length (Deficit n) e = rw e (refl, refl)
  hour-length (Pressure n p) e = rw e (refl, refl)
  hour-length (Humidity n) e = rw e (refl, refl)

-- its length is its kind's, by the table
line-length :
    (r : Record) →
    (is_length (length (frame_line r)) ≡ true) × (length_of (kind_of r) ≡ length (frame_line r))
unfolding frame_line among length_of
line-length (Record.Header h) = (refl, refl)
line-length (Record.Hour h) = hour-length h h.air refl
line-length (Record.End e) = (refl, refl)
line-length (Record.Ceiling c) = (refl, refl)
line-length (Record.Parameters p) = (refl, refl)
line-length (Record.Warmth w) = (refl, refl)

module _ (r : Record) (fits : FitsLine r) where
  line-valid : all_digits (frame_line r) ≡ true
  unfolding frame_line
  line-valid = digits-valid (one ∷ widths_of (kind_of r)) (kind_of r ∷ numbers_of r) fits

  line-holds : numbers_at (one ∷ widths_of (kind_of r)) 0 (frame_line r) ≡ kind_of r ∷ numbers_of r
  unfolding frame_line
  line-holds =
      numbers-digits (one ∷ widths_of (kind_of r)) (kind_of r ∷ numbers_of r) 0
      (frame_line r) refl fits

  line-kind : byte_at 0 (frame_line r) ≡ kind_of r
  line-kind = ap (λ (ns : List ℕ). get_or ns 0 0) line-holds

  pub line-parsed : parsed_of (frame_line r) ≡ accepted (frame_at (frame_line r))
  unfolding parsed_of
  line-parsed =
      let size = line-length r in
      simp (
        size.0,
        line-valid,
        line-kind,
        eq-eqb (length_of (kind_of r)) (length (frame_line r)) size.1,
      )

  pub line_frame : frame_at (frame_line r) ≡ frame_of (kind_of r) (numbers_of r)
  line_frame =
      frame_is (frame_line r) line-kind
      ∙ ap (λ (ns : List ℕ). frame_of (kind_of r) (drop 1 ns)) line-holds

-- ---- a line that rows 1 to 3 let pass

-- the record of its kind and numbers has it for its line
pub line-written :
    (l : List ℕ) (r : Record) → all_digits l ≡ true → Sized l → byte_at 0 l ≡ kind_of r →
    numbers_of r ≡ fields_at (kind_of r) l → frame_line r ≡ l
unfolding frame_line
line-written l r valid sized kind numbers =
    let size = length-is (byte_at 0 l) (sized-within l sized) in
    rw (numbers, ← kind)
    (digits-numbers l valid (one ∷ widths_of (byte_at 0 l)) 0 (omega (arith, size, sized.own)))
