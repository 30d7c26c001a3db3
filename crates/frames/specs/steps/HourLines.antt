-- Serves the code's own steps; no reader need believe it.
-- The bytes that 16 characters of a line say, each with the character after it, and the hour that
-- three such chunks hold.
use Rattle.std.specs.Prelude.{ℕ, ◌+◌, ◌-◌, ◌*◌, ◌<◌, ◌≡◌, Bool, true, List, length, slice_index}
use Rattle.frames.specs.declared.records.RawHour.{RawHour}
use Rattle.frames.specs.Digits.{is_digit, bits_of, byte_at}
use Rattle.frames.specs.Kinds.{length_of}
use Rattle.frames.specs.Fields.{fields_at}
use Rattle.frames.specs.Layout.{air_of, raw_hour_of}
use Rattle.frames.specs.steps.Frames.{IsHour}

-- the first n characters of the line l from a place on are read: each gives a byte, and `digits`
-- only where all are digits
pub record ReadTo (l : List ℕ) (from n : ℕ) (digits : Bool) (bytes : List ℕ) : Type 0 where
  pub size : length bytes ≡ 16
  pub bits :
      (i : ℕ) → i < n →
      slice_index bytes i
      ≡ bits_of (slice_index l (from + i)) * 16 + bits_of (slice_index l (from + i + 1))
  pub whole : digits ≡ true → (i : ℕ) → i < n → is_digit (slice_index l (from + i)) ≡ true

-- the bytes whose digits begin at the 16 places from `from` on
pub record SaysBytes (l : List ℕ) (from : ℕ) (bytes : List ℕ) : Type 0 where
  pub byte : (i : ℕ) → i < 16 → slice_index bytes i ≡ byte_at (from + i) l

-- a kind of hour and the digits of its lines
pub record LengthOf (kind n : ℕ) : Type 0 where
  pub hour : IsHour kind
  pub digits : n ≡ length_of kind

-- a line of an hour's kind, by its chunks
pub record HourOfKind (kind : ℕ) (l a b c : List ℕ) : Type 0 where
  pub sized : LengthOf kind (length l)
  pub first : SaysBytes l 0 a
  pub second : SaysBytes l 16 b
  pub last : SaysBytes l (length l - 17) c

-- the hour of a line of an hour's kind
abbrev pub hour_in : ℕ → List ℕ → RawHour
hour_in kind l = raw_hour_of (air_of kind (fields_at kind l)) (fields_at kind l)
