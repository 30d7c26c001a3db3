-- Serves the code's own steps; no reader need believe it.
-- The values of a line's digits, worked out for many characters at a time, and what is found in
-- them.
use Rattle.std.specs.Prelude.{ℕ, ◌≤◌, ◌<◌, ◌≡◌, true, List, length, slice_index}
use Rattle.frames.specs.Digits.{value_of, byte_at}
use Rattle.frames.specs.Kinds.{longest, is_length, length_of}
use Rattle.frames.specs.Fields.{fields_at}

-- numbers that are values of digits
pub record Values (vs : List ℕ) : Type 0 where
  pub size : length vs ≡ longest
  pub small : (i : ℕ) → slice_index vs i < 16

-- they are those of the line's digits
pub record SaysValues (vs l : List ℕ) : Type 0 where
  pub values : (i : ℕ) → i < length l → slice_index vs i ≡ value_of (slice_index l i)

-- r is what f gives of each line of n digits or more with these values
abbrev pub Finds : {A : Type 0} → List ℕ → ℕ → A → (List ℕ → A) → Type 0
Finds vs n r f = (l : List ℕ) → SaysValues vs l → n ≤ length l → r ≡ f l

-- r is what f makes of a kind's fields in each such line of the kind's length
abbrev pub Makes : {A : Type 0} → List ℕ → ℕ → A → (List ℕ → A) → Type 0
Makes vs kind r f = Finds vs (length_of kind) r (λ l. f (fields_at kind l))

-- the kinds of an hour's frame
pub data IsHour (kind : ℕ) : Type 0 where
  with_deficit : kind ≡ 2 → IsHour kind
  with_pressure : kind ≡ 4 → IsHour kind
  with_humidity : kind ≡ 5 → IsHour kind

-- rows 1 and 3 let the line pass: some kind has its length, and so has its own
pub record Sized (l : List ℕ) : Type 0 where
  pub some : is_length (length l) ≡ true
  pub own : length_of (byte_at 0 l) ≡ length l
