-- The kinds of frame ("Frames"): one table of the widths of their fields, and by it the digits of
-- their lines, which rows 1 and 3 go by.
use Rattle.std.specs.Prelude.{ℕ, ◌+◌, max, Bool, false, ◌||◌, ◌==◌, slice_index, slice_index_or}
use mathlib.Core.List.{List, [], ◌∷◌, ◌++◌, map, foldr}

-- a field is a byte or a two-byte number
pub data Width : Type 0 where
  one two : Width

-- 01: tree; days in the year, first day A, last day E, critical level
abbrev header_widths : List Width
header_widths = one ∷ two ∷ two ∷ two ∷ two ∷ []

-- 02: day; hour; ozone, PPFD, global radiation, temperature, VPD, wind, soil
abbrev hour_widths : List Width
hour_widths = two ∷ one ∷ two ∷ two ∷ two ∷ two ∷ two ∷ two ∷ two ∷ []

-- 03: number of hour frames
abbrev end_widths : List Width
end_widths = two ∷ []

-- 04: those of 02, then pressure ("Station pressure")
abbrev pressure_widths : List Width
pressure_widths = hour_widths ++ two ∷ []

-- 05: those of 02, humidity in VPD's place ("Humidity in place of VPD")
abbrev humidity_widths : List Width
humidity_widths = hour_widths

-- 06: ozone ceiling ("Hours without ozone")
abbrev ceiling_widths : List Width
ceiling_widths = two ∷ []

-- 07: sixteen parameters ("A laboratory's own tree")
abbrev parameter_widths : List Width
parameter_widths =
    two ∷ two ∷ two ∷ two ∷ two ∷ two ∷ two ∷ two ∷ two ∷ two ∷ two ∷ two ∷ two ∷ two ∷ two ∷ two
    ∷ []

-- 08: rise, fall and end ("Leaf age by warmth")
abbrev warmth_widths : List Width
warmth_widths = two ∷ two ∷ two ∷ []

-- the table, from kind 01 on: the widths of the fields that follow the kind's byte
abbrev pub kinds : List (List Width)
kinds =
    header_widths ∷ hour_widths ∷ end_widths ∷ pressure_widths ∷ humidity_widths ∷ ceiling_widths
    ∷ parameter_widths ∷ warmth_widths ∷ []

-- the widths of a kind's fields, none where there is no such kind
abbrev pub widths_of : ℕ → List Width
widths_of kind = slice_index_or ([] ∷ kinds) kind []

-- ---- digits

-- two digits a byte
abbrev pub size_of : Width → ℕ
size_of one = 2
size_of two = 4

-- the digits of fields of these widths
abbrev pub span : List Width → ℕ
span [] = 0
span (w ∷ ws) = size_of w + span ws

-- the digits of a line of such fields: its kind's byte comes first
abbrev pub digits_in : List Width → ℕ
digits_in ws = span (one ∷ ws)

-- those of the lines of each kind
abbrev pub lengths : List ℕ
lengths = map digits_in kinds

-- those of the longest lines
abbrev pub longest : ℕ
longest = foldr max 0 lengths

-- n is one of the list
unfoldable pub among : List ℕ → ℕ → Bool
among [] n = false
among (m ∷ ms) n = m == n || among ms n

-- some kind's lines have n digits
abbrev pub is_length : ℕ → Bool
is_length n = among lengths n

-- the digits of a kind's lines, 0 where there is no such kind
unfoldable pub length_of : ℕ → ℕ
length_of kind = slice_index (0 ∷ lengths) kind
