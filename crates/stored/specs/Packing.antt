-- Numbers in bytes, each of a width, high byte first, one after another: for any list of widths.
use Rattle.std.specs.Prelude.{ℕ, zero, suc, ◌+◌, ◌*◌, ◌/◌, ◌%◌, ◌^◌, ◌<◌, List, [], ◌∷◌}
use Rattle.std.specs.Prelude.{slice_index}

-- the w bytes of n, before the rest
unfoldable pub big_endian : ℕ → ℕ → List ℕ → List ℕ
big_endian zero n rest = rest
big_endian (suc w) n rest = big_endian w (n / 256) (n % 256 ∷ rest)

-- the number of the w bytes at place `at` of l
unfoldable pub big_endian_at : ℕ → ℕ → List ℕ → ℕ
big_endian_at zero at l = 0
big_endian_at (suc w) at l = big_endian_at w at l * 256 + slice_index l (at + w)

-- the bytes of numbers of these widths
abbrev pub packed : List ℕ → List ℕ → List ℕ
packed [] ns = []
packed (w ∷ ws) [] = []
packed (w ∷ ws) (n ∷ ns) = big_endian w n (packed ws ns)

-- the numbers of these widths in the bytes from place `at` of l on
abbrev pub unpacked : List ℕ → ℕ → List ℕ → List ℕ
unpacked [] at l = []
unpacked (w ∷ ws) at l = big_endian_at w at l ∷ unpacked ws (at + w) l

-- n numbers of the list, from place k on
abbrev pub slice : ℕ → ℕ → List ℕ → List ℕ
slice k zero ns = []
slice k (suc n) ns = slice_index ns k ∷ slice (suc k) n ns

abbrev pub total_width : List ℕ → ℕ
total_width [] = 0
total_width (w ∷ ws) = w + total_width ws

-- each of the numbers from place k on is below 256 to its width
abbrev pub FitFrom : ℕ → List ℕ → List ℕ → Type 0
FitFrom k [] ns = Unit
FitFrom k (w ∷ ws) ns = (slice_index ns k < 256 ^ w) × FitFrom (suc k) ws ns
