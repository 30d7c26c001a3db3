-- A number's bytes: below what bound one more is; the library's bytes of a number, and its number
-- of bytes.
use Prim.Native.Nat.{ℕ, zero, suc, ◌+◌, ◌-◌, ◌*◌, ◌/◌, ◌%◌, ◌^◌, ◌≤◌, ◌<◌}
use mathlib.Core.Path.{◌≡◌, refl, ap, ◌∙◌}
use mathlib.Core.List.{List, [], ◌∷◌, ◌++◌, append-nil}
use native.Mathlib.Omega.{arith}
use native.Mathlib.Nat.{add-zero, add-suc, zero-add, suc-add, pow-suc, mul_comm, div-div-eq-div-mul}
use native.Mathlib.Numerals.{add-one}
use lib.ListN.{length, get_or, take, drop, length-drop, get_or-append}
use lib.Seq.{append_snoc, length-take-le, get_or-drop}
use Rattle.std.proofs.lemmas.List.{get_or-take, get_or-append_right}
use Rattle.std.specs.Int.{byte_at, bytes_high_first, from_be_bytes, w64}
use Rattle.stored.specs.Packing.{big_endian, big_endian_at}

-- ---- one more byte read

pub grown : (i n b : ℕ) → n < 256 ^ i → b < 256 → n * 256 + b < 256 ^ (i + 1)
grown i n b h k = rw (add-one, pow-suc) (omega arith)

-- ---- the library's bytes

byte_at-suc : (k n : ℕ) → byte_at (suc k) n ≡ byte_at k (n / 256)
byte_at-suc zero n = omega arith
byte_at-suc (suc k) n =
    rw (pow-suc 256 (suc k), mul_comm (256 ^ suc k) 256, div-div-eq-div-mul) refl

bytes-snoc : (w n : ℕ) → bytes_high_first (suc w) n ≡ bytes_high_first w (n / 256) ++ n % 256 ∷ []
bytes-snoc zero n = refl
bytes-snoc (suc w) n = rw (bytes-snoc w n, byte_at-suc w n) refl

bytes-on : (w n : ℕ) (rest : List ℕ) → bytes_high_first w n ++ rest ≡ big_endian w n rest
unfolding big_endian
bytes-on zero n rest = refl
bytes-on (suc w) n rest =
    ap (λ (l : List ℕ). l ++ rest) (bytes-snoc w n)
    ∙ append_snoc (bytes_high_first w (n / 256)) (n % 256) rest
    ∙ bytes-on w (n / 256) (n % 256 ∷ rest)

low-bytes : (k w n : ℕ) → drop k (bytes_high_first (k + w) n) ≡ bytes_high_first w n
low-bytes zero w n = ap (λ (m : ℕ). bytes_high_first m n) (zero-add w)
low-bytes (suc k) w n = rw suc-add (low-bytes k w n)

-- the last w of a number's eight bytes
pub last-bytes : (w n : ℕ) → w ≤ 8 → drop (8 - w) (bytes_high_first 8 n) ≡ big_endian w n []
last-bytes w n h =
    let all : 8 ≡ 8 - w + w = omega arith in
    rw (← bytes-on w n [], append-nil, ← low-bytes (8 - w) w n, ← all) refl

-- ---- a number from its bytes, read as the last of eight

eight-is : (l : List ℕ) → from_be_bytes w64 l ≡ big_endian_at 8 0 l
unfolding big_endian_at
eight-is l = omega arith

none-before : (k : ℕ) (l : List ℕ) → ((i : ℕ) → i < k → get_or l i 0 ≡ 0) → big_endian_at k 0 l ≡ 0
unfolding big_endian_at
none-before zero l h = refl
none-before (suc k) l h =
    omega (arith, none-before k l (λ i j. h i (omega (arith, j))), h (0 + k) (omega arith))

from-end :
    (k w at : ℕ) (l b : List ℕ) → big_endian_at k 0 l ≡ 0 →
    ((i : ℕ) → i < w → get_or l (k + i) 0 ≡ get_or b (at + i) 0) →
    big_endian_at (k + w) 0 l ≡ big_endian_at w at b
unfolding big_endian_at
from-end k zero at l b z h = rw add-zero z
from-end k (suc w) at l b z h =
    let less = from-end k w at l b z (λ i j. h i (omega (arith, j))) in
    rw (add-suc, zero-add, less, h w (omega arith)) refl

-- ---- eight bytes, of which the last w are those at a place of b

abbrev noughts : ℕ → List ℕ
noughts zero = []
noughts (suc n) = 0 ∷ noughts n

abbrev eight_zeros : List ℕ
eight_zeros = noughts 8

nought-at : (n i : ℕ) → get_or (noughts n) i 0 ≡ 0
nought-at zero i = refl
nought-at (suc n) zero = refl
nought-at (suc n) (suc i) = nought-at n i

module _ (k w at : ℕ) (b post : List ℕ) (few : k ≤ 8) (room : at + w ≤ length b) where
  front-length : length (take k eight_zeros) ≡ k
  front-length = length-take-le k eight_zeros few

  part-length : length (take w (drop at b)) ≡ w
  part-length = length-take-le w (drop at b) (rw length-drop (omega (arith, room)))

  before : (i : ℕ) → i < k → get_or (take k eight_zeros ++ (take w (drop at b) ++ post)) i 0 ≡ 0
  before i h =
      get_or-append (take k eight_zeros) _ 0 i (omega (arith, h, front-length))
      ∙ get_or-take k eight_zeros i 0 h ∙ nought-at 8 i

  after :
      (i : ℕ) → i < w →
      get_or (take k eight_zeros ++ (take w (drop at b) ++ post)) (k + i) 0 ≡ get_or b (at + i) 0
  after i h =
      let less : k + i - k ≡ i = omega arith in
      get_or-append_right (take k eight_zeros) (take w (drop at b) ++ post) k
      (k + i) 0 front-length (omega arith)
      ∙ ap (λ (n : ℕ). get_or (take w (drop at b) ++ post) n 0) less
      ∙ get_or-append (take w (drop at b)) post 0 i (omega (arith, h, part-length))
      ∙ get_or-take w (drop at b) i 0 h
      ∙ get_or-drop at b i 0

  placed :
      big_endian_at (k + w) 0 (take k eight_zeros ++ (take w (drop at b) ++ post))
      ≡ big_endian_at w at b
  placed = from-end k w at _ b (none-before k _ before) after

pub read-from-end : (w at : ℕ) (b post : List ℕ) → w ≤ 8 → at + w ≤ length b
    → from_be_bytes w64 (take (8 - w) eight_zeros ++ (take (at + w - at) (drop at b) ++ post))
    ≡ big_endian_at w at b
read-from-end w at b post h room =
    let all : 8 ≡ 8 - w + w = omega (arith, h) in
    let width : at + w - at ≡ w = omega arith in
    let l = take (8 - w) eight_zeros ++ (take w (drop at b) ++ post) in
    ap
    (λ (n : ℕ). from_be_bytes w64 (take (8 - w) eight_zeros ++ (take n (drop at b) ++ post))) width
    ∙ eight-is l ∙ ap (λ (n : ℕ). big_endian_at n 0 l) all
    ∙ placed (8 - w) w at b post (omega (arith, h)) room
