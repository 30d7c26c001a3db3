-- Numbers one after another, for any list of widths: what is read fits, what is written is as long
-- as the widths.
use Prim.Native.Nat.{ℕ, zero, suc, ◌+◌, ◌-◌, ◌/◌, ◌%◌, ◌^◌, ◌≤◌, ◌<◌}
use mathlib.Core.Path.{◌≡◌, refl, ◌∙◌}
use mathlib.Core.List.{List, [], ◌∷◌, ◌++◌, append_assoc}
use native.Mathlib.Omega.{arith}
use native.Mathlib.Nat.{add-zero, add-suc, suc-add}
use native.Mathlib.Numerals.{add-one}
use lib.ListN.{length, get_or, set, take, drop}
use lib.Seq.{sets, sets-eq, take_all, drop-drop}
use borrow.Rule.Slice.PartMut.{put_mid}
use Rattle.std.specs.Int.{bytes_high_first}
use Rattle.std.proofs.lemmas.List.{get_or-take}
use Rattle.stored.specs.Packing.{big_endian, big_endian_at, unpacked, total_width, FitFrom}
use Rattle.stored.proofs.BigEndianLaws.{grown, last-bytes}

-- ---- reading

pub big_endian_at-fits :
    (l : List ℕ) → ((i : ℕ) → get_or l i 0 < 256) → (w at : ℕ) → big_endian_at w at l < 256 ^ w
unfolding big_endian_at
big_endian_at-fits l small zero at = omega arith
big_endian_at-fits l small (suc w) at =
    let h = big_endian_at-fits l small w at in
    rw add-one at (grown w (big_endian_at w at l) (get_or l (at + w) 0) h (small (at + w)))

pub each_fits :
    (l : List ℕ) → ((i : ℕ) → get_or l i 0 < 256) → (ws : List ℕ) (at k : ℕ) →
    get_or (unpacked ws at l) k 0 < 256 ^ get_or ws k 0
each_fits l small [] at k = omega arith
each_fits l small (w ∷ ws) at zero = big_endian_at-fits l small w at
each_fits l small (w ∷ ws) at (suc k) = each_fits l small ws (at + w) k

-- the numbers after the first
pub fits-sooner : (ws ns : List ℕ) (n k : ℕ) → FitFrom (suc k) ws (n ∷ ns) → FitFrom k ws ns
fits-sooner [] ns n k h = tt
fits-sooner (w ∷ ws) ns n k h = (h.0, fits-sooner ws ns n (suc k) h.1)

-- the first n numbers, and those after them
pub fits-split :
    (n : ℕ) (ws ns : List ℕ) (k : ℕ) → FitFrom k (take n ws) ns →
    FitFrom (k + n) (drop n ws) ns → FitFrom k ws ns
fits-split zero ws ns k h j = rw add-zero at j
fits-split (suc n) [] ns k h j = tt
fits-split (suc n) (w ∷ ws) ns k h j =
    (h.0, fits-split n ws ns (suc k) h.1 (rw (add-suc, ← suc-add) at j))

-- the first k bytes alone
big_endian_at-front :
    (k : ℕ) (l : List ℕ) (w at : ℕ) → at + w ≤ k →
    big_endian_at w at (take k l) ≡ big_endian_at w at l
unfolding big_endian_at
big_endian_at-front k l zero at h = refl
big_endian_at-front k l (suc w) at h =
    rw (big_endian_at-front k l w at (omega arith), get_or-take k l (at + w) 0 (omega arith))

pub unpacked-front :
    (k : ℕ) (l : List ℕ) (ws : List ℕ) (at : ℕ) → at + total_width ws ≤ k →
    unpacked ws at (take k l) ≡ unpacked ws at l
unpacked-front k l [] at h = refl
unpacked-front k l (w ∷ ws) at h =
    rw (big_endian_at-front k l w at (omega arith), unpacked-front k l ws (at + w) (omega arith))

-- ---- writing

pub big_endian-on :
    (w n : ℕ) (xs rest : List ℕ) → big_endian w n (xs ++ rest) ≡ big_endian w n xs ++ rest
unfolding big_endian
big_endian-on zero n xs rest = refl
big_endian-on (suc w) n xs rest = big_endian-on w (n / 256) (n % 256 ∷ xs) rest

pub big_endian-length : (w n : ℕ) (rest : List ℕ) → length (big_endian w n rest) ≡ w + length rest
unfolding big_endian
big_endian-length zero n rest = omega arith
big_endian-length (suc w) n rest = omega (arith, big_endian-length w (n / 256) (n % 256 ∷ rest))

-- what is put at a place of a list: the last w of a number's eight bytes
pub put-part :
    (b : List ℕ) (at w n : ℕ) → w ≤ 8 → at + w ≤ length b →
    put_mid at (at + w - at) b (take (8 - (8 - w)) (drop (8 - w) (bytes_high_first 8 n)))
    ≡ sets b at (big_endian w n [])
put-part b at w n h room =
    let xs = big_endian w n [] in
    let size : length xs ≡ w = big_endian-length w n [] ∙ add-zero w in
    let k : at + w - at ≡ w = omega arith in
    rw (
      last-bytes w n h,
      take_all (8 - (8 - w)) xs (omega arith),
      k,
      drop-drop,
      sets-eq xs b at (omega arith),
      size,
      append_assoc,
    )
    refl

pub sets-append :
    (xs ys b : List ℕ) (at : ℕ) → sets (sets b at xs) (at + length xs) ys ≡ sets b at (xs ++ ys)
sets-append [] ys b at = rw add-zero
sets-append (x ∷ xs) ys b at = rw (add-suc, ← suc-add) (sets-append xs ys (set b at x) (suc at))
