-- Written and read back, read and written back: a number of any width, then numbers of any list of
-- widths.
use Prim.Native.Nat.{ℕ, zero, suc, ◌+◌, ◌*◌, ◌/◌, ◌%◌, ◌^◌, ◌≤◌, ◌<◌}
use mathlib.Core.Path.{◌≡◌, refl, ap, ◌∙◌}
use mathlib.Core.List.{List, [], ◌∷◌, ◌++◌, append_assoc}
use native.Mathlib.Omega.{arith}
use native.Mathlib.Nat.{add-zero, pow-suc, div-add-mod'}
use lib.ListN.{length, get_or, take, drop, length-append, length-drop}
use lib.Seq.{get_or-append-add, get_or_at, take-suc, append_snoc, get_or-drop, take-add, drop-drop}
use Rattle.stored.specs.Packing.{big_endian, big_endian_at, packed, unpacked, total_width, FitFrom}
use Rattle.stored.proofs.PackingLaws.{fits-sooner, big_endian-on, big_endian-length}

-- ---- written and read back

big_endian-back-at :
    (w n : ℕ) (pre rest : List ℕ) → n < 256 ^ w →
    big_endian_at w (length pre) (pre ++ big_endian w n rest) ≡ n
unfolding big_endian_at big_endian
big_endian-back-at zero n pre rest h = omega arith
big_endian-back-at (suc w) n pre rest h =
    let b = n % 256 in
    let high : n < 256 ^ w * 256 = rw pow-suc at h in
    let size : length (big_endian w (n / 256) []) ≡ w =
    big_endian-length w (n / 256) [] ∙ add-zero w in
    rw (
      big_endian-back-at w (n / 256) pre (b ∷ rest) (omega arith),
      get_or-append-add,
      big_endian-on w (n / 256) [] (b ∷ rest),
      get_or_at (big_endian w (n / 256) []) b rest 0 w size,
    )
    (div-add-mod' n 256)

pub packed-unpacked :
    (ws ns pre rest : List ℕ) → length ns ≡ length ws → FitFrom 0 ws ns →
    unpacked ws (length pre) (pre ++ (packed ws ns ++ rest)) ≡ ns
packed-unpacked [] [] pre rest e h = refl
packed-unpacked [] (n ∷ ns) pre rest e h = absurd (omega arith)
packed-unpacked (w ∷ ws) [] pre rest e h = absurd (omega arith)
packed-unpacked (w ∷ ws) (n ∷ ns) pre rest e h =
    let more = packed ws ns ++ rest in
    let front = pre ++ big_endian w n [] in
    let size : length front ≡ length pre + w =
    omega (arith, length-append pre (big_endian w n []), big_endian-length w n []) in
    let line : pre ++ (big_endian w n (packed ws ns) ++ rest) ≡ pre ++ big_endian w n more =
    rw (big_endian-on w n (packed ws ns) rest) refl in
    let split : pre ++ big_endian w n more ≡ front ++ more =
    rw (append_assoc, big_endian-on w n [] more) refl in
    let tail : unpacked ws (length pre + w) (pre ++ big_endian w n more) ≡ ns =
    rw (split, ← size) (packed-unpacked ws ns front rest (omega arith) (fits-sooner ws ns n 0 h.1))
    in
    rw (line, big_endian-back-at w n pre more h.0, tail) refl

pub packed-length :
    (ws ns : List ℕ) → length ns ≡ length ws → length (packed ws ns) ≡ total_width ws
packed-length [] ns e = refl
packed-length (w ∷ ws) [] e = absurd (omega arith)
packed-length (w ∷ ws) (n ∷ ns) e =
    big_endian-length w n (packed ws ns) ∙ ap (λ (k : ℕ). w + k) (packed-length ws ns (omega arith))

-- ---- read and written back

module _ (l : List ℕ) (small : (i : ℕ) → get_or l i 0 < 256) where
  pub big_endian-back :
      (w at : ℕ) (rest : List ℕ) → at + w ≤ length l →
      big_endian w (big_endian_at w at l) rest ≡ take w (drop at l) ++ rest
  unfolding big_endian big_endian_at
  big_endian-back zero at rest h = refl
  big_endian-back (suc w) at rest h =
      let b = get_or l (at + w) 0 in
      let s = small (at + w) in
      let high : (big_endian_at w at l * 256 + b) / 256 ≡ big_endian_at w at l = omega arith in
      let low : (big_endian_at w at l * 256 + b) % 256 ≡ b = omega arith in
      let inside : w < length (drop at l) = simp length-drop (omega arith) in
      rw (
        high,
        low,
        big_endian-back w at (b ∷ rest) (omega arith),
        take-suc (drop at l) w 0 inside,
        get_or-drop,
        append_snoc,
      )
      refl

  pub unpacked-packed :
      (ws : List ℕ) (at : ℕ) → at + total_width ws ≤ length l →
      packed ws (unpacked ws at l) ≡ take (total_width ws) (drop at l)
  unpacked-packed [] at h = refl
  unpacked-packed (w ∷ ws) at h =
      rw (
        big_endian-back w at (packed ws (unpacked ws (at + w) l)) (omega arith),
        unpacked-packed ws (at + w) (omega arith),
        take-add,
        drop-drop,
      )
      refl
