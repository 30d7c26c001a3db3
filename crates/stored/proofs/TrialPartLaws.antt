-- An account in a part of a slice: the part from a place on, and what putting an account there
-- leaves.
use Rattle.frames.specs.declared.records.Refusal.{Refusal}
use Rattle.std.specs.Prelude.{Result}
use Prim.Native.Nat.{ℕ, ◌+◌, ◌-◌, ◌≤◌}
use mathlib.Core.Path.{◌≡◌, refl, sym, ap, ◌∙◌}
use mathlib.Core.List.{List, [], ◌++◌, append_assoc, append-nil}
use native.Mathlib.Omega.{arith}
use borrow.Author.Tests.{le-ltb}
use borrow.Rule.Slice.PartMut.{mid_of, post_of, put_mid, Post-is}
use lib.ListN.{length, take, drop, length-drop}
use lib.Seq.{sets, sets-eq, take_all, drop-drop, drop-length}
use Rattle.frames.specs.Answers.{accepted}
use Rattle.frames.specs.Buffer.{Prints}

-- the part from a place on
pub part-is : (at : ℕ) (l : List ℕ) → mid_of at (length l - at) l ≡ drop at l
part-is at l = take_all (length l - at) (drop at l) (rw length-drop (omega arith))

module _ (xs l : List ℕ) (at : ℕ) (h : at + length xs ≤ length l) where
  abbrev part : List ℕ
  part = mid_of at (length l - at) l

  part-long : length xs ≤ length part
  part-long = rw (part-is at l, length-drop) (omega arith)

  after_is :
      (after : List ℕ) (w : Result ℕ Refusal) → Prints (accepted xs) part w after →
      after ≡ xs ++ drop (at + length xs) l
  after_is after w p =
      p.leaves
      ∙ rw (le-ltb (length part) (length xs) part-long) refl
      ∙ ap (λ (k : List ℕ). xs ++ drop (length xs) k) (part-is at l)
      ∙ ap (λ (k : List ℕ). xs ++ k) (drop-drop (length xs) at l)

  pub put-part :
      (after : List ℕ) (w : Result ℕ Refusal) → Prints (accepted xs) part w after →
      put_mid at (length l - at) l after ≡ sets l at xs
  put-part after w p =
      let none : post_of at (length l - at) l ≡ [] =
      Post-is at (length l) l (omega arith) ∙ drop-length l in
      ap (λ (k : List ℕ). take at l ++ (after ++ k)) none
      ∙ ap (λ (k : List ℕ). take at l ++ k) (append-nil after ∙ after_is after w p)
      ∙ sym (append_assoc (take at l) xs (drop (at + length xs) l))
      ∙ sym (sets-eq xs l at h)
