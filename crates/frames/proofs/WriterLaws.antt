-- A line set at the front of a buffer; a record that is refused first leaves the buffer.
use Rattle.std.specs.Prelude.{Ok}
use Prim.Native.Nat.{ℕ, zero, suc, ◌+◌, ◌-◌, ◌*◌, ◌<◌, ◌≤◌}
use borrow.Rule.Slice.PartMut.{put_mid, mid_of}
use mathlib.Core.Path.{◌≡◌, refl, sym, ap, ap₂, ◌∙◌}
use mathlib.Core.List.{List, [], ◌∷◌, ◌++◌, append_assoc, append-nil}
use native.Mathlib.Nat.{zero-add}
use native.Mathlib.Numerals.{add-one}
use native.Mathlib.Omega.{arith}
use lib.ListN.{length, get_or, take, drop, length-drop, length-append, drop_of_length-le}
use lib.Seq.{sets, length-sets, sets-eq, length-take-le, take_all, take_at, drop_at, drop-drop}
use Rattle.frames.specs.Answers.{accepted}
use Rattle.frames.specs.Buffer.{Prints}
use Rattle.frames.proofs.BufferLaws.{prints-whole}
use Rattle.frames.specs.Digits.{number}
use Rattle.frames.specs.steps.Writer.{numbers}

pub prints-set :
    (text b after : List ℕ) (n : ℕ) → length text ≡ n → n ≤ length b → after ≡ sets b 0 text →
    Prints (accepted text) b (Ok n) after
prints-set text b after n e h p =
    let front : sets b 0 text ≡ text ++ drop n b =
    sets-eq text b 0 (rw (zero-add, e) h) ∙ rw (zero-add, e) in
    prints-whole text b after n e h (p ∙ front)

-- ---- a line field by field: each field is set at the front of what follows those before it

rest-set :
    (text rest more : List ℕ) (k : ℕ) → k ≡ length rest → length more ≤ k →
    put_mid (length text) k (text ++ rest) (more ++ drop (length more) rest)
    ≡ (text ++ more) ++ drop (length more) rest
rest-set text rest more k e h =
    let first : take (length text) (text ++ rest) ≡ text = take_at text rest (length text) refl in
    let last : drop (length text) (text ++ rest) ≡ rest = drop_at text rest (length text) refl in
    let none : drop k rest ≡ [] = drop_of_length-le rest {i = k} (omega arith) in
    simp (first, last, none, append-nil, append_assoc)

-- the buffer after a text and what is set past it
pub set-next :
    (b text more m ys : List ℕ) (k : ℕ) → m ≡ sets b 0 text → k ≡ length m - length text →
    length text + length more ≤ length b →
    ys ≡ sets (mid_of (length text) k m) 0 more →
    put_mid (length text) k m ys ≡ sets b 0 (text ++ more)
set-next b text more m ys k p s h q =
    let rest : List ℕ = drop (length text) b in
    let size : length rest ≡ length b - length text = length-drop (length text) b in
    let is : m ≡ text ++ rest = p ∙ sets-eq text b 0 (omega arith) ∙ rw zero-add in
    let whole : length m ≡ length text + length rest = ap length is ∙ length-append text rest in
    let left : k ≡ length rest = omega arith in
    let mid : mid_of (length text) k m ≡ rest =
    rw (is, drop_at text rest (length text) refl) (take_all k rest (omega arith)) in
    let next : ys ≡ more ++ drop (length more) rest =
    q ∙ rw mid (sets-eq more rest 0 (omega arith) ∙ rw zero-add) in
    let after : sets b 0 (text ++ more) ≡ (text ++ more) ++ drop (length (text ++ more)) b =
    sets-eq (text ++ more) b 0 (omega (arith, length-append text more)) ∙ rw zero-add in
    let past : drop (length more) rest ≡ drop (length (text ++ more)) b =
    drop-drop (length more) (length text) b ∙ rw length-append in
    ap₂ (put_mid (length text) k) is next ∙ rest-set text rest more k left (omega arith)
    ∙ ap (λ (r : List ℕ). (text ++ more) ++ r) past ∙ sym after

-- ---- numbers in a row

numbers-length : (ns : List ℕ) → length (numbers ns []) ≡ 4 * length ns
numbers-length [] = refl
numbers-length (n ∷ ns) = omega (arith, numbers-length ns)

numbers-more :
    (i : ℕ) (ns : List ℕ) → i < length ns →
    numbers (take (suc i) ns) [] ≡ numbers (take i ns) [] ++ number (get_or ns i 0) []
numbers-more i [] h = absurd (omega (arith, h))
numbers-more zero (n ∷ ns) h = refl
numbers-more (suc i) (n ∷ ns) h = ap (number n) (numbers-more i ns (omega (arith, h)))

-- one number more
pub numbers-next :
    (b ns m ys : List ℕ) (i : ℕ) → m ≡ sets b 0 (numbers (take i ns) []) → i < length ns →
    length ns * 4 ≤ length b → length m ≡ length b →
    ys ≡ sets (mid_of (4 * i) (length m - 4 * i) m) 0 (number (get_or ns i 0) []) →
    (put_mid (4 * i) (length m - 4 * i) m ys ≡ sets b 0 (numbers (take (i + 1) ns) []))
    × (length (put_mid (4 * i) (length m - 4 * i) m ys) ≡ length b)
numbers-next b ns m ys i p h room same q =
    let size : length (numbers (take i ns) []) ≡ 4 * i =
    numbers-length (take i ns) ∙ ap (λ (k : ℕ). 4 * k) (length-take-le i ns (omega (arith, h))) in
    let more : 4 * i + 4 ≤ length b = omega (arith, h, room) in
    let next =
    set-next b (numbers (take i ns) []) (number (get_or ns i 0) []) m ys (length m - 4 * i) p
    (rw size refl) (rw size more) (rw size q) in
    let is : numbers (take (i + 1) ns) [] ≡ numbers (take i ns) [] ++ number (get_or ns i 0) [] =
    rw add-one (numbers-more i ns h) in
    let whole : put_mid (4 * i) (length m - 4 * i) m ys ≡ sets b 0 (numbers (take (i + 1) ns) []) =
    rw is (rw size at next) in
    (whole, ap length whole ∙ length-sets b 0 (numbers (take (i + 1) ns) []))
