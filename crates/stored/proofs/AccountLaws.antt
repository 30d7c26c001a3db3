-- An account's bytes: the numbers that they hold, stored and taken up, taken up and stored.
use Rattle.std.specs.Prelude.{Option}
use Prim.Native.Nat.{ℕ, ◌+◌, ◌≤◌, ◌<◌}
use mathlib.Core.Path.{◌≡◌, refl, sym, ap, ◌∙◌}
use mathlib.Core.Bool.{true, false}
use mathlib.Core.List.{List, [], ◌∷◌, ◌++◌, append-nil}
use native.Mathlib.Omega.{arith}
use native.Mathlib.Nat.{add-zero, zero-add, zero-mul}
use borrow.Author.Tests.{le-ltb}
use lib.IntN.{ℤ}
use mir.Syntax.{w16}
use mir.Val.{SFits}
use lib.ListN.{length, get_or, take, drop, length-append, take-append-drop}
use lib.Seq.{sets, sets-eq}
use Rattle.std.proofs.lemmas.List.{drop_all}
use Rattle.frames.specs.Answers.{accepted}
use Rattle.frames.specs.Temperature.{signed_of, complement_of}
use Rattle.frames.proofs.AnswerLaws.{row-passed, accepted-same}
use Rattle.frames.proofs.TemperatureLaws.{complement-signed}
use Rattle.account_spec.specs.declared.Phase.{Phase}
use Rattle.account_spec.specs.declared.HourKind.{HourKind}
use Rattle.account_spec.specs.declared.Account.{Account}
use Rattle.account_spec.specs.HourKinds.{kind_number}
use Rattle.account_spec.specs.Account.{phase_number}
use Rattle.stored.specs.Packing.{big_endian, big_endian_at, packed, unpacked, slice, total_width}
use Rattle.stored.specs.Packing.{FitFrom}
use Rattle.stored.specs.Layout.{version, widths, account_width, account_numbers, phase_of}
use Rattle.stored.specs.Layout.{hour_kind_of, is_kind, account_from, account_bytes, account_in}
use Rattle.stored.specs.Layout.{holds_none, take_up_of}
use Rattle.stored.specs.RoundTrip.{TakenUp, StoredBack}
use Rattle.stored.proofs.PackingLaws.{each_fits, fits-split}
use Rattle.stored.proofs.RoundTripLaws.{packed-unpacked, packed-length, unpacked-packed}
use Rattle.stored.proofs.FieldLaws.{phase-back, phase-le, phase-number, kind-back, kind-byte}
use Rattle.stored.proofs.FieldLaws.{kind-number, total-back}
use Rattle.stored.proofs.HeldLaws.{held-room, held-version, held-phase, held-kind}

-- ---- stored and taken up

-- an account whose numbers have room in their bytes, as every account of the program has
pub record Storable (a : Account) : Type 0 where
  pub numbers : FitFrom 0 widths (account_numbers a)
  pub total : signed_of (complement_of a.carried.total) ≡ a.carried.total

pub account-length : (a : Account) → length (account_bytes a) ≡ total_width widths
unfolding account_bytes
account-length a = packed-length widths (account_numbers a) refl

account-back :
    (a : Account) → Storable a → (rest : List ℕ) → take_up_of (account_bytes a ++ rest) ≡ accepted a
unfolding take_up_of holds_none account_in account_bytes big_endian
account-back a s rest =
    let l = account_bytes a ++ rest in
    let size : length l ≡ total_width widths + length rest =
    length-append (account_bytes a) rest ∙ ap (λ (k : ℕ). k + length rest) (account-length a) in
    let long = le-ltb (length l) (total_width widths) (omega arith) in
    let phase = le-ltb 2 (get_or l 1 0) (omega (arith, phase-le a.phase)) in
    let kind : is_kind (get_or l 2 0) ≡ true = kind-byte a.kind in
    let ns = account_numbers a in
    let read : unpacked widths 0 l ≡ ns = packed-unpacked widths ns [] rest refl s.numbers in
    let same : account_in l ≡ a =
    ap (λ (ms : List ℕ).
    account_from (phase_of (get_or ms 1 0)) (hour_kind_of (get_or ms 2 0))
    (signed_of (get_or ms 11 0)) ms)
    read
    ∙ ap
    (λ (p : Phase).
    account_from p (hour_kind_of (kind_number a.kind))
    (signed_of (complement_of a.carried.total)) ns)
    (phase-back a.phase)
    ∙ ap
    (λ (k : Option HourKind). account_from a.phase k (signed_of (complement_of a.carried.total)) ns)
    (kind-back a.kind)
    ∙ ap (λ (t : ℤ). account_from a.phase a.kind t ns) s.total
    in
    simp (long, phase, kind) (ap accepted same)

pub put-bytes :
    (a : Account) (b : List ℕ) → total_width widths ≤ length b →
    sets b 0 (packed widths (account_numbers a)) ≡ account_bytes a ++ drop (total_width widths) b
unfolding account_bytes
put-bytes a b h =
    rw (sets-eq (account_bytes a) b 0 (omega (arith, account-length a)), zero-add, account-length a)
    refl

-- in bytes that have room for an account alone
pub put-alone :
    (a : Account) (b : List ℕ) → length b ≡ account_width →
    sets b 0 (packed widths (account_numbers a)) ≡ account_bytes a
put-alone a b h =
    rw (put-bytes a b (omega arith), drop_all account_width b (omega arith))
    (append-nil (account_bytes a))

pub storable :
    (a : Account) → SFits w16 a.carried.total → FitFrom 0 (take 21 widths) (account_numbers a) →
    FitFrom 21 (drop 21 widths) (account_numbers a) → Storable a
storable a total front parameters = record {
  numbers = fits-split 21 widths (account_numbers a) 0 front parameters;
  total = total-back a.carried.total total;
}

-- ---- taken up and stored

pub one_byte : (at : ℕ) (l : List ℕ) → big_endian_at 1 at l ≡ get_or l at 0
unfolding big_endian_at
one_byte at l = rw (add-zero, zero-mul, zero-add)

module _ (l : List ℕ) (small : (i : ℕ) → get_or l i 0 < 256) (a : Account)
    (e : take_up_of l ≡ accepted a) where
  abbrev passed : (holds_none l ≡ false) × (accepted (account_in l) ≡ accepted a)
  unfolding take_up_of
  passed = row-passed (holds_none l) (13, 0) (accepted (account_in l)) a e

  abbrev ns : List ℕ
  ns = unpacked widths 0 l

  total-lt : get_or ns 11 0 < 65536
  total-lt = each_fits l small widths 0 11

  -- the numbers but for version, phase, kind and running total
  abbrev with : ℕ → ℕ → ℕ → ℕ → List ℕ
  with v p k t = v ∷ p ∷ k ∷ (slice 3 8 ns ++ t ∷ slice 12 25 ns)

  numbers-same : account_numbers a ≡ ns
  unfolding account_in
  numbers-same =
      let v : version ≡ get_or ns 0 0 = sym (one_byte 0 l ∙ held-version l passed.0) in
      let p = phase-number (get_or ns 1 0) (omega (arith, one_byte 1 l, held-phase l passed.0)) in
      let k = kind-number (get_or ns 2 0) (ap is_kind (one_byte 2 l) ∙ held-kind l passed.0) in
      let t = complement-signed (get_or ns 11 0) total-lt in
      ap account_numbers (sym (accepted-same passed.1))
      ∙ ap
      (λ (n : ℕ).
      with n (phase_number (phase_of (get_or ns 1 0))) (kind_number (hour_kind_of (get_or ns 2 0)))
      (complement_of (signed_of (get_or ns 11 0))))
      v
      ∙ ap
      (λ (n : ℕ).
      with (get_or ns 0 0) n (kind_number (hour_kind_of (get_or ns 2 0)))
      (complement_of (signed_of (get_or ns 11 0))))
      p
      ∙ ap
      (λ (n : ℕ).
      with (get_or ns 0 0) (get_or ns 1 0) n (complement_of (signed_of (get_or ns 11 0))))
      k
      ∙ ap (λ (n : ℕ). with (get_or ns 0 0) (get_or ns 1 0) (get_or ns 2 0) n) t

  bytes_same : account_bytes a ++ drop (total_width widths) l ≡ l
  unfolding account_bytes
  bytes_same =
      let long = held-room l passed.0 in
      ap (λ (ms : List ℕ). packed widths ms ++ drop (total_width widths) l) numbers-same
      ∙ ap (λ (x : List ℕ). x ++ drop (total_width widths) l)
      (unpacked-packed l small widths 0 (omega arith))
      ∙ take-append-drop (total_width widths) l

pub stored_back : (l : List ℕ) → ((i : ℕ) → get_or l i 0 < 256) → StoredBack l
stored_back l small = record { same = bytes_same l small }

pub taken-up : (a : Account) → Storable a → TakenUp a
taken-up a s = record { back = account-back a s }
