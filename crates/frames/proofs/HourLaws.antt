-- A line of an hour's kind: what its three chunks hold is its hour, and the line is read as that
-- hour.
use Rattle.std.specs.Prelude.{Some}
use Prim.Native.Nat.{ℕ, ◌+◌, ◌-◌, ◌*◌, ◌≤◌}
use mathlib.Core.Path.{◌≡◌, sym, ap, ◌∙◌}
use mathlib.Core.Bool.{Bool, true, ◌&&◌}
use mathlib.Core.List.{List}
use native.Mathlib.Omega.{arith}
use borrow.Author.Tests.{eq-eqb, eqb-true}
use lib.Dec.{eqb}
use lib.ListN.{length, get_or}
use Rattle.frames.specs.Answers.{accepted}
use Rattle.frames.specs.declared.records.Air.{Air}
use Rattle.frames.specs.declared.records.Air.TheVariants.{Deficit, Pressure, Humidity}
use Rattle.frames.specs.declared.records.Raw.{Raw}
use Rattle.frames.specs.declared.records.RawHour.{RawHour}
use Rattle.frames.proofs.AnswerLaws.{and_both}
use Rattle.frames.specs.Digits.{is_digit, all_digits, byte_at, number_at}
use Rattle.frames.specs.Kinds.{among, is_length, length_of}
use Rattle.frames.specs.Fields.{fields_at}
use Rattle.frames.specs.Layout.{air_of, air_kind}
use Rattle.frames.specs.Frames.{parsed_of}
use Rattle.frames.specs.steps.Frames.{IsHour, with_deficit, with_pressure, with_humidity}
use Rattle.frames.proofs.FrameLaws.{kind-in, hour-same, hour-framed}
use Rattle.frames.specs.steps.HourLines.{ReadTo, LengthOf, HourOfKind, hour_in}
use Rattle.frames.specs.Read.{hour_read_of}
use Rattle.frames.proofs.ChunkLaws.{chunks-digits, chunk-says, number-says}
use Rattle.frames.proofs.HourLineLaws.{read_is}

-- ---- the lengths of lines

sized-pressure : {kind n : ℕ} → LengthOf kind n → kind ≡ 4 → n ≡ 40
unfolding length_of
sized-pressure s e = s.digits ∙ rw e

short : {kind n : ℕ} → IsHour kind → n ≡ length_of kind → (kind ≡ 4 → ⊥) → n ≡ 36
unfolding length_of
short (with_deficit e) d ne = d ∙ rw e
short (with_pressure e) d ne = absurd (ne e)
short (with_humidity e) d ne = d ∙ rw e

sized : {kind n : ℕ} → IsHour kind → n ≡ length_of kind → is_length n ≡ true
unfolding length_of among
sized (with_deficit e) d = rw (d, e)
sized (with_pressure e) d = rw (d, e)
sized (with_humidity e) d = rw (d, e)

le : {kind n : ℕ} → IsHour kind → n ≡ length_of kind → n ≤ 40
unfolding length_of
le (with_deficit e) d = omega (arith, rw e at d)
le (with_pressure e) d = omega (arith, rw e at d)
le (with_humidity e) d = omega (arith, rw e at d)

pub sized-le : {kind n : ℕ} → LengthOf kind n → n ≤ 40
sized-le s = le s.hour s.digits

-- ---- the numbers of the last chunk

module _ (kind : ℕ) (l a b c : List ℕ) (h : HourOfKind kind l a b c) where
  pub pressure-says : kind ≡ 4 → get_or c 13 0 * 256 + get_or c 15 0 ≡ number_at 36 l
  pressure-says e =
      number-says l (length l - 17) c h.last 13 36 (omega arith)
      (omega (arith, sized-pressure h.sized e))

  pub soil-before : kind ≡ 4 → get_or c 9 0 * 256 + get_or c 11 0 ≡ number_at 32 l
  soil-before e =
      number-says l (length l - 17) c h.last 9 32 (omega arith)
      (omega (arith, sized-pressure h.sized e))

  pub soil-last : (kind ≡ 4 → ⊥) → get_or c 13 0 * 256 + get_or c 15 0 ≡ number_at 32 l
  soil-last ne =
      number-says l (length l - 17) c h.last 13 32 (omega arith)
      (omega (arith, short h.sized.hour h.sized.digits ne))

-- ---- the air

module _ (kind : ℕ) (l : List ℕ) where
  pub air-pressure :
      kind ≡ 4 → Pressure (number_at 24 l) (number_at 36 l) ≡ air_of kind (fields_at kind l)
  air-pressure e = rw e

  pub air-humidity : kind ≡ 5 → Humidity (number_at 24 l) ≡ air_of kind (fields_at kind l)
  air-humidity e = rw e

  pub air-deficit : kind ≡ 2 → Deficit (number_at 24 l) ≡ air_of kind (fields_at kind l)
  air-deficit e = rw e

-- the places of an hour's numbers
pub hour-is :
    (l : List ℕ) {kind day hour ozone ppfd radiation temperature wind soil : ℕ} {air : Air} →
    IsHour kind →
    day ≡ number_at 2 l → hour ≡ byte_at 6 l → ozone ≡ number_at 8 l → ppfd ≡ number_at 12 l →
    radiation ≡ number_at 16 l → temperature ≡ number_at 20 l
    → air ≡ air_of kind (fields_at kind l) → wind ≡ number_at 28 l → soil ≡ number_at 32 l →
    record {
      day = day;
      hour = hour;
      ozone = ozone;
      ppfd = ppfd;
      radiation = radiation;
      temperature = temperature;
      air = air;
      wind = wind;
      soil = soil;
    } ≡ hour_in kind l
hour-is l is e₁ e₂ e₃ e₄ e₅ e₆ e₇ e₈ e₉ = rw (e₁, e₂, e₃, e₄, e₅, e₆, e₇, e₈, e₉) (hour-same l is _)

kind-is : (ns : List ℕ) {kind : ℕ} → IsHour kind → air_kind (air_of kind ns) ≡ kind
kind-is ns (with_deficit e) = rw e
kind-is ns (with_pressure e) = rw e
kind-is ns (with_humidity e) = rw e

-- ---- the line

hour-parsed :
    (kind : ℕ) (l : List ℕ) → LengthOf kind (length l) → all_digits l ≡ true → byte_at 0 l ≡ kind →
    parsed_of l ≡ accepted (Raw.Hour (hour_in kind l))
hour-parsed kind l s all e =
    sym (kind-in l (sized s.hour s.digits) all
    (eq-eqb (length_of (byte_at 0 l)) (length l) (ap length_of e ∙ sym s.digits)))
    ∙ ap accepted (hour-framed l s.hour e)

-- a line whose three chunks are digits, with its last character, and whose first byte is the kind
module _ (kind : ℕ) (l a b c : List ℕ) (d e f last : Bool) (s : LengthOf kind (length l))
    (low : 36 ≤ length l) where
  module _ (x : ReadTo l 0 16 d a) (y : ReadTo l 16 16 e b) (z : ReadTo l (length l - 17) 16 f c)
      (end : last ≡ is_digit (get_or l (length l - 1) 0)) where
    pub hour-read :
        (r : RawHour) → (d && e && f && last && eqb (get_or a 0 0) kind) ≡ true →
        (HourOfKind kind l a b c → r ≡ hour_in kind l)
        → Some r ≡ hour_read_of kind (parsed_of l)
    hour-read r tests hour =
        let t₁ = and_both (d && e && f && last) (eqb (get_or a 0 0) kind) tests in
        let t₂ = and_both (d && e && f) last t₁.0 in
        let t₃ = and_both (d && e) f t₂.0 in
        let t₄ = and_both d e t₃.0 in
        let all =
        chunks-digits l a b c low (sized-le s) (rw t₄.0 at x) (rw t₄.1 at y)
        (rw t₃.1 at z) (sym end ∙ t₂.1) in
        let first = chunk-says l 0 d a all (omega arith) x in
        let within : HourOfKind kind l a b c = record {
          sized = s;
          first = first;
          second = chunk-says l 16 e b all (omega arith) y;
          last = chunk-says l (length l - 17) f c all (omega arith) z;
        } in
        let own = sym (first.byte 0 (omega arith)) ∙ eqb-true (get_or a 0 0) kind t₁.1 in
        rw (hour within)
        (read_is kind (hour-parsed kind l s all own) (kind-is (fields_at kind l) s.hour))
