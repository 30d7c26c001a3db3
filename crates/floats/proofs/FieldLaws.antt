-- A field's bytes by the cut number, and the seven fields together: the frame of the numbers, or
-- row 26.
use Rattle.std.specs.Prelude.{Option, Some, None, Result, Ok, Err, FitsSigned, unsigned_abs}
use Rattle.std.specs.Int.{FitsUnsignedBits, w16}
use Rattle.std.specs.Result.{OkIff, MatchResult, result_unwrap_or}
use Rattle.frames.specs.Temperature.{complement_of}
use Rattle.std.proofs.Common.{◌≡◌, ℕ, ◌-◌, ◌<◌, ◌≤◌, min, Bool, true, false, cond, ltb, ℤ, pos}
use Rattle.std.proofs.Common.{negsuc, sym, refl, ap, ◌∙◌, arith, ltb-false, ltb-true, le-ltb}
use Rattle.std.proofs.Common.{lt-ltb, w32, to_z, of_z, subst}
use Rattle.std.proofs.Math.Facts.{to_z-of_z}
use lib.Ieee.{Float}
use Rattle.frames.specs.declared.records.RawHour.{RawHour}
use Rattle.frames.specs.declared.records.Air.{Air}
use Rattle.frames.specs.Answers.{Outcome, accepted, refused, onward}
use Rattle.floats.specs.declared.FloatReadings.{FloatReadings}
use Rattle.floats.specs.Whole.{Wholeness, whole, broken, whole_of}
use Rattle.floats.specs.Numbers.{natural_bytes, complement_bytes, raw_of}
use Rattle.floats.specs.Feeding.{in_field, wholes_of}
use Rattle.floats.specs.steps.Floats.{cut}

-- ---- one field

-- a number below a limit, else another: the same of the number cut past the limit
cut-held :
    {A : Type 0} (limit most n : ℕ) → limit ≤ most → (f : ℕ → A) (other : A) →
    cond (ltb (min n most) limit) (f (min n most)) other ≡ cond (ltb n limit) (f n) other
cut-held {A} limit most n h f other = go (ltb n limit) refl
  where
    go :
        (b : Bool) → ltb n limit ≡ b →
        cond (ltb (min n most) limit) (f (min n most)) other ≡ cond (ltb n limit) (f n) other
    go true e = let same : min n most ≡ n = omega (arith, ltb-true n limit e) in rw same refl
    go false e = rw (e, le-ltb (min n most) limit (omega (arith, ltb-false n limit e))) refl

-- the bytes of a float's number, or row 26
abbrev natural_at : ℕ → Wholeness → Outcome ℕ
natural_at f w = in_field f w (λ z. accepted (natural_bytes z))

abbrev complement_at : ℕ → Wholeness → Outcome ℕ
complement_at f w = in_field f w (λ z. accepted (complement_bytes z))

-- the same of a cut number
abbrev field_in : (ℤ → ℕ) → ℕ → Option ℤ → Outcome ℕ
field_in bytes f (Some z) = accepted (bytes z)
field_in bytes f None = refused (26, f)

natural-cut : (f : ℕ) (w : Wholeness) → field_in natural_bytes f (cut w) ≡ natural_at f w
unfolding natural_bytes
natural-cut f (whole (pos n)) =
    ap (λ (b : ℕ). accepted b) (cut-held 65536 16777216 n (omega arith) (λ k. k) 65534)
natural-cut f (whole (negsuc n)) = refl
natural-cut f broken = refl

complement-cut : (f : ℕ) (w : Wholeness) → field_in complement_bytes f (cut w) ≡ complement_at f w
unfolding complement_bytes
complement-cut f (whole (pos n)) =
    ap (λ (b : ℕ). accepted b) (cut-held 32768 16777216 n (omega arith) (λ k. k) 32767)
complement-cut f (whole (negsuc n)) =
    ap (λ (b : ℕ). accepted b)
    (cut-held 32768 16777215 n (omega arith) (λ k. 65535 - k) 32767)
complement-cut f broken = refl

module _ (f : ℕ) (x : Float) (n : Option ℤ) (is : n ≡ cut (whole_of x)) where
  pub natural-says : field_in natural_bytes f n ≡ natural_at f (whole_of x)
  natural-says = ap (field_in natural_bytes f) is ∙ natural-cut f (whole_of x)

  pub complement-says : field_in complement_bytes f n ≡ complement_at f (whole_of x)
  complement-says = ap (field_in complement_bytes f) is ∙ complement-cut f (whole_of x)

test-false : (n limit : ℕ) → (n < limit → ⊥) → ltb n limit ≡ false
test-false n limit h = go (ltb n limit) refl
  where
    go : (b : Bool) → ltb n limit ≡ b → b ≡ false
    go true e = absurd (h (ltb-true n limit e))
    go false e = refl

-- the library's conversion into two bytes, 65534 where they do not hold z
pub natural-held :
    {E : Type 0} (z : ℤ) (r : Result ℕ E) → OkIff r (FitsUnsignedBits 16 z) (unsigned_abs z) →
    result_unwrap_or r 65534 ≡ natural_bytes z
unfolding natural_bytes
natural-held (pos n) (Ok x) h = rw (h.1, lt-ltb n 65536 (omega (arith, h.0))) refl
natural-held (pos n) (Err e) h = rw (test-false n 65536 h) refl
natural-held (negsuc n) (Ok x) h = absurd h.0
natural-held (negsuc n) (Err e) h = refl

-- the library's conversion into a temperature, then its two bytes, 32767 where they do not hold z
pub complement-held :
    {E : Type 0} (z : ℤ) (r : Result ℤ E) (m : ℕ) (Gives : ℤ → Type 0) →
    ((t : ℤ) → Gives t → m ≡ complement_of t) → OkIff r (FitsSigned w16 z) z
    → MatchResult r Gives (λ _. m ≡ 32767) → m ≡ complement_bytes z
unfolding complement_bytes complement_of
complement-held (pos n) (Ok t) m G g h e =
    rw (lt-ltb n 32768 (omega (arith, h.0.sfits))) (g t e ∙ ap complement_of h.1)
complement-held (negsuc n) (Ok t) m G g h e =
    rw (lt-ltb n 32768 (omega (arith, h.0.sfits))) (g t e ∙ ap complement_of h.1)
complement-held (pos n) (Err x) m G g h e =
    rw (test-false n 32768 (λ l. h (record { sfits = l }))) e
complement-held (negsuc n) (Err x) m G g h e =
    rw (test-false n 32768 (λ l. h (record { sfits = l }))) e

-- ---- the cut number in 32 bits with a sign

some-same : {y z : ℤ} → ◌≡◌ {A = Option ℤ} (Some y) (Some z) → y ≡ z
some-same e = cc

abbrev IsNumber : Option ℤ → Type 0
IsNumber (Some z) = Unit
IsNumber None = ⊥

cut-fits : (w : Wholeness) (z : ℤ) → Some z ≡ cut w → FitsSigned w32 z
cut-fits (whole (pos n)) z e =
    subst (λ (y : ℤ). FitsSigned w32 y) (sym (some-same e)) (record { sfits = omega arith })
cut-fits (whole (negsuc n)) z e =
    subst (λ (y : ℤ). FitsSigned w32 y) (sym (some-same e)) (record { sfits = omega arith })
cut-fits broken z e = absurd (subst IsNumber e tt)

pub bits-back : (x : Float) (z : ℤ) → Some z ≡ cut (whole_of x) → to_z w32 (of_z w32 z) ≡ z
bits-back x z e = to_z-of_z {w = w32} {z = z} (cut-fits (whole_of x) z e)

-- ---- all seven

module _ (day hour : ℕ) where
  abbrev pub framed :
      Outcome ℕ → Outcome ℕ → Outcome ℕ → Outcome ℕ → Outcome ℕ → Outcome ℕ →
      Outcome ℕ → Outcome RawHour
  framed o p g t v w s =
      onward o
      (λ ozone.
      onward p
      (λ ppfd.
      onward g
      (λ radiation. onward t (λ temperature. onward v (λ vpd. onward w (λ wind. onward s (λ soil.
      accepted (record {
        day = day;
        hour = hour;
        ozone = ozone;
        ppfd = ppfd;
        radiation = radiation;
        temperature = temperature;
        air = Air.Deficit vpd;
        wind = wind;
        soil = soil;
      }))))))))

  from-readings : (r : FloatReadings) (o p g t v w s : Wholeness) →
      whole_of r.ozone ≡ o → whole_of r.ppfd ≡ p → whole_of r.radiation ≡ g →
      whole_of r.temperature ≡ t → whole_of r.vpd ≡ v → whole_of r.wind ≡ w → whole_of r.soil ≡ s →
      framed (natural_at 1 o) (natural_at 2 p) (natural_at 3 g) (complement_at 4 t)
      (natural_at 5 v) (natural_at 6 w) (natural_at 7 s)
      ≡ onward (wholes_of r) (λ n. accepted (raw_of day hour n))
  unfolding wholes_of raw_of
  from-readings r broken p g t v w s a _ _ _ _ _ _ = rw a refl
  from-readings r (whole o) broken g t v w s a b _ _ _ _ _ = rw (a, b) refl
  from-readings r (whole o) (whole p) broken t v w s a b c _ _ _ _ = rw (a, b, c) refl
  from-readings r (whole o) (whole p) (whole g) broken v w s a b c d _ _ _ = rw (a, b, c, d) refl
  from-readings r (whole o) (whole p) (whole g) (whole t) broken w s a b c d e _ _ =
      rw (a, b, c, d, e) refl
  from-readings r (whole o) (whole p) (whole g) (whole t) (whole v) broken s a b c d e f _ =
      rw (a, b, c, d, e, f) refl
  from-readings r (whole o) (whole p) (whole g) (whole t) (whole v) (whole w) broken a b c d e f h =
      rw (a, b, c, d, e, f, h) refl
  from-readings r (whole o) (whole p) (whole g) (whole t) (whole v) (whole w) (whole s)
      a b c d e f h =
      rw (a, b, c, d, e, f, h) refl

  -- by the seven answers
  pub frame-by : (r : FloatReadings) {o p g t v w s : Outcome ℕ}
      → o ≡ natural_at 1 (whole_of r.ozone) → p ≡ natural_at 2 (whole_of r.ppfd) →
      g ≡ natural_at 3 (whole_of r.radiation) → t ≡ complement_at 4 (whole_of r.temperature)
      → v ≡ natural_at 5 (whole_of r.vpd) → w ≡ natural_at 6 (whole_of r.wind) →
      s ≡ natural_at 7 (whole_of r.soil)
      → framed o p g t v w s ≡ onward (wholes_of r) (λ w. accepted (raw_of day hour w))
  frame-by r e1 e2 e3 e4 e5 e6 e7 =
      rw (e1, e2, e3, e4, e5, e6, e7)
      (from-readings r _ _ _ _ _ _ _ refl refl refl refl refl refl refl)
