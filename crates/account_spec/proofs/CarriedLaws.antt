-- The temperature sum and the running day's total: within row 13's limits hour by hour, and those
-- of the book's days.
use Prim.Native.Nat.{ℕ, zero, suc, ◌+◌, ◌*◌, ◌/◌, ◌%◌, ◌≤◌, ◌<◌}
use mathlib.Core.Path.{◌≡◌, refl, sym, ◌∙◌}
use mathlib.Core.Bool.{true, false}
use mathlib.Core.List.{List, [], ◌∷◌, ◌++◌}
use native.Mathlib.Omega.{arith}
use lib.Dec.{eqb}
use Rattle.std.proofs.lemmas.Bool.{cond_both}
use Rattle.std.proofs.lemmas.Bool.Decides.{nat_tests}
use lib.ListN.{length, length-append}
use lib.IntN.{ℤ, pos, ◌+ℤ◌, +ℤ_idl, +ℤ_idr, +ℤ_assoc}
use borrow.Author.Tests.{eq-eqb, ne_eqb, eqb-true, eqb-false}
use Rattle.trees.specs.Warmth.{has_warmth}
use Rattle.frames.specs.declared.records.Hour.{Hour}
use Rattle.frames.specs.Temperature.{temperature_out}
use Rattle.account_spec.specs.declared.Season.{Season}
use Rattle.account_spec.specs.declared.Carried.{Carried}
use Rattle.account_spec.specs.Hours.{not_negative, warmer}
use Rattle.account_spec.specs.Account.{total_out, carried_out}
use Rattle.account_spec.specs.Book.{day_total, days_sum}

-- ---- one hour more

-- a reading is at most 600 tenths and at least -500
pub total-step :
    (hours : ℕ) (z t : ℤ) → total_out hours z ≡ false → temperature_out t ≡ false →
    total_out (suc hours) (z +ℤ t) ≡ false
unfolding temperature_out
total-step hours z t p q = grind (arith, nat_tests)

not_negative-le : (hours : ℕ) (z : ℤ) → total_out hours z ≡ false → not_negative z ≤ 600 * hours
not_negative-le hours z p = grind (arith, nat_tests)

-- ---- what row 13 lets pass

-- where a frame of warmth stands
pub record WarmIn (hours : ℕ) (c : Carried) : Type 0 where
  pub sum : c.sum ≤ 600 * (24 * (hours / 24))
  pub total : total_out (hours % 24) c.total ≡ false

-- where none does
pub record ColdIn (c : Carried) : Type 0 where
  pub sum : c.sum ≡ 0
  pub total : c.total ≡ pos 0

module _ (season : Season) (hours : ℕ) (c : Carried)
    (out : carried_out season hours c ≡ false) where
  pub warm-in : has_warmth season.warmth ≡ true → WarmIn hours c
  warm-in e = grind (arith, nat_tests)

  pub cold-in : has_warmth season.warmth ≡ false → ColdIn c
  cold-in e = grind (arith, nat_tests)

  pub sum-le : c.sum ≤ 600 * hours
  sum-le = grind (arith, nat_tests)

  pub total-in : total_out 24 c.total ≡ false
  total-in = grind (arith, nat_tests)

-- and what lets it pass
module _ (season : Season) (hours : ℕ) (c : Carried) where
  pub in-warm :
      has_warmth season.warmth ≡ true → WarmIn hours c → carried_out season hours c ≡ false
  in-warm e p = grind (arith, nat_tests)

  pub in-cold : has_warmth season.warmth ≡ false → ColdIn c → carried_out season hours c ≡ false
  in-cold e p = grind (arith, nat_tests)

-- ---- the book's days, with one hour more at the end of its list

module _ (h : Hour) where
  total-on :
      (day : ℕ) (hs : List Hour) → h.day ≡ day →
      day_total day (hs ++ h ∷ []) ≡ day_total day hs +ℤ h.temperature
  unfolding day_total
  total-on day [] e = rw (eq-eqb h.day day e) (+ℤ_idr h.temperature ∙ sym (+ℤ_idl h.temperature))
  total-on day (x ∷ xs) e =
      grind (arith, total-on day xs e, +ℤ_assoc x.temperature (day_total day xs) h.temperature)

  total-off :
      (day : ℕ) (hs : List Hour) → eqb h.day day ≡ false →
      day_total day (hs ++ h ∷ []) ≡ day_total day hs
  unfolding day_total
  total-off day [] e = rw e
  total-off day (x ∷ xs) e = rw (total-off day xs e) refl

  -- the days before its own stay as they are
  days-off :
      (first n : ℕ) (hs : List Hour) → first + n ≤ h.day →
      days_sum first n (hs ++ h ∷ []) ≡ days_sum first n hs
  unfolding days_sum
  days-off first zero hs p = refl
  days-off first (suc n) hs p =
      rw (
        days-off first n hs (omega arith),
        total-off (first + n) hs (ne_eqb h.day (first + n) (omega arith)),
      )
      refl

-- the sum of the whole days of hours in a row and the total of the day after them
abbrev pub carried_on : ℕ → List Hour → Carried
carried_on first hs = record {
  sum = days_sum first (length hs / 24) hs;
  total = day_total (first + length hs / 24) hs;
}

module _ (h : Hour) (n : ℕ) (number : h.hour ≡ n % 24) (c : Carried) where
  -- within the limits
  pub warmer-in : temperature_out h.temperature ≡ false → WarmIn n c → WarmIn (suc n) (warmer c h)
  warmer-in hot p =
      let step = total-step (n % 24) c.total h.temperature p.total hot in
      grind (arith, nat_tests, not_negative-le 24 (c.total +ℤ h.temperature))

-- those of the book's days
module _ (first : ℕ) (hs : List Hour) (h : Hour) (day : h.day ≡ first + length hs / 24)
    (number : h.hour ≡ length hs % 24) where
  abbrev days : ℕ
  days = length hs / 24

  longer : length (hs ++ h ∷ []) ≡ suc (length hs)
  longer = length-append hs (h ∷ []) ∙ omega arith

  day-over : h.hour ≡ 23 → length (hs ++ h ∷ []) / 24 ≡ suc days
  day-over e = omega (arith, longer)

  same-day : (h.hour ≡ 23 → ⊥) → length (hs ++ h ∷ []) / 24 ≡ days
  same-day e = omega (arith, longer)

  pub warmer-is :
      day_total (first + suc days) hs ≡ pos 0 →
      warmer (carried_on first hs) h ≡ carried_on first (hs ++ h ∷ [])
  unfolding days_sum
  warmer-is later =
      let before = days-off h first days hs (omega arith) in
      let on = total-on h (first + days) hs day in
      let off = total-off h (first + suc days) hs (ne_eqb h.day _ (omega arith)) in
      cond_both (eqb h.hour 23) _ _ (λ c. c ≡ carried_on first (hs ++ h ∷ []))
      (λ e. rw (day-over (eqb-true h.hour 23 e), before, on, off, later) refl)
      (λ e. rw (same-day (eqb-false h.hour 23 e), before, on) refl)

  -- and no hour is listed for a later day
  pub later-on :
      ((d : ℕ) → first + days < d → day_total d hs ≡ pos 0) → (d : ℕ) →
      first + length (hs ++ h ∷ []) / 24 < d → day_total d (hs ++ h ∷ []) ≡ pos 0
  later-on later d p = grind (arith, nat_tests, longer, later d, total-off h d hs)
