-- Row 13 refuses no call on an account that it lets pass: no hour of floats, and no step after it.
use Prim.Native.Nat.{ℕ}
use mathlib.Core.Path.{◌≡◌, sym, ap, subst, refl}
use mathlib.Core.Bool.{Bool, true, false, true≢false, cond}
use lib.Dec.{eqb}
use lib.IntN.{ℤ}
use Rattle.frames.specs.declared.records.Raw.{Raw}
use Rattle.frames.specs.declared.records.RawHour.{RawHour}
use Rattle.frames.specs.Answers.{Outcome, accepted, refused, onward}
use Rattle.frames.proofs.AnswerLaws.{refused-not-accepted}
use Rattle.frames.specs.Kinds.{among}
use Rattle.frames.specs.Rows.{reader_rows}
use Rattle.frames.proofs.RowLaws.{Only, record-only}
use Rattle.account_spec.specs.declared.Account.{Account}
use Rattle.account_spec.specs.Account.{impossible}
use Rattle.account_spec.specs.Rules.{due_of, turn_of, feed_frame_of}
use Rattle.account_spec.specs.Timely.{timely_in, timely_of}
use Rattle.floats.specs.declared.FloatReadings.{FloatReadings}
use Rattle.floats.specs.Whole.{Wholeness, whole, broken, whole_of}
use Rattle.floats.specs.Numbers.{raw_of}
use Rattle.floats.specs.Feeding.{in_field, wholes_of, hour_at, feed_floats_of}

pub record Never13 {A : Type 0} (o : Outcome A) : Type 0 where
  pub never : (field : ℕ) → o ≡ refused (13, field) → ⊥

module _ {A : Type 0} where
  pub accepted-never : (a : A) → Never13 (accepted a)
  accepted-never a = record { never = λ f e. refused-not-accepted (sym e) }

  pub refused-never : (n f : ℕ) → eqb n 13 ≡ false → Never13 {A = A} (refused (n, f))
  refused-never n f h = record {
    never = λ g e.
        let same : ◌≡◌ {A = ℕ × ℕ} (n, f) (13, g) = cc in
        true≢false (subst (λ (w : ℕ × ℕ). eqb w.0 13 ≡ false) same h);
  }

  row-never : (t : Bool) (n f : ℕ) (next : Outcome A) → eqb n 13 ≡ false → Never13 next
      → Never13 (cond t (refused (n, f)) next)
  row-never true n f next h o = refused-never n f h
  row-never false n f next h o = o

  pub onward-never : {B : Type 0} (o : Outcome B) (next : B → Outcome A) → Never13 o
      → ((b : B) → Never13 (next b)) → Never13 (onward o next)
  onward-never (accepted b) next p q = q b
  onward-never (refused w) next p q = record {
    never = λ f e. let same : w ≡ (13, f) = cc in p.never f (ap refused same);
  }

  field-never : (f : ℕ) (o : Wholeness) (next : ℤ → Outcome A) → ((z : ℤ) → Never13 (next z))
      → Never13 (in_field f o next)
  field-never f (whole z) next q = q z
  field-never f broken next q = refused-never 26 f refl

  only-never : (o : Outcome A) → Only reader_rows o → Never13 o
  unfolding among
  only-never o p = record { never = λ f e. true≢false (sym (p.only 13 f e)) }

wholes-never : (r : FloatReadings) → Never13 (wholes_of r)
unfolding wholes_of
wholes-never r =
    field-never 1 (whole_of r.ozone) _ (λ o.
    field-never 2 (whole_of r.ppfd) _ (λ p.
    field-never 3 (whole_of r.radiation) _ (λ g.
    field-never 4 (whole_of r.temperature) _ (λ t.
    field-never 5 (whole_of r.vpd) _ (λ v.
    field-never 6 (whole_of r.wind) _ (λ w.
    field-never 7 (whole_of r.soil) _ (λ s.
    accepted-never _)))))))

module _ (a : Account) (possible : impossible a ≡ false) where
  timely-never : (raw : RawHour) → Never13 (timely_of a raw)
  unfolding timely_of timely_in
  timely-never raw =
      rw possible
      (row-never _ 4 0 _ refl
      (row-never _ 15 0 _ refl
      (row-never _ 9 0 _ refl
      (accepted-never tt))))

  frame-never : (raw : RawHour) → Never13 (feed_frame_of a (Raw.Hour raw))
  unfolding feed_frame_of turn_of due_of
  frame-never raw =
      let read = only-never _ (record-only a.season.header.tree (Raw.Hour raw)) in
      rw possible
      (onward-never _ _
      (row-never _ 4 0 _ refl
      (row-never _ 15 0 _ refl
      (row-never _ 9 0 _ refl
      (row-never _ 18 0 _ refl read))))
      (λ r. accepted-never _))

  pub floats-never : (day hour : ℕ) (r : FloatReadings) → Never13 (feed_floats_of a day hour r)
  unfolding feed_floats_of
  floats-never day hour r =
      onward-never _ _ (timely-never (hour_at day hour)) (λ u.
      onward-never _ _ (wholes-never r) (λ w.
      frame-never (raw_of day hour w)))
