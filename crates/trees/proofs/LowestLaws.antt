-- A fraction has one form in lowest terms; `powers_of` has it where p and q are at most 22.
use Rattle.std.proofs.Common.{◌≡◌, ℕ, zero, suc, ◌+◌, ◌-◌, ◌*◌, ◌/◌, ◌%◌, ◌<◌, ◌≤◌, Bool, true}
use Rattle.std.proofs.Common.{false, cond, ◌&&◌, T, eqb, ltb, leb, sym, refl, ap, ◌∙◌, subst}
use Rattle.std.proofs.Common.{⊎_elim, le_refl, mul-le-mul_right, mul_comm, le_antisymm}
use Rattle.std.proofs.Common.{eq-or-lt_of_le, mul-pos, div-add-mod', arith, eqb→eq, ltb→lt, leb→le}
use Rattle.std.proofs.Common.{le-ltb, lt-ltb, eq-eqb, le-leb}
use mathlib.Core.Path.{subst⁻¹}
use native.Mathlib.Nat.{mul-mod_left, eq_of_mul-eq-mul_right}
use store.Enc.{and_l, and_r}
use borrow.Author.Tests.{lt-leb}
use Rattle.exact.proofs.OrderLaws.{le-or-lt}
use Rattle.exact.proofs.LeastLaws.{least-passes, least_under}
use Rattle.std.specs.Prelude.{Option, Some, None}
use Rattle.trees.specs.declared.ratio.Ratio.{Ratio}
use Rattle.trees.specs.Powers.{lowest_q, lowest_p, both_small, powers_of, InLowestTerms}
use Rattle.trees.specs.Powers.{PowersFacts}

module _ (rise fall : ℕ) where
  abbrev whole : ℕ → Bool
  whole q = ltb 0 q && eqb (q * fall % rise) 0

  whole-true : (q : ℕ) → 1 ≤ q → q * fall % rise ≡ 0 → T (whole q)
  whole-true q h e = rw (lt-ltb 0 q h, eq-eqb (q * fall % rise) 0 e) tt

  -- no denominator is below q
  abbrev pub NoneBelow : ℕ → Type 0
  NoneBelow q = (r s : ℕ) → 1 ≤ s → r * rise ≡ s * fall → q ≤ s

  module _ (rise-pos : 0 < rise) where
    lowest-whole : T (whole (lowest_q rise fall))
    lowest-whole =
        least-passes whole rise rise (le_refl rise)
        (whole-true rise rise-pos
        (ap (λ (m : ℕ). m % rise) (mul_comm rise fall) ∙ mul-mod_left fall rise))

    lowest-rest : lowest_q rise fall * fall % rise ≡ 0
    lowest-rest =
        eqb→eq (lowest_q rise fall * fall % rise) 0
        (and_r (ltb 0 (lowest_q rise fall)) (eqb (lowest_q rise fall * fall % rise) 0) lowest-whole)

    lowest-terms : InLowestTerms rise fall (lowest_p rise fall) (lowest_q rise fall)
    lowest-terms = record {
      positive =
          ltb→lt 0 (lowest_q rise fall)
          (and_l (ltb 0 (lowest_q rise fall))
          (eqb (lowest_q rise fall * fall % rise) 0) lowest-whole);
      ratio = omega (arith, div-add-mod' (lowest_q rise fall * fall) rise, lowest-rest);
      least = λ r s h e.
          least_under whole rise s
          (whole-true s h (ap (λ (m : ℕ). m % rise) (sym e) ∙ mul-mod_left r rise));
    }

    lowest-unique :
        {p q : ℕ} → InLowestTerms rise fall p q →
        (lowest_p rise fall ≡ p) × (lowest_q rise fall ≡ q)
    lowest-unique {p} {q} h =
        let l = lowest-terms in
        let same : lowest_q rise fall ≡ q =
        le_antisymm (l.least p q h.positive h.ratio)
        (h.least (lowest_p rise fall) (lowest_q rise fall) l.positive l.ratio) in (
          eq_of_mul-eq-mul_right rise rise-pos (lowest_p rise fall) p
              (l.ratio ∙ ap (λ (m : ℕ). m * fall) same ∙ sym h.ratio),
          same,
        )

-- ---- q and what it leaves

between-multiples : (u p r rise : ℕ) → 0 < r → r < rise → u * rise ≡ p * rise + r → ⊥
between-multiples u p r rise pos lt e =
    ⊎_elim (λ h. omega (arith, mul-le-mul_right rise h))
    (λ h. omega (arith, mul-le-mul_right rise h)) (le-or-lt u p)

module _ (rise fall p q r : ℕ) (h : p * rise + r ≡ q * fall) where
  pub rest-next : (p + fall / rise) * rise + (r + fall % rise) ≡ (q + 1) * fall
  rest-next = omega (arith, div-add-mod' fall rise)

  pub rest-carried :
      rise ≤ r + fall % rise →
      (p + fall / rise + 1) * rise + (r + fall % rise - rise) ≡ (q + 1) * fall
  rest-carried carry = omega (arith, div-add-mod' fall rise)

pub none-next :
    (rise fall p q r : ℕ) → 0 < r → r < rise → p * rise + r ≡ q * fall → NoneBelow rise fall q →
    NoneBelow rise fall (q + 1)
none-next rise fall p q r pos lt e none u s h f =
    ⊎_elim (λ same.
    absurd (between-multiples u p r rise pos lt (f ∙ ap (λ (m : ℕ). m * fall) (sym same) ∙ sym e)))
    (λ l. omega (arith, l))
    (eq-or-lt_of_le (none u s h f))

-- ---- both at most 22

abbrev ratio_of : ℕ → ℕ → Option Ratio
ratio_of p q = Some (record { p = p; q = q })

small_is : (p q : ℕ) → p ≤ 22 → q ≤ 22 → both_small p q ≡ ratio_of p q
small_is p q hp hq = rw (le-leb p 22 hp, le-leb q 22 hq)

large-p : (p q : ℕ) → 22 < p → both_small p q ≡ None
large-p p q h = rw (lt-leb p 22 h)

large-q : (p q : ℕ) → 22 < q → both_small p q ≡ None
large-q p q h = ⊎_elim (λ l. rw (le-leb p 22 l, lt-leb q 22 h)) (λ l. large-p p q l) (le-or-lt p 22)

module _ (rise fall p q : ℕ) (rise-pos : 0 < rise) where
  pub lowest-small :
      InLowestTerms rise fall p q → p ≤ 22 → q ≤ 22 →
      ratio_of p q ≡ both_small (lowest_p rise fall) (lowest_q rise fall)
  lowest-small h hp hq =
      let u = lowest-unique rise fall rise-pos h in
      rw (u.0, u.1) (sym (small_is p q hp hq))

  pub lowest-large-p :
      InLowestTerms rise fall p q → 22 < p →
      None ≡ both_small (lowest_p rise fall) (lowest_q rise fall)
  lowest-large-p h l =
      let u = lowest-unique rise fall rise-pos h in
      rw (u.0, u.1) (sym (large-p p q l))

pub lowest-large-q :
    (rise fall : ℕ) → 0 < rise → NoneBelow rise fall 23 →
    None ≡ both_small (lowest_p rise fall) (lowest_q rise fall)
lowest-large-q rise fall rise-pos none =
    let l = lowest-terms rise fall rise-pos in
    sym (large-q (lowest_p rise fall) (lowest_q rise fall)
    (none (lowest_p rise fall) (lowest_q rise fall) l.positive l.ratio))

-- ---- out of the temperatures

ratio-pos : (p q rise fall : ℕ) → p * rise ≡ q * fall → 1 ≤ q → 0 < fall → 1 ≤ p
ratio-pos zero q rise fall e hq hf = absurd (omega (arith, mul-pos hq hf))
ratio-pos (suc p) q rise fall e hq hf = omega arith

module _ (t_min t_opt t_max : ℕ) where
  abbrev low : ℕ
  low = lowest_p (t_opt - t_min) (t_max - t_opt)

  abbrev root : ℕ
  root = lowest_q (t_opt - t_min) (t_max - t_opt)

  small-facts :
      (c : Bool) → c ≡ (leb low 22 && leb root 22) → t_min < t_opt → t_opt < t_max →
      PowersFacts t_min t_opt t_max (cond c (ratio_of low root) None)
  small-facts true e h k =
      let l = lowest-terms (t_opt - t_min) (t_max - t_opt) (omega arith) in
      let both : T (leb low 22 && leb root 22) = subst T e tt in
      record {
        rising = (h, k);
        lowest = l;
        p_small = (
          ratio-pos low root (t_opt - t_min) (t_max - t_opt) l.ratio l.positive (omega arith),
          leb→le low 22 (and_l (leb low 22) (leb root 22) both),
        );
        q_small = (l.positive, leb→le root 22 (and_r (leb low 22) (leb root 22) both));
      }
  small-facts false e h k = λ p q _ _ l p-le.
      let u = lowest-unique (t_opt - t_min) (t_max - t_opt) (omega arith) l in
      ⊎_elim (λ q-le.
      absurd (subst⁻¹ T e
      (rw (le-leb low 22 (omega (arith, u.0)), le-leb root 22 (omega (arith, u.1))) tt)))
      (λ lt. lt)
      (le-or-lt q 22)

  rising-facts :
      (b : Bool) → b ≡ (ltb t_min t_opt && ltb t_opt t_max) →
      PowersFacts t_min t_opt t_max (cond b (both_small low root) None)
  rising-facts true e =
      let both : T (ltb t_min t_opt && ltb t_opt t_max) = subst T e tt in
      small-facts (leb low 22 && leb root 22) refl
      (ltb→lt t_min t_opt (and_l (ltb t_min t_opt) (ltb t_opt t_max) both))
      (ltb→lt t_opt t_max (and_r (ltb t_min t_opt) (ltb t_opt t_max) both))
  rising-facts false e =
      λ p q h k l p-le. absurd (subst⁻¹ T e (rw (lt-ltb t_min t_opt h, lt-ltb t_opt t_max k) tt))

  pub powers-facts : PowersFacts t_min t_opt t_max (powers_of t_min t_opt t_max)
  unfolding powers_of
  powers-facts = rising-facts (ltb t_min t_opt && ltb t_opt t_max) refl

  abbrev Answers : (Option Ratio) → Type 0
  Answers r = (r ≡ powers_of t_min t_opt t_max) × PowersFacts t_min t_opt t_max r

  answered : {r : (Option Ratio)} → r ≡ powers_of t_min t_opt t_max → Answers r
  answered e = (e, subst⁻¹ (PowersFacts t_min t_opt t_max) e powers-facts)

  pub powers-rising :
      {r : (Option Ratio)} → t_min < t_opt → t_opt < t_max → r ≡ both_small low root → Answers r
  unfolding powers_of
  powers-rising h k e = answered (rw (lt-ltb t_min t_opt h, lt-ltb t_opt t_max k) e)

  pub powers-none-low : t_opt ≤ t_min → Answers None
  unfolding powers_of
  powers-none-low h = answered (rw (le-ltb t_min t_opt h))

  pub powers-none-high : t_min < t_opt → t_max ≤ t_opt → Answers None
  unfolding powers_of
  powers-none-high h k = answered (rw (lt-ltb t_min t_opt h, le-ltb t_opt t_max k))
