-- A line refused by one account is refused for all; past rows 22, 13 and 23 by the first one's row,
-- and a line that each takes is accepted.
use Rattle.frames.specs.declared.records.Refusal.{Refusal}
use Rattle.std.specs.Prelude.{Result, Ok, Err}
use Prim.Native.Nat.{ℕ}
use mathlib.Core.Path.{◌≡◌, refl, sym, ◌∙◌}
use mathlib.Core.List.{List}
use native.Mathlib.Omega.{arith}
use Rattle.frames.specs.Answers.{Outcome, accepted, refused, row_of, outcome_of}
use Rattle.frames.proofs.AnswerLaws.{refused-not-accepted}
use Rattle.account_spec.specs.declared.Account.{Account}
use Rattle.account_spec.specs.Rules.{feed_of}
use Rattle.stand.specs.Together.{together, Each, FirstRefuses}
use Rattle.stand.specs.Feeding.{feed_all_of, FeedsAll}
use Rattle.stand.specs.Promise.{In, LineTogether}
use Rattle.stand.proofs.RunLaws.{accepted-fed, refused-same}

-- ---- a step, any whatever

module _ {A : Type 0} (step : A → Outcome A) where
  each-together :
      (xs ys : List A) → Each (λ a b. step a ≡ accepted b) xs ys → together step xs ≡ accepted ys
  unfolding together
  each-together xs ys Each.none = refl
  each-together xs ys (Each.more {xs = zs} {ys = ws} e rest) = rw (e, each-together zs ws rest) refl

  first-together : (w : ℕ × ℕ) (xs : List A) → FirstRefuses step w xs → together step xs ≡ refused w
  unfolding together
  first-together w xs (FirstRefuses.here e) = rw e refl
  first-together w xs (FirstRefuses.later {xs = zs} e rest) = rw (e, first-together w zs rest) refl

  one-not-all :
      {a : A} {w : ℕ × ℕ} {xs ys : List A} → In a xs → step a ≡ refused w →
      Each (λ a b. step a ≡ accepted b) xs ys → ⊥
  one-not-all In.here e (Each.more f rest) = refused-not-accepted (sym e ∙ f)
  one-not-all (In.later k) e (Each.more f rest) = one-not-all k e rest

-- ---- a line

module _ (xs ys : List Account) (l : List ℕ) (r : Result Unit Refusal)
    (k : FeedsAll xs l r ys) where
  one-refused :
      (a : Account) → In a xs → (w : ℕ × ℕ) → feed_of a l ≡ refused w →
      (v : ℕ × ℕ) × (outcome_of r ≡ refused v)
  one-refused a at w e = by-reply r k
    where
      by-reply :
          (s : Result Unit Refusal) → FeedsAll xs l s ys → (v : ℕ × ℕ) × (outcome_of s ≡ refused v)
      by-reply (Ok tt) j = absurd (one-not-all (λ b. feed_of b l) at e (accepted-fed xs ys l j))
      by-reply (Err s) j = (row_of s, refl)

  pub line-together : LineTogether xs l r ys
  unfolding feed_all_of
  line-together = record {
    size = λ large. grind (arith, k);
    possible = λ sized impossible. grind (arith, k);
    alike = λ sized possible differ. grind (arith, k);
    all = λ sized possible alike zs each. grind (
      arith,
      k,
      each-together (λ a. feed_of a l) xs zs each,
    );
    first = λ sized possible alike w first. grind (
      arith,
      k,
      first-together (λ a. feed_of a l) w xs first,
    );
    one = one-refused;
    unchanged = refused-same xs ys l r k;
  }
