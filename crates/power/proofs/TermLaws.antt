-- The root of the code's terms is a·w^(p/q) rounded down to nine decimals; 1.000000001 is too much.
use Rattle.std.proofs.Common.{◌≡◌, ℕ, ◌+◌, ◌-◌, ◌*◌, ◌^◌, ◌<◌, ◌≤◌, sym, ap, ◌∙◌, subst, ap₂}
use Rattle.std.proofs.Common.{lt_of_le_of_lt, mul-le-mul_left, mul-lt-mul_of_pos_right, mul-pos}
use Rattle.std.proofs.Common.{arith}
use native.Mathlib.Nat.{one-le-pow, pow-lt-pow_left}
use Rattle.trees.specs.declared.Figures.{Figures}
use Rattle.trees.specs.Temperature.{a, w, tried, allowed, root_at}
use Rattle.trees.proofs.TemperatureRoot.{root_at-is}
use Rattle.exact.proofs.MeanLaws.{mean-le}
use Rattle.exact.proofs.PowerLaws.{pow-mul}
use Rattle.power.specs.declared.terms.Terms.{Terms}
use Rattle.power.specs.steps.Asked.{Asked}
use Rattle.power.specs.steps.Power.{Fits, AreTerms, left, right, IsRoot}

module _ (f : Figures) (x : ℕ) (fits : Fits f) (low : 10 * f.t_min < x)
    (high : x < 10 * f.t_max) where
  abbrev above : ℕ
  above = x - 10 * f.t_min

  abbrev rise : ℕ
  rise = 10 * (f.t_opt - f.t_min)

  abbrev below : ℕ
  below = 10 * f.t_max - x

  abbrev fall : ℕ
  fall = 10 * (f.t_max - f.t_opt)

  ratio : f.p * rise ≡ f.q * fall
  ratio = tenfold f.p f.q (f.t_opt - f.t_min) (f.t_max - f.t_opt) fits.ratio
    where
      tenfold : (p q d e : ℕ) → p * d ≡ q * e → p * (10 * d) ≡ q * (10 * e)
      tenfold p q d e h = omega arith

  at_most_one : above ^ f.q * below ^ f.p ≤ rise ^ f.q * fall ^ f.p
  at_most_one =
      mean-le rise fall above below f.p f.q fits.p.0 fits.q.0 (omega (arith, fits.t_opt))
      (omega (arith, fits.t_max)) ratio (omega (arith, fits.t_opt, fits.t_max))

  one-too-much :
      1000000000 ^ f.q * (above ^ f.q * below ^ f.p) < 1000000001 ^ f.q * (rise ^ f.q * fall ^ f.p)
  one-too-much =
      lt_of_le_of_lt (mul-le-mul_left (1000000000 ^ f.q) at_most_one)
      (mul-lt-mul_of_pos_right (pow-lt-pow_left {a = 1000000000} {b = 1000000001} (omega arith)
      (λ e. omega (arith, e, fits.q)))
      (mul-pos (one-le-pow f.q rise (omega (arith, fits.t_opt)))
      (one-le-pow f.p fall (omega (arith, fits.t_max)))))

  pub terms-asked : Asked above rise below fall f.p f.q
  terms-asked = record {
    rise_in = (omega (arith, fits.t_opt), omega (arith, fits.t_min, fits.t_max));
    fall_in = (omega (arith, fits.t_max), omega (arith, fits.t_min, fits.t_max));
    above_in = (omega arith, omega (arith, fits.t_min, fits.t_max));
    below_in = (omega arith, omega (arith, fits.t_min, fits.t_max));
    p_in = fits.p.1;
    q_in = fits.q;
    most = one-too-much;
  }

module _ {f : Figures} {x : ℕ} {s : Terms} (fits : Fits f) (are : AreTerms f x s) where
  left_is : (t : ℕ) → left s t ≡ tried f x t
  unfolding left tried
  left_is t =
      let r : s.rise ≡ (a f x).den = omega (arith, are.rise, fits.t_opt) in
      let g : s.fall ≡ (w f x).den = omega (arith, are.fall, fits.t_max) in
      ap₂ (λ (m n : ℕ). t ^ n * (m ^ n * s.fall ^ s.p)) r are.q
      ∙ ap₂ (λ (m n : ℕ). t ^ f.q * ((a f x).den ^ f.q * m ^ n)) g are.p

  right_is : right s ≡ allowed 9 f x
  unfolding right allowed
  right_is =
      ap₂ (λ (m n : ℕ). 1000000000 ^ n * (m ^ n * s.below ^ s.p)) are.above are.q
      ∙ ap₂ (λ (m n : ℕ). 1000000000 ^ f.q * ((a f x).num ^ f.q * m ^ n)) are.below are.p
      ∙ ap (λ (m : ℕ). m * ((a f x).num ^ f.q * (w f x).num ^ f.p)) (sym (pow-mul 10 9 f.q))

  pub root_is : {t : ℕ} → IsRoot s t → t ≡ root_at 9 f x
  root_is {t} h =
      sym (root_at-is f x fits.q.0
      (record {
        under =
            subst (λ (m : ℕ). m ≤ allowed 9 f x) (left_is t)
            (subst (λ (m : ℕ). left s t ≤ m) right_is h.under);
        above =
            subst (λ (m : ℕ). allowed 9 f x < m) (left_is (t + 1))
            (subst (λ (m : ℕ). m < left s (t + 1)) right_is h.above);
      }))
