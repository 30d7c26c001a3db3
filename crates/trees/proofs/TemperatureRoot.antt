-- a·w^(p/q) rounded down to k decimals: `root_at` is the greatest, the greatest is one number, and
-- a further decimal only adds a digit.
use Prim.Native.Nat.{ℕ, zero, ◌+◌, ◌-◌, ◌*◌, ◌^◌, ◌≤◌, ◌<◌, zero-le, max}
use mathlib.Core.Path.{◌≡◌, ap, ap₂, ◌∙◌, subst⁻¹, sym}
use native.Mathlib.Omega.{arith}
use lib.Pow.{pow-add}
use Rattle.std.proofs.lemmas.Nat.{mul-pow}
use Rattle.trees.specs.declared.Figures.{Figures}
use Rattle.trees.specs.Sound.{Sound}
use Rattle.trees.specs.Temperature.{a, w, tried, allowed, IsGreatest, root_at}
use Rattle.exact.proofs.MeanLaws.{mean-le}
use Rattle.exact.proofs.PowerLaws.{pow-mul, pow-le-inv, zero-pow, le-pow}
use Rattle.exact.proofs.RootLaws.{greatest-under, greatest-over}
use native.Mathlib.Nat.{
  le_trans,
  le_of_eq,
  le_antisymm,
  lt_irrefl,
  lt_of_lt_of_le,
  lt_of_not-le,
  zero-lt-suc,
  mul-pos,
  mul-le-mul_left,
  mul-le-mul_right,
  mul-lt-mul_of_pos_left,
  le-mul_of_pos_right,
  le_of_mul-le-mul_right,
  mul_assoc,
  mul_comm,
  zero-mul,
  add-mul,
  pow-le-pow_left,
  one-le-pow,
}

module _ (f : Figures) (x : ℕ) where
  -- the denominators of a^q and w^p, and their numerators
  abbrev dens : ℕ
  dens = (a f x).den ^ f.q * (w f x).den ^ f.p

  abbrev nums : ℕ
  nums = (a f x).num ^ f.q * (w f x).num ^ f.p

  dens-pos : zero < dens
  dens-pos =
      mul-pos (one-le-pow f.q (a f x).den (a f x).positive)
      (one-le-pow f.p (w f x).den (w f x).positive)

  tried-mono : {t u : ℕ} → t ≤ u → tried f x t ≤ tried f x u
  unfolding tried
  tried-mono h = mul-le-mul_right dens (pow-le-pow_left h f.q)

  tried-above : zero < f.q → (t : ℕ) → t ≤ tried f x t
  unfolding tried
  tried-above root t = le_trans (le-pow t f.q root) (le-mul_of_pos_right (t ^ f.q) dens-pos)

  tried-zero : zero < f.q → tried f x zero ≡ zero
  unfolding tried
  tried-zero root = ap (λ (m : ℕ). m * dens) (zero-pow f.q root) ∙ zero-mul dens

  tried-lt : {t u r : ℕ} → tried f x t ≤ r → r < tried f x u → t < u
  tried-lt {t} {u} {r} h l =
      lt_of_not-le {n = u} {m = t} (λ g. lt_irrefl r (lt_of_lt_of_le l (le_trans (tried-mono g) h)))

  pub root_at-greatest : zero < f.q → (k : ℕ) → IsGreatest k f x (root_at k f x)
  unfolding root_at
  root_at-greatest root k = record {
    under =
        greatest-under (tried f x) (allowed k f x)
        (subst⁻¹ (λ (m : ℕ). m ≤ allowed k f x) (tried-zero root) zero-le);
    above = greatest-over (tried f x) (allowed k f x) (tried-above root);
  }

  greatest-unique : {k t u : ℕ} → IsGreatest k f x t → IsGreatest k f x u → t ≡ u
  greatest-unique {k} {t} {u} g h = grind (arith, tried-lt)

  -- j further decimals
  tried-scale : (j t : ℕ) → tried f x (10 ^ j * t) ≡ 10 ^ (j * f.q) * tried f x t
  unfolding tried
  tried-scale j t = grind (arith, mul-pow, mul_assoc, pow-mul)

  allowed-scale : (k j : ℕ) → allowed (k + j) f x ≡ 10 ^ (j * f.q) * allowed k f x
  unfolding allowed
  allowed-scale k j = grind (arith, add-mul, pow-add, mul_comm, mul_assoc)

  -- t at k decimals and u at k + j: t's digits open u's
  module _ (k j : ℕ) {t u : ℕ} (g : IsGreatest k f x t) (h : IsGreatest (k + j) f x u) where
    digits_le : 10 ^ j * t ≤ u
    digits_le =
        let fits : tried f x (10 ^ j * t) ≤ allowed (k + j) f x =
        rw (tried-scale j t, allowed-scale k j) (mul-le-mul_left (10 ^ (j * f.q)) g.under) in
        let l : 10 ^ j * t < u + 1 = tried-lt fits h.above in
        omega arith

    digits_lt : u < 10 ^ j * (t + 1)
    digits_lt =
        tried-lt h.under
        (rw (tried-scale j (t + 1), allowed-scale k j)
        (mul-lt-mul_of_pos_left g.above (one-le-pow (j * f.q) 10 (zero-lt-suc 9))))

  module _ (root : zero < f.q) where
    pub root_at-is : {k t : ℕ} → IsGreatest k f x t → root_at k f x ≡ t
    root_at-is {k} g = greatest-unique (root_at-greatest root k) g

    pub root_at-above : (k : ℕ) {t : ℕ} → tried f x t ≤ allowed k f x → t ≤ root_at k f x
    root_at-above k {t} h =
        let l : t < root_at k f x + 1 = tried-lt h (root_at-greatest root k).above in
        omega arith

    pub root_at-below : (k : ℕ) {t : ℕ} → allowed k f x < tried f x t → root_at k f x < t
    root_at-below k h = tried-lt (root_at-greatest root k).under h

    pub root_at-grows : (k j : ℕ) → 10 ^ j * root_at k f x ≤ root_at (k + j) f x
    root_at-grows k j = digits_le k j (root_at-greatest root k) (root_at-greatest root (k + j))

    pub root_at-next : (k j : ℕ) → root_at (k + j) f x < 10 ^ j * (root_at k f x + 1)
    root_at-next k j = digits_lt k j (root_at-greatest root k) (root_at-greatest root (k + j))

-- a·w^(p/q) is 1 at Topt and nowhere greater
tenfold :
    (p q d e : ℕ) → zero < d → zero < e → p * d ≡ q * e → p * max 1 (10 * d) ≡ q * max 1 (10 * e)
tenfold p q d e hd he h =
    let d-is : max 1 (10 * d) ≡ 10 * d = omega arith in
    let e-is : max 1 (10 * e) ≡ 10 * e = omega arith in
    rw (d-is, e-is) (omega arith)

module _ (f : Figures) (s : Sound f) (x : ℕ) (low : 10 * f.t_min < x)
    (high : x < 10 * f.t_max) where
  nums-le : nums f x ≤ dens f x
  nums-le = grind (arith, mean-le, tenfold)

  pub greatest-le-one : {k t : ℕ} → IsGreatest k f x t → t ≤ 10 ^ k
  unfolding tried allowed
  greatest-le-one {k} {t} g =
      pow-le-inv f.q s.q.0
      (rw (← (pow-mul 10 k f.q))
      (le_of_mul-le-mul_right {k = dens f x}
      (le_trans g.under (mul-le-mul_left (10 ^ (k * f.q)) nums-le)) (dens-pos f x)))

module _ (f : Figures) (s : Sound f) where
  nums-optimum : nums f (10 * f.t_opt) ≡ dens f (10 * f.t_opt)
  nums-optimum =
      let rise : 10 * f.t_opt - 10 * f.t_min ≡ max 1 (10 * (f.t_opt - f.t_min)) =
      omega (arith, s.t_opt) in
      let fall : 10 * f.t_max - 10 * f.t_opt ≡ max 1 (10 * (f.t_max - f.t_opt)) =
      omega (arith, s.t_max) in
      ap₂ (λ (m n : ℕ). m ^ f.q * n ^ f.p) rise fall

  optimum-fits : (k : ℕ) → tried f (10 * f.t_opt) (10 ^ k) ≤ allowed k f (10 * f.t_opt)
  unfolding tried allowed
  optimum-fits k = le_of_eq (ap₂ (λ (m n : ℕ). m * n) (sym (pow-mul 10 k f.q)) (sym nums-optimum))

  pub root_at-optimum : (k : ℕ) → root_at k f (10 * f.t_opt) ≡ 10 ^ k
  root_at-optimum k =
      let x : ℕ = 10 * f.t_opt in
      le_antisymm
      (greatest-le-one f s x (omega (arith, s.t_opt)) (omega (arith, s.t_max))
      (root_at-greatest f x s.q.0 k))
      (root_at-above f x s.q.0 k (optimum-fits k))
