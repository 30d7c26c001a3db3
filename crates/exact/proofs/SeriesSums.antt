-- On the common denominator: S_k(x+y) ≤ S_k(x)·S_k(y), S_j(x)·S_k(y) ≤ S_n(x+y) where j + k ≤ n,
-- and S_j ≤ S_k where j ≤ k.
-- The terms of S_k times one number are a sequence of whole numbers, and the convolution of two
-- such sequences is one for x + y.
use mathlib.Core.Path.{◌≡◌, refl, ap}
use Prim.Native.Nat.{ℕ, zero, suc, ◌+◌, ◌-◌, ◌*◌, ◌^◌, ◌≤◌, ◌<◌}
use native.Mathlib.Nat.{le_of_mul-le-mul_left, pow-zero, pow-suc, mul-pos, zero-lt-suc}
use native.Mathlib.Nat.{mul-le-mul_right, le_refl}
use native.Mathlib.Decide.{le_ind}
use native.Mathlib.Omega.{arith}
use Rattle.exact.proofs.SeriesConvolution.{sum, conv, sum_mono, triangle-is, conv-le, conv-ge}
use Rattle.exact.proofs.SeriesConvolution.{conv-step}
use Rattle.exact.proofs.SeriesCommon.{common_den, common_num}

-- f's terms, up to the last, are those of exp(x/d), times f 0
abbrev Terms : ℕ → ℕ → ℕ → (ℕ → ℕ) → Type 0
Terms d x last f = (i : ℕ) → i < last → d * suc i * f (suc i) ≡ x * f i

conv-terms :
    (d x y last : ℕ) (f g : ℕ → ℕ) → Terms d x last f → Terms d y last g →
    Terms d (x + y) last (conv f g)
conv-terms d x y last f g hf hg i h =
    omega (
      arith,
      conv-step d x y i 0 f g (λ j l. omega (arith, hf j (omega arith)))
          (λ j l. hg j (omega arith)),
    )

module _ (d x last : ℕ) (f : ℕ → ℕ) (are : Terms d x last f) where
  term_is : (k : ℕ) → k ≤ last → f k * common_den k d ≡ f 0 * x ^ k
  unfolding common_den
  term_is zero h = rw (pow-zero x)
  term_is (suc k) h =
      rw (pow-suc x k)
      (omega (
        arith,
        ap (λ u. u * common_den k d) (are k h),
        ap (λ u. u * x) (term_is k (omega arith)),
      ))

  sum_is : (k : ℕ) → k ≤ last → sum f k * common_den k d ≡ f 0 * common_num k x d
  unfolding sum common_den common_num
  sum_is zero h = refl
  sum_is (suc k) h =
      omega (arith, ap (λ u. u * (d * suc k)) (sum_is k (omega arith)), term_is (suc k) h)

-- ---- there is such a sequence: x^i·d^(last-i)·last!/i!

rise : ℕ → ℕ → ℕ → ℕ
rise d i zero = 1
rise d i (suc m) = d * suc i * rise d (suc i) m

rise-pos : (d i m : ℕ) → 0 < d → 0 < rise d i m
unfolding rise
rise-pos d i zero p = omega arith
rise-pos d i (suc m) p = mul-pos (mul-pos p (zero-lt-suc i)) (rise-pos d (suc i) m p)

terms : ℕ → ℕ → ℕ → ℕ → ℕ
terms d x last i = x ^ i * rise d i (last - i)

terms-are : (d x last : ℕ) → Terms d x last (terms d x last)
unfolding terms rise
terms-are d x last i h =
    let left : last - i ≡ suc (last - suc i) = omega arith in
    rw (left, pow-suc x i) (omega arith)

terms-pos : (d x last : ℕ) → 0 < d → 0 < terms d x last 0
unfolding terms
terms-pos d x last p = rw (pow-zero x) (omega (arith, rise-pos d 0 (last - 0) p))

-- ---- what holds of such sums holds of the fractions

cross-le :
    (F G S Q a b X Y Z : ℕ) → 0 < a → 0 < b → F * Q ≡ a * X → G * Q ≡ b * Y → S * Q ≡ a * b * Z →
    S ≤ F * G → Z * Q ≤ X * Y
cross-le F G S Q a b X Y Z a-pos b-pos f-is g-is s-is h =
    le_of_mul-le-mul_left {k = a * b}
    (omega (
      arith,
      mul-le-mul_right (Q * Q) h,
      ap (λ t. t * Q) s-is,
      ap (λ t. t * (G * Q)) f-is,
      ap (λ t. a * X * t) g-is,
    ))
    (mul-pos a-pos b-pos)

cross-ge :
    (F G S q r Q a b X Y Z : ℕ) → 0 < a → 0 < b → F * q ≡ a * X → G * r ≡ b * Y →
    S * Q ≡ a * b * Z → F * G ≤ S → X * Y * Q ≤ Z * (q * r)
cross-ge F G S q r Q a b X Y Z a-pos b-pos f-is g-is s-is h =
    le_of_mul-le-mul_left {k = a * b}
    (omega (
      arith,
      mul-le-mul_right (q * r * Q) h,
      ap (λ t. t * (q * r)) s-is,
      ap (λ t. t * (G * r) * Q) f-is,
      ap (λ t. a * X * t * Q) g-is,
    ))
    (mul-pos a-pos b-pos)

module _ (d : ℕ) (d-pos : 0 < d) (x y : ℕ) where
  both_is :
      (n : ℕ) →
      sum (conv (terms d x n) (terms d y n)) n * common_den n d
      ≡ terms d x n 0 * terms d y n 0 * common_num n (x + y) d
  unfolding conv
  both_is n =
      sum_is d (x + y) n (conv (terms d x n) (terms d y n))
      (conv-terms d x y n (terms d x n) (terms d y n) (terms-are d x n) (terms-are d y n)) n
      (le_refl n)

  pub common-sum-le :
      (k : ℕ) → common_num k (x + y) d * common_den k d ≤ common_num k x d * common_num k y d
  common-sum-le k =
      let f = terms d x k in
      let g = terms d y k in
      cross-le (sum f k) (sum g k) (sum (conv f g) k) (common_den k d) (f 0) (g 0) _ _ _
      (terms-pos d x k d-pos)
      (terms-pos d y k d-pos)
      (sum_is d x k f (terms-are d x k) k (le_refl k))
      (sum_is d y k g (terms-are d y k) k (le_refl k))
      (both_is k)
      (rw (triangle-is f g k) (conv-le (sum g) (sum_mono g) f k))

  pub common-sum-ge :
      (j k n : ℕ) → j + k ≤ n →
      common_num j x d * common_num k y d * common_den n d
      ≤ common_num n (x + y) d * (common_den j d * common_den k d)
  common-sum-ge j k n h =
      let f = terms d x n in
      let g = terms d y n in
      cross-ge (sum f j) (sum g k) (sum (conv f g) n) (common_den j d) (common_den k d)
      (common_den n d) (f 0) (g 0) _ _ _
      (terms-pos d x n d-pos)
      (terms-pos d y n d-pos)
      (sum_is d x n f (terms-are d x n) j (omega arith))
      (sum_is d y n g (terms-are d y n) k (omega arith))
      (both_is n)
      (rw (triangle-is f g n) (conv-ge (sum g) (sum_mono g) f j k n h))

-- ---- more terms

more : (n d j m : ℕ) → common_num j n d * common_den m d ≤ common_num m n d * common_den j d
    → common_num j n d * common_den (suc m) d ≤ common_num (suc m) n d * common_den j d
unfolding common_num common_den
more n d j m h = omega (arith, mul-le-mul_right (d * suc m) h)

pub common-mono :
    (n d j k : ℕ) → j ≤ k → common_num j n d * common_den k d ≤ common_num k n d * common_den j d
common-mono n d j k h =
    le_ind (λ m. common_num j n d * common_den m d ≤ common_num m n d * common_den j d) (le_refl _)
    (λ m _. more n d j m) k h
