-- Sums and convolutions of sequences of numbers; `conv-step` is the binomial theorem without
-- binomials.
use mathlib.Core.Path.{◌≡◌, refl, ap}
use Prim.Native.Nat.{ℕ, zero, suc, ◌+◌, ◌*◌, ◌≤◌}
use native.Mathlib.Nat.{mul-le-mul_left, le_refl}
use native.Mathlib.Decide.{le_ind}
use native.Mathlib.Omega.{arith}

unfoldable pub sum : (ℕ → ℕ) → ℕ → ℕ
sum f zero = f 0
sum f (suc n) = sum f n + f (suc n)

-- f 0 * g n + f 1 * g (n - 1) + .. + f n * g 0
unfoldable pub conv : (ℕ → ℕ) → (ℕ → ℕ) → ℕ → ℕ
conv f g zero = f 0 * g 0
conv f g (suc n) = f 0 * g (suc n) + conv (λ i. f (suc i)) g n

sum-suc : (f : ℕ → ℕ) (n : ℕ) → sum f (suc n) ≡ sum f n + f (suc n)
unfolding sum
sum-suc f n = refl

sum_left : (f : ℕ → ℕ) (n : ℕ) → sum f (suc n) ≡ f 0 + sum (λ i. f (suc i)) n
unfolding sum
sum_left f zero = refl
sum_left f (suc n) = omega (arith, sum_left f n)

pub sum_mono : (f : ℕ → ℕ) (k n : ℕ) → k ≤ n → sum f k ≤ sum f n
sum_mono f k n h =
    le_ind (λ m. sum f k ≤ sum f m) (le_refl _) (λ m _ p. omega (arith, p, sum-suc f m)) n h

-- ---- the sum over a triangle

triangle-suc : (f g : ℕ → ℕ) (n : ℕ) → conv f (sum g) (suc n) ≡ conv f (sum g) n + conv f g (suc n)
unfolding sum conv
triangle-suc f g zero = omega arith
triangle-suc f g (suc n) = rw (triangle-suc (λ i. f (suc i)) g n) (omega arith)

pub triangle-is : (f g : ℕ → ℕ) (n : ℕ) → sum (conv f g) n ≡ conv f (sum g) n
unfolding sum conv
triangle-is f g zero = refl
triangle-is f g (suc n) = omega (arith, triangle-is f g n, triangle-suc f g n)

-- ---- it lies between two rectangles

module _ (h : ℕ → ℕ) (grows : (k n : ℕ) → k ≤ n → h k ≤ h n) where
  pub conv-le : (f : ℕ → ℕ) (n : ℕ) → conv f h n ≤ sum f n * h n
  unfolding sum conv
  conv-le f zero = omega arith
  conv-le f (suc n) =
      rw (sum_left f n)
      (omega (
        arith,
        conv-le (λ i. f (suc i)) n,
        mul-le-mul_left (sum (λ i. f (suc i)) n) (grows n (suc n) (omega arith)),
      ))

  pub conv-ge : (f : ℕ → ℕ) (j k n : ℕ) → j + k ≤ n → sum f j * h k ≤ conv f h n
  unfolding sum conv
  conv-ge f zero k zero le = mul-le-mul_left (f 0) (grows k 0 (omega arith))
  conv-ge f zero k (suc n) le = omega (arith, mul-le-mul_left (f 0) (grows k (suc n) (omega arith)))
  conv-ge f (suc j) k zero le = omega arith
  conv-ge f (suc j) k (suc n) le =
      rw (sum_left f j)
      (omega (
        arith,
        mul-le-mul_left (f 0) (grows k (suc n) (omega arith)),
        conv-ge (λ i. f (suc i)) j k n (omega arith),
      ))

-- ---- sequences in which each term is the one before it times x / (d * (i + 1)); the induction
-- counts the first one's terms from a
pub conv-step :
    (d x y n a : ℕ) (f g : ℕ → ℕ) → ((i : ℕ) → i ≤ n → d * (a + suc i) * f (suc i) ≡ x * f i) →
    ((j : ℕ) → j ≤ n → d * suc j * g (suc j) ≡ y * g j) →
    d * (a + suc n) * conv f g (suc n) ≡ a * d * f 0 * g (suc n) + (x + y) * conv f g n
unfolding conv
conv-step d x y zero a f g hf hg =
    omega (arith, ap (λ t. t * g 0) (hf 0 (omega arith)), ap (λ t. t * f 0) (hg 0 (omega arith)))
conv-step d x y (suc n) a f g hf hg =
    omega (
      arith,
      ap (λ t. t * g (suc n)) (hf 0 (omega arith)),
      ap (λ t. t * f 0) (hg (suc n) (omega arith)),
      conv-step d x y n (suc a) (λ i. f (suc i)) g (λ i h. omega (arith, hf (suc i) (omega arith)))
          (λ j h. hg j (omega arith)),
    )
