-- Words of base 2³²: what a store, a product with one word and a comparison do to the number that
-- they stand for.
use Rattle.std.proofs.Common.{◌≡◌, ℕ, zero, suc, ◌+◌, ◌*◌, ◌/◌, ◌%◌, ◌^◌, ◌<◌, ◌≤◌, Bool, leb, List}
use Rattle.std.proofs.Common.{length, get_or, set, replicate, sym, refl, ap, ◌∙◌, ap₂, ⊎_elim}
use Rattle.std.proofs.Common.{mul-le-mul_right, mul_assoc, mul-le-mul, eq-or-lt_of_le, pow-suc}
use Rattle.std.proofs.Common.{mul-one, add-one, arith, get_or-set_other, get_or-set_same, le-leb}
use Rattle.std.proofs.Common.{◌-◌, ◌++◌, take, drop, length-append, length-drop}
use Rattle.std.proofs.lemmas.List.{get_or-take, get_or-drop, get_or_append_left}
use Rattle.std.proofs.lemmas.List.{get_or-append_right}
use native.Mathlib.Nat.{pow-le-pow_right}
use native.Mathlib.Numerals.{unary_clauses}
use borrow.Author.Tests.{lt-leb}
use Rattle.exact.proofs.OrderLaws.{le-or-lt}
use Rattle.power.specs.steps.Power.{worth, Holds, Settled}

worth-next : (i : ℕ) (a : List ℕ) → worth (i + 1) a ≡ worth i a + get_or a i 0 * 4294967296 ^ i
unfolding worth
worth-next i a = rw add-one refl

-- ---- stores

-- a store after the first i words leaves them
set-kept : (i j v : ℕ) (a : List ℕ) → i ≤ j → worth i (set a j v) ≡ worth i a
unfolding worth
set-kept zero j v a h = refl
set-kept (suc i) j v a h =
    ap₂ (λ (m w : ℕ). m + w * 4294967296 ^ i) (set-kept i j v a (omega arith))
    (get_or-set_other a j i v 0 (λ e. omega (arith, e)))

set-worth :
    (i v : ℕ) (a : List ℕ) → i < length a →
    worth (i + 1) (set a i v) ≡ worth i a + v * 4294967296 ^ i
set-worth i v a h =
    worth-next i (set a i v)
    ∙ ap₂ (λ (m w : ℕ). m + w * 4294967296 ^ i) (set-kept i i v a (omega arith))
    (get_or-set_same a i v 0 h)

-- ---- the words that a number has

-- words below 2³²: the first i are worth less than the next one's weight
worth-small : (P x W : ℕ) → P < W → x < 4294967296 → P + x * W < W * 4294967296
worth-small P x W p h = omega (arith, mul-le-mul_right W h)

pub worth-lt :
    (i : ℕ) (a : List ℕ) → worth i a < 4294967296 ^ i → get_or a i 0 < 4294967296 →
    worth (i + 1) a < 4294967296 ^ (i + 1)
worth-lt i a h l =
    rw (worth-next i a, add-one i, pow-suc 4294967296 i)
    (worth-small (worth i a) (get_or a i 0) (4294967296 ^ i) h l)

-- the same words are worth the same
worth-alike :
    (i : ℕ) (a b : List ℕ) → ((j : ℕ) → j < i → get_or a j 0 ≡ get_or b j 0) →
    worth i a ≡ worth i b
unfolding worth
worth-alike zero a b h = refl
worth-alike (suc i) a b h =
    ap₂ (λ (m w : ℕ). m + w * 4294967296 ^ i) (worth-alike i a b (λ j l. h j (omega (arith, l))))
    (h i (omega arith))

-- words of 0 are worth nothing
zeros-add :
    (a : List ℕ) (n d : ℕ) → ((j : ℕ) → n ≤ j → j < n + d → get_or a j 0 ≡ 0) →
    worth (n + d) a ≡ worth n a
unfolding worth
zeros-add a n zero h = simp unary_clauses refl
zeros-add a n (suc d) h =
    let more : n + suc d ≡ suc (n + d) = omega arith in
    rw more
    (ap₂ (λ (m w : ℕ). m + w * 4294967296 ^ (n + d))
    (zeros-add a n d (λ j l u. h j l (omega (arith, u)))) (h (n + d) (omega arith) (omega arith))
    ∙ omega arith)

-- nothing is carried above what is less than the next word's weight
no-carry : (P x k M : ℕ) → P + k * M ≡ x → x < M → (P ≡ x) × (k ≡ 0)
no-carry P x zero M e h = (omega arith, refl)
no-carry P x (suc k) M e h = absurd (omega arith)

-- a number of n words stands in the first n, and the next d are 0
zeros-after :
    (a : List ℕ) (m n d : ℕ) → worth (n + d) a ≡ m → m < 4294967296 ^ n →
    (worth n a ≡ m) × ((j : ℕ) → n ≤ j → j < n + d → get_or a j 0 ≡ 0)
unfolding worth
zeros-after a m n zero e s = (simp unary_clauses at e, λ j l u. absurd (omega (arith, l, u)))
zeros-after a m n (suc d) e s =
    let more : n + suc d ≡ suc (n + d) = omega arith in
    let room : 4294967296 ^ n ≤ 4294967296 ^ (n + d) =
    pow-le-pow_right {n = 4294967296} (omega arith) (omega arith) in
    let top : (worth (n + d) a ≡ m) × (get_or a (n + d) 0 ≡ 0) =
    no-carry (worth (n + d) a) m (get_or a (n + d) 0) (4294967296 ^ (n + d)) (rw more at e)
    (omega (arith, s, room)) in
    let below = zeros-after a m n d top.0 s in (
      below.0,
      λ j l u.
          ⊎_elim (λ q. ap (λ (t : ℕ). get_or a t 0) q ∙ top.1) (λ q. below.1 j l q)
          (eq-or-lt_of_le {n = j} {m = n + d} (omega (arith, u))),
    )

-- 67 words that stand for a number of n words: the first n do, and the others are 0
record StandsFirst (a : List ℕ) (m n : ℕ) : Type 0 where
  value : worth n a ≡ m
  rest : (j : ℕ) → n ≤ j → j < 67 → get_or a j 0 ≡ 0

stands-first : (a : List ℕ) (m n : ℕ) → n ≤ 67 → Holds a m n → StandsFirst a m n
stands-first a m n f is =
    let e : 67 ≡ n + (67 - n) = omega arith in
    let r = zeros-after a m n (67 - n) (rw e at is.value) is.small in
    record { value = r.0; rest = λ j l u. r.1 j l (omega (arith, u)) }

stands-all :
    (a : List ℕ) (m n : ℕ) → n ≤ 67 → StandsFirst a m n → m < 4294967296 ^ n → Holds a m n
stands-all a m n f is s =
    let e : n + (67 - n) ≡ 67 = omega arith in
    let all = zeros-add a n (67 - n) (λ j l u. is.rest j l (omega (arith, u))) in
    record { value = (rw e at all) ∙ is.value; small = s }

-- ---- a product with one word

pub product-fits :
    (x y k : ℕ) → x < 4294967296 → y < 4294967296 → k < 4294967296 →
    x * y + k < 18446744073709551616
product-fits x y k hx hy hk =
    let a : x ≤ 4294967295 = omega arith in
    let b : y ≤ 4294967295 = omega arith in
    omega (arith, mul-le-mul a b)

-- P and Q are the words before, w the next one, k the carry, W its weight
carry-sum :
    (P Q w c k r o W : ℕ) → P + k * W ≡ Q * c → r + o * 4294967296 ≡ w * c + k →
    P + r * W + o * (W * 4294967296) ≡ (Q + w * W) * c
carry-sum P Q w c k r o W e f = omega (arith, e, ap (λ (t : ℕ). t * W) f)

module _ (c : ℕ) (a₀ a : List ℕ) where
  pub times-step :
      (i k v : ℕ) → i < length a → get_or a i 0 ≡ get_or a₀ i 0 →
      worth i a + k * 4294967296 ^ i ≡ worth i a₀ * c → v ≡ get_or a i 0 * c + k →
      worth (i + 1) (set a i (v % 4294967296)) + v / 4294967296 * 4294967296 ^ (i + 1)
      ≡ worth (i + 1) a₀ * c
  times-step i k v h e inv d =
      rw (set-worth i (v % 4294967296) a h, worth-next i a₀, add-one i, pow-suc 4294967296 i)
      (carry-sum (worth i a) (worth i a₀) (get_or a₀ i 0) c k (v % 4294967296) (v / 4294967296)
      (4294967296 ^ i) inv
      (omega (arith, d, ap (λ (t : ℕ). t * c) e)))

times-small : (m c N : ℕ) → m < N → c < 4294967296 → m * c < N * 4294967296
times-small m c N h k =
    let x : m + 1 ≤ N = omega arith in
    let y : c ≤ 4294967295 = omega arith in
    omega (arith, mul-le-mul x y)

-- the first i words times c: that many words and a carry, and the rest as it was
pub record AreTimes (c : ℕ) (a₀ a : List ℕ) (i k : ℕ) : Type 0 where
  pub value : worth i a + k * 4294967296 ^ i ≡ worth i a₀ * c
  pub carry : k < 4294967296
  pub small : worth i a < 4294967296 ^ i
  pub rest : (j : ℕ) → i ≤ j → get_or a j 0 ≡ get_or a₀ j 0

pub times-none : (c : ℕ) (a : List ℕ) → AreTimes c a a 0 0
unfolding worth
times-none c a = record {
  value = omega arith;
  carry = omega arith;
  small = omega arith;
  rest = λ j h. refl;
}

pub times-next :
    (c : ℕ) (a₀ a : List ℕ) (i k : ℕ) → i < length a → get_or a i 0 < 4294967296 →
    c < 4294967296 → AreTimes c a₀ a i k →
    AreTimes c a₀ (set a i ((get_or a i 0 * c + k) % 4294967296)) (i + 1)
    ((get_or a i 0 * c + k) / 4294967296)
times-next c a₀ a i k h hw hc is =
    let v : ℕ = get_or a i 0 * c + k in
    let b : List ℕ = set a i (v % 4294967296) in
    let kept : worth i b ≡ worth i a = set-kept i i (v % 4294967296) a (omega arith) in
    let word : get_or b i 0 ≡ v % 4294967296 = get_or-set_same a i (v % 4294967296) 0 h in
    record {
      value = times-step c a₀ a i k v h (is.rest i (omega arith)) is.value refl;
      carry = omega (arith, product-fits (get_or a i 0) c k hw hc is.carry);
      small = worth-lt i b (rw kept is.small) (omega (arith, word));
      rest = λ j l.
          get_or-set_other a i j (v % 4294967296) 0 (λ e. omega (arith, e, l))
          ∙ is.rest j (omega (arith, l));
    }

-- the first n words of a₀ are now `first`
module _ (c n i k : ℕ) (a₀ first : List ℕ) (e : i ≡ n) (len : length first ≡ n) where
  before : worth n (first ++ drop n a₀) ≡ worth n first
  before =
      worth-alike n (first ++ drop n a₀) first
      (λ j h. get_or_append_left first (drop n a₀) 0 j (omega (arith, h, len)))

  behind : (j : ℕ) → n ≤ j → get_or (first ++ drop n a₀) j 0 ≡ get_or a₀ j 0
  behind j h =
      get_or-append_right first (drop n a₀) n j 0 len h ∙ get_or-drop n a₀ (j - n) 0
      ∙ ap (λ (t : ℕ). get_or a₀ t 0) (omega (arith, h))

  product-in :
      (m : ℕ) → AreTimes c (take n a₀) first i k → StandsFirst a₀ m n →
      worth n first + k * 4294967296 ^ n ≡ m * c
  product-in m is old =
      (rw e at is.value)
      ∙ ap (λ (t : ℕ). t * c)
      (worth-alike n (take n a₀) a₀ (λ j h. get_or-take n a₀ j 0 h) ∙ old.value)

  pub times-ends :
      k ≡ 0 → n < 67 → AreTimes c (take n a₀) first i k → (m : ℕ) → Holds a₀ m n →
      Holds (first ++ drop n a₀) (m * c) n
  times-ends z f is m holds =
      let old = stands-first a₀ m n (omega (arith, f)) holds in
      let value : worth n first ≡ m * c =
      omega (arith, product-in m is old, ap (λ (t : ℕ). t * 4294967296 ^ n) z) in
      stands-all (first ++ drop n a₀) (m * c) n (omega (arith, f))
      (record { value = before ∙ value; rest = λ j l u. behind j l ∙ old.rest j l u })
      (rw (← value) (rw e at is.small))

  pub times-carries :
      n < 67 → length a₀ ≡ 67 → c < 4294967296 → AreTimes c (take n a₀) first i k →
      (m : ℕ) → Holds a₀ m n → Holds (set (first ++ drop n a₀) n k) (m * c) (n + 1)
  times-carries f all l is m holds =
      let old = stands-first a₀ m n (omega (arith, f)) holds in
      let b : List ℕ = first ++ drop n a₀ in
      let there : n < length b =
      rw (length-append first (drop n a₀), length-drop n a₀) (omega (arith, f, all, len)) in
      let value : worth (n + 1) (set b n k) ≡ m * c =
      set-worth n k b there ∙ ap (λ (t : ℕ). t + k * 4294967296 ^ n) before
      ∙ product-in m is old in
      let small : m * c < 4294967296 ^ (n + 1) =
      rw (add-one n, pow-suc 4294967296 n) (times-small m c (4294967296 ^ n) holds.small l) in
      stands-all (set b n k) (m * c) (n + 1) (omega (arith, f)) (record {
        value = value;
        rest = λ j p u.
            get_or-set_other b n j k 0 (λ q. omega (arith, q, p)) ∙ behind j (omega (arith, p))
            ∙ old.rest j (omega (arith, p)) u;
      }) small

-- ---- powers

-- a number of n words times c^j, in w words: j more at most
pub record IsPowerProduct (a₀ a : List ℕ) (n c j w : ℕ) : Type 0 where
  pub words : w ≤ n + j
  pub holds : (m : ℕ) → Holds a₀ m n → Holds a (m * c ^ j) w

pub power_product-none : (a : List ℕ) (n c : ℕ) → IsPowerProduct a a n c 0 n
power_product-none a n c = record {
  words = omega arith;
  holds = λ m is. let e : m * c ^ 0 ≡ m = simp unary_clauses (mul-one m) in rw e is;
}

pub power_product-next :
    (a₀ a b : List ℕ) (n c j v w : ℕ) → IsPowerProduct a₀ a n c j v →
    (w ≤ v + 1) × ((m : ℕ) → Holds a m v → Holds b (m * c) w) →
    IsPowerProduct a₀ b n c (j + 1) w
power_product-next a₀ a b n c j v w g next = record {
  words = omega (arith, g.words, next.0);
  holds = λ m is.
      let e : m * c ^ (j + 1) ≡ m * c ^ j * c =
      ap (λ (t : ℕ). m * t) (ap (λ (t : ℕ). c ^ t) (add-one j) ∙ pow-suc c j)
      ∙ sym (mul_assoc m (c ^ j) c) in
      rw e (next.1 (m * c ^ j) (g.holds m is));
}

-- ---- order

higher-word : (P Q x y W : ℕ) → P < W → x < y → P + x * W < Q + y * W
higher-word P Q x y W p h = omega (arith, mul-le-mul_right W h)

word-decides :
    (i : ℕ) (a b : List ℕ) → worth i a < 4294967296 ^ i → get_or a i 0 < get_or b i 0 →
    worth (i + 1) a < worth (i + 1) b
word-decides i a b h l =
    rw (worth-next i a, worth-next i b)
    (higher-word (worth i a) (worth i b) (get_or a i 0) (get_or b i 0) (4294967296 ^ i) h l)

leb-shift : (P Q W : ℕ) → leb P Q ≡ leb (P + W) (Q + W)
leb-shift P Q W =
    ⊎_elim (λ h. le-leb P Q h ∙ sym (le-leb (P + W) (Q + W) (omega arith)))
    (λ h. lt-leb P Q h ∙ sym (lt-leb (P + W) (Q + W) (omega arith))) (le-or-lt P Q)

-- one more word of each settles the order, or leaves it
pub order-next :
    (i : ℕ) (a b : List ℕ) (before r : Bool) → worth i a < 4294967296 ^ i →
    worth i b < 4294967296 ^ i →
    before ≡ leb (worth i a) (worth i b) → Settled (get_or a i 0) (get_or b i 0) before r →
    r ≡ leb (worth (i + 1) a) (worth (i + 1) b)
order-next i a b before r ha hb inv s =
    ⊎_elim
    (λ h.
    ⊎_elim
    (λ q.
    s.level q ∙ inv ∙ leb-shift (worth i a) (worth i b) (get_or b i 0 * 4294967296 ^ i)
    ∙ ap₂ leb (ap (λ (w : ℕ). worth i a + w * 4294967296 ^ i) (sym q) ∙ sym (worth-next i a))
    (sym (worth-next i b)))
    (λ q.
    s.below q
    ∙ sym (le-leb (worth (i + 1) a) (worth (i + 1) b) (omega (arith, word-decides i a b ha q))))
    (eq-or-lt_of_le h))
    (λ h. s.above h ∙ sym (lt-leb (worth (i + 1) a) (worth (i + 1) b) (word-decides i b a hb h)))
    (le-or-lt (get_or a i 0) (get_or b i 0))

-- ---- the product of three powers

-- 1, in one word
pub first-holds : Holds (set (replicate 67 0) 0 1) 1 1
unfolding worth
first-holds = record { value = refl; small = omega arith }

pub product-is : (x y z : ℕ) → 1 * x * y * z ≡ x * (y * z)
product-is x y z = omega arith
