-- Accounts are taken up one after the other: those so far, then those in the bytes that are left.
use Rattle.std.specs.Prelude.{Result, Ok, Err}
use Prim.Native.Nat.{ℕ, zero, suc, ◌+◌, ◌-◌, ◌*◌, ◌<◌}
use mathlib.Core.Path.{◌≡◌, refl, sym, ap, ◌∙◌}
use mathlib.Core.List.{List, [], ◌∷◌, ◌++◌, append-nil}
use native.Mathlib.Omega.{arith}
use native.Mathlib.Numerals.{add-one}
use lib.ListN.{length, set, take, drop}
use lib.Seq.{take_all, take-suc-set, drop-drop, append_snoc}
use Rattle.frames.specs.declared.records.Refusal.{Refusal}
use Rattle.frames.specs.Answers.{Outcome, accepted, refused, onward, row_of, outcome_of}
use Rattle.frames.proofs.AnswerLaws.{accepted-same, onward-passed}
use Rattle.account_spec.specs.declared.Account.{Account}
use Rattle.stored.specs.Packing.{total_width}
use Rattle.stored.specs.Layout.{widths, take_up_of}
use Rattle.stored.specs.InBytes.{accounts_in}
use Rattle.stored.proofs.PartLaws.{part-lent}

-- the accounts so far before those of an outcome
abbrev pub joined_to : List Account → Outcome (List Account) → Outcome (List Account)
joined_to front rest = onward rest (λ xs. accepted (front ++ xs))

joined-none : (o : Outcome (List Account)) → o ≡ joined_to [] o
joined-none (accepted xs) = refl
joined-none (refused w) = refl

pub taken_start : (n : ℕ) (l : List ℕ) → accounts_in n l ≡ joined_to [] (accounts_in (n - 0) l)
taken_start n l = let all : n - 0 ≡ n = omega arith in rw all (joined-none (accounts_in n l))

pub taken-end :
    (n i : ℕ) (l r : List ℕ) (xs : List Account) → i ≡ n → length xs ≡ n →
    accounts_in n l ≡ joined_to (take i xs) (accounts_in (n - i) r) → accepted xs ≡ accounts_in n l
unfolding accounts_in
taken-end n i l r xs all long so_far =
    let none : n - i ≡ 0 = omega arith in
    let whole : take i xs ≡ xs = take_all i xs (omega arith) in
    ap accepted (sym (append-nil (take i xs) ∙ whole))
    ∙ ap (λ (m : ℕ). joined_to (take i xs) (accounts_in m r)) (sym none) ∙ sym so_far

joined-more :
    (front : List Account) (a : Account) (o : Outcome (List Account)) →
    joined_to front (onward o (λ xs. accepted (a ∷ xs))) ≡ joined_to (front ++ a ∷ []) o
joined-more front a (accepted xs) = ap accepted (sym (append_snoc front a xs))
joined-more front a (refused w) = refl

-- as many accounts as were asked for
pub taken-length :
    (n : ℕ) (l : List ℕ) (xs : List Account) → accounts_in n l ≡ accepted xs → length xs ≡ n
unfolding accounts_in
taken-length zero l xs e = ap length (sym (accepted-same e))
taken-length (suc n) l xs e =
    let first = onward-passed (take_up_of l) _ xs e in
    let rest = onward-passed (accounts_in n (drop (total_width widths) l)) _ xs first.2 in
    ap length (sym (accepted-same rest.2))
    ∙ ap suc (taken-length n (drop (total_width widths) l) rest.0 rest.1)

module _ (l : List ℕ) (n i : ℕ) (room : i < n) where
  abbrev left : List ℕ
  left = drop (total_width widths * i) l

  abbrev next : Outcome (List Account)
  next = accounts_in (n - (i + 1)) (drop (total_width widths * (i + 1)) l)

  in_step :
      accounts_in (n - i) left
      ≡ onward (take_up_of left) (λ a. onward next (λ xs. accepted (a ∷ xs)))
  unfolding accounts_in
  in_step =
      let one : n - i ≡ suc (n - (i + 1)) = omega arith in
      let at : total_width widths * i + total_width widths ≡ total_width widths * (i + 1) =
      omega arith in
      ap (λ (m : ℕ). accounts_in m left) one
      ∙ ap
      (λ (k : List ℕ).
      onward (take_up_of left)
      (λ a. onward (accounts_in (n - (i + 1)) k) (λ xs. accepted (a ∷ xs))))
      (drop-drop (total_width widths) (total_width widths * i) l ∙ ap (λ (m : ℕ). drop m l) at)

  -- by what the bytes that are left hold at their front
  module _ (xs : List Account)
      (so_far : accounts_in n l ≡ joined_to (take i xs) (accounts_in (n - i) left))
      (held : Result Account Refusal)
      (taken : outcome_of held ≡ take_up_of (take (length l - total_width widths * i) left)) where
    by-held :
        accounts_in n l
        ≡ joined_to (take i xs)
        (onward (outcome_of held) (λ a. onward next (λ ys. accepted (a ∷ ys))))
    by-held =
        let is : take_up_of left ≡ outcome_of held =
        ap take_up_of (sym (part-lent l (total_width widths * i))) ∙ sym taken in
        so_far
        ∙ ap (joined_to (take i xs))
        (in_step
        ∙ ap (λ (o : Outcome Account). onward o (λ a. onward next (λ ys. accepted (a ∷ ys)))) is)

    pub taken_step :
        (a : Account) → held ≡ Ok a → i < length xs →
        accounts_in n l ≡ joined_to (take (i + 1) (set xs i a)) next
    taken_step a e h =
        let all : take (i + 1) (set xs i a) ≡ take i xs ++ a ∷ [] =
        rw add-one (take-suc-set xs i a h) in
        rw e at by-held ∙ joined-more (take i xs) a next
        ∙ ap (λ (ys : List Account). joined_to ys next) (sym all)

    pub taken_none : (why : Refusal) → held ≡ Err why → refused (row_of why) ≡ accounts_in n l
    taken_none why e = sym (rw e at by-held)
