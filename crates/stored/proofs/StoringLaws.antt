-- Accounts are stored one after the other: those so far at the front, the next one at the front of
-- the bytes that are left.
use Rattle.frames.specs.declared.records.Refusal.{Refusal}
use Rattle.std.specs.Prelude.{Result}
use Prim.Native.Nat.{ℕ, ◌+◌, ◌-◌, ◌*◌, ◌≤◌, ◌<◌}
use mathlib.Core.Path.{◌≡◌, refl, sym, ap, subst, ◌∙◌}
use mathlib.Core.List.{List, [], ◌∷◌, ◌++◌, append-nil, append_assoc}
use native.Mathlib.Omega.{arith}
use native.Mathlib.Numerals.{add-one}
use borrow.Author.Tests.{le-ltb}
use lib.ListN.{length, get_or, take, drop, length-append, length-drop}
use lib.Seq.{drop_at, take-suc, drop-drop, length-take-le}
use Rattle.frames.specs.Answers.{accepted}
use Rattle.frames.specs.Buffer.{Prints}
use Rattle.account_spec.specs.declared.Account.{Account}
use Rattle.stored.specs.Packing.{total_width}
use Rattle.stored.specs.Layout.{widths, account_bytes}
use Rattle.stored.specs.RoundTrip.{TakenUp}
use Rattle.stored.proofs.AccountLaws.{account-length}
use Rattle.stored.specs.InBytes.{accounts_bytes, accounts_in}
use Rattle.stored.specs.steps.Listed.{TakenUpAll, StoresAll}
use Rattle.stored.proofs.PartLaws.{part-lent, part-back}

-- ---- the bytes of a list

pub accounts-length :
    (xs : List Account) → length (accounts_bytes xs) ≡ total_width widths * length xs
unfolding accounts_bytes
accounts-length [] = refl
accounts-length (a ∷ xs) = omega (
  arith,
  length-append (account_bytes a) (accounts_bytes xs),
  account-length a,
  accounts-length xs,
)

accounts-snoc :
    (xs : List Account) (a : Account) (rest : List ℕ) →
    accounts_bytes (xs ++ a ∷ []) ++ rest ≡ accounts_bytes xs ++ (account_bytes a ++ rest)
unfolding accounts_bytes
accounts-snoc [] a rest = ap (λ (l : List ℕ). l ++ rest) (append-nil (account_bytes a))
accounts-snoc (x ∷ xs) a rest =
    append_assoc (account_bytes x) (accounts_bytes (xs ++ a ∷ [])) rest
    ∙ ap (λ (l : List ℕ). account_bytes x ++ l) (accounts-snoc xs a rest)
    ∙ sym (append_assoc (account_bytes x) (accounts_bytes xs) (account_bytes a ++ rest))

taken-snoc :
    (xs : List Account) (a : Account) → TakenUpAll xs → TakenUp a → TakenUpAll (xs ++ a ∷ [])
taken-snoc [] a back one = (one, tt)
taken-snoc (x ∷ xs) a back one = (back.0, taken-snoc xs a back.1 one)

-- they are taken up as the list, whatever follows them
pub accounts-back :
    (xs : List Account) → TakenUpAll xs → (rest : List ℕ) →
    accounts_in (length xs) (accounts_bytes xs ++ rest) ≡ accepted xs
unfolding accounts_bytes accounts_in
accounts-back [] back rest = refl
accounts-back (a ∷ xs) back rest =
    let more = accounts_bytes xs ++ rest in
    rw (
      append_assoc,
      back.0.back more,
      drop_at (account_bytes a) more (total_width widths) (account-length a),
      accounts-back xs back.1 rest,
    )

-- ---- storing

pub stores-none : (l : List ℕ) → StoresAll [] l l
unfolding accounts_bytes
stores-none l = record { leaves = refl; back = tt }

-- an account into the bytes that are left
module _ (a : Account) (one : TakenUp a) where
  stored-part :
      (d e : List ℕ) (w : Result ℕ Refusal) → total_width widths ≤ length d →
      Prints (accepted (account_bytes a)) d w e → e ≡ account_bytes a ++ drop (total_width widths) d
  stored-part d e w h p =
      let size = account-length a in
      p.leaves ∙ rw (le-ltb (length d) (length (account_bytes a)) (omega arith), size)

  module _ (xs : List Account) (i : ℕ) (size : length xs ≡ i) (before l : List ℕ)
      (room : total_width widths * (i + 1) ≤ length before) (so_far : StoresAll xs before l) where
    abbrev at : ℕ
    at = total_width widths * i

    abbrev rest : List ℕ
    rest = drop at before

    stores-more :
        (e : List ℕ) (w : Result ℕ Refusal) →
        Prints (accepted (account_bytes a)) (take (length l - at) (drop at l)) w e
        → StoresAll (xs ++ a ∷ []) before (take at l ++ (e ++ drop (length l - at) (drop at l)))
    stores-more e w p =
        let front = accounts_bytes xs in
        let front-size : length front ≡ at =
        accounts-length xs ∙ ap (λ (n : ℕ). total_width widths * n) size in
        let left : l ≡ front ++ rest =
        so_far.leaves ∙ ap (λ (n : ℕ). front ++ drop (total_width widths * n) before) size in
        let long : total_width widths ≤ length rest = omega (arith, length-drop at before) in
        let lent : take (length l - at) (drop at l) ≡ rest =
        part-lent l at ∙ ap (drop at) left ∙ drop_at front rest at front-size in
        let put =
        stored-part rest e w long
        (subst (λ (d : List ℕ). Prints (accepted (account_bytes a)) d w e) lent p) in
        let back : take at l ++ (e ++ drop (length l - at) (drop at l)) ≡ front ++ e =
        rw left (part-back front rest e at front-size) in
        let after : total_width widths * i + total_width widths
        ≡ total_width widths * length (xs ++ a ∷ []) =
        omega (arith, length-append xs (a ∷ [])) in
        let past : drop (total_width widths) rest
        ≡ drop (total_width widths * length (xs ++ a ∷ [])) before =
        drop-drop (total_width widths) at before ∙ ap (λ (n : ℕ). drop n before) after in
        record {
          leaves =
              back ∙ ap (λ (d : List ℕ). front ++ d) put
              ∙ sym (accounts-snoc xs a (drop (total_width widths) rest))
              ∙ ap (λ (d : List ℕ). accounts_bytes (xs ++ a ∷ []) ++ d) past;
          back = taken-snoc xs a so_far.back one;
        }

-- the next of some accounts
pub stores-step :
    (xs : List Account) (i : ℕ) (none : Account) (before l e : List ℕ) (w : Result ℕ Refusal) →
    i < length xs → total_width widths * (i + 1) ≤ length before → StoresAll (take i xs) before l
    → Prints (accepted (account_bytes (get_or xs i none)))
    (take (length l - total_width widths * i) (drop (total_width widths * i) l)) w e →
    TakenUp (get_or xs i none)
    → StoresAll (take (i + 1) xs) before
    (take (total_width widths * i) l
    ++ (e ++ drop (length l - total_width widths * i) (drop (total_width widths * i) l)))
stores-step xs i none before l e w h room so_far p one =
    let all : take (i + 1) xs ≡ take i xs ++ get_or xs i none ∷ [] =
    rw add-one (take-suc xs i none h) in
    rw all
    (stores-more (get_or xs i none) one (take i xs) i
    (length-take-le i xs (omega arith)) before l room so_far e w p)
