-- An account at a place of bytes that hold several: a line that all take is one that it takes.
use Rattle.std.specs.Prelude.{Result}
use Rattle.frames.specs.declared.records.Refusal.{Refusal}
use Prim.Native.Nat.{ℕ, zero, suc, ◌*◌, ◌≤◌, ◌<◌}
use mathlib.Core.Path.{◌≡◌, sym, ap, subst, ◌∙◌}
use mathlib.Core.List.{List, [], ◌∷◌}
use native.Mathlib.Omega.{arith}
use lib.ListN.{length, drop, length-drop}
use lib.Seq.{drop-drop}
use Rattle.frames.specs.Answers.{accepted, refused, reply as reply_of}
use Rattle.frames.proofs.AnswerLaws.{accepted-same, row-passed, onward-passed}
use Rattle.account_spec.specs.declared.Account.{Account}
use Rattle.account_spec.specs.Rules.{feed_of}
use Rattle.stored.specs.Layout.{account_width, take_up_of}
use Rattle.stored.proofs.HeldLaws.{taken-room}
use Rattle.stand.specs.Together.{left_together, Each}
use Rattle.stand.specs.Feeding.{size_out}
use Rattle.stand.proofs.RunLaws.{accepted-fed}
use Rattle.stored.specs.InBytes.{accounts_in, count_in, list_in}
use Rattle.stored.specs.Feeding.{fed_listed_of, listed_after, FeedsListed}
use Rattle.part.specs.Told.{at_place}
use Rattle.part.proofs.HeldLaws.{lent-held, front-held}

-- the account at a place of two lists of accounts in bytes
record Both (R : Account → Account → Type 0) (l m : List ℕ) : Type 0 where
  before : Account
  after : Account
  held : take_up_of l ≡ accepted before
  holds : take_up_of m ≡ accepted after
  both : R before after

place-on : (i : ℕ) (l : List ℕ)
    → drop (account_width * i) (drop account_width l) ≡ drop (account_width * suc i) l
place-on i l =
    drop-drop (account_width * i) account_width l ∙ ap (λ (n : ℕ). drop n l) (omega arith)

each-head : {R : Account → Account → Type 0} {a b : Account} {xs ys : List Account}
    → Each R (a ∷ xs) (b ∷ ys) → R a b × Each R xs ys
each-head (Each.more r rs) = (r, rs)

each-none : {A : Type 0} {R : Account → Account → Type 0} {a : Account} {xs : List Account}
    → Each R (a ∷ xs) [] → A
each-none k = elim k [ ]

-- the first of the accounts that bytes hold, and those behind it
record First (n : ℕ) (l : List ℕ) (xs : List Account) : Type 0 where
  account : Account
  rest : List Account
  held : take_up_of l ≡ accepted account
  behind : accounts_in n (drop account_width l) ≡ accepted rest
  is : account ∷ rest ≡ xs

first-in : (n : ℕ) (l : List ℕ) (xs : List Account) → accounts_in (suc n) l ≡ accepted xs
    → First n l xs
unfolding accounts_in
first-in n l xs e =
    let first = onward-passed (take_up_of l) _ xs e in
    let rest = onward-passed (accounts_in n (drop account_width l)) _ xs first.2 in
    record
    { account = first.0; rest = rest.0; held = first.1; behind = rest.1; is = accepted-same rest.2 }

none_in : (l : List ℕ) (ys : List Account) → accounts_in 0 l ≡ accepted ys → [] ≡ ys
unfolding accounts_in
none_in l ys e = accepted-same e

each-first : {R : Account → Account → Type 0} {n m : ℕ} {l k : List ℕ} {xs ys : List Account}
    → (a : First n l xs) (b : First m k ys) → Each R xs ys →
    R a.account b.account × Each R a.rest b.rest
each-first {R} {xs = xs} a b each =
    each-head
    (subst (λ (zs : List Account). Each R zs (b.account ∷ b.rest)) (sym a.is)
    (subst (Each R xs) (sym b.is) each))

each-at : (R : Account → Account → Type 0) (i n m : ℕ) (l k : List ℕ) (xs ys : List Account)
    → accounts_in n l ≡ accepted xs → accounts_in m k ≡ accepted ys
    → Each R xs ys → i < n → Both R (drop (account_width * i) l) (drop (account_width * i) k)
each-at R i zero m l k xs ys e f each h = absurd (omega arith)
each-at R i (suc n) zero l k xs ys e f each h =
    let a = first-in n l xs e in
    each-none
    (subst (λ (zs : List Account). Each R zs []) (sym a.is)
    (subst (Each R xs) (sym (none_in k ys f)) each))
each-at R zero (suc n) (suc m) l k xs ys e f each h =
    let a = first-in n l xs e in
    let b = first-in m k ys f in
    let heads = each-first a b each in
    record { before = a.account; after = b.account; held = a.held; holds = b.held; both = heads.0 }
each-at R (suc i) (suc n) (suc m) l k xs ys e f each h =
    let a = first-in n l xs e in
    let b = first-in m k ys f in
    let heads = each-first a b each in
    let rest =
    each-at R i n m (drop account_width l) (drop account_width k) a.rest b.rest a.behind
    b.behind heads.1 (omega arith) in
    subst (λ (d : List ℕ). Both R d (drop (account_width * suc i) k)) (place-on i l)
    (subst (λ (d : List ℕ). Both R (drop (account_width * i) (drop account_width l)) d)
    (place-on i k) rest)

-- ---- a line fed to all

module _ (lent line after : List ℕ) (reply : Result Unit Refusal)
    (k : FeedsListed lent line reply after) (i : ℕ) (a : Account)
    (held : take_up_of (at_place i lent) ≡ accepted a) where
  from-place : take_up_of (drop (account_width * i) lent) ≡ accepted a
  from-place = lent-held (drop (account_width * i) lent) a held

  in_list : i < count_in lent
  in_list =
      let room : account_width ≤ length (drop (account_width * i) lent) =
      taken-room (drop (account_width * i) lent) a from-place in
      omega (arith, room, length-drop (account_width * i) lent)

  pub place-taken : (ys : List Account) → fed_listed_of lent line ≡ accepted ys
      → (b : Account) × (feed_of a line ≡ accepted b) × (take_up_of (at_place i after) ≡ accepted b)
  unfolding fed_listed_of
  place-taken ys e =
      let size = row-passed (size_out (count_in lent)) _ _ ys e in
      let list = onward-passed (list_in lent) _ ys size.1 in
      let each =
      accepted-fed list.0 ys line
      (record {
        answers = ap reply_of (sym list.2);
        leaves = ap (left_together list.0) (sym list.2);
      })
      in
      let here =
      each-at (λ x y. feed_of x line ≡ accepted y) i (count_in lent) (count_in after) lent after
      list.0 ys list.1 (k.holds ys e) each in_list in
      let same : here.before ≡ a = accepted-same (sym here.held ∙ from-place) in (
        here.after,
        subst (λ (x : Account). feed_of x line ≡ accepted here.after) same here.both,
        front-held (drop (account_width * i) after) here.after here.holds,
      )

  pub place-kept : (w : ℕ × ℕ) → fed_listed_of lent line ≡ refused w
      → take_up_of (at_place i after) ≡ accepted a
  place-kept w e =
      ap (λ (l : List ℕ). take_up_of (at_place i l)) (k.leaves ∙ ap (listed_after lent) e) ∙ held
