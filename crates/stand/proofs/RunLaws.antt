-- Every account of a list ends as if it alone had been fed the lines that the list accepted,
-- whatever trees share the list.
use Rattle.frames.specs.declared.records.Refusal.{Refusal}
use Rattle.std.proofs.lemmas.Bool.Decides.{nat_tests}
use Rattle.std.specs.Prelude.{Result, Ok, Err}
use Prim.Native.Nat.{ℕ}
use mathlib.Core.Path.{◌≡◌, refl, sym, ◌∙◌}
use mathlib.Core.List.{List, ◌∷◌}
use native.Mathlib.Omega.{arith}
use Rattle.frames.specs.Answers.{accepted, refused, row_of, outcome_of}
use Rattle.frames.proofs.AnswerLaws.{accepted-same}
use Rattle.account_spec.specs.declared.Account.{Account}
use Rattle.account_spec.specs.Rules.{feed_of}
use Rattle.account_spec.specs.Reading.{read_of}
use Rattle.account_spec.specs.Runs.{TakesAll}
use Rattle.stand.specs.Together.{together, Each}
use Rattle.stand.specs.Feeding.{feed_all_of, FeedsAll}
use Rattle.stand.specs.Runs.{LineFed, ListRun, stop, feeds, accepted_in}
use Rattle.stand.specs.Promise.{At}
use Rattle.stand.proofs.TogetherLaws.{each_same, each-through, together-is}

-- ---- one line

-- each account takes the line by itself
abbrev AllFed : List ℕ → List Account → List Account → Type 0
AllFed l xs ys = Each (λ a b. feed_of a l ≡ accepted b) xs ys

pub accepted-each :
    (xs ys : List Account) (l : List ℕ) → feed_all_of xs l ≡ accepted ys → AllFed l xs ys
unfolding feed_all_of
accepted-each xs ys l e =
    let all : together (λ a. feed_of a l) xs ≡ accepted ys = grind (arith, nat_tests) in
    (together-is (λ a. feed_of a l) xs).all ys all

pub accepted-fed : (xs ys : List Account) (l : List ℕ) → FeedsAll xs l (Ok tt) ys → AllFed l xs ys
accepted-fed xs ys l k = grind (arith, k, accepted-each)

pub refused-same :
    (xs ys : List Account) (l : List ℕ) (r : Result Unit Refusal) → FeedsAll xs l r ys →
    (w : ℕ × ℕ) → outcome_of r ≡ refused w → ys ≡ xs
refused-same xs ys l r k w e = grind (arith, k)

-- ---- a run

-- one line, before the rest
line-alone :
    (xs ys zs : List Account) (l : List ℕ) (es : List LineFed) (r : Result Unit Refusal) →
    FeedsAll xs l r ys → Each (λ a b. TakesAll a (accepted_in es) b) ys zs →
    Each (λ a b. TakesAll a (accepted_in (record { line = l; reply = r } ∷ es)) b) xs zs
unfolding accepted_in
line-alone xs ys zs l es (Ok tt) k rest =
    each-through (λ a b c fed more. TakesAll.line fed more) (accepted-fed xs ys l k) rest
line-alone xs ys zs l es (Err r) k rest = rw (← refused-same xs ys l (Err r) k (row_of r) refl) rest

pub run_alone :
    (xs ys : List Account) (es : List LineFed) → ListRun xs es ys →
    Each (λ a b. TakesAll a (accepted_in es) b) xs ys
unfolding accepted_in
run_alone xs ys es stop = each_same (λ a. TakesAll.none) xs
run_alone xs ys es (feeds {ys = zs} {fed = line-fed} {es = rest} k run) =
    line-alone xs zs ys line-fed.line rest line-fed.reply k (run_alone zs ys rest run)

-- ---- an account of it

at_each :
    {A : Type 0} {R : A → A → Type 0} {a b : A} {xs ys : List A} → At a b xs ys →
    Each R xs ys → R a b
at_each At.here (Each.more r rs) = r
at_each (At.later k) (Each.more r rs) = at_each k rs

pub at-alone :
    (xs ys : List Account) (es : List LineFed) → ListRun xs es ys → (a b : Account) → At a b xs ys →
    TakesAll a (accepted_in es) b
at-alone xs ys es run a b k = at_each k (run_alone xs ys es run)

alone-unique : {a b d : Account} {ls : List (List ℕ)} → TakesAll a ls b → TakesAll a ls d → b ≡ d
alone-unique TakesAll.none TakesAll.none = refl
alone-unique (TakesAll.line e p) (TakesAll.line f q) =
    alone-unique p (rw (accepted-same (sym e ∙ f)) q)

pub run-shared :
    (xs ys zs ws : List Account) (es fs : List LineFed) → ListRun xs es ys → ListRun zs fs ws →
    accepted_in es ≡ accepted_in fs →
    (a b d : Account) → At a b xs ys → At a d zs ws → (b ≡ d) × (read_of b ≡ read_of d)
run-shared xs ys zs ws es fs run other same a b d k j = grind (arith, at-alone, alone-unique)
