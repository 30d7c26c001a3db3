-- What holds of every list of lines fed to a list of accounts ("Several trees, one reading").
use Rattle.std.specs.Prelude.{ℕ, ◌≡◌, true, false, List, [], ◌∷◌, ◌++◌, map, ◌↔◌, length, Result}
use Rattle.account_spec.specs.declared.Totals.{Totals}
use Rattle.frames.specs.declared.records.Refusal.{Refusal}
use Rattle.frames.specs.Answers.{Outcome, accepted, refused, outcome_of}
use Rattle.account_spec.specs.declared.Account.{Account}
use Rattle.account_spec.specs.Account.{fresh_account}
use Rattle.account_spec.specs.Rules.{feed_of}
use Rattle.account_spec.specs.Reading.{read_of, Reads}
use Rattle.account_spec.specs.Book.{empty_book}
use Rattle.account_spec.specs.Runs.{Event, taken, Run, line, calls_of, replies_of, account_after}
use Rattle.account_spec.specs.Runs.{TakesAll}
use Rattle.account_spec.specs.Promise.{Kept, acceptances}
use Rattle.stand.specs.Together.{Each, FirstRefuses, Together}
use Rattle.stand.specs.Alike.{common_numbers, unlike}
use Rattle.stand.specs.Feeding.{size_out, any_impossible, FeedsAll}
use Rattle.stand.specs.Runs.{LineFed, ListRun, accepted_in}

-- an account at a place of a list before, and at the same place after
pub data At {A : Type 0} (a b : A) : List A → List A → Type 0 where
  here : {xs ys : List A} → At a b (a ∷ xs) (b ∷ ys)
  later : {c d : A} {xs ys : List A} → At a b xs ys → At a b (c ∷ xs) (d ∷ ys)

-- an account of a list
pub data In {A : Type 0} (a : A) : List A → Type 0 where
  here : {xs : List A} → In a (a ∷ xs)
  later : {b : A} {xs : List A} → In a xs → In a (b ∷ xs)

-- ---- one line

pub record LineTogether (xs : List Account) (l : List ℕ) (r : Result Unit Refusal)
    (ys : List Account) : Type 0 where
  -- rows 22, 13 and 23, in that order
  pub size : size_out (length xs) ≡ true → outcome_of r ≡ refused (22, 0)
  pub possible :
      size_out (length xs) ≡ false → any_impossible xs ≡ true → outcome_of r ≡ refused (13, 0)
  pub alike :
      size_out (length xs) ≡ false → any_impossible xs ≡ false → unlike xs ≡ true →
      outcome_of r ≡ refused (23, 0)
  -- past them a line that each takes is accepted, and each is what it alone would be
  pub all :
      size_out (length xs) ≡ false → any_impossible xs ≡ false → unlike xs ≡ false →
      (zs : List Account) → Each (λ a b. feed_of a l ≡ accepted b) xs zs →
      (outcome_of r ≡ accepted tt) × (ys ≡ zs)
  -- else the first that refuses gives its number
  pub first :
      size_out (length xs) ≡ false → any_impossible xs ≡ false → unlike xs ≡ false → (w : ℕ × ℕ) →
      FirstRefuses (λ a. feed_of a l) w xs →
      outcome_of r ≡ refused w
  -- refused by one it is refused for all
  pub one :
      (a : Account) → In a xs → (w : ℕ × ℕ) → feed_of a l ≡ refused w →
      (v : ℕ × ℕ) × (outcome_of r ≡ refused v)
  -- and none changes
  pub unchanged : (w : ℕ × ℕ) → outcome_of r ≡ refused w → ys ≡ xs

-- ---- the season's promise ("The book") for an account of a list

-- a run of its own, from a fresh account on, that ends in an account
pub record Begun (a : Account) : Type 0 where
  pub events : List Event
  pub run : Run fresh_account events
  pub ends : account_after fresh_account events ≡ a

-- a run, of which the season's promise holds
pub record RunKept (es : List Event) : Type 0 where
  pub run : Run fresh_account es
  pub kept : Kept fresh_account empty_book es

-- the account's own run goes on with the lines that the list accepted, each accepted; the season's
-- promise holds of it, and with any reading then
pub record Continued (a : Account) (own : Begun a) (ls : List (List ℕ)) (b : Account) : Type 0 where
  pub more : List Event
  pub calls : calls_of more ≡ map line ls
  pub replies : replies_of more ≡ acceptances (length ls)
  pub ends : account_after fresh_account (own.events ++ more) ≡ b
  pub kept : RunKept (own.events ++ more)
  pub read : (r : Result Totals Refusal) → Reads b r → RunKept (own.events ++ more ++ taken r ∷ [])

pub record ListPromise : Type 0 where
  -- a list and any step: all take it, or the first that refuses answers
  pub step : (step : Account → Outcome Account) (xs : List Account) → Together step xs
  -- row 23 comes up exactly where two accounts differ in one of the seven things
  pub alike :
      (xs : List Account) →
      (unlike xs ≡ false)
      ↔ ((a b : Account) → In a xs → In b xs → common_numbers a ≡ common_numbers b)
  pub line :
      (xs ys : List Account) (l : List ℕ) (r : Result Unit Refusal) → FeedsAll xs l r ys →
      LineTogether xs l r ys
  -- every account ends as if it alone had been fed the lines that the list accepted
  pub alone :
      (xs ys : List Account) (es : List LineFed) → ListRun xs es ys →
      Each (λ a b. TakesAll a (accepted_in es) b) xs ys
  -- its reading does not depend on which trees share the list, for the same accepted lines
  pub shared :
      (xs ys zs ws : List Account) (es fs : List LineFed) → ListRun xs es ys → ListRun zs fs ws →
      accepted_in es ≡ accepted_in fs →
      (a b d : Account) → At a b xs ys → At a d zs ws → (b ≡ d) × (read_of b ≡ read_of d)
  -- an account that was begun by a run of its own keeps the season's promise
  pub season :
      (xs ys : List Account) (es : List LineFed) → ListRun xs es ys → (a b : Account) →
      At a b xs ys → (own : Begun a) → Continued a own (accepted_in es) b
