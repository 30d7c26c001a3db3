-- Lists of lines fed to a list of accounts ("Several trees, one reading").
use Rattle.std.specs.Prelude.{ℕ, List, [], ◌∷◌, Result, Ok, Err}
use Rattle.frames.specs.declared.records.Refusal.{Refusal}
use Rattle.account_spec.specs.declared.Account.{Account}
use Rattle.stand.specs.Feeding.{FeedsAll}

-- a line fed, with its reply
pub record LineFed : Type 0 where
  pub line : List ℕ
  pub reply : Result Unit Refusal

-- each call gets the list that the one before left; each reply is tied by what `feed_all` promises,
-- and by nothing else
pub data ListRun : List Account → List LineFed → List Account → Type 0 where
  stop : {xs : List Account} → ListRun xs [] xs
  feeds :
      {xs ys zs : List Account} {fed : LineFed} {es : List LineFed} →
      FeedsAll xs fed.line fed.reply ys → ListRun ys es zs → ListRun xs (fed ∷ es) zs

-- the lines that the list accepted
abbrev where_accepted : Result Unit Refusal → List ℕ → List (List ℕ) → List (List ℕ)
where_accepted (Ok tt) l ls = l ∷ ls
where_accepted (Err r) l ls = ls

unfoldable pub accepted_in : List LineFed → List (List ℕ)
accepted_in [] = []
accepted_in (fed ∷ es) = where_accepted fed.reply fed.line (accepted_in es)
