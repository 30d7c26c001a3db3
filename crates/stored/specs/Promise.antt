-- What holds of every list of lines fed to a list of accounts that stands in bytes: it is a run of
-- that list, of which `ListPromise` speaks.
use Rattle.std.specs.Prelude.{ℕ, ◌≡◌, List, [], ◌∷◌}
use Rattle.frames.specs.Answers.{accepted}
use Rattle.account_spec.specs.declared.Account.{Account}
use Rattle.stand.specs.Runs.{LineFed, ListRun}
use Rattle.stand.specs.Promise.{ListPromise}
use Rattle.stored.specs.InBytes.{list_in}
use Rattle.stored.specs.Feeding.{FeedsListed}

-- each call gets the bytes that the one before left, and nothing else writes them; each reply is
-- tied by what `feed_all` promises, and by nothing else
pub data ListedRun : List ℕ → List LineFed → List ℕ → Type 0 where
  stop : {b : List ℕ} → ListedRun b [] b
  feeds :
      {b after left : List ℕ} {fed : LineFed} {es : List LineFed} →
      FeedsListed b fed.line fed.reply after → ListedRun after es left → ListedRun b (fed ∷ es) left

-- bytes that hold what a run of the list leaves, with these lines and replies
pub record HoldsRun (xs : List Account) (es : List LineFed) (left : List ℕ) : Type 0 where
  pub accounts : List Account
  pub held : list_in left ≡ accepted accounts
  pub run : ListRun xs es accounts

pub record ListedPromise : Type 0 where
  pub list : ListPromise
  -- lines fed to bytes that hold a list are a run of that list
  pub runs :
      (b left : List ℕ) (es : List LineFed) → ListedRun b es left → (xs : List Account) →
      list_in b ≡ accepted xs → HoldsRun xs es left
