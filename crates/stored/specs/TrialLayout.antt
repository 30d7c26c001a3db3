-- A trial as bytes ("Trials"): the code of its answer, the account tried and the account that would
-- follow. Its reading is left out: it is that of the account that would follow.
use Rattle.std.specs.Prelude.{ℕ, ◌+◌, ◌≡◌, not, List, ◌++◌, drop, Result, Ok, Err}
use Rattle.frames.specs.declared.records.Refusal.{Refusal}
use Rattle.frames.specs.Answers.{Outcome, accepted, refused, row, onward, row_of}
use Rattle.account_spec.specs.declared.Account.{Account}
use Rattle.account_spec.specs.Rules.{fed_as, left_by}
use Rattle.account_spec.specs.Reading.{Reads}
use Rattle.stored.specs.Packing.{big_endian, big_endian_at}
use Rattle.stored.specs.Layout.{account_width, account_bytes, take_up_of}
use Rattle.stored.specs.Code.{code_of, is_code, named_answer}
use Rattle.trial.specs.declared.Trial.{Trial}

-- what a trial's bytes hold
pub record Contents : Type 0 where
  pub code : ℕ
  pub tried : Account
  pub next : Account

abbrev pub contents_of : Trial → Contents
contents_of t =
    record { code = code_of (fed_as t.answer); tried = t.tried; next = left_by t.answer }

-- the answer that they carry: the account that would follow, or the code's row
abbrev pub answer_carried : Contents → Outcome Account
answer_carried c = named_answer c.code c.next

-- ---- bytes: code 2 | tried 88 | next 88

abbrev pub code_width : ℕ
code_width = 2

-- the bytes of a trial: 178
abbrev pub trial_width : ℕ
trial_width = code_width + account_width + account_width

unfoldable pub trial_bytes : Contents → List ℕ
trial_bytes c = big_endian code_width c.code (account_bytes c.tried ++ account_bytes c.next)

-- row 13 where the number is no code, or an account's bytes are too few or hold none
unfoldable pub contents_in : List ℕ → Outcome Contents
contents_in l =
    let code = big_endian_at code_width 0 l in
    row 13 (not (is_code code))
    (onward (take_up_of (drop code_width l)) (λ tried.
    onward (take_up_of (drop (code_width + account_width) l)) (λ next.
    accepted (record { code = code; tried = tried; next = next }))))

-- ---- what taking up gives

abbrev pub held_as : Result Trial Refusal → Outcome Contents
held_as (Ok t) = accepted (contents_of t)
held_as (Err r) = refused (row_of r)

-- a trial with these contents, or their refusal; a trial's reading is that of the account that
-- would follow
pub record HoldsTrial (contents : Outcome Contents) (held : Result Trial Refusal) : Type 0 where
  pub answers : held_as held ≡ contents
  pub reading : (t : Trial) → held ≡ Ok t → Reads (left_by t.answer) t.reading
