-- Taking a trial, any whatever ("Trials"): row 13 on the account handed in, row 16, then what the
-- trial carries.
use Rattle.std.specs.Prelude.{not}
use Rattle.frames.specs.Answers.{Outcome, accepted, refused, row}
use Rattle.account_spec.specs.declared.Account.{Account}
use Rattle.account_spec.specs.Account.{impossible}
use Rattle.account_spec.specs.Rules.{fed_as, Answers, Fed}
use Rattle.trial.specs.declared.Trial.{Trial}
use Rattle.trial.specs.Same.{is_same}

-- the answer that it carries: its refusal; its account, or row 13 where that is impossible
abbrev pub answer_in : Outcome Account → Outcome Account
answer_in (accepted b) = row 13 (impossible b) (accepted b)
answer_in (refused w) = refused w

-- a trial of the account `tried` that carries this answer; row 16: the account differs from the
-- tried one in any field
unfoldable pub take_with : Account → Account → Outcome Account → Outcome Account
take_with a tried answer = row 13 (impossible a) (row 16 (not (is_same a tried)) (answer_in answer))

unfoldable pub take_of : Account → Trial → Outcome Account
take_of a t = take_with a t.tried (fed_as t.answer)

-- what `take` promises; a refusal leaves the account handed in
abbrev pub TakesTrial : Account → Trial → Fed → Type 0
TakesTrial a t r = Answers a (take_of a t) r
