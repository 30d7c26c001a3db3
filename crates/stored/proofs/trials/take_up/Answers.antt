-- `stored::trials::take_up` meets its contract.
use Rattle.frames.specs.Answers.{outcome_of}
use Rattle.account_spec.specs.declared.Account.{Account}
use Rattle.frames.specs.declared.records.Refusal.{Refusal}
use Rattle.std.specs.Prelude.{Option, Result, Err}
use Rattle.std.proofs.lemmas.List.{get_or-take}
use lib.Seq.{drop-drop}
use Rattle.stored.specs.Packing.{big_endian_at}
use Rattle.stored.specs.Code.{coded_as, coded_of}
use borrow.Author.Rules.{rules}
use mathlib.Core.List.{List}
use Prim.Native.Nat.{ℕ, ◌+◌, ◌-◌, ◌*◌}
use Rattle.stored.proofs.HeldLaws.{taken-room}
use mathlib.Core.Path.{◌≡◌, sym, ap, ◌∙◌}
use native.Mathlib.Omega.{arith}
use lib.ListN.{length, get_or, take, drop}
use Rattle.stored.specs.Layout.{account_width, take_up_of}
use Rattle.stored.specs.TrialLayout.{code_width}
use Rattle.stored.proofs.TrialPartLaws.{part-is}
use Rattle.stored.proofs.ContentsLaws.{holds-none, none-in-first, none-in-second, none-in-code}
use Rattle.stored.proofs.ContentsLaws.{contents-short, holds-trial, holds-in}
use Rattle.stored.proofs.TrialRoundTripLaws.{trial-stored-back}
use Rattle.stored.proofs.trials.take_up.Goals as goal

pub returns-in_default : goal.returns-in_default
returns-in_default c = let l = c.args.bytes.now in
    record {
      holds = holds-none _ _ (contents-short l (omega (arith, c.in_default.ensures.cases)));
      same = trial-stored-back l (λ i. omega (arith, c.type_inv.bytes i));
    }

-- what the accounts' bytes hold, by what taking them up gave
module _ (l accounts : List ℕ) (rest : accounts ≡ drop code_width l) where
  first-in :
      (given held : Result Account Refusal) → outcome_of given ≡ take_up_of accounts →
      given ≡ held → take_up_of (drop code_width l) ≡ outcome_of held
  first-in given held is e = ap take_up_of (sym rest) ∙ sym is ∙ ap outcome_of e

  second-in :
      (given held : Result Account Refusal) →
      outcome_of given
      ≡ take_up_of (take (length accounts - account_width) (drop account_width accounts)) →
      given ≡ held
      → take_up_of (drop (code_width + account_width) l) ≡ outcome_of held
  second-in given held is e =
      ap take_up_of
      (sym (part-is account_width accounts ∙ ap (λ (k : List ℕ). drop account_width k) rest
      ∙ drop-drop account_width code_width l))
      ∙ sym is
      ∙ ap outcome_of e

code-in :
    (l code : List ℕ) → code ≡ take code_width l → (coded : Option (Result Unit Refusal)) →
    coded_as coded ≡ coded_of (big_endian_at code_width 0 code) →
    coded_as coded ≡ coded_of (big_endian_at code_width 0 l)
unfolding big_endian_at
code-in l code e coded is =
    let first : get_or (take 2 l) 0 0 ≡ get_or l 0 0 = get_or-take 2 l 0 0 (omega arith) in
    let second : get_or (take 2 l) 1 0 ≡ get_or l 1 0 = get_or-take 2 l 1 0 (omega arith) in
    is ∙ ap (λ (k : List ℕ). coded_of ((0 * 256 + get_or k 0 0) * 256 + get_or k 1 0)) e
    ∙ ap (λ (n : ℕ). coded_of ((0 * 256 + n) * 256 + get_or (take 2 l) 1 0)) first
    ∙ ap (λ (n : ℕ). coded_of ((0 * 256 + get_or l 0 0) * 256 + n)) second

pub returns-in_err-named : goal.returns-in_err-named
returns-in_err-named c = let l = c.args.bytes.now in
    let none = c.in_err-named.ensures.ok_part in
    let row = rw none at c.in_err-named.ensures.value in
    let e : c.from_residual.result ≡ Err c.in_err-named.field-0.0 = search rules in
    let why : c.in_err-named.field-0.0 ≡ Refusal.Account = cc row in
    record {
      holds =
          rw (e, why)
          (holds-none _ _
          (none-in-code l _ (code-in l _ c.in-Some.ensures.cases.0 _ c.named_in.ensures) none));
      same = trial-stored-back l (λ i. omega (arith, c.type_inv.bytes i));
    }

pub returns-in_err-tried : goal.returns-in_err-tried
returns-in_err-tried c = let l = c.args.bytes.now in
    let e : c.from_residual-in_err-tried.result ≡ Err c.in_err-tried.field-0.0 = search rules in
    record {
      holds =
          rw e
          (holds-none _ _
          (none-in-first l _
          (first-in l _ c.in-Some.ensures.cases.1 _ _ c.take_up.ensures.result_value
          c.in_err-tried.was)));
      same = trial-stored-back l (λ i. omega (arith, c.type_inv.bytes i));
    }

pub returns-in_err-next : goal.returns-in_err-next
returns-in_err-next c = let l = c.args.bytes.now in
    let e : c.from_residual-in_err-next.result ≡ Err c.in_err-next.field-0.0 = search rules in
    record {
      holds =
          rw e
          (holds-none _ _
          (none-in-second l _
          (second-in l _ c.in-Some.ensures.cases.1 _ _ c.take_up-2.ensures.result_value
          c.in_err-next.was)));
      same = trial-stored-back l (λ i. omega (arith, c.type_inv.bytes i));
    }

pub returns : goal.returns
returns c = let l = c.args.bytes.now in
    let first =
    first-in l _ c.in-Some.ensures.cases.1 _ _ c.take_up.ensures.result_value c.in_ok-tried.was in
    let second =
    second-in l _ c.in-Some.ensures.cases.1 _ _ c.take_up-2.ensures.result_value c.in_ok-next.was in
    record {
      holds =
          holds-in _ _ _ _ first second
          (holds-trial _ _ _ _ (code-in l _ c.in-Some.ensures.cases.0 _ c.named_in.ensures) _ _ _
          c.in_ok-named.ensures.ok_part c.answer_with.ensures.code c.answer_with.ensures.next
          c.with_reading.ensures.is c.with_reading.ensures.reading);
      same = trial-stored-back l (λ i. omega (arith, c.type_inv.bytes i));
    }

-- there are bytes after the first account
pub slice_bounds-take_up-count : goal.slice_bounds-take_up-count
slice_bounds-take_up-count c = omega (
  arith,
  taken-room _ _ (sym c.take_up.ensures.result_value ∙ ap outcome_of c.in_ok-tried.was),
)

pub slice_bounds-take_up-start : goal.slice_bounds-take_up-start
slice_bounds-take_up-start c = omega (
  arith,
  taken-room _ _ (sym c.take_up.ensures.result_value ∙ ap outcome_of c.in_ok-tried.was),
)
