-- `pod1::digits::number` meets its contract: the digits that are left say after the number held
-- what the word says.
use Rattle.std.proofs.Common.{ℕ, arith, rules, sym, ◌∙◌, ap, ◌≡◌, ◌+◌, ◌-◌, ◌*◌, min, get_or, drop}
use Rattle.pod1.specs.Number.{greatest_number, said_after}
use Rattle.pod1.proofs.NumberLaws.{number_of-start, number_of-empty, said_after-end}
use Rattle.pod1.proofs.NumberLaws.{said_after-digit, said_after-other, said_after-saturated}
use Rattle.pod1.proofs.digits.number.Goals as goal

pub returns-then-is_empty : goal.returns-then-is_empty
returns-then-is_empty c = sym (number_of-empty c.args.word.now (grind arith))

pub loop-c-init : goal.loop-c-init
loop-c-init c = (omega arith, sym (number_of-start c.args.word.now (grind arith)))

pub returns-then-not-is_ascii_digit : goal.returns-then-not-is_ascii_digit
returns-then-not-is_ascii_digit c =
    sym (said_after-other c.loop-c.held c.args.word.now c.loop-c.c-index c.loop-c-test.true
    (search rules))
    ∙ c.loop-c.invariant.1

pub loop-c-preserved : goal.loop-c-preserved
loop-c-preserved c = let word = c.args.word.now in
    let i = c.loop-c.c-index in
    let held : c.saturating_add-held.result
    ≡ min (min (c.loop-c.held * 10) greatest_number + (get_or word i 0 - 48)) greatest_number =
    cc in (
      omega arith,
      ap (λ (n : ℕ). said_after n (drop (i + 1) word)) held
          ∙ said_after-saturated c.loop-c.held (get_or word i 0 - 48) (drop (i + 1) word)
          ∙ sym (said_after-digit c.loop-c.held word i c.loop-c-test.true (search rules))
          ∙ c.loop-c.invariant.1,
    )

pub returns : goal.returns
returns c =
    sym (said_after-end c.loop-c.held c.args.word.now c.loop-c.c-index
    (omega arith) c.loop-c.invariant.0)
    ∙ c.loop-c.invariant.1
