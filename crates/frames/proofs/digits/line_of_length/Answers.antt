-- `frames::digits::line_of_length` meets its contract: what is read and what is left of the line
-- have the answer of the whole.
use mathlib.Core.Path.{◌≡◌, sym, ◌∙◌}
use mathlib.Core.Bool.{and-true}
use native.Mathlib.Omega.{arith}
use borrow.Author.Rules.{rules}
use lib.ListN.{length, drop_of_length-le}
use Rattle.frames.specs.Digits.{all_digits}
use Rattle.frames.proofs.DigitLaws.{all-step}
use Rattle.frames.proofs.ValueLaws.{read_none, read_more, read-says}
use Rattle.frames.proofs.digits.line_of_length.Goals as goal

pub loop-i-init : goal.loop-i-init
loop-i-init c = (search rules, read_none _)

pub loop-i-preserved : goal.loop-i-preserved
loop-i-preserved c = let l = c.args.s.now in (
  rw c.is_digit-digits.ensures
      (sym (all-step c.loop-i.digits l c.loop-i.i (omega arith)) ∙ c.loop-i.invariant.0),
  rw c.digit_value.ensures.of_any
      (read_more l c.loop-i.i c.loop-i.values (omega arith) c.loop-i.invariant.1),
)

pub returns : goal.returns
unfolding all_digits
returns c = let l = c.args.s.now in
    let end : c.loop-i.i ≡ length l = omega arith in
    let read = rw end at c.loop-i.invariant.1 in
    record {
      digits =
          sym (and-true c.loop-i.digits)
          ∙ rw (drop_of_length-le l {i = c.loop-i.i} (omega arith)) at c.loop-i.invariant.0;
      says = λ d. read-says l c.loop-i.values read d;
    }
