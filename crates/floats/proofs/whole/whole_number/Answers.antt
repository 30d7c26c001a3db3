-- `floats::whole::whole_number` meets its contract.
use Rattle.std.specs.Prelude.{Some}
use Rattle.std.proofs.Common.{ℤ, sym, ap, ◌∙◌, arith}
use lib.Ieee.{of_bits}
use Rattle.floats.proofs.OrderLaws.{is_T}
use Rattle.floats.proofs.SignLaws.{plus-broken, plus-number, negated-ge, minus-broken, minus_number}
use Rattle.floats.proofs.SignLaws.{neither-broken, size-most, plus-bits, minus-fits, minus-bits}
use Rattle.floats.proofs.whole.whole_number.Goals as goal

pub size_of-requires : goal.size_of-requires
unfolding of_bits
size_of-requires c = is_T c.if-x.true

pub returns-in_err-n : goal.returns-in_err-n
unfolding of_bits
returns-in_err-n c =
    rw c.from_residual.ensures (plus-broken _ c.if-x.true (sym c.in_err-n.was ∙ c.size_of.ensures))

pub returns-then-x : goal.returns-then-x
unfolding of_bits
returns-then-x c =
    let size = sym c.in_ok-n.was ∙ c.size_of.ensures in
    ap (λ (z : ℤ). Some z) (plus-bits _ (size-most _ _ size)) ∙ plus-number _ _ c.if-x.true size

pub size_of-requires-then-x-2 : goal.size_of-requires-then-x-2
unfolding of_bits
size_of-requires-then-x-2 c = negated-ge _ c.if-x-2.true

pub returns-in_err-n-2 : goal.returns-in_err-n-2
unfolding of_bits
returns-in_err-n-2 c =
    rw c.from_residual-in_err-n-2.ensures
    (minus-broken _ (sym c.in_err-n-2.was ∙ c.size_of-then-x-2.ensures))

pub overflow_cast-result : goal.overflow_cast-result
unfolding of_bits
overflow_cast-result c =
    record { sfits = omega (arith, size-most _ _ (sym c.in_ok-n.was ∙ c.size_of.ensures)) }

pub overflow_cast-result-then-x-2 : goal.overflow_cast-result-then-x-2
unfolding of_bits
overflow_cast-result-then-x-2 c = record {
  sfits = omega (arith, size-most _ _ (sym c.in_ok-n-2.was ∙ c.size_of-then-x-2.ensures));
}

pub overflow_sub-result : goal.overflow_sub-result
unfolding of_bits
overflow_sub-result c =
    minus-fits _ (size-most _ _ (sym c.in_ok-n-2.was ∙ c.size_of-then-x-2.ensures))

pub returns-then-x-2 : goal.returns-then-x-2
unfolding of_bits
returns-then-x-2 c =
    let size = sym c.in_ok-n-2.was ∙ c.size_of-then-x-2.ensures in
    ap (λ (z : ℤ). Some z) (minus-bits _ (size-most _ _ size)) ∙ minus_number _ _ c.if-x-2.true size

pub returns : goal.returns
unfolding of_bits
returns c = neither-broken _ c.if-x.false c.if-x-2.false
