-- `floats::whole::size_of` meets its contract.
use Rattle.std.proofs.Common.{ℕ, ◌<◌, sym, subst, arith, le→leb}
use lib.Ieee.{of_bits, div, in_float}
use Rattle.floats.proofs.SizeLaws.{size-large, size-infinite, part-range, part-lt, size_exact}
use Rattle.floats.proofs.SizeLaws.{size-fraction}
use Rattle.floats.proofs.whole.size_of.Goals as goal

pub returns-then-x-2 : goal.returns-then-x-2
unfolding of_bits div
returns-then-x-2 c = size-infinite _ c.if-x-2.true

pub returns-then-x : goal.returns-then-x
unfolding of_bits div
returns-then-x c = size-large _ c.well_formed.0.1 c.if-x.true c.if-x-2.false

pub truncating_f32_to_u64-n-requires : goal.truncating_f32_to_u64-n-requires
unfolding of_bits
truncating_f32_to_u64-n-requires c = record {
  lower_bound = (part-range _ c.requires c.if-x.false).0;
  upper_bound = (part-range _ c.requires c.if-x.false).1;
}

pub overflow_cast-n : goal.overflow_cast-n
unfolding of_bits
overflow_cast-n c =
    let fact : c.truncating_f32_to_u64-n.result < 16777216 =
    subst (λ (n : ℕ). n < 16777216) (sym c.truncating_f32_to_u64-n.ensures)
    (part-lt _ c.requires c.if-x.false) in
    record { fits = omega arith }

pub int_to_float-back : goal.int_to_float-back
unfolding in_float of_bits
int_to_float-back c =
    let fact : c.truncating_f32_to_u64-n.result < 16777216 =
    subst (λ (n : ℕ). n < 16777216) (sym c.truncating_f32_to_u64-n.ensures)
    (part-lt _ c.requires c.if-x.false) in
    le→leb c.truncating_f32_to_u64-n.result 16777216 (omega arith)

pub returns-then-back-x : goal.returns-then-back-x
unfolding of_bits
returns-then-back-x c =
    size_exact _ _ c.requires c.if-x.false c.truncating_f32_to_u64-n.ensures c.if-back-x.true

pub returns-else-back-x : goal.returns-else-back-x
unfolding of_bits
returns-else-back-x c =
    size-fraction _ _ c.requires c.if-x.false c.truncating_f32_to_u64-n.ensures c.if-back-x.false
