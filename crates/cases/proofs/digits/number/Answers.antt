-- `cases::digits::number` is what n digits say: after i of them, the number that they say.
use Prim.Native.Nat.{◌+◌}
use mathlib.Core.Path.{◌≡◌, refl}
use native.Mathlib.Omega.{arith}
use lib.ListN.{get_or}
use borrow.Author.Rules.{rules}
use Rattle.frames.proofs.DigitLaws.{value-lt}
use Rattle.cases.specs.Digits.{hex_at}
use Rattle.cases.proofs.NumberLaws.{hex_at-step, hex_at-lt, hex_at-room}
use Rattle.cases.proofs.digits.number.Goals as goal

pub loop-i-init : goal.loop-i-init
unfolding hex_at
loop-i-init c = (search rules, refl)

pub overflow_mul-said : goal.overflow_mul-said
overflow_mul-said c =
    let a = c.args in omega (arith, hex_at-room c.loop-i.i a.at a.line.now (omega arith))

pub overflow_add-said : goal.overflow_add-said
overflow_add-said c = let a = c.args in
    let i = c.loop-i.i in
    omega (
      arith,
      hex_at-room i a.at a.line.now (omega arith),
      value-lt (get_or a.line.now (a.at + i) 0),
    )

pub loop-i-preserved : goal.loop-i-preserved
loop-i-preserved c = (search rules, rw hex_at-step (cc))

pub returns : goal.returns
returns c = let a = c.args in
    let all : c.loop-i.i ≡ a.n = omega arith in
    let is : c.loop-i.said ≡ hex_at a.n a.at a.line.now = cc in
    record { value = is; upper_bound = rw is (hex_at-lt a.n a.at a.line.now) }

pub digit-requires : goal.digit-requires
digit-requires c = tt
