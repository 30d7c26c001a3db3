-- `stored::big_endian::get` meets its contract.
use mathlib.Core.Path.{◌≡◌, sym, subst, ◌∙◌}
use native.Mathlib.Omega.{arith}
use Prim.Native.Nat.{ℕ, ◌^◌, ◌<◌}
use Rattle.stored.specs.Packing.{big_endian_at}
use Rattle.stored.proofs.BigEndianLaws.{read-from-end}
use Rattle.stored.proofs.PackingLaws.{big_endian_at-fits}
use Rattle.stored.proofs.big_endian.get.Goals as goal

pub returns-clause-is : goal.returns-clause-is
returns-clause-is c = let a = c.args in
    c.from_be_bytes.ensures
    ∙ (rw c.copy_from_slice.ensures.after
    (read-from-end a.width a.at a.b.now _ (omega arith) (omega arith)))

pub returns-clause-fits : goal.returns-clause-fits
returns-clause-fits c = let a = c.args in
    let is : c.from_be_bytes.result ≡ big_endian_at a.width a.at a.b.now =
    c.from_be_bytes.ensures
    ∙ (rw c.copy_from_slice.ensures.after
    (read-from-end a.width a.at a.b.now _ (omega arith) (omega arith)))
    in
    subst (λ (n : ℕ). n < 256 ^ a.width) (sym is)
    (big_endian_at-fits a.b.now (λ i. omega (arith, c.fits-b i)) a.width a.at)
