-- `stored::listed::take_up_all`: the accounts below i are taken up, and the rest stand in the bytes
-- that are left.
use mathlib.Core.Path.{◌≡◌}
use Prim.Native.Nat.{◌-◌, ◌*◌}
use lib.ListN.{length, take, drop}
use Rattle.stored.specs.Packing.{total_width}
use Rattle.stored.specs.Layout.{widths}
use Rattle.stored.specs.InBytes.{accounts_in, count_in, list_in}
use Rattle.stored.proofs.TakingLaws.{joined_to}
use Rattle.stored.proofs.listed.take_up_all.Given as goal

abbrev pub invariant-loop-i : goal.invariant-loop-i
invariant-loop-i l = record {
  long : length l.accounts ≡ count_in l.bytes;
  taken :
      list_in l.bytes
      ≡ joined_to (take l.i l.accounts)
      (accounts_in (count_in l.bytes - l.i) (drop (total_width widths * l.i) l.bytes));
}
