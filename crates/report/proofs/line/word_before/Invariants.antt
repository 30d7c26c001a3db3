-- `report::line::word_before` meets its contract: the bytes that are left, before the text made,
-- are the word before the text.
use Prim.Native.Nat.{◌+◌}
use mathlib.Core.Path.{◌≡◌}
use mathlib.Core.List.{◌++◌}
use lib.ListN.{length}
use Rattle.std.specs.Iterator.Adapters.{rev_source}
use Rattle.std.specs.Slice.Iter.{iter_rest}
use Rattle.text_spec.specs.Text.{text_in}
use Rattle.report.proofs.line.word_before.Given as goal

abbrev pub invariant-loop-c : goal.invariant-loop-c
invariant-loop-c l =
    (goal.iterator-loop-c).can_next l.c-iterator × (goal.iterator-loop-c).is_finite l.c-iterator ×
    (l.made.at + length l.word ≡ l.initial.made.at + length (iter_rest (rev_source l.c-iterator))) ×
    (iter_rest (rev_source l.c-iterator) ++ text_in l.made ≡ l.word ++ text_in l.initial.made)
