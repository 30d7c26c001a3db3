-- `frames::kinds::is_length` meets its contract: `any` over the kinds is the walk of their lengths.
use mathlib.Core.Path.{◌≡◌, refl}
use lib.Dec.{eqb}
use Rattle.std.proofs.Common.{rules}
use Rattle.std.proofs.lemmas.Iterator.{YieldsList-from_range}
use Rattle.std.proofs.lemmas.Iterator.Search.{any_from_yields_List}
use Rattle.std.specs.List.{list_any, range_with_len}
use Rattle.frames.specs.Kinds.{length_of, among}
use Rattle.frames.proofs.kinds.is_length.Goals as goal

by_any :
    (c : goal.After-any) →
    c.any.result ≡ list_any (λ k. eqb (length_of k) c.args.digits) (range_with_len 1 8)
by_any c =
    any_from_yields_List (λ k. eqb (length_of k) c.args.digits) _ _ _ c.any.ensures.ran
    (YieldsList-from_range 1 9 8 refl refl) (λ x b q k. search rules)

pub returns : goal.returns
unfolding length_of among
returns c = by_any c
