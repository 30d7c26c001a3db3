-- Leaf age by warmth of a laboratory's own tree ("Leaf age by warmth"): three two-byte numbers, in
-- the frame's order.
use Rattle.std.specs.Prelude.{ℕ, Bool, not, List, [], ◌∷◌, slice_index}
use Rattle.trees.specs.declared.Warmth.{Warmth}
use Rattle.trees.specs.Parameters.{all_zero}

-- rise, fall, end
abbrev pub warmth_numbers : Warmth → List ℕ
warmth_numbers w = w.rise ∷ w.fall ∷ w.end ∷ []

abbrev pub warmth_of : List ℕ → Warmth
warmth_of ns = record { rise = slice_index ns 0; fall = slice_index ns 1; end = slice_index ns 2 }

-- 0 where the frame was not fed
abbrev pub no_warmth : Warmth
no_warmth = warmth_of []

abbrev pub has_warmth : Warmth → Bool
has_warmth w = not (all_zero (warmth_numbers w))
