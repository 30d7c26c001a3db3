-- What is remembered of a temperature is f_temp's pair there, and of which tree a memory is.
use Rattle.std.specs.Prelude.{Option, Some, None, nat_lt, if◌then◌else◌}
use Rattle.std.proofs.Common.{◌≡◌, ◌≢◌, ℕ, ◌+◌, ◌*◌, ◌^◌, ◌<◌, ◌≤◌, max, List, length, get_or, set}
use Rattle.std.proofs.Common.{replicate, sym, ◌∙◌, ap, ap₂, subst, ⊎_elim, arith}
use Rattle.std.proofs.lemmas.Bool.{cases_eq}
use Rattle.std.proofs.lemmas.Bool.Decides.{nat_tests}
use lib.ListN.{length-replicate, get_or-replicate}
use Rattle.std.specs.List.{slice_get}
use Rattle.std.proofs.lemmas.Option.{slice_get_within, slice_get-get_or, get_or_from_slice_get}
use Rattle.std.proofs.lemmas.List.{length-set, get_or-set_other}
use Rattle.std.proofs.lemmas.Grind.{get_or-set_at}
use Rattle.exact.specs.declared.Bounds.{Bounds}
use Rattle.trees.specs.declared.Figures.{Figures}
use Rattle.dose_spec.specs.HumidityPair.{entry_of}
use Rattle.trees.proofs.TemperatureLaws.{temperature_pair-gap, temperature_pair-order}
use Rattle.trees.specs.Sound.{Sound}
use Rattle.trees.specs.Temperature.{temperature_pair}
use Rattle.trees.specs.declared.measured.Parameters.{Parameters}
use Rattle.trees.specs.Figures.{figures_of}
use Rattle.trees.specs.MeasuredFigures.{figures_in}
use Rattle.frames.specs.Answers.{accepted, refused}
use Rattle.frames.proofs.AnswerLaws.{accepted-same, refused-not-accepted}
use Rattle.dose_spec.specs.HourDose.{tree_of}
use Rattle.dose.specs.declared.remembered.Warm.{Warm}
use Rattle.dose.specs.Remembered.{IsWarm, Remembers, IsOf}

module _ (f : Figures) (t : ℕ) where
  floor-le : f.f_min * 10 ^ 7 ≤ (temperature_pair f t).lower
  unfolding temperature_pair
  floor-le = grind (arith, nat_tests)

  -- both numbers are f_min where they are the same
  level :
      (temperature_pair f t).upper ≤ (temperature_pair f t).lower →
      (temperature_pair f t).upper ≤ f.f_min * 10 ^ 7
  unfolding temperature_pair
  level = grind (arith, nat_tests)

  pub warm-made :
      Sound f → (pair : Bounds) (warm : Warm) → pair ≡ temperature_pair f t →
      warm.root ≡ (if nat_lt pair.lower pair.upper then pair.lower else 0) →
      warm.saturation ≡ entry_of t → IsWarm f t warm
  warm-made s pair warm is root e =
      let gap = temperature_pair-gap f s t in
      let order = temperature_pair-order f s t in
      record {
        lower =
            rw (root, is)
            (grind (arith, nat_tests, s.f_min, floor-le, level, gap, order));
        upper =
            rw (root, is)
            (grind (arith, nat_tests, s.f_min, floor-le, level, gap, order));
        saturation = e;
      }

  pub pair-back :
      {warm : Warm} → IsWarm f t warm → (b : Bounds) → b.lower ≡ max (f.f_min * 10 ^ 7) warm.root →
      b.upper ≡ max (f.f_min * 10 ^ 7) (warm.root + 1) → b ≡ temperature_pair f t
  pair-back is b l u =
      ap₂ (λ (x y : ℕ). record { lower = x; upper = y }) (l ∙ is.lower) (u ∙ is.upper)

abbrev none : Warm
none = record { root = 0; saturation = 0 }

module _ (f : Figures) where
  -- what is remembered at a place that has come up is right
  pub read-back : {memory : List Warm} {t : ℕ} (d : Warm) {warm : Warm} →
      Remembers f memory → t < length memory → get_or memory t d ≡ warm →
      0 < warm.saturation → IsWarm f t warm
  read-back {memory} {t} d {warm} kept within e some =
      kept.each t warm (slice_get-get_or memory t d within ∙ ap Some e) some

  -- where none has come up nothing is remembered
  pub none-remembered : (n : ℕ) → Remembers f (replicate n none)
  none-remembered n = record { each = λ t warm is some. nothing t warm is some }
    where
      nothing :
          (t : ℕ) (warm : Warm) → slice_get (replicate n none) t ≡ Some warm →
          0 < warm.saturation → IsWarm f t warm
      nothing t warm is some =
          let within : t < n =
          rw (length-replicate n none) at (slice_get_within (replicate n none) t warm is) in
          let had = get_or_from_slice_get (replicate n none) t warm none is in
          let e : none ≡ warm = sym (get_or-replicate n t none none within) ∙ had in
          let zero : 0 ≡ warm.saturation = ap (λ (w : Warm). w.saturation) e in
          absurd (omega (arith, zero, some))

  -- a memory that is given what is right at a temperature stays right
  pub given : {memory : List Warm} {i : ℕ} {warm : Warm} →
      Remembers f memory → i < length memory → IsWarm f i warm → Remembers f (set memory i warm)
  given {memory} {i} {warm} kept within is = record { each = each }
    where
      each :
          (t : ℕ) (w : Warm) → slice_get (set memory i warm) t ≡ Some w →
          0 < w.saturation → IsWarm f t w
      each t w e some =
          let within' : t < length memory =
          rw (length-set memory i warm) at (slice_get_within (set memory i warm) t w e) in
          let had : get_or (set memory i warm) t none ≡ w =
          get_or_from_slice_get (set memory i warm) t w none e in
          ⊎_elim
          (λ (same : t ≡ i).
          let own : warm ≡ w = sym (get_or-set_at memory i t warm none same within) ∙ had in
          rw (← own, same) is)
          (λ (other : t ≢ i).
          read-back none kept within'
          (sym (get_or-set_other memory i t warm none other) ∙ had) some)
          (cases_eq t i)

-- ---- of which tree a memory is

-- tree 1 has figures
pub first-tree : (ps : Parameters) (w : ℕ × ℕ) → tree_of ps 1 ≡ refused w → ⊥
unfolding tree_of figures_in figures_of
first-tree ps w e = refused-not-accepted (sym e)

pub none-of : (f : Figures) → IsOf None f
none-of f = record { own = λ tree ps e. let z : ◌≡◌ {A = ℕ} 0 1 = cc in absurd (omega (arith, z)) }

-- what a tree's figures give is of the tree, which has no other figures
same-tree : {x y : ℕ × Parameters} → Some x ≡ Some y → tree_of x.1 x.0 ≡ tree_of y.1 y.0
same-tree {x} {y} e = let same : x ≡ y = cc in ap (λ (z : ℕ × Parameters). tree_of z.1 z.0) same

pub named-of :
    {of : Option (ℕ × Parameters)} {tree : ℕ} {ps : Parameters} {f : Figures} →
    of ≡ Some (tree, ps) → tree_of ps tree ≡ accepted f → IsOf of f
named-of is named = record { own = λ other qs same. sym (same-tree (sym is ∙ same)) ∙ named }

pub same-kept :
    {of : Option (ℕ × Parameters)} {tree : ℕ} {ps : Parameters} {f g : Figures}
    {memory : List Warm} →
    of ≡ Some (tree, ps) → tree_of ps tree ≡ accepted f → IsOf of g → Remembers g memory →
    Remembers f memory
same-kept {memory = memory} is named own kept =
    let same = accepted-same (sym (own.own _ _ is) ∙ named) in
    subst (λ (x : Figures). Remembers x memory) same kept
