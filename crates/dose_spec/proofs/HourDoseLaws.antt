-- A tree's figures, by rows 24 and 5; what the hour's dose is, by the tests before it; what an hour
-- that no row refuses has passed, and what it is dosed by.
use Rattle.std.proofs.lemmas.Bool.Decides.{nat_tests}
use Rattle.std.specs.Prelude.{Some, None}
use Prim.Native.Nat.{ℕ, ◌+◌, ◌≤◌}
use mathlib.Core.Path.{◌≡◌, refl, sym}
use mathlib.Core.Bool.{true, false, ◌&&◌}
use native.Mathlib.Omega.{arith}
use lib.Dec.{eqb}
use Rattle.exact.specs.declared.Bounds.{Bounds}
use Rattle.trees.specs.declared.Measure.{Measure}
use Rattle.trees.specs.declared.Figures.{Figures}
use Rattle.trees.specs.declared.measured.Parameters.{Parameters}
use Rattle.trees.specs.MeasuredFigures.{figures_in}
use Rattle.frames.specs.Parameters.{parameter_out}
use Rattle.frames.specs.declared.records.Header.{Header}
use Rattle.frames.specs.declared.records.Hour.{Hour}
use Rattle.frames.specs.declared.records.RawHour.{RawHour}
use Rattle.frames.specs.declared.records.Record.{Record}
use Rattle.frames.specs.Answers.{accepted, refused}
use Rattle.frames.specs.Ranges.{period_out, hour_checked, checked, ceiling_out, warmth_broken}
use Rattle.frames.specs.Ranges.{lacks_ceiling}
use Rattle.frames.proofs.AnswerLaws.{accepted-same, row-passed, onward-passed, on_tree-passed}
use Rattle.frames.proofs.OzoneLaws.{ceiling-le}
use Rattle.frames.specs.Layout.{ozone_of, soil_of, hour_of}
use Rattle.dose_spec.specs.declared.Age.{Age}
use Rattle.dose_spec.specs.declared.Stand.{Stand}
use Rattle.dose_spec.specs.Dose.{is_counted}
use Rattle.dose_spec.specs.Pair.{hour_pair}
use Rattle.dose_spec.specs.HourDose.{
  tree_of,
  age_by,
  stand_of,
  days_out,
  other_measure,
  soil_unfit,
  stand_by,
  stand_for,
  added_pair,
  hour_dose_of,
}

-- ---- the tree's figures

module _ (ps : Parameters) (tree : ℕ) where
  pub parameters-out-is : eqb tree 7 && parameter_out ps ≡ true → refused (24, 0) ≡ tree_of ps tree
  unfolding tree_of
  parameters-out-is out = rw out

  -- row 24 lets it pass
  module _ (passed : eqb tree 7 && parameter_out ps ≡ false) where
    pub tree_is : (f : Figures) → figures_in ps tree ≡ Some f → accepted f ≡ tree_of ps tree
    unfolding tree_of
    tree_is f e = rw (passed, e)

    pub no-figures-is : figures_in ps tree ≡ None → refused (5, 0) ≡ tree_of ps tree
    unfolding tree_of
    no-figures-is e = rw (passed, e)

-- figures are named where row 24 lets the parameters pass
pub record FiguresNamed (ps : Parameters) (tree : ℕ) (f : Figures) : Type 0 where
  pub passed : eqb tree 7 && parameter_out ps ≡ false
  pub chosen : figures_in ps tree ≡ Some f

pub figures-named :
    (ps : Parameters) (tree : ℕ) (f : Figures) → tree_of ps tree ≡ accepted f →
    FiguresNamed ps tree f
unfolding tree_of
figures-named ps tree f e =
    let within = row-passed (eqb tree 7 && parameter_out ps) _ _ f e in
    let found = on_tree-passed (figures_in ps tree) _ f within.1 in
    record { passed = within.0; chosen = rw (accepted-same found.2) at found.1 }

-- ---- what an hour is dosed by, where rows 7, 18 and 10 let it pass

stand-is :
    (f : Figures) (age : Age) (first last ceiling : ℕ) (h : Hour) → days_out f first last ≡ false →
    lacks_ceiling ceiling h.ozone ≡ false →
    hour_checked (soil_unfit f.measure h.soil) h ≡ accepted tt →
    stand_by f age first last ceiling h ≡ accepted (stand_of f age first last ceiling)
unfolding stand_by
stand-is f age first last ceiling h days has passed = rw (days, has, passed)

-- ---- the hour's dose, by row 18 and where no row refuses

module _ (ps : Parameters) (tree : ℕ) (age : Age) (first last ceiling : ℕ) (h : Hour) (f : Figures)
    (named : tree_of ps tree ≡ accepted f) (warm : warmth_broken (age_by tree age).warmth ≡ false)
    (days : days_out f first last ≡ false) (within : ceiling_out ceiling ≡ false) where
  abbrev stand : Stand
  stand = stand_of f (age_by tree age) first last ceiling

  by-figures :
      stand_for ps tree (age_by tree age) first last ceiling h
      ≡ stand_by f (age_by tree age) first last ceiling h
  unfolding stand_for
  by-figures = let n = figures-named ps tree f named in rw (within, n.passed, warm, n.chosen)

  pub lacks-ceiling-is :
      lacks_ceiling ceiling h.ozone ≡ true →
      refused (18, 0) ≡ hour_dose_of ps tree age first last ceiling h
  unfolding hour_dose_of stand_by
  lacks-ceiling-is lacks = rw (by-figures, days, lacks)

  module _ (has : lacks_ceiling ceiling h.ozone ≡ false)
      (passed : hour_checked (soil_unfit f.measure h.soil) h ≡ accepted tt) where
    stands : stand_for ps tree (age_by tree age) first last ceiling h ≡ accepted stand
    stands = rw by-figures (stand-is f (age_by tree age) first last ceiling h days has passed)

    pub dosed-is :
        (pair : Bounds) → pair ≡ added_pair stand h →
        accepted pair ≡ hour_dose_of ps tree age first last ceiling h
    unfolding hour_dose_of
    dosed-is pair p = rw (stands, p)

    pub counted_is :
        is_counted h ≡ true → (pair : Bounds) → pair ≡ hour_pair stand h →
        accepted pair ≡ hour_dose_of ps tree age first last ceiling h
    unfolding hour_dose_of
    counted_is counted pair p = rw (stands, counted, p)

    pub uncounted-is :
        is_counted h ≡ false →
        accepted (record { lower = 0; upper = 0 }) ≡ hour_dose_of ps tree age first last ceiling h
    unfolding hour_dose_of
    uncounted-is dark = rw (stands, dark)

-- ---- an hour that is not counted

pub dark-adds :
    (stand : Stand) → (h : Hour) → is_counted h ≡ false →
    added_pair stand h ≡ record { lower = 0; upper = 0 }
dark-adds stand h dark = rw dark

-- ---- row 10 with the measure, and without it

-- a soil that is unfit is refused
unfit-out : (h : Hour) → hour_checked true h ≡ accepted tt → ⊥
unfit-out h e = grind (arith, nat_tests)

-- row 10 lets it pass
pub fit-checked :
    (m : Measure) (h : Hour) → hour_checked (soil_unfit m h.soil) h ≡ accepted tt →
    checked (Record.Hour h) ≡ accepted tt
unfolding checked
fit-checked m h e = grind (arith, unfit-out)

-- and the other way for a soil in the tree's measure
checked-fit :
    (m : Measure) (h : Hour) → other_measure m h.soil ≡ false →
    checked (Record.Hour h) ≡ accepted tt → hour_checked (soil_unfit m h.soil) h ≡ accepted tt
unfolding checked
checked-fit m h own e = grind arith

-- ---- what an hour that no row refuses has passed

pub record Passed
    (ps : Parameters) (tree : ℕ) (age : Age) (first last ceiling : ℕ) (h : Hour) (stand : Stand) :
    Type 0 where
  pub named : tree_of ps tree ≡ accepted stand.figures
  pub is : stand ≡ stand_of stand.figures age first last ceiling
  pub warm : warmth_broken age.warmth ≡ false
  pub within : ceiling ≤ 5000
  pub checks : checked (Record.Hour h) ≡ accepted tt

pub stand-passed :
    {ps : Parameters} (tree : ℕ) (age : Age) (first last ceiling : ℕ) (h : Hour) (stand : Stand) →
    stand_for ps tree age first last ceiling h ≡ accepted stand →
    Passed ps tree age first last ceiling h stand
unfolding stand_for stand_by
stand-passed {ps} tree age first last ceiling h stand e =
    let within = row-passed (ceiling_out ceiling) _ _ stand e in
    let measured = row-passed (eqb tree 7 && parameter_out ps) _ _ stand within.1 in
    let warm = row-passed (warmth_broken age.warmth) _ _ stand measured.1 in
    let found = on_tree-passed (figures_in ps tree) _ stand warm.1 in
    let f : Figures = found.0 in
    let days = row-passed (days_out f first last) _ _ stand found.2 in
    let has = row-passed (lacks_ceiling ceiling h.ozone) _ _ stand days.1 in
    let range = onward-passed (hour_checked (soil_unfit f.measure h.soil) h) _ stand has.1 in
    rw (← accepted-same range.2)
    (record {
      named = sym (tree_is ps tree measured.0 f found.1);
      is = refl;
      warm = warm.0;
      within = ceiling-le ceiling within.0;
      checks = fit-checked f.measure h range.1;
    })

-- ---- an hour frame, read in the tree's measure, of a season whose header row 7 lets pass

days-in :
    (header : Header) (f : Figures) → period_out header (f.f1 + f.f4) ≡ false → header.days ≤ 366 →
    days_out f header.first header.last ≡ false
days-in header f e most = grind (arith, nat_tests)

own-measure : (m : Measure) (n : ℕ) → other_measure m (soil_of m n) ≡ false
own-measure m n = grind arith

pub frame-stand :
    (header : Header) (age : Age) (ceiling : ℕ) (f : Figures) (raw : RawHour) (ps : Parameters) →
    tree_of ps header.tree ≡ accepted f → warmth_broken age.warmth ≡ false →
    period_out header (f.f1 + f.f4) ≡ false → header.days ≤ 366 → ceiling_out ceiling ≡ false →
    lacks_ceiling ceiling (ozone_of raw.ozone) ≡ false →
    checked (Record.Hour (hour_of raw f.measure)) ≡ accepted tt →
    stand_for ps header.tree age header.first header.last ceiling (hour_of raw f.measure)
    ≡ accepted (stand_of f age header.first header.last ceiling)
unfolding hour_of stand_for
frame-stand header age ceiling f raw ps e warm period most within has passed =
    let named = figures-named ps header.tree f e in
    let own = own-measure f.measure raw.soil in
    let fit = checked-fit f.measure (hour_of raw f.measure) own passed in
    rw (within, named.passed, warm, named.chosen)
    (stand-is f age header.first header.last ceiling _ (days-in header f period most) has fit)
