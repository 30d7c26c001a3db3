-- One hour: its sums enclose the dose and AOT40 of every filling. All that is used of `dose_spec`'s
-- pair is here: `enclosure.pair` and `enclosure.trees`.
use Prim.Native.Nat.{ℕ, ◌≤◌}
use mathlib.Core.Path.{◌≡◌, refl, sym, ap, subst}
use mathlib.Core.Bool.{Bool, true, false, cond}
use native.Mathlib.Nat.{mul-le-mul_right}
use native.Mathlib.Omega.{arith}
use Rattle.exact.specs.Frac.{Frac, natural}
use Rattle.exact.proofs.FracLaws.{≼_refl}
use Rattle.trees.specs.Sound.{Sound}
use Rattle.trees.specs.declared.Figures.{Figures}
use Rattle.trees.specs.MeasuredFigures.{measured_figures, figures_in}
use Rattle.frames.specs.declared.records.Air.{Air}
use Rattle.frames.specs.declared.records.Hour.{Hour}
use Rattle.frames.specs.declared.records.Record.{Record}
use Rattle.frames.specs.Answers.{accepted}
use Rattle.frames.specs.Ozone.{Fills}
use Rattle.frames.specs.Ranges.{checked}
use Rattle.frames.proofs.AnswerLaws.{accepted-same, onward-passed}
use Rattle.frames.proofs.OzoneLaws.{filling-within}
use Rattle.dose_spec.specs.declared.Stand.{Stand}
use Rattle.dose_spec.specs.Dose.{is_counted, excess, dose_at, NotAbove, NotBelow}
use Rattle.dose_spec.specs.Pair.{hour_pair}
use Rattle.dose_spec.specs.Enclosure.{most_dose, gap_most, PairEnclosed}
use Rattle.dose_spec.specs.HourDose.{tree_of}
use Rattle.dose_spec.proofs.BudgetLaws.{most_dose-le, gap_dose-most}
use Rattle.dose_spec.proofs.HourDoseLaws.{stand-passed}
use Rattle.dose_spec.proofs.EnclosureLaws.{TreeNamed, tree-named, enclosure}
use Rattle.account_spec.specs.declared.Season.{Season}
use Rattle.account_spec.specs.declared.Sums.{Sums}
use Rattle.account_spec.specs.Limits.{is_measured, most_hour}
use Rattle.account_spec.specs.declared.Carried.{Carried}
use Rattle.account_spec.specs.Hours.{stand_in, stand_at, pair_of, counted_sums, hour_sums, hour_pod}
use Rattle.account_spec.specs.Enclosed.{HasDose, gap_hour, Encloses, SumsSized}
use Rattle.account_spec.specs.steps.Account.{Dosable}

-- ---- a number below one that is not above the dose, and above one that is not below it

not_above-le : {m n : ℕ} {pod : ℕ → Frac} → m ≤ n → NotAbove n pod → NotAbove m pod
not_above-le {pod = pod} h low =
    record {
      at = low.at;
      under =
          record { cross = omega (arith, low.under.cross, mul-le-mul_right (pod low.at).den h) };
    }

pub not_below-le : {m n : ℕ} {pod : ℕ → Frac} → m ≤ n → NotBelow m pod → NotBelow n pod
not_below-le {pod = pod} h high = record {
  every =
      λ k. record { cross = omega (arith, (high.every k).cross, mul-le-mul_right (pod k).den h) };
}

-- ---- one hour, by any stand

-- nothing encloses nothing, whatever the number of hours
pub none-encloses :
    (s : Sums) → s.lower ≡ 0 → s.upper ≡ 0 → s.least ≡ 0 → Encloses s (λ k. natural 0) 0
none-encloses s l u a = record {
  low = record { at = 0; under = rw l (≼_refl (natural 0)) };
  high = record { every = λ k. rw u (≼_refl (natural 0)) };
  least = omega arith;
  most = omega arith;
  grows = λ k l j. ≼_refl (natural 0);
}

pub none-sized :
    (apart each : ℕ) (s : Sums) → s.missing ≡ 0 → s.lower ≡ 0 → s.upper ≡ 0 → SumsSized apart each s
none-sized apart each s m l u = grind arith

module _
    (stand : Stand) (sound : Sound stand.figures) (few : stand.ceiling ≤ 5000)
    (c : Carried) (h : Hour)
    (passed : checked (Record.Hour h) ≡ accepted tt)
  where
    abbrev apart : ℕ
    apart = gap_most stand.figures

    pair : PairEnclosed (stand_at stand c) h
    pair = enclosure.pair (stand_at stand c) sound few h passed

    module _ (f : Hour) (fills : Fills stand.ceiling h f) where
      -- a counted hour adds its pair
      counted-encloses :
          Encloses (counted_sums (hour_pair (stand_at stand c) h) stand.ceiling h)
          (λ k. dose_at k (stand_at stand c) f) (excess f)
      counted-encloses =
          let within = filling-within stand.ceiling h f fills in
          record {
            low = not_above-le (omega (arith, pair.order)) (pair.low f fills);
            high = not_below-le (omega (arith, pair.most)) (pair.high f fills);
            least = rw within.is (omega (arith, within.above));
            most = rw within.is (omega (arith, within.below));
            grows = pair.grows f fills;
          }

    -- G is the filling's too
    pub hour-encloses :
        (f : Hour) → Fills stand.ceiling h f →
        Encloses (hour_sums (accepted stand) c h) (hour_pod (accepted stand) c f)
        (cond (is_counted f) (excess f) 0)
    unfolding hour_sums hour_pod pair_of
    hour-encloses f (Fills.given e) =
        grind (arith, counted-encloses f (Fills.given e), none-encloses)
    hour-encloses f (Fills.filled e n le) =
        grind (arith, counted-encloses f (Fills.filled e n le), none-encloses)

    pub hour-sized :
        (each : ℕ) → most_dose stand.figures.g_max h.air ≤ each →
        SumsSized apart each (hour_sums (accepted stand) c h)
    unfolding hour_sums pair_of
    hour-sized each room =
        grind (arith, pair.gap, gap_dose-most stand.figures h.air, pair.order, pair.most)

-- ---- one hour of a season

-- a tree's figures within the season's limits
record FiguresIn (season : Season) (f : Figures) : Type 0 where
  sound : Sound f
  gap : gap_most f ≤ gap_hour season
  most : (air : Air) → most_dose f.g_max air ≤ most_hour season

figures-by :
    (season : Season) (f : Figures) (seventh : Bool) → is_measured season ≡ seventh →
    TreeNamed season.parameters season.header.tree f → FiguresIn season f
unfolding figures_in
figures-by season f true e named =
    let own = enclosure.measured season.parameters (named.measured e) in
    let chosen = rw e at named.chosen in
    let same : measured_figures season.parameters ≡ f = cc in
    rw (← same)
    (record { sound = own.sound; gap = rw e own.gap; most = λ air. rw e (own.most air) })
figures-by season f false e named =
    let own = enclosure.trees season.header.tree f (rw e at named.chosen) in
    record {
      sound = own.sound;
      gap = rw e (omega (arith, own.gap));
      most = λ air. rw e (omega (arith, most_dose-le f.g_max air, own.g_max));
    }

-- the season's stand has its tree's figures, its warmth and its ceiling
pub record SeasonStand (season : Season) (stand : Stand) : Type 0 where
  pub sound : Sound stand.figures
  pub gap : gap_most stand.figures ≤ gap_hour season
  pub most : (air : Air) → most_dose stand.figures.g_max air ≤ most_hour season
  pub ceiling : stand.ceiling ≡ season.ceiling
  pub warmth : stand.age.warmth ≡ season.warmth

pub season-stand :
    (season : Season) (stand : Stand) → stand_in season ≡ accepted stand → SeasonStand season stand
unfolding stand_in
season-stand season stand e =
    let found = onward-passed (tree_of season.parameters season.header.tree) _ stand e in
    let own =
    figures-by season found.0 (is_measured season) refl
    (tree-named season.parameters season.header.tree found.0 found.1) in
    subst (SeasonStand season) (accepted-same found.2)
    (record { sound = own.sound; gap = own.gap; most = own.most; ceiling = refl; warmth = refl })

module _ (season : Season) (h : Hour) where
  -- `hour_dose` goes by the season's stand
  pub dosable-stand : (d : Dosable season h) → stand_in season ≡ accepted d.0
  unfolding stand_in
  dosable-stand d = let p = stand-passed _ _ _ _ _ h d.0 d.1 in rw p.named (ap accepted (sym p.is))

  pub dosable-has : Dosable season h → HasDose season h
  dosable-has d = (d.0, dosable-stand d, (stand-passed _ _ _ _ _ h d.0 d.1).checks)
