-- Sums that enclose doses and AOT40 enclose them added up; so do the sums of any hours in a row
-- that row 10 lets pass, for every filling, from what those before them left.
use Prim.Native.Nat.{ℕ, ◌+◌, ◌-◌, ◌*◌, ◌≤◌, max}
use mathlib.Core.Path.{◌≡◌, refl, sym, ap, subst}
use mathlib.Core.List.{List, [], ◌∷◌, ◌++◌}
use native.Mathlib.Nat.{mul-le-mul_right}
use native.Mathlib.Omega.{arith}
use Rattle.exact.specs.Frac.{Frac, ◌⊕◌}
use Rattle.exact.proofs.FracLaws.{≼_trans, ⊕-mono, ⊕-low, ⊕-high}
use Rattle.trees.specs.Sound.{Sound}
use Rattle.frames.specs.declared.records.Air.{Air}
use Rattle.frames.specs.declared.records.Hour.{Hour}
use Rattle.frames.specs.Answers.{Outcome, accepted}
use Rattle.frames.specs.Ozone.{all_read_as, Fills, AllFill}
use Rattle.frames.proofs.OzoneLaws.{read_is}
use Rattle.dose_spec.specs.declared.Stand.{Stand}
use Rattle.dose_spec.specs.Enclosure.{most_dose, gap_most}
use Rattle.account_spec.specs.declared.Season.{Season}
use Rattle.account_spec.specs.declared.Sums.{Sums}
use Rattle.account_spec.specs.Limits.{most_hour, gap_each}
use Rattle.account_spec.specs.declared.Carried.{Carried}
use Rattle.account_spec.specs.Hours.{no_sums, plus, stand_in, ceiling_in, carried_after, sums_of}
use Rattle.account_spec.specs.Hours.{pod_of}
use Rattle.account_spec.specs.Enclosed.{AllChecked, AllMost, AllDosed, AllRead, gap_hour, Encloses}
use Rattle.account_spec.specs.Enclosed.{SumsSized, HoursEnclosed}
use Rattle.account_spec.specs.Book.{counted_of, excess_over}
use Rattle.account_spec.proofs.SumsLaws.{carried-fills, lower-is, upper_is, counted-le}
use Rattle.account_spec.proofs.SumsLaws.{missing-none}
use Rattle.account_spec.proofs.Aot40Laws.{excess-cons, least-is, most-is, aot40-in}
use Rattle.account_spec.proofs.PossibleLaws.{SumsIn}
use Rattle.account_spec.proofs.HourLaws.{none-encloses, none-sized, hour-encloses, hour-sized}
use Rattle.account_spec.proofs.HourLaws.{season-stand}

-- ---- two parts

-- the greater k serves both
plus-encloses :
    {s t : Sums} {p q : ℕ → Frac} {m n : ℕ} → Encloses s p m → Encloses t q n →
    Encloses (plus s t) (λ k. p k ⊕ q k) (m + n)
plus-encloses e f =
    let k = max e.low.at f.low.at in
    record {
      low =
          record {
            at = k;
            under =
                ⊕-low (≼_trans e.low.under (e.grows e.low.at k (omega arith)))
                (≼_trans f.low.under (f.grows f.low.at k (omega arith)));
          };
      high = record { every = λ j. ⊕-high (e.high.every j) (f.high.every j) };
      least = omega arith;
      most = omega arith;
      grows = λ j l h. ⊕-mono (e.grows j l h) (f.grows j l h);
    }

-- the hours with ozone of two sums
pub plus-read :
    (s t : Sums) → s.missing ≤ s.counted → t.missing ≤ t.counted →
    s.counted + t.counted - (s.missing + t.missing)
    ≡ s.counted - s.missing + (t.counted - t.missing)
plus-read s t h k = omega arith

plus-sized :
    {apart each : ℕ} {s t : Sums} → SumsSized apart each s → SumsSized apart each t →
    SumsSized apart each (plus s t)
plus-sized {apart} {each} {s} {t} e f =
    record {
      missing = omega arith;
      order = omega arith;
      gap = rw (plus-read s t e.missing f.missing) (omega arith);
      most = omega arith;
    }

-- by a greater gap
sized-more : {a b each : ℕ} {s : Sums} → a ≤ b → SumsSized a each s → SumsSized b each s
sized-more {s = s} wide e = grind (arith, mul-le-mul_right (s.counted - s.missing) wide)

-- within row 13's gap
sized-gap :
    (season : Season) {s : Sums} → SumsSized (gap_hour season) (most_hour season) s →
    s.upper ≤ s.lower + (gap_each season * (s.counted - s.missing) + most_hour season * s.missing)
sized-gap season e = (sized-more (grind arith) e).gap

-- ---- hours in a row

-- what holds whatever the fillings and the sizes
hours-read :
    (apart each : ℕ) (stand : Outcome Stand) (c : Carried) (hs : List Hour) →
    ((fs : List Hour) → AllFill (ceiling_in stand) hs fs →
    Encloses (sums_of stand c hs) (pod_of stand c fs) (excess_over (counted_of fs))) →
    SumsSized apart each (sums_of stand c hs) → HoursEnclosed apart each stand c hs
hours-read apart each stand c hs filled sized = record {
  filled = filled;
  sized = sized;
  lower = lower-is stand c hs;
  upper = upper_is stand c hs;
  least = least-is stand c hs;
  most = most-is stand c hs;
}

none_filled :
    (stand : Outcome Stand) (c : Carried) (fs : List Hour) → AllFill (ceiling_in stand) [] fs →
    Encloses (sums_of stand c []) (pod_of stand c fs) (excess_over (counted_of fs))
unfolding sums_of pod_of excess_over counted_of
none_filled stand c fs AllFill.none = none-encloses no_sums refl refl refl

module _ (stand : Stand) (sound : Sound stand.figures) (few : stand.ceiling ≤ 5000) where
  list-filled :
      (c : Carried) (hs : List Hour) → AllChecked hs → (fs : List Hour) →
      AllFill stand.ceiling hs fs →
      Encloses (sums_of (accepted stand) c hs) (pod_of (accepted stand) c fs)
      (excess_over (counted_of fs))
  unfolding sums_of pod_of
  list-filled c hs all fs AllFill.none = none_filled (accepted stand) c [] AllFill.none
  list-filled c hs all fs (AllFill.hours {h} {f} {hs = rest} {fs = more} fill fills) =
      let next = carried_after (accepted stand) c h in
      rw (excess-cons f more)
      (plus-encloses (hour-encloses stand sound few c h all.0 f fill)
      (subst (λ (d : Carried).
      Encloses (sums_of (accepted stand) next rest) (pod_of (accepted stand) d more)
      (excess_over (counted_of more)))
      (sym (carried-fills (accepted stand) c fill))
      (list-filled next rest all.1 more fills)))

  module _ (each : ℕ) where
    list-sized :
        (c : Carried) (hs : List Hour) → AllChecked hs → AllMost stand.figures.g_max each hs →
        SumsSized (gap_most stand.figures) each (sums_of (accepted stand) c hs)
    unfolding sums_of
    list-sized c [] all most = none-sized (gap_most stand.figures) each no_sums refl refl refl
    list-sized c (h ∷ hs) all most =
        plus-sized (hour-sized stand sound few c h all.0 each most.0)
        (list-sized (carried_after (accepted stand) c h) hs all.1 most.1)

    pub list-enclosed :
        (c : Carried) (hs : List Hour) → AllChecked hs → AllMost stand.figures.g_max each hs →
        HoursEnclosed (gap_most stand.figures) each (accepted stand) c hs
    list-enclosed c hs all most =
        hours-read _ _ (accepted stand) c hs (list-filled c hs all) (list-sized c hs all most)

-- ---- of a season

pub all-checked : (season : Season) (hs : List Hour) → AllDosed season hs → AllChecked hs
all-checked season [] all = tt
all-checked season (h ∷ hs) all = (all.0.2, all-checked season hs all.1)

-- of every kind
all_most :
    (g_max each : ℕ) (hs : List Hour) → ((air : Air) → most_dose g_max air ≤ each) →
    AllMost g_max each hs
all_most g_max each [] room = tt
all_most g_max each (h ∷ hs) room = (room h.air, all_most g_max each hs room)

pub hours-enclosed :
    (season : Season) → season.ceiling ≤ 5000 → (c : Carried) (hs : List Hour) →
    AllDosed season hs → HoursEnclosed (gap_hour season) (most_hour season) (stand_in season) c hs
unfolding sums_of
hours-enclosed season few c [] all =
    hours-read _ _ (stand_in season) c [] (none_filled (stand_in season) c)
    (none-sized (gap_hour season) (most_hour season) no_sums refl refl refl)
hours-enclosed season few c (h ∷ hs) all =
    let stand = all.0.0 in
    let own = season-stand season stand all.0.1 in
    let most = all_most stand.figures.g_max (most_hour season) (h ∷ hs) own.most in
    let e =
    list-enclosed stand own.sound (omega (arith, own.ceiling)) (most_hour season) c (h ∷ hs)
    (all-checked season (h ∷ hs) all) most in
    subst (λ (s : Outcome Stand). HoursEnclosed (gap_hour season) (most_hour season) s c (h ∷ hs))
    (sym all.0.1)
    (hours-read _ _ (accepted stand) c (h ∷ hs) e.filled
    (sized-more (omega (arith, own.gap)) e.sized))

-- the season's ceiling is the stand's, where there are hours

ceiling-is :
    (season : Season) (h : Hour) (hs : List Hour) → AllDosed season (h ∷ hs) →
    ceiling_in (stand_in season) ≡ season.ceiling
ceiling-is season h hs all = rw all.0.1 (season-stand season all.0.0 all.0.1).ceiling

pub season-fill :
    (season : Season) (hs fs : List Hour) → AllDosed season hs → AllFill season.ceiling hs fs →
    AllFill (ceiling_in (stand_in season)) hs fs
season-fill season [] fs all AllFill.none = AllFill.none
season-fill season (h ∷ hs) fs all fill = rw (ceiling-is season h hs all) fill

pub season-read :
    (season : Season) (hs : List Hour) → AllDosed season hs →
    all_read_as (ceiling_in (stand_in season)) hs ≡ all_read_as season.ceiling hs
season-read season [] all = refl
season-read season (h ∷ hs) all =
    ap (λ (n : ℕ). all_read_as n (h ∷ hs)) (ceiling-is season h hs all)

season-few : (season : Season) → season.ceiling ≤ 5000 → ceiling_in (stand_in season) ≤ 5000
unfolding stand_in
season-few season few = grind arith

-- row 13 lets their sums pass
pub hours-in :
    (season : Season) → season.ceiling ≤ 5000 → (c : Carried) (hs : List Hour) →
    AllDosed season hs → (season.ceiling ≡ 0 → AllRead hs) →
    SumsIn season (sums_of (stand_in season) c hs)
hours-in season few c hs all read =
    let sized = (hours-enclosed season few c hs all).sized in
    let aot40 =
    aot40-in season (stand_in season) (season-few season few) c hs (all-checked season hs all) in
    record {
      counted = counted-le (stand_in season) c hs;
      missing = sized.missing;
      bounded = λ none. missing-none (stand_in season) c hs (read none);
      order = sized.order;
      most = sized.most;
      gap = sized-gap season sized;
      aot40-order = aot40.order;
      aot40-most = aot40.most;
      aot40-width = aot40.width;
    }

-- ---- where ozone is read in every hour, they are their own filling

pub read-fill : (n : ℕ) (hs : List Hour) → AllRead hs → AllFill n hs hs
read-fill n [] all = AllFill.none
read-fill n (h ∷ hs) all = AllFill.hours (Fills.given all.0) (read-fill n hs all.1)

pub read_same : (n : ℕ) (hs : List Hour) → AllRead hs → all_read_as n hs ≡ hs
read_same n [] all = refl
read_same n (h ∷ hs) all = rw (read_is n h all.0, read_same n hs all.1) refl

-- ---- a part of a season and the next

pub dosed-append :
    (season : Season) (xs ys : List Hour) → AllDosed season xs → AllDosed season ys →
    AllDosed season (xs ++ ys)
dosed-append season [] ys p q = q
dosed-append season (x ∷ xs) ys p q = (p.0, dosed-append season xs ys p.1 q)

pub dosed-split :
    (season : Season) (xs ys : List Hour) → AllDosed season (xs ++ ys) →
    AllDosed season xs × AllDosed season ys
dosed-split season [] ys p = (tt, p)
dosed-split season (x ∷ xs) ys p =
    let rest = dosed-split season xs ys p.1 in ((p.0, rest.0), rest.1)
