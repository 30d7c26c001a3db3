-- An account that is possible stays possible: what an accepted line makes of it is possible too.
use Rattle.std.specs.Prelude.{Some}
use Prim.Native.Nat.{ℕ, suc, ◌+◌, ◌-◌, ◌≤◌}
use mathlib.Core.Path.{◌≡◌, refl, sym, subst}
use mathlib.Core.Bool.{true, false, not, false≢true, ◌||◌}
use mathlib.Core.List.{List, [], ◌∷◌}
use native.Mathlib.Omega.{arith}
use lib.Dec.{eqb, ltb}
use Rattle.std.proofs.lemmas.Bool.Decides.{nat_tests}
use borrow.Author.Tests.{eqb-false, ltb-false}
use Rattle.frames.specs.declared.records.Hour.{Hour}
use Rattle.frames.specs.declared.records.Raw.{Raw}
use Rattle.frames.specs.declared.records.Record.{Record}
use Rattle.frames.specs.Ozone.{is_missing}
use Rattle.frames.specs.Answers.{accepted}
use Rattle.frames.specs.Period.{period_hours}
use Rattle.trees.specs.Warmth.{has_warmth}
use Rattle.frames.proofs.AnswerLaws.{or-neither, accepted-same, row-passed, onward-passed}
use Rattle.frames.proofs.OzoneLaws.{ceiling-le}
use Rattle.account_spec.specs.declared.Season.{Season}
use Rattle.account_spec.specs.declared.Sums.{Sums}
use Rattle.account_spec.specs.declared.Account.{Account}
use Rattle.account_spec.specs.declared.Carried.{Carried}
use Rattle.account_spec.specs.Hours.{no_sums, plus, stand_in, hour_sums, sums_of}
use Rattle.account_spec.specs.HourKinds.{hour_kind, kind_number, kind_out}
use Rattle.account_spec.specs.Enclosed.{HasDose}
use Rattle.account_spec.specs.Account.{awaits, carried_out, impossible}
use Rattle.account_spec.specs.Rules.{with_ceiling, with_warmth, turn_of, entered, state_of, feed_of}
use Rattle.account_spec.proofs.SumsLaws.{plus_none}
use Rattle.account_spec.proofs.HourLaws.{dosable-has}
use Rattle.account_spec.proofs.EnclosedLaws.{hours-in, plus-read}
use Rattle.account_spec.proofs.CarriedLaws.{ColdIn, cold-in}
use Rattle.account_spec.proofs.PossibleLaws.{SumsIn, PossibleFacts, possible-is, possible-false}
use Rattle.account_spec.proofs.KindLaws.{some-kind}
use Rattle.account_spec.proofs.BookLaws.{SeasonSound, TakenIn, has-ozone, cold-awaiting, fed-awaits}
use Rattle.account_spec.proofs.BookLaws.{warmth-fed, carried-next}
use Rattle.account_spec.proofs.TurnLaws.{frame-taken, answer-taken}

-- ---- sums that hours can give, added up

none_in : {season : Season} → SumsIn season no_sums
none_in = grind arith

plus-in :
    {season : Season} {s t : Sums} → SumsIn season s → SumsIn season t → SumsIn season (plus s t)
plus-in {season} {s} {t} p q =
    record {
      counted = omega arith;
      missing = omega arith;
      bounded = λ none. omega (arith, p.bounded none, q.bounded none);
      order = omega arith;
      most = omega arith;
      gap = rw (plus-read s t p.missing q.missing) (omega (arith, p.gap, q.gap));
      aot40-order = omega arith;
      aot40-most = omega arith;
      aot40-width = omega arith;
    }

hour-in :
    (season : Season) → season.ceiling ≤ 5000 → (c : Carried) (h : Hour) → HasDose season h →
    (season.ceiling ≡ 0 → is_missing h.ozone ≡ false) →
    SumsIn season (hour_sums (stand_in season) c h)
unfolding sums_of
hour-in season few c h has read =
    subst (SumsIn season) (plus_none (hour_sums (stand_in season) c h))
    (hours-in season few c (h ∷ []) (has, tt) (λ none. (read none, tt)))

hour-one : (season : Season) (c : Carried) (h : Hour) → (hour_sums (stand_in season) c h).hours ≡ 1
unfolding hour_sums
hour-one season c h = grind arith

-- before the first hour the sums are those of any season
unbegun-in : {season next : Season} {s : Sums} → SumsIn season s → s.hours ≡ 0 → SumsIn next s
unbegun-in {s = s} p none =
    let counted : s.counted ≡ 0 = omega arith in
    let upper = rw counted at p.most in
    grind arith

-- ---- a season whose parameters are awaited has no ceiling, hours or kind

unmeasured-none :
    (a : Account) → PossibleFacts a → awaits a.season ≡ true →
    (not (eqb (kind_number a.kind) 0) || not (eqb a.season.ceiling 0) || ltb 0 a.sums.hours) ≡ false
unmeasured-none a p awaited = rw awaited at p.measured

awaiting-hours : (a : Account) → PossibleFacts a → awaits a.season ≡ true → a.sums.hours ≡ 0
awaiting-hours a p awaited =
    let none =
    or-neither (not (eqb (kind_number a.kind) 0) || not (eqb a.season.ceiling 0))
    (ltb 0 a.sums.hours) (unmeasured-none a p awaited) in
    omega (arith, ltb-false 0 a.sums.hours none.1)

-- warmth finds nothing carried
none-carried :
    (season : Season) (hours : ℕ) (c : Carried) → has_warmth season.warmth ≡ true → hours ≡ 0 →
    ColdIn c → carried_out season hours c ≡ false
none-carried season hours c has none cold = grind (arith, nat_tests)

-- ---- an accepted record

entered-possible :
    (a : Account) (r : Record) → PossibleFacts a → TakenIn (state_of a) r →
    PossibleFacts (entered a r)
unfolding entered
entered-possible a (Record.Header h) p t = grind arith
entered-possible a (Record.Hour h) p t =
    let one = hour-one a.season a.carried h in
    let next : a.sums.hours + (hour_sums (stand_in a.season) a.carried h).hours ≡ suc a.sums.hours =
    omega (arith, one) in
    let begun = p.ceiling (rw t.0 refl) in
    let sound : SeasonSound a.season = record {
      header = p.header (rw t.0 refl);
      ceiling = begun;
      parameters = p.parameters (rw t.0 refl);
      warmth = p.warmth (rw t.0 refl);
    } in
    let has = dosable-has a.season h (t.2 sound) in
    record {
      header = p.header;
      ceiling = p.ceiling;
      parameters = p.parameters;
      warmth = p.warmth;
      measured = rw t.5 refl;
      alone = p.alone;
      carried = rw next (carried-next a.season h has a.carried a.sums.hours t.7 p.carried);
      hours =
          omega (arith, p.hours, one, eqb-false a.sums.hours (period_hours a.season.header) t.1);
      sums =
          plus-in p.sums
          (hour-in a.season (ceiling-le _ begun) a.carried h has
          (has-ozone a.season.ceiling h.ozone t.4));
      kind =
          subst (λ (n : ℕ). kind_out (Some (hour_kind h.air)) n ≡ false) (sym next)
          (some-kind h.air a.sums.hours);
      blank = λ e. absurd (false≢true (rw t.0 at e));
      given = λ e. absurd (false≢true (rw t.0 at e));
    }
entered-possible a (Record.End e) p t = grind arith
entered-possible a (Record.Ceiling c) p t =
    grind (arith, unbegun-in {season = a.season} {next = with_ceiling a.season c} p.sums t.2)
entered-possible a (Record.Parameters ps) p t =
    let cold = cold-awaiting a.season p.alone t.1 in
    record {
      header = p.header;
      ceiling = p.ceiling;
      parameters = grind arith;
      warmth = p.warmth;
      measured = rw (unmeasured-none a p t.1) (grind arith);
      alone = grind arith;
      carried = p.carried;
      hours = p.hours;
      sums = unbegun-in p.sums (awaiting-hours a p t.1);
      kind = p.kind;
      blank = grind arith;
      given = grind arith;
    }
entered-possible a (Record.Warmth w) p t =
    let carried =
    none-carried (with_warmth a.season w) a.sums.hours a.carried (warmth-fed w t.5) t.4
    (cold-in a.season a.sums.hours a.carried p.carried t.2) in
    let sums = unbegun-in {season = a.season} {next = with_warmth a.season w} p.sums t.4 in
    grind (arith, fed-awaits a.season t.1)

-- of a frame
pub entered-on :
    (a : Account) → impossible a ≡ false → (frame : Raw) (r : Record) →
    turn_of (state_of a) frame ≡ accepted r → impossible (entered a r) ≡ false
entered-on a possible frame r e =
    possible-false _
    (entered-possible a r (possible-is a possible) (frame-taken (state_of a) frame r e))

-- of a line
pub next-possible : (a b : Account) (l : List ℕ) → feed_of a l ≡ accepted b → impossible b ≡ false
unfolding feed_of
next-possible a b l e =
    let possible = row-passed (impossible a) _ _ b e in
    let passed = onward-passed _ _ b possible.1 in
    let takes = answer-taken (state_of a) l passed.0 passed.1 in
    subst (λ (x : Account). impossible x ≡ false) (accepted-same passed.2)
    (possible-false _ (entered-possible a passed.0 (possible-is a possible.0) takes))
