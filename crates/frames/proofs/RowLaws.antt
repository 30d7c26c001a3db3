-- The reader answers rows 1 to 3, 5 to 8, 10, 17, 24 and 25 and no other.
use Rattle.std.specs.Prelude.{Option, Some, None}
use Prim.Native.Nat.{ℕ}
use mathlib.Core.Path.{◌≡◌, refl, sym, subst}
use mathlib.Core.Bool.{Bool, true, false, cond, ◌&&◌, or-true}
use mathlib.Core.Logic.{⊎_elim}
use mathlib.Core.List.{List}
use lib.Dec.{eqb, ltb}
use lib.ListN.{length}
use Rattle.trees.specs.declared.Figures.{Figures}
use Rattle.trees.specs.Parameters.{no_parameters}
use Rattle.trees.specs.MeasuredFigures.{figures_in}
use Rattle.frames.specs.Answers.{Outcome, accepted, refused, onward}
use Rattle.frames.specs.Digits.{within, all_digits, byte_at}
use Rattle.frames.specs.Kinds.{among, is_length, length_of}
use Rattle.frames.specs.Temperature.{temperature_out}
use Rattle.frames.specs.Numbers.{is_outside}
use Rattle.frames.specs.Parameters.{parameter_out}
use Rattle.frames.specs.Ranges.{on_tree, period_out, ozone_out, vapour_out, soil_out, pressure_out}
use Rattle.frames.specs.Ranges.{warmth_out, checked}
use Rattle.frames.specs.Frames.{parsed_of, sound_of, record_of, read_frame_of}
use Rattle.frames.specs.Rows.{one_of, reader_rows, ReaderRows}
use Rattle.frames.specs.declared.records.Raw.{Raw}
use Rattle.frames.specs.declared.records.Record.{Record}
use Rattle.frames.proofs.AnswerLaws.{and_both, or-either, refused-not-accepted}
use Rattle.frames.proofs.KindLaws.{all_pass, among-passes}
use Rattle.frames.proofs.FrameLaws.{length-out, digits-out, kind-out, kind-in}

-- an outcome refused by no row but those of the list, and row 10 with its field
pub record Only {A : Type 0} (rows : List ℕ) (o : Outcome A) : Type 0 where
  pub only : (n f : ℕ) → o ≡ refused (n, f) → one_of rows n f ≡ true

module _ {A : Type 0} {rows : List ℕ} where
  pub accepted-only : (a : A) → Only rows (accepted a)
  accepted-only a = record { only = λ n f e. refused-not-accepted (sym e) }

  refused-only : (n f : ℕ) → one_of rows n f ≡ true → Only {A = A} rows (refused (n, f))
  refused-only n f h = record {
    only = λ m g e.
        let same : ◌≡◌ {A = ℕ × ℕ} (n, f) (m, g) = cc in
        subst (λ (w : ℕ × ℕ). one_of rows w.0 w.1 ≡ true) same h;
  }

  -- `row` and `field`, by their test
  pub row-only :
      (t : Bool) (n f : ℕ) (next : Outcome A) → one_of rows n f ≡ true → Only rows next →
      Only rows (cond t (refused (n, f)) next)
  row-only true n f next h o = refused-only n f h
  row-only false n f next h o = o

  pub onward-only :
      {B : Type 0} (o : Outcome B) (next : B → Outcome A) → Only rows o →
      ((b : B) → Only rows (next b)) → Only rows (onward o next)
  onward-only (accepted b) next p q = q b
  onward-only (refused w) next p q = refused-only w.0 w.1 (p.only w.0 w.1 refl)

  on_tree-only :
      (choice : Option Figures) (next : Figures → Outcome A) → one_of rows 5 0 ≡ true →
      ((f : Figures) → Only rows (next f)) → Only rows (on_tree choice next)
  on_tree-only (Some f) next h o = o f
  on_tree-only None next h o = refused-only 5 0 h

-- the rows of a list are among those of a longer one
pub only_wider :
    {A : Type 0} {rows more : List ℕ} {o : Outcome A} → all_pass (among more) rows ≡ true →
    Only rows o → Only more o
only_wider {rows = rows} {more = more} all o = record {
  only = λ n f e.
      ⊎_elim
      (λ s.
      let both = and_both (among rows n) (eqb f 0) s in
      rw (among-passes (among more) rows n all both.0, both.1) refl)
      (λ s. rw s (or-true (among more n && eqb f 0)))
      (or-either (among rows n && eqb f 0) (eqb n 10 && within 1 8 f) (o.only n f e));
}

field_in : (rows : List ℕ) (f : ℕ) → within 1 8 f ≡ true → one_of rows 10 f ≡ true
field_in rows f e = rw e (or-true (among rows 10 && eqb f 0))

-- rows 5 to 8, 17, 24 and 25 are in the list
pub record Ranged (rows : List ℕ) : Type 0 where
  pub tree : one_of rows 5 0 ≡ true
  pub year : one_of rows 6 0 ≡ true
  pub period : one_of rows 7 0 ≡ true
  pub level : one_of rows 8 0 ≡ true
  pub ceiling : one_of rows 17 0 ≡ true
  pub parameter : one_of rows 24 0 ≡ true
  pub warmth : one_of rows 25 0 ≡ true

pub checked-only : {rows : List ℕ} → Ranged rows → (r : Record) → Only rows (checked r)
unfolding checked
checked-only a (Record.Header h) =
    on_tree-only (figures_in no_parameters h.tree) _ a.tree (λ f.
    row-only (is_outside 365 366 h.days) _ _ _ a.year
    (row-only (period_out h _) _ _ _ a.period
    (row-only (is_outside 1 10000 h.level) _ _ _ a.level
    (accepted-only _))))
checked-only {rows} a (Record.Hour h) =
    row-only (ozone_out h.ozone) _ _ _ (field_in rows 1 refl)
    (row-only (ltb 3000 h.ppfd) _ _ _ (field_in rows 2 refl)
    (row-only (ltb 1500 h.radiation) _ _ _ (field_in rows 3 refl)
    (row-only (temperature_out h.temperature) _ _ _ (field_in rows 4 refl)
    (row-only (vapour_out h.air) _ _ _ (field_in rows 5 refl)
    (row-only (ltb 6000 h.wind) _ _ _ (field_in rows 6 refl)
    (row-only (soil_out h.soil) _ _ _ (field_in rows 7 refl)
    (row-only (pressure_out h.air) _ _ _ (field_in rows 8 refl)
    (accepted-only _))))))))
checked-only a (Record.End e) = accepted-only _
checked-only a (Record.Ceiling c) =
    row-only (is_outside 1 5000 c.ozone) _ _ _ a.ceiling (accepted-only _)
checked-only a (Record.Parameters p) =
    row-only (parameter_out p) _ _ _ a.parameter (accepted-only _)
checked-only a (Record.Warmth w) = row-only (warmth_out w) _ _ _ a.warmth (accepted-only _)

-- ---- the reader

read-ranged : Ranged reader_rows
unfolding among
read-ranged = record {
  tree = refl;
  year = refl;
  period = refl;
  level = refl;
  ceiling = refl;
  parameter = refl;
  warmth = refl;
}

module _ (l : List ℕ) where
  by_kind :
      is_length (length l) ≡ true → all_digits l ≡ true → (t : Bool) →
      eqb (length_of (byte_at 0 l)) (length l) ≡ t → Only reader_rows (parsed_of l)
  unfolding among
  by_kind sized digits true e =
      subst (Only reader_rows) (kind-in l sized digits e) (accepted-only _)
  by_kind sized digits false e =
      subst (Only reader_rows) (kind-out l sized digits e) (refused-only 3 0 refl)

  by_digits :
      is_length (length l) ≡ true → (t : Bool) → all_digits l ≡ t → Only reader_rows (parsed_of l)
  unfolding among
  by_digits sized true e = by_kind sized e _ refl
  by_digits sized false e = subst (Only reader_rows) (digits-out l sized e) (refused-only 2 0 refl)

  by_length : (t : Bool) → is_length (length l) ≡ t → Only reader_rows (parsed_of l)
  unfolding among
  by_length true e = by_digits e _ refl
  by_length false e = subst (Only reader_rows) (length-out l e) (refused-only 1 0 refl)

  pub parsed-only : Only reader_rows (parsed_of l)
  parsed-only = by_length _ refl

sound-only : (r : Record) → Only reader_rows (sound_of r)
unfolding sound_of
sound-only r =
    onward-only (checked r) (λ _. accepted r) (checked-only read-ranged r) (λ _. accepted-only r)

pub record-only : (tree : ℕ) (frame : Raw) → Only reader_rows (record_of tree frame)
unfolding record_of among
record-only tree (Raw.Header h) = sound-only (Record.Header h)
record-only tree (Raw.Hour raw) =
    on_tree-only (figures_in no_parameters tree) _ refl (λ f. sound-only _)
record-only tree (Raw.End e) = sound-only (Record.End e)
record-only tree (Raw.Ceiling c) = sound-only (Record.Ceiling c)
record-only tree (Raw.Parameters p) = sound-only (Record.Parameters p)
record-only tree (Raw.Warmth w) = sound-only (Record.Warmth w)

read_only : (tree : ℕ) (l : List ℕ) → Only reader_rows (read_frame_of tree l)
unfolding read_frame_of
read_only tree l = onward-only (parsed_of l) (record_of tree) (parsed-only l) (record-only tree)

pub reader-rows : ReaderRows
reader-rows = record { read_rows = λ tree l. (read_only tree l).only }
