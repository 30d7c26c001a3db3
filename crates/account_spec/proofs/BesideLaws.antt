-- Two books side by side, the hours of the second those of the first or filled: where the account
-- of the first takes lines, that of the second takes the lines filled.
use Prim.Native.Nat.{ℕ, ◌≤◌}
use mathlib.Core.Path.{◌≡◌, refl, sym, ap, subst, ◌∙◌}
use mathlib.Core.Bool.{true}
use mathlib.Core.List.{List, [], ◌∷◌, ◌++◌}
use lib.ListN.{length}
use Rattle.frames.specs.declared.records.Hour.{Hour}
use Rattle.frames.specs.declared.records.Record.{Record}
use Rattle.frames.specs.Ozone.{is_missing, with_ozone}
use Rattle.frames.specs.Answers.{accepted}
use Rattle.frames.proofs.AnswerLaws.{accepted-same, onward-passed}
use Rattle.account_spec.specs.declared.Account.{Account}
use Rattle.account_spec.specs.declared.State.{State}
use Rattle.account_spec.specs.Rules.{answer_of, feed_of}
use Rattle.account_spec.specs.Book.{Book, kind_of_hours, book_state, book_answer, book_entry}
use Rattle.account_spec.specs.steps.Account.{account_of, Proper}
use Rattle.account_spec.proofs.BookLaws.{entered-same, entry-proper}
use Rattle.account_spec.proofs.TurnLaws.{answer-takes}
use Rattle.account_spec.proofs.SeasonLaws.{feed_of-is}
use Rattle.account_spec.specs.Runs.{TakesAll}

-- ---- filled with a number from low to high, or the same

pub data FilledHour (low high : ℕ) (h : Hour) : Hour → Type 0 where
  same : FilledHour low high h h
  filled :
      is_missing h.ozone ≡ true → (n : ℕ) → low ≤ n → n ≤ high →
      FilledHour low high h (with_ozone n h)

pub data FilledHours (low high : ℕ) : List Hour → List Hour → Type 0 where
  none : FilledHours low high [] []
  hours :
      {h f : Hour} {hs fs : List Hour} → FilledHour low high h f → FilledHours low high hs fs →
      FilledHours low high (h ∷ hs) (f ∷ fs)

pub data FilledRecord (low high : ℕ) (r : Record) : Record → Type 0 where
  same : FilledRecord low high r r
  hour :
      {h f : Hour} → r ≡ Record.Hour h → FilledHour low high h f →
      FilledRecord low high r (Record.Hour f)

-- a line in another's place: where that is accepted, it is too
pub record FilledAnswer (low high : ℕ) (s : State) (m : List ℕ) (r : Record) : Type 0 where
  pub record_of : Record
  pub answer : answer_of s m ≡ accepted record_of
  pub filled : FilledRecord low high r record_of

abbrev pub FilledLine : ℕ → ℕ → List ℕ → List ℕ → Type 0
FilledLine low high l m =
    (s : State) (r : Record) → answer_of s l ≡ accepted r → FilledAnswer low high s m r

pub data FilledLines (low high : ℕ) : List (List ℕ) → List (List ℕ) → Type 0 where
  none : FilledLines low high [] []
  lines :
      {l m : List ℕ} {ls ms : List (List ℕ)} → FilledLine low high l m →
      FilledLines low high ls ms → FilledLines low high (l ∷ ls) (m ∷ ms)

-- ---- books side by side

pub record Beside (low high : ℕ) (b c : Book) : Type 0 where
  pub phase : c.phase ≡ b.phase
  pub season : c.season ≡ b.season
  pub hours : FilledHours low high b.hours c.hours

module _ {low high : ℕ} where
  hour-air : {h f : Hour} → FilledHour low high h f → f.air ≡ h.air
  hour-air FilledHour.same = refl
  hour-air (FilledHour.filled e n l k) = refl

  hours-kind :
      {hs fs : List Hour} → FilledHours low high hs fs → kind_of_hours fs ≡ kind_of_hours hs
  hours-kind FilledHours.none = refl
  hours-kind (FilledHours.hours one rest) = rw (hour-air one) refl

  hours-length : {hs fs : List Hour} → FilledHours low high hs fs → length fs ≡ length hs
  hours-length FilledHours.none = refl
  hours-length (FilledHours.hours one rest) = rw (hours-length rest) refl

  hours-snoc :
      {hs fs : List Hour} {h f : Hour} → FilledHours low high hs fs → FilledHour low high h f →
      FilledHours low high (hs ++ h ∷ []) (fs ++ f ∷ [])
  hours-snoc FilledHours.none last = FilledHours.hours last FilledHours.none
  hours-snoc (FilledHours.hours one rest) last = FilledHours.hours one (hours-snoc rest last)

  -- rows go by what the two have in common
  state-same : {b c : Book} → Beside low high b c → book_state c ≡ book_state b
  state-same e = rw (e.phase, e.season, hours-kind e.hours, hours-length e.hours) refl

  hour-entry :
      {b c : Book} {h f : Hour} → Beside low high b c → FilledHour low high h f →
      Beside low high (book_entry b (Record.Hour h)) (book_entry c (Record.Hour f))
  hour-entry e one = record { phase = e.phase; season = e.season; hours = hours-snoc e.hours one }

  same-entry :
      {b c : Book} (r : Record) → Beside low high b c →
      Beside low high (book_entry b r) (book_entry c r)
  same-entry (Record.Header h) e = record { phase = refl; season = refl; hours = e.hours }
  same-entry (Record.Hour h) e = hour-entry e FilledHour.same
  same-entry (Record.End x) e = record { phase = refl; season = e.season; hours = e.hours }
  same-entry (Record.Ceiling x) e =
      record { phase = e.phase; season = rw e.season refl; hours = e.hours }
  same-entry (Record.Parameters x) e =
      record { phase = e.phase; season = rw e.season refl; hours = e.hours }
  same-entry (Record.Warmth x) e =
      record { phase = e.phase; season = rw e.season refl; hours = e.hours }

  entry-beside :
      {b c : Book} {r q : Record} → Beside low high b c → FilledRecord low high r q →
      Beside low high (book_entry b r) (book_entry c q)
  entry-beside {r = r} e FilledRecord.same = same-entry r e
  entry-beside {b} {c} e (FilledRecord.hour {f = f} is one) =
      subst (λ (r : Record). Beside low high (book_entry b r) (book_entry c (Record.Hour f)))
      (sym is) (hour-entry e one)

-- ---- a line that the account of a book takes

pub record Entered (b : Book) (l : List ℕ) (a : Account) : Type 0 where
  pub record_of : Record
  pub answer : book_answer b l ≡ accepted record_of
  pub is : a ≡ account_of (book_entry b record_of)

module _ (b : Book) (p : Proper b) (l : List ℕ) where
  line-entered : (a : Account) → feed_of (account_of b) l ≡ accepted a → Entered b l a
  line-entered a e =
      let found = onward-passed (book_answer b l) _ a (sym (feed_of-is b p l) ∙ e) in
      record {
        record_of = found.0;
        answer = found.1;
        is =
            sym (accepted-same found.2)
            ∙ entered-same b found.0 p (answer-takes b l found.0 found.1);
      }

  module _ (r : Record) (e : book_answer b l ≡ accepted r) where
    line-takes : feed_of (account_of b) l ≡ accepted (account_of (book_entry b r))
    line-takes = rw (feed_of-is b p l, e) (ap accepted (entered-same b r p (answer-takes b l r e)))

    line-proper : Proper (book_entry b r)
    line-proper = entry-proper b r p (answer-takes b l r e)

-- ---- lines

-- the account that takes them stands for a book
pub record Booked (a : Account) : Type 0 where
  pub book : Book
  pub proper : Proper book
  pub is : a ≡ account_of book

pub lines-booked :
    (b : Book) (x a : Account) (ls : List (List ℕ)) → Proper b → x ≡ account_of b →
    TakesAll x ls a → Booked a
lines-booked b x a ls p e TakesAll.none = record { book = b; proper = p; is = e }
lines-booked b x a ls p e (TakesAll.line {b = y} {l = l} {ls = rest} takes more) =
    let one = line-entered b p l y (subst (λ (z : Account). feed_of z l ≡ accepted y) e takes) in
    lines-booked (book_entry b one.record_of) y a rest
    (line-proper b p l one.record_of one.answer) one.is more

-- two books, one beside the other, and the lines that the second took
pub record Both (low high : ℕ) (a : Account) (c : Book) (ms : List (List ℕ)) : Type 0 where
  pub book : Book
  pub other : Book
  pub proper : Proper book
  pub other-proper : Proper other
  pub beside : Beside low high book other
  pub is : a ≡ account_of book
  pub takes : TakesAll (account_of c) ms (account_of other)

pub lines-both :
    {low high : ℕ} (b c : Book) (x a : Account) (ls ms : List (List ℕ)) → Proper b → Proper c →
    Beside low high b c → x ≡ account_of b →
    FilledLines low high ls ms → TakesAll x ls a → Both low high a c ms
unfolding book_answer
lines-both b c x a ls ms p q beside e FilledLines.none TakesAll.none = record {
  book = b;
  other = c;
  proper = p;
  other-proper = q;
  beside = beside;
  is = e;
  takes = TakesAll.none;
}
lines-both b c x a ls ms p q beside e
    (FilledLines.lines {l = l} {m = m} {ls = rest} {ms = others} step steps)
    (TakesAll.line {b = y} takes more) =
    let one = line-entered b p l y (subst (λ (z : Account). feed_of z l ≡ accepted y) e takes) in
    let r = one.record_of in
    let second = step (book_state b) r one.answer in
    let f = second.record_of in
    let answer : book_answer c m ≡ accepted f = rw (state-same beside) second.answer in
    let after =
    lines-both (book_entry b r) (book_entry c f) y a rest others (line-proper b p l r one.answer)
    (line-proper c q m f answer)
    (entry-beside beside second.filled) one.is steps more
    in
    record {
      book = after.book;
      other = after.other;
      proper = after.proper;
      other-proper = after.other-proper;
      beside = after.beside;
      is = after.is;
      takes = TakesAll.line (line-takes c q m f answer) after.takes;
    }
