-- What each call on the bytes of an account tells: the events of a season that it adds, and the
-- bytes that it leaves.
use Rattle.std.specs.Prelude.{Ok}
use Prim.Native.Nat.{ℕ}
use mathlib.Core.Path.{◌≡◌, refl, sym, ap, subst, ◌∙◌}
use mathlib.Core.Bool.{Bool, true, false, true≢false}
use mathlib.Core.List.{List, [], ◌∷◌, ◌++◌, append-nil}
use native.Mathlib.Omega.{arith}
use borrow.Author.Tests.{ltb-true}
use lib.Dec.{ltb}
use lib.ListN.{length}
use lib.Seq.{append_snoc}
use Rattle.frames.specs.declared.records.Record.{Record}
use Rattle.frames.specs.Answers.{Outcome, accepted, refused}
use Rattle.frames.specs.Layout.{frame_line}
use Rattle.account_spec.specs.declared.Account.{Account}
use Rattle.account_spec.specs.Account.{fresh_account, impossible}
use Rattle.account_spec.specs.Rules.{feed_of, left_of, fed_as, left_by, Feeds, Fed}
use Rattle.account_spec.specs.Reading.{totals_of, read_of}
use Rattle.account_spec.specs.Book.{Book, empty_book, book_answer, book_next}
use Rattle.account_spec.specs.Runs.{Event, fed, taken, Run}
use Rattle.account_spec.specs.Promise.{SeasonPromise}
use Rattle.account_spec.specs.steps.Account.{account_of, Proper}
use Rattle.account_spec.proofs.BookLaws.{fresh-same, proper-possible}
use Rattle.account_spec.proofs.RowLaws.{answer-row}
use Rattle.account_spec.proofs.ReadingLaws.{read_of-is}
use Rattle.account_spec.proofs.RunLaws.{Replied, book-replied}
use Rattle.account_spec.proofs.SeasonLaws.{feed_of-is, left_is, next-is-proper, fresh-proper}
use Rattle.stand.specs.Promise.{RunKept}
use Rattle.floats.specs.declared.FloatReadings.{FloatReadings}
use Rattle.floats.specs.Feeding.{feed_floats_of}
use Rattle.text_spec.specs.Line.{totals_line, format_of}
use Rattle.stored.specs.Layout.{take_up_of}
use Rattle.stored.specs.TrialLayout.{Contents, answer_carried, trial_width, contents_in}
use Rattle.stored.proofs.TrialRoundTripLaws.{fed-answer}
use Rattle.stored.specs.Feeding.{fed_listed_of}
use Rattle.stored.specs.declared.answers.Printed.{Printed}
use Rattle.stored.specs.declared.answers.Readout.{Readout}
use Rattle.stored.specs.declared.answers.Tried.{Tried}
use Rattle.stored.specs.Code.{code_of, named_answer}
use Rattle.stored.specs.Reading.{readout_of}
use Rattle.stand.proofs.ContinuedLaws.{run-append, end-append}
use Rattle.trial.specs.Same.{is_same}
use Rattle.trial.specs.Trial.{next_of}
use Rattle.trial.specs.Taking.{take_with}
use Rattle.trial.proofs.SameLaws.{same-is}
use Rattle.trial.proofs.TrialLaws.{take-fed}
use Rattle.part.specs.Calls.{FeedsBytes, fed_in, read_in, printed_line, PrintsBytes}
use Rattle.part.specs.Floats.{floats_fed_in, FloatsBytes}
use Rattle.part.specs.Lists.{FeedsAllBytes}
use Rattle.part.specs.Trials.{contents_by, tried_in, tried_of, trial_after, TriesBytes}
use Rattle.part.specs.Trials.{taken_from, taken_in, TakesBytes}
use Rattle.part.specs.Told.{Told, line_told, floats_told, trial_told, take_told, list_told}
use Rattle.part.specs.Told.{reading_told, print_told, front, at_place, IsMade, CallTold}
use Rattle.part.specs.Promise.{account_now, TrialTold, LineRefused, Telling}
use Rattle.part.proofs.HeldLaws.{fed-is, read_is, left-held, lent-held, front-held}
use Rattle.part.proofs.PlaceLaws.{place-taken, place-kept}
use Rattle.part.proofs.SaidLaws.{floats-as, floats-said}
use Rattle.part.proofs.Row13Laws.{Never13, accepted-never, refused-never, onward-never}
use Rattle.part.proofs.Row13Laws.{floats-never}

-- ---- a season so far: its account stands for a book that lines gave

pub record SeasonSoFar (done : List Event) : Type 0 where
  pub book : Book
  pub proper : Proper book
  pub run : Run fresh_account done
  pub is : account_now done ≡ account_of book

pub nothing-yet : SeasonSoFar []
nothing-yet = record { book = empty_book; proper = fresh-proper; run = Run.stop; is = fresh-same }

accepted-feeds : (a b : Account) (l : List ℕ) → feed_of a l ≡ accepted b → Feeds a l (Ok b)
accepted-feeds a b l e = record { answers = sym e; leaves = ap (left_of a) (sym e) }

pub run-kept : SeasonPromise → (es : List Event) → SeasonSoFar es → RunKept es
run-kept p es n = record { run = n.run; kept = p.kept es n.run }

-- what a made trial carries is the line's answer
carried-fed : (a : Account) (l : List ℕ) (r : Fed) → Feeds a l r
    → answer_carried (contents_by a l) ≡ feed_of a l
carried-fed a l r k =
    ap (λ (o : Outcome Account). named_answer (code_of o) (left_of a o)) (sym k.answers)
    ∙ ap (named_answer (code_of (fed_as r))) (ap (left_of a) k.answers ∙ sym k.leaves)
    ∙ fed-answer r
    ∙ k.answers

-- a trial that is accepted tried this account
accepts-tried : (a : Account) (trial : List ℕ) (c : Contents) (b : Account)
    → contents_in trial ≡ accepted c → taken_from trial a ≡ accepted b → a ≡ c.tried
unfolding take_with
accepts-tried a trial c b e f = grind (arith, (same-is a c.tried).0)

-- what a call tells, and what it leaves
pub record Step (done : List Event) (t : Told) (after : List ℕ) : Type 0 where
  pub more : List Event
  pub telling : Telling done t more
  pub next : SeasonSoFar (done ++ more)
  pub held : take_up_of after ≡ accepted (account_now (done ++ more))

read-after : (done : List Event) → SeasonSoFar done
    → read_of (account_now done) ≡ accepted (totals_of (account_now done))
read-after done n =
    subst (λ (a : Account). read_of a ≡ accepted (totals_of a)) (sym n.is)
    (read_of-is n.book n.proper)

taken-after : (done : List Event) → SeasonSoFar done
    → SeasonSoFar (done ++ taken (Ok (totals_of (account_now done))) ∷ [])
taken-after done n =
    let es = taken (Ok (totals_of (account_now done))) ∷ [] in
    record {
      book = n.book;
      proper = n.proper;
      run =
          run-append fresh_account done es n.run
          (Run.reads (record { answers = sym (read-after done n) }) Run.stop);
      is = end-append fresh_account done es ∙ n.is;
    }

module _ (p : SeasonPromise) (done : List Event) (n : SeasonSoFar done) where
  abbrev now : Account
  now = account_now done

  replied : (l : List ℕ) → Replied now l
  replied l =
      subst (λ (a : Account). Replied a l) (sym n.is) (book-replied n.book n.proper l)

  read-now : read_of now ≡ accepted (totals_of now)
  read-now = read-after done n

  -- it goes on by a line

  fed-next : (l : List ℕ) (r : Fed) → Feeds now l r → SeasonSoFar (done ++ fed l r ∷ [])
  fed-next l r k =
      let same : Feeds (account_of n.book) l r = subst (λ (a : Account). Feeds a l r) n.is k in
      record {
        book = book_next n.book (book_answer n.book l);
        proper = next-is-proper n.book n.proper l;
        run = run-append fresh_account done (fed l r ∷ []) n.run (Run.feeds k Run.stop);
        is = end-append fresh_account done (fed l r ∷ []) ∙ left_is n.book n.proper l r same;
      }

  -- ---- no row 13, and a line that it refuses

  possible-now : impossible now ≡ false
  possible-now =
      subst (λ (a : Account). impossible a ≡ false) (sym n.is) (proper-possible n.book n.proper)

  fed-never : (l : List ℕ) → Never13 (feed_of now l)
  fed-never l =
      let never : Never13 (book_answer n.book l) =
      record { never = λ f e. true≢false (answer-row n.book l 13 f e).possible } in
      subst Never13 (sym (ap (λ (a : Account). feed_of a l) n.is ∙ feed_of-is n.book n.proper l))
      (onward-never (book_answer n.book l) _ never (λ r. accepted-never _))

  line-refused : (l : List ℕ) (w : ℕ × ℕ) → feed_of now l ≡ refused w → LineRefused done l w
  line-refused l w e =
      let r = replied l in
      record {
        fed_so = r.reply-to;
        kept = run-kept p (done ++ fed l r.reply-to ∷ []) (fed-next l r.reply-to r.feeds-it);
        answers = r.feeds-it.answers ∙ e;
      }

  -- ---- a call by the events that it adds

  module _ (t : Told) (after : List ℕ) where
    stays : Telling done t [] → take_up_of after ≡ accepted now → Step done t after
    stays telling held = record {
      more = [];
      telling = telling;
      next = subst SeasonSoFar (sym (append-nil done)) n;
      held = held ∙ ap (λ (es : List Event). accepted (account_now es)) (sym (append-nil done));
    }

    by_line : (l : List ℕ) (r : Fed) → Feeds now l r → Telling done t (fed l r ∷ [])
        → take_up_of after ≡ accepted (left_by r) → Step done t after
    by_line l r k telling held = record {
      more = fed l r ∷ [];
      telling = telling;
      next = fed-next l r k;
      held = held ∙ ap accepted (sym (end-append fresh_account done (fed l r ∷ [])));
    }

    by-reading : Telling done t (taken (Ok (totals_of now)) ∷ []) → take_up_of after ≡ accepted now
        → Step done t after
    by-reading telling held = record {
      more = taken (Ok (totals_of now)) ∷ [];
      telling = telling;
      next = taken-after done n;
      held =
          held
          ∙ ap accepted (sym (end-append fresh_account done (taken (Ok (totals_of now)) ∷ [])));
    }

  module _ (lent : List ℕ) (first : take_up_of (front lent) ≡ accepted now) where
    held : take_up_of lent ≡ accepted now
    held = lent-held lent now first

    -- ---- a line

    line-step : (l after : List ℕ) (code : ℕ) → FeedsBytes lent l code after
        → Step done (line_told l code) (front after)
    line-step l after code k =
        let r = replied l in
        let tells : code ≡ code_of (fed_as r.reply-to) =
        k.answers ∙ ap code_of (fed-is now lent held l ∙ sym r.feeds-it.answers) in
        let left =
        left-held now lent held (fed_in lent l) (feed_of now l) (fed-is now lent held l) after
        code k in
        by_line (line_told l code) (front after) l r.reply-to r.feeds-it (Telling.line tells)
        (front-held after (left_by r.reply-to) (left ∙ ap accepted (sym r.feeds-it.leaves)))

    -- ---- an hour of floats

    module _ (day hour : ℕ) (readings : FloatReadings) (after : List ℕ) (code : ℕ)
        (k : FloatsBytes lent day hour readings code after) where
      floats-is : floats_fed_in lent day hour readings ≡ feed_floats_of now day hour readings
      unfolding floats_fed_in
      floats-is = rw held refl

      floats-by : (o : Outcome Account) → feed_floats_of now day hour readings ≡ o
          → Step done (floats_told day hour readings code) (front after)
      floats-by (accepted b) e =
          let said = floats-said now day hour readings b e in
          let left = left-held now lent held _ (accepted b) (floats-is ∙ e) after code k in
          by_line (floats_told day hour readings code) (front after)
          (frame_line (Record.Hour said.0)) (Ok b) (accepted-feeds now b _ said.2)
          (Telling.floats said.1 (k.answers ∙ ap code_of (floats-is ∙ e))) (front-held after b left)
      floats-by (refused w) e =
          let left = left-held now lent held _ (refused w) (floats-is ∙ e) after code k in
          let no-13 = floats-never now possible-now day hour readings in
          stays (floats_told day hour readings code) (front after)
          (Telling.floats_refused e (k.answers ∙ ap code_of (floats-is ∙ e))
          (λ field is. no-13.never field (e ∙ ap refused is))
          (λ h says. line-refused _ w (sym (floats-as now day hour readings h says) ∙ e)))
          (front-held after now left)

    -- ---- a trial made

    module _ (l buffer trial : List ℕ) (answer : Tried) (k : TriesBytes lent l buffer answer trial)
      where
        tried-made : ltb (length buffer) trial_width ≡ false
            → tried_in lent l (length buffer) ≡ accepted (contents_by now l)
        unfolding tried_in
        tried-made e = rw (held, e) refl

        tried-short : ltb (length buffer) trial_width ≡ true
            → tried_in lent l (length buffer) ≡ refused (12, 0)
        unfolding tried_in
        tried-short e = rw (held, e) refl

        made : ltb (length buffer) trial_width ≡ false → TrialTold done l buffer answer trial
        made e =
            let is = tried-made e in
            let r = replied l in
            let next = fed-next l r.reply-to r.feeds-it in
            let then = account_now (done ++ fed l r.reply-to ∷ []) in
            let after : then ≡ next_of now l =
            end-append fresh_account done (fed l r.reply-to ∷ []) ∙ r.feeds-it.leaves in
            let read : read_of (next_of now l) ≡ accepted (totals_of then) =
            ap read_of (sym after) ∙ read-after (done ++ fed l r.reply-to ∷ []) next in
            record {
              fed_so = r.reply-to;
              totals = totals_of then;
              kept =
                  subst RunKept
                  (append_snoc done (fed l r.reply-to) (taken (Ok (totals_of then)) ∷ []))
                  (run-kept p _ (taken-after (done ++ fed l r.reply-to ∷ []) next));
              code = ap (λ (t : Tried). t.code) (k.answers ∙ ap tried_of is);
              tells =
                  ap (λ (t : Tried). t.answer) (k.answers ∙ ap tried_of is)
                  ∙ ap code_of (sym r.feeds-it.answers);
              reads =
                  ap (λ (t : Tried). t.reading) (k.answers ∙ ap tried_of is) ∙ ap readout_of read;
              leaves = k.leaves ∙ ap (trial_after buffer) is;
              holds = k.holds (contents_by now l) is;
            }

        trial-by : (short : Bool) → ltb (length buffer) trial_width ≡ short
            → Step done (trial_told l buffer answer trial) (front lent)
        trial-by true e =
            stays (trial_told l buffer answer trial) (front lent)
            (Telling.trial_short (ltb-true (length buffer) trial_width e)
            (k.answers ∙ ap tried_of (tried-short e))
            (k.leaves ∙ ap (trial_after buffer) (tried-short e)))
            first
        trial-by false e =
            stays (trial_told l buffer answer trial) (front lent) (Telling.trial (made e)) first

    -- ---- a trial taken

    module _ (trial after : List ℕ) (code : ℕ) (k : TakesBytes lent trial code after) where
      taken-is : taken_in lent trial ≡ taken_from trial now
      unfolding taken_in
      taken-is = rw held refl

      -- made of this account by a line, it is the line fed
      taken-fed : (l : List ℕ) → contents_in trial ≡ accepted (contents_by now l)
          → taken_from trial now ≡ feed_of now l
      taken-fed l e =
          let r = replied l in
          rw (e, carried-fed now l r.reply-to r.feeds-it) (take-fed now l)

      -- made by any line, it is that line's row, or row 16 of another account
      made-never : (m : IsMade trial) (same : Bool) → is_same now m.tried ≡ same
          → Never13 (taken_from trial now)
      unfolding take_with
      made-never m true e =
          let holds : contents_in trial ≡ accepted (contents_by now m.line) =
          subst (λ (a : Account). contents_in trial ≡ accepted (contents_by a m.line))
          (sym ((same-is now m.tried).0 e)) m.holds in
          rw (taken-fed m.line holds) (fed-never m.line)
      made-never m false e = rw (m.holds, possible-now, e) (refused-never 16 0 refl)

      taken-line : (b : Account) → taken_from trial now ≡ accepted b → code ≡ 0 → IsMade trial
          → Step done (take_told trial code) (front after)
      taken-line b e zero m =
          let same : now ≡ m.tried = accepts-tried now trial _ b m.holds e in
          let holds : contents_in trial ≡ accepted (contents_by now m.line) =
          subst (λ (a : Account). contents_in trial ≡ accepted (contents_by a m.line))
          (sym same) m.holds in
          let left = left-held now lent held _ (accepted b) (taken-is ∙ e) after code k in
          by_line (take_told trial code) (front after) m.line (Ok b)
          (accepted-feeds now b m.line (sym (taken-fed m.line holds) ∙ e))
          (Telling.take holds zero)
          (front-held after b left)

      taken-by : (code ≡ 0 → IsMade trial) → (o : Outcome Account) → taken_from trial now ≡ o
          → Step done (take_told trial code) (front after)
      taken-by made-of (accepted b) e =
          let zero : code ≡ 0 = k.answers ∙ ap code_of (taken-is ∙ e) in
          taken-line b e zero (made-of zero)
      taken-by made-of (refused w) e =
          let left = left-held now lent held _ (refused w) (taken-is ∙ e) after code k in
          stays (take_told trial code) (front after)
          (Telling.take_refused e (k.answers ∙ ap code_of (taken-is ∙ e))
          (λ m field is. (made-never m (is_same now m.tried) refl).never field (e ∙ ap refused is))
          (λ l is. line-refused l w (sym (taken-fed l is) ∙ e)))
          (front-held after now left)

    -- ---- a reading, and its line

    reading-step : (answer : Readout) → answer ≡ readout_of (read_in lent)
        → Step done (reading_told answer) (front lent)
    reading-step answer k =
        by-reading (reading_told answer) (front lent)
        (Telling.reading (k ∙ ap readout_of (read_is now lent held ∙ read-now))) first

    line-is : printed_line lent ≡ accepted (totals_line (totals_of now))
    unfolding printed_line format_of
    line-is = rw (held, read-now) refl

    print-step : (buffer text : List ℕ) (answer : Printed)
        → PrintsBytes (printed_line lent) buffer answer text
        → Step done (print_told buffer answer text) (front lent)
    print-step buffer text answer k =
        by-reading (print_told buffer answer text) (front lent)
        (Telling.print (subst
        (λ (o : Outcome (List ℕ)). PrintsBytes o buffer answer text) line-is k))
        first

  -- ---- a line to several

  module _ (i : ℕ) (lent after l : List ℕ) (code : ℕ)
      (first : take_up_of (at_place i lent) ≡ accepted now) (k : FeedsAllBytes lent l code after)
    where
      listed-by : (o : Outcome (List Account)) → fed_listed_of lent l ≡ o
          → Step done (list_told lent l code) (at_place i after)
      listed-by (accepted ys) e =
          let b = place-taken lent l after k.reply k.feeds i now first ys e in
          by_line (list_told lent l code) (at_place i after) l (Ok b.0)
          (accepted-feeds now b.0 l b.1)
          (Telling.list (k.answers ∙ ap code_of e)) b.2
      listed-by (refused w) e =
          stays (list_told lent l code) (at_place i after)
          (Telling.list_refused e (k.answers ∙ ap code_of e))
          (place-kept lent l after k.reply k.feeds i now first w e)

-- ---- any call

pub call-step :
    SeasonPromise → (done : List Event) → SeasonSoFar done → (b after : List ℕ) (t : Told)
    → take_up_of b ≡ accepted (account_now done) → CallTold b t after → Step done t after
call-step p done n b after t first (CallTold.feeds lent end {line} {code} k) =
    line-step p done n lent first line end code k
call-step p done n b after t first
    (CallTold.feeds_floats lent end {day} {hour} {readings} {code} k) =
    floats-by p done n lent first day hour readings end code k _ refl
call-step p done n b after t first (CallTold.tries lent {line} {buffer} {trial} {answer} k) =
    trial-by p done n lent first line buffer trial answer k _ refl
call-step p done n b after t first (CallTold.takes lent end {trial} {code} k made) =
    taken-by p done n lent first trial end code k made _ refl
call-step p done n b after t first (CallTold.feeds_all i lent end {line} {code} k) =
    listed-by p done n i lent end line code first k _ refl
call-step p done n b after t first (CallTold.reads lent {answer} k) =
    reading-step p done n lent first answer k
call-step p done n b after t first (CallTold.prints lent {buffer} {text} {answer} k) =
    print-step p done n lent first buffer text answer k
