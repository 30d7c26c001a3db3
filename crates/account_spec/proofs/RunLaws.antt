-- Every list of calls has a run, and its replies to the lines are the book's; the evergreen's day
-- of
-- "Report" is such a list.
use Rattle.std.specs.Prelude.{Ok, Err}
use Prim.Native.Nat.{ℕ}
use mathlib.Core.Path.{◌≡◌, refl, sym, ap, subst, ◌∙◌}
use mathlib.Core.List.{List, [], ◌∷◌}
use Rattle.frames.specs.declared.records.Record.{Record}
use Rattle.frames.specs.Answers.{Outcome, accepted, refused, reply}
use Rattle.frames.specs.Digits.{is_digit, value_of, all_digits, byte_at, number_at, digit_of}
use Rattle.frames.specs.Kinds.{among, length_of}
use Rattle.frames.specs.Temperature.{signed_of, temperature_out}
use Rattle.frames.specs.Layout.{frame_of, frame_at, hour_of}
use Rattle.frames.specs.Ranges.{checked}
use Rattle.frames.specs.Frames.{parsed_of, sound_of, record_of}
use Rattle.trees.specs.Figures.{figures_of}
use Rattle.trees.specs.MeasuredFigures.{figures_in}
use Rattle.account_spec.specs.declared.Account.{Account}
use Rattle.account_spec.specs.Rules.{due_of, turn_of, answer_of, entered, left_by, Feeds, Fed}
use Rattle.account_spec.specs.Reading.{totals_of}
use Rattle.account_spec.specs.Book.{Book, empty_book, book_answer, book_next}
use Rattle.account_spec.specs.Runs.{Event, fed, taken, Run, stop, feeds, reads, Call, line, reading}
use Rattle.account_spec.specs.Runs.{calls_of, RunOf, replies_of}
use Rattle.account_spec.specs.Promise.{Kept, day_calls, acceptances, SeasonPromise}
use Rattle.account_spec.specs.steps.Account.{account_of, Proper}
use Rattle.account_spec.proofs.BookLaws.{fresh-same}
use Rattle.account_spec.proofs.EnclosedLaws.{list-enclosed, hours-enclosed}
use Rattle.account_spec.proofs.RowLaws.{answer-row}
use Rattle.account_spec.proofs.SeasonLaws.{feed_of-is, left_is, next-is-proper, fresh-proper}
use Rattle.account_spec.proofs.SeasonLaws.{season-kept}
use Rattle.account_spec.proofs.ReadingLaws.{read_of-is}

-- ---- there is a reply to each line

pub record Replied (a : Account) (l : List ℕ) : Type 0 where
  pub reply-to : Fed
  pub feeds-it : Feeds a l reply-to

module _ (b : Book) (p : Proper b) (l : List ℕ) where
  by_answer : (o : Outcome Record) → book_answer b l ≡ o → Replied (account_of b) l
  by_answer (accepted r) e = record {
    reply-to = Ok (entered (account_of b) r);
    feeds-it =
        record { answers = rw (feed_of-is b p l, e) refl; leaves = rw (feed_of-is b p l, e) refl };
  }
  by_answer (refused w) e =
      let row = answer-row b l w.0 w.1 e in
      record {
        reply-to = Err (row.refusal, account_of b);
        feeds-it = record {
          answers = rw (feed_of-is b p l, e) (ap refused row.is);
          leaves = rw (feed_of-is b p l, e) refl;
        };
      }

  pub book-replied : Replied (account_of b) l
  book-replied = by_answer (book_answer b l) refl

-- ---- and so a run for each list of calls

run-from : (b : Book) → Proper b → (calls : List Call) → RunOf (account_of b) calls
run-from b p [] = record { events = []; run = stop; same = refl }
run-from b p (line l ∷ calls) =
    let r = book-replied b p l in
    let rest = run-from (book_next b (book_answer b l)) (next-is-proper b p l) calls in
    record {
      events = fed l r.reply-to ∷ rest.events;
      run =
          feeds r.feeds-it
          (subst (λ (a : Account). Run a rest.events)
          (sym (left_is b p l r.reply-to r.feeds-it)) rest.run);
      same = ap (λ (cs : List Call). line l ∷ cs) rest.same;
    }
run-from b p (reading ∷ calls) =
    let rest = run-from b p calls in
    record {
      events = taken (Ok (totals_of (account_of b))) ∷ rest.events;
      run = reads (record { answers = sym (read_of-is b p) }) rest.run;
      same = ap (λ (cs : List Call). reading ∷ cs) rest.same;
    }

-- ---- the replies are the book's

abbrev book_replies : Book → List Call → List (Outcome Unit)
book_replies b [] = []
book_replies b (line l ∷ calls) =
    reply (book_answer b l) ∷ book_replies (book_next b (book_answer b l)) calls
book_replies b (reading ∷ calls) = book_replies b calls

replies-are :
    (a : Account) (b : Book) (es : List Event) → Kept a b es →
    replies_of es ≡ book_replies b (calls_of es)
replies-are a b [] k = refl
replies-are a b (fed l r ∷ es) k =
    rw (k.0.answer, replies-are (left_by r) (book_next b (book_answer b l)) es k.1) refl
replies-are a b (taken r ∷ es) k = replies-are a b es k.2

day-replies : book_replies empty_book day_calls ≡ accepted tt ∷ refused (1, 0) ∷ acceptances 25
unfolding book_answer answer_of turn_of due_of parsed_of record_of sound_of checked frame_at
    frame_of hour_of signed_of temperature_out is_digit value_of all_digits byte_at number_at
    digit_of among length_of figures_in figures_of
day-replies = refl

pub season : SeasonPromise
season = record {
  kept = season-kept;
  exists = λ calls.
      subst (λ (a : Account). RunOf a calls) (sym fresh-same)
      (run-from empty_book fresh-proper calls);
  day = λ r.
      replies-are _ _ r.events (season-kept r.events r.run)
      ∙ ap (book_replies empty_book) r.same ∙ day-replies;
  listed = list-enclosed;
  enclosed = hours-enclosed;
}
