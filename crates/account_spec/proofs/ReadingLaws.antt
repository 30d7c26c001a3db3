-- A reading of the account that stands for a book: it gives the book's figures, and is right for
-- every filling of its hours.
use Rattle.account_spec.specs.declared.Totals.{Totals}
use Rattle.frames.specs.declared.records.Refusal.{Refusal}
use Rattle.std.specs.Prelude.{Result, Ok, Err}
use Prim.Native.Nat.{ℕ, ◌+◌, ◌-◌, ◌*◌, ◌≤◌}
use mathlib.Core.Path.{◌≡◌, refl, sym, ap, ◌∙◌}
use mathlib.Core.List.{List}
use native.Mathlib.Omega.{arith}
use Rattle.frames.specs.declared.records.Hour.{Hour}
use Rattle.frames.specs.Ozone.{all_read_as, AllFill}
use Rattle.frames.specs.Answers.{accepted}
use Rattle.frames.proofs.AnswerLaws.{refused-not-accepted, accepted-same}
use Rattle.account_spec.specs.Limits.{most_hour, gap_each}
use Rattle.account_spec.specs.Hours.{stand_in, none_carried}
use Rattle.account_spec.specs.Enclosed.{AllRead, Encloses}
use Rattle.account_spec.specs.Reading.{word_of, verdict_word, totals_of, read_of, Reads}
use Rattle.account_spec.specs.Book.{Book, counted_of, excess_over, book_sums, pod_in}
use Rattle.account_spec.specs.Promise.{FillingKept, ReadKept, TotalsKept}
use Rattle.account_spec.specs.steps.Account.{account_of, Proper}
use Rattle.account_spec.proofs.SumsLaws.{missing-none}
use Rattle.account_spec.proofs.HourLaws.{not_below-le}
use Rattle.account_spec.proofs.EnclosedLaws.{season-fill, season-read, read-fill, read_same}
use Rattle.account_spec.proofs.BookLaws.{book-hours, book-counted, book-missing, book-enclosed}
use Rattle.account_spec.proofs.BookLaws.{book-in, proper-possible}
use Rattle.account_spec.proofs.VerdictLaws.{word-is, exceeded-is, below-is, above-pod}

-- the gap where nothing is missing
none-missing :
    (each most counted missing lower upper : ℕ) → missing ≡ 0 →
    upper ≤ lower + (each * (counted - missing) + most * missing) → upper ≤ lower + each * counted
none-missing each most counted missing lower upper none gap = grind arith

module _ (b : Book) (p : Proper b) where
  pub word :
      word_of (totals_of (account_of b)).verdict ≡ verdict_word b.phase b.season (book_sums b)
  word = word-is b.phase b.season (book_sums b)

  pub read_of-is : read_of (account_of b) ≡ accepted (totals_of (account_of b))
  unfolding read_of
  read_of-is = rw (proper-possible b p) refl

  least : (book_sums b).least ≡ excess_over (counted_of (all_read_as 0 b.hours))
  unfolding book_sums
  least = (book-enclosed b p).least

  most : (book_sums b).most ≡ excess_over (counted_of (all_read_as b.season.ceiling b.hours))
  unfolding book_sums
  most =
      (book-enclosed b p).most
      ∙ ap (λ (hs : List Hour). excess_over (counted_of hs))
      (season-read b.season b.hours p.dosed-hours)

  filled :
      (fs : List Hour) → AllFill b.season.ceiling b.hours fs →
      Encloses (book_sums b) (pod_in b fs) (excess_over (counted_of fs))
  unfolding book_sums pod_in
  filled fs fill =
      (book-enclosed b p).filled fs (season-fill b.season b.hours fs p.dosed-hours fill)

  filling-kept :
      (fs : List Hour) → AllFill b.season.ceiling b.hours fs →
      FillingKept b (totals_of (account_of b)) fs
  filling-kept fs fill =
      let e = filled fs fill in
      record {
        low = e.low;
        high = e.high;
        least = e.least;
        most = e.most;
        exceeded = λ says.
            above-pod _ _ (pod_in b fs)
            (exceeded-is b.phase b.season (book_sums b) (sym word ∙ says)).above e.low;
        below =
            λ says. not_below-le (below-is b.phase b.season (book_sums b) (sym word ∙ says)) e.high;
      }

  module _ (all : AllRead b.hours) where
    missing : (book_sums b).missing ≡ 0
    unfolding book_sums
    missing = missing-none (stand_in b.season) none_carried b.hours all

    -- the hours are their own filling
    read_kept : ReadKept b (totals_of (account_of b))
    read_kept =
        let own = filling-kept b.hours (read-fill b.season.ceiling b.hours all) in
        record {
          least =
              least
              ∙ ap (λ (hs : List Hour). excess_over (counted_of hs)) (read_same 0 b.hours all);
          most =
              most
              ∙ ap (λ (hs : List Hour). excess_over (counted_of hs))
              (read_same b.season.ceiling b.hours all);
          low = own.low;
          high = own.high;
          gap =
              none-missing (gap_each b.season)
              (most_hour b.season) _ _ _ _ missing (book-in b p).gap;
          exceeded = own.exceeded;
          below = own.below;
        }

  pub totals-kept : TotalsKept b (totals_of (account_of b))
  totals-kept = record {
    hours = book-hours b;
    counted = book-counted b;
    missing = book-missing b;
    least = least;
    most = most;
    width = (book-in b p).aot40-width;
    order = (book-in b p).order;
    gap = (book-in b p).gap;
    verdict = word;
    filled = filling-kept;
    read = read_kept;
  }

  pub reading-is :
      (r : Result Totals Refusal) → Reads (account_of b) r → r ≡ Ok (totals_of (account_of b))
  reading-is (Ok t) k = ap Ok (accepted-same (k.answers ∙ read_of-is))
  reading-is (Err x) k = refused-not-accepted (k.answers ∙ read_of-is)
