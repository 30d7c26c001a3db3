-- What filling brings: the lines filled are accepted too, with the figures of both ends and no
-- verdict turned.
use Rattle.std.specs.Prelude.{Ok, Err}
use Prim.Native.Nat.{ℕ, ◌≤◌}
use mathlib.Core.Path.{◌≡◌, refl, sym, ap, subst, ◌∙◌}
use mathlib.Core.Bool.{Bool, true, false, cond}
use mathlib.Core.List.{List, [], ◌∷◌}
use native.Mathlib.Nat.{le_refl}
use native.Mathlib.Omega.{arith}
use Rattle.frames.specs.declared.records.Record.{Record}
use Rattle.frames.specs.Ozone.{with_ozone}
use Rattle.frames.proofs.OzoneLaws.{ceiling-le}
use Rattle.account_spec.specs.declared.Account.{Account}
use Rattle.account_spec.specs.Hours.{none_carried}
use Rattle.account_spec.specs.Account.{fresh_account}
use Rattle.account_spec.specs.Rules.{left_of, left_by, Feeds, Fed}
use Rattle.account_spec.specs.Book.{Book, empty_book, book_sums}
use Rattle.account_spec.specs.Runs.{Event, fed, Run, stop, feeds, reads, account_after, TakesAll}
use Rattle.account_spec.specs.steps.Account.{account_of, Proper}
use Rattle.account_spec.proofs.BookLaws.{fresh-same, book-in}
use Rattle.account_spec.proofs.ReadingLaws.{read_of-is}
use Rattle.account_spec.proofs.SeasonLaws.{fresh-proper}
use Rattle.account_spec.specs.Lines.{line_with, lacks_ozone, lines_read_as, FillsLine, FillsLines}
use Rattle.account_spec.specs.FillingPromise.{accepted_lines, Taken, Narrower, FillingPromise}
use Rattle.account_spec.proofs.AnswerLaws.{answer-filled}
use Rattle.account_spec.proofs.BesideLaws.{FilledHour, FilledHours, FilledRecord, FilledLine}
use Rattle.account_spec.proofs.BesideLaws.{FilledLines, Beside, lines-booked, lines-both}
use Rattle.account_spec.proofs.NarrowLaws.{Narrowed, hours-narrowed, exceeded-kept, below-kept}

-- ---- the lines that a run accepted

fed-alone :
    (a : Account) (l : List ℕ) (es : List Event) (r : Fed) → Feeds a l r →
    TakesAll (left_by r) (accepted_lines es) (account_after (left_by r) es) →
    TakesAll a (accepted_lines (fed l r ∷ es)) (account_after a (fed l r ∷ es))
fed-alone a l es (Ok b) k rest = TakesAll.line (sym k.answers) rest
fed-alone a l es (Err (w, b)) k rest =
    subst (λ (x : Account). TakesAll x (accepted_lines es) (account_after b es))
    (k.leaves ∙ ap (left_of a) (sym k.answers)) rest

run_alone :
    (a : Account) (es : List Event) → Run a es → TakesAll a (accepted_lines es) (account_after a es)
run_alone a es stop = TakesAll.none
run_alone a es (feeds {l = l} {r = r} {es = rest} k run) =
    fed-alone a l rest r k (run_alone (left_by r) rest run)
run_alone a es (reads {es = rest} k run) = run_alone a rest run

-- ---- lines filled

module _ {low high : ℕ} where
  same_line : {l : List ℕ} → FilledLine low high l l
  same_line s r e = record { record_of = r; answer = e; filled = FilledRecord.same }

  filled-line :
      (n : ℕ) (l : List ℕ) → low ≤ n → n ≤ high → high ≤ 5000 → lacks_ozone l ≡ true →
      FilledLine low high l (line_with n l)
  filled-line n l above below few lacks s r e =
      let one = answer-filled s n l r (omega arith) lacks e in
      record {
        record_of = Record.Hour (with_ozone n one.hour);
        answer = one.answer;
        filled = FilledRecord.hour one.is (FilledHour.filled one.missing n above below);
      }

module _ (n : ℕ) (few : n ≤ 5000) where
  line_read_as-filled :
      (l : List ℕ) (t : Bool) → lacks_ozone l ≡ t → FilledLine n n l (cond t (line_with n l) l)
  line_read_as-filled l true lacks = filled-line n l (le_refl n) (le_refl n) few lacks
  line_read_as-filled l false lacks = same_line

  lines_read_as-filled : (ls : List (List ℕ)) → FilledLines n n ls (lines_read_as n ls)
  lines_read_as-filled [] = FilledLines.none
  lines_read_as-filled (l ∷ ls) =
      FilledLines.lines (line_read_as-filled l (lacks_ozone l) refl) (lines_read_as-filled ls)

  fills_line-filled : {l m : List ℕ} → FillsLine n l m → FilledLine 0 n l m
  fills_line-filled FillsLine.same = same_line
  fills_line-filled {l} (FillsLine.filled lacks k below) =
      filled-line k l (omega arith) (omega (arith, below)) few lacks

  fills_lines-filled : {ls ms : List (List ℕ)} → FillsLines n ls ms → FilledLines 0 n ls ms
  fills_lines-filled FillsLines.none = FilledLines.none
  fills_lines-filled (FillsLines.lines one rest) =
      FilledLines.lines (fills_line-filled one) (fills_lines-filled rest)

-- ---- the account that they leave

record FilledResult (low high : ℕ) (a : Account) (ms : List (List ℕ)) : Type 0 where
  taken : Taken a ms
  order : taken.account.sums.lower ≤ taken.account.sums.upper
  narrowed : Narrowed low high a.season.ceiling a.sums taken.account.sums

module _ {low high : ℕ} where
  books-narrowed :
      (b c : Book) → Proper b → Beside low high b c → high ≤ b.season.ceiling →
      Narrowed low high b.season.ceiling (book_sums b) (book_sums c)
  unfolding book_sums
  books-narrowed b c p beside within =
      rw beside.season (hours-narrowed within b.season refl none_carried p.dosed-hours beside.hours)

  books-taken :
      (b c : Book) (ms : List (List ℕ)) → Proper b → Proper c → Beside low high b c →
      high ≤ b.season.ceiling → TakesAll fresh_account ms (account_of c) →
      FilledResult low high (account_of b) ms
  books-taken b c ms p q beside within takes =
      let narrowed = books-narrowed b c p beside within in
      record {
        taken =
            record {
              account = account_of c;
              takes = takes;
              reads = read_of-is c q;
              phase = beside.phase;
              season = beside.season;
              hours = narrowed.hours;
              counted = narrowed.counted;
            };
        order = (book-in c q).order;
        narrowed = narrowed;
      }

  lines-taken :
      (ls ms : List (List ℕ)) (a : Account) → high ≤ a.season.ceiling →
      TakesAll fresh_account ls a → FilledLines low high ls ms → FilledResult low high a ms
  lines-taken ls ms a within takes filled =
      let none : Beside low high empty_book empty_book =
      record { phase = refl; season = refl; hours = FilledHours.none } in
      let both =
      lines-both empty_book empty_book fresh_account a ls ms fresh-proper fresh-proper none
      fresh-same filled takes in
      let is = both.is in
      let own =
      subst (λ (x : Account). TakesAll x ms (account_of both.other)) (sym fresh-same) both.takes in
      subst (λ (x : Account). FilledResult low high x ms) (sym is)
      (books-taken both.book both.other ms both.proper both.other-proper both.beside
      (subst (λ (x : Account). high ≤ x.season.ceiling) is within) own)

-- row 17
ceiling-few :
    (ls : List (List ℕ)) (a : Account) → TakesAll fresh_account ls a → a.season.ceiling ≤ 5000
ceiling-few ls a takes =
    let b = lines-booked empty_book fresh_account a ls fresh-proper fresh-same takes in
    rw (ap (λ (x : Account). x.season) b.is) (ceiling-le _ b.proper.ceiling)

-- ---- the promise

narrower :
    {high : ℕ} (a : Account) (ms : List (List ℕ)) (r : FilledResult 0 high a ms) →
    Narrower a r.taken.account
narrower a ms r =
    let n = r.narrowed in
    let t = r.taken in
    record {
      lower = n.lower;
      upper = n.upper;
      least = n.least;
      most = n.most;
      exceeded = λ says.
          rw (t.phase, t.season)
          (exceeded-kept a.phase a.season a.sums t.account.sums n.lower says);
      below = λ says.
          rw (t.phase, t.season)
          (below-kept a.phase a.season a.sums t.account.sums r.order n.upper says);
    }

pub filling-promise : FillingPromise
filling-promise = record {
  alone = λ es run. run_alone fresh_account es run;
  zero = λ ls a takes.
      let r =
      lines-taken ls (lines_read_as 0 ls) a (omega arith) takes
      (lines_read_as-filled 0 (omega arith) ls) in
      (r.taken, (r.narrowed.zero refl).0, (r.narrowed.zero refl).1);
  ceiling = λ ls a takes.
      let n = a.season.ceiling in
      let r =
      lines-taken ls (lines_read_as n ls) a (le_refl n) takes
      (lines_read_as-filled n (ceiling-few ls a takes) ls) in
      (r.taken, (r.narrowed.full refl).0, (r.narrowed.full refl).1);
  filled = λ ls ms a takes fills.
      let n = a.season.ceiling in
      let r =
      lines-taken ls ms a (le_refl n) takes (fills_lines-filled n (ceiling-few ls a takes) fills) in
      (r.taken, narrower a ms r);
}
