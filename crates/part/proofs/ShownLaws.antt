-- The worked run is one.
use Rattle.std.specs.Prelude.{Some, Ok}
use Prim.Native.Nat.{ℕ, suc, ◌*◌, ◌^◌, ◌≤◌}
use borrow.Author.Tests.{ltb-true, le-ltb}
use native.Mathlib.Omega.{arith}
use lib.Seq.{take_at, drop_at}
use lib.Dec.{ltb}
use lib.ListN.{length, get_or, drop}
use mathlib.Core.Bool.{Bool, true, false, ◌&&◌}
use mathlib.Core.Path.{◌≡◌, refl, sym, ap, subst, ◌∙◌}
use mathlib.Core.List.{List, [], ◌∷◌, ◌++◌, append-nil}
use lib.IntN.{pos}
use Rattle.frames.specs.declared.records.Record.{Record}
use Rattle.frames.specs.Answers.{Outcome, accepted, refused, reply}
use Rattle.frames.specs.Temperature.{signed_of, complement_of, temperature_out}
use Rattle.frames.specs.Ranges.{checked}
use Rattle.trees.specs.Figures.{figures_of}
use Rattle.trees.specs.MeasuredFigures.{figures_in}
use Rattle.frames.specs.Digits.{is_digit, value_of, all_digits, byte_at, number_at, digit_of}
use Rattle.frames.specs.Kinds.{among, length_of}
use Rattle.frames.specs.Layout.{hour_of, frame_of, frame_at, frame_line}
use Rattle.frames.specs.Frames.{parsed_of, sound_of, record_of}
use Rattle.dose_spec.specs.HourDose.{tree_of}
use Rattle.account_spec.specs.declared.Account.{Account}
use Rattle.account_spec.specs.declared.HourKind.TheVariants.{Deficit}
use Rattle.account_spec.specs.declared.Phase.TheVariants.{Open}
use Rattle.account_spec.specs.Account.{fresh_account, impossible}
use Rattle.account_spec.specs.Hours.{stand_in, none_carried, hour_sums}
use Rattle.account_spec.specs.Rules.{due_of, turn_of, answer_of, with_header}
use Rattle.account_spec.specs.Rules.{opened, entered, left_of, feed_of}
use Rattle.frames.proofs.AnswerLaws.{and_both, accepted-same, refused-not-accepted}
use Rattle.stored.specs.Packing.{FitFrom}
use Rattle.stored.specs.Layout.{widths, account_width, account_numbers, account_bytes}
use Rattle.stored.specs.RoundTrip.{TakenUp}
use Rattle.stored.proofs.AccountLaws.{taken-up, account-length}
use Rattle.stored.specs.declared.answers.Readout.{Readout}
use Rattle.stored.specs.Code.{code_of, code_of_row, is_code, named_answer}
use Rattle.stored.specs.Reading.{readout_of}
use Rattle.account_spec.specs.Reading.{verdict_of, read_of}
use Rattle.text_spec.specs.Text.{digits_before, decimal}
use Rattle.text_spec.specs.Line.{totals_line, format_of}
use Rattle.floats.specs.declared.FloatReadings.{FloatReadings}
use Rattle.floats.specs.Whole.{IsWhole}
use Rattle.floats.specs.Numbers.{wholes_in}
use Rattle.floats.specs.Feeding.{feed_floats_of}
use Rattle.floats.specs.Promise.{AreWhole}
use Rattle.floats.proofs.PromiseLaws.{float-promise}
use Rattle.stand.specs.Together.{together}
use Rattle.stand.specs.Alike.{any_unlike}
use Rattle.stand.specs.Feeding.{any_impossible, feed_all_of}
use Rattle.stored.specs.InBytes.{accounts_bytes, accounts_in, count_in, list_in}
use Rattle.stored.specs.Feeding.{fed_listed_of, listed_after, FeedsListed}
use Rattle.stored.specs.TrialLayout.{Contents, answer_carried, trial_width, trial_bytes}
use Rattle.stored.specs.TrialLayout.{contents_in}
use Rattle.stored.proofs.ContentsLaws.{contents-same}
use Rattle.stored.proofs.TrialRoundTripLaws.{contents-back}
use Rattle.trial.proofs.TrialLaws.{take-fed}
use Rattle.part.specs.Floats.{floats_fed_in}
use Rattle.part.specs.Lists.{FeedsAllBytes}
use Rattle.part.specs.Trials.{contents_by, tried_in, tried_of, trial_after, TriesBytes}
use Rattle.part.specs.Trials.{taken_in}
use Rattle.part.proofs.HeldLaws.{fed-is, read_is}
use Rattle.part.specs.Calls.{Stores, bytes_after, LeavesBytes, fed_in, printed_line}
use Rattle.part.specs.Told.{Told, line_told, floats_told, trial_told, take_told, reading_told}
use Rattle.part.specs.Told.{list_told, print_told, front, CallTold, Calls}
use Rattle.part.specs.Shown.{dark_header, dark_hour, float, dark_floats, dark_reading}
use Rattle.part.specs.Shown.{dark_text, shown_told, ShownRun}

-- the account after so many hours
abbrev dark_account : ℕ → Account
dark_account n = record {
  phase = Open;
  season = with_header dark_header;
  kind = Some Deficit;
  sums = record { hours = n; counted = 0; missing = 0; lower = 0; upper = 0; least = 0; most = 0 };
  carried = none_carried;
}

-- what each line of the run answers
record Lines : Type 0 where
  begun : feed_of fresh_account (frame_line (Record.Header dark_header))
      ≡ accepted (opened dark_header)
  second-header : feed_of (opened dark_header) (frame_line (Record.Header dark_header))
      ≡ refused (4, 0)
  first-hour : feed_of (opened dark_header) (frame_line (Record.Hour (dark_hour 0)))
      ≡ accepted (dark_account 1)
  second-hour : feed_of (dark_account 1) (frame_line (Record.Hour (dark_hour 1)))
      ≡ accepted (dark_account 2)
  third-hour : feed_of (dark_account 2) (frame_line (Record.Hour (dark_hour 2)))
      ≡ accepted (dark_account 3)

lines : Lines
unfolding feed_of answer_of turn_of due_of parsed_of record_of sound_of checked frame_at frame_of
    frame_line hour_of signed_of complement_of temperature_out is_digit value_of all_digits byte_at
    number_at digit_of among length_of figures_in figures_of impossible entered stand_in tree_of
    hour_sums
lines = record {
  begun = refl;
  second-header = refl;
  first-hour = refl;
  second-hour = refl;
  third-hour = refl;
}

second-possible : impossible (dark_account 2) ≡ false
unfolding impossible checked figures_in figures_of
second-possible = refl

-- ---- its bytes

abbrev fits_from : ℕ → List ℕ → List ℕ → Bool
fits_from k [] ns = true
fits_from k (w ∷ ws) ns = ltb (get_or ns k 0) (256 ^ w) && fits_from (suc k) ws ns

fits : (k : ℕ) (ws ns : List ℕ) → fits_from k ws ns ≡ true → FitFrom k ws ns
fits k [] ns e = tt
fits k (w ∷ ws) ns e =
    let both = and_both (ltb (get_or ns k 0) (256 ^ w)) (fits_from (suc k) ws ns) e in
    (ltb-true (get_or ns k 0) (256 ^ w) both.0, fits (suc k) ws ns both.1)

by-fits : (a : Account) → fits_from 0 widths (account_numbers a) ≡ true
    → signed_of (complement_of a.carried.total) ≡ a.carried.total → TakenUp a
by-fits a e f = taken-up a (record { numbers = fits 0 widths (account_numbers a) e; total = f })

fresh-up : TakenUp fresh_account
unfolding signed_of complement_of
fresh-up = by-fits fresh_account refl refl

opened-up : TakenUp (opened dark_header)
unfolding signed_of complement_of
opened-up = by-fits (opened dark_header) refl refl

first-up : TakenUp (dark_account 1)
unfolding signed_of complement_of
first-up = by-fits (dark_account 1) refl refl

second-up : TakenUp (dark_account 2)
unfolding signed_of complement_of
second-up = by-fits (dark_account 2) refl refl

third-up : TakenUp (dark_account 3)
unfolding signed_of complement_of
third-up = by-fits (dark_account 3) refl refl

-- ---- calls on an account's bytes alone

front-is : (a : Account) (rest : List ℕ) → front (account_bytes a ++ rest) ≡ account_bytes a
front-is a rest = take_at (account_bytes a) rest account_width (account-length a)

call-in : (a b : Account) (before after : List ℕ) (t : Told)
    → CallTold (front (account_bytes a ++ before)) t (front (account_bytes b ++ after))
    → CallTold (account_bytes a) t (account_bytes b)
call-in a b before after t k =
    subst (λ (l : List ℕ). CallTold l t (account_bytes b)) (front-is a before)
    (subst (λ (l : List ℕ). CallTold (front (account_bytes a ++ before)) t l) (front-is b after) k)

module _ (a : Account) (up : TakenUp a) where
  abbrev lent : List ℕ
  lent = account_bytes a ++ []

  module _ (b : Account) (next : TakenUp b) where
    abbrev left : List ℕ
    left = account_bytes b ++ drop account_width lent

    leaves-next : (o : Outcome Account) → o ≡ accepted b → LeavesBytes lent o 0 left
    leaves-next o e = record {
      answers = ap code_of (sym e);
      leaves = ap (bytes_after lent) (sym e);
      holds = λ c f. next.back (drop account_width lent) ∙ sym e ∙ f;
    }

    fed-call : (l : List ℕ) → feed_of a l ≡ accepted b
        → CallTold (account_bytes a) (line_told l 0) (account_bytes b)
    fed-call l e =
        call-in a b [] (drop account_width lent) (line_told l 0)
        (CallTold.feeds lent left (leaves-next (fed_in lent l) (fed-is a lent (up.back []) l ∙ e)))

    floats-are : (day hour : ℕ) (r : FloatReadings) → feed_floats_of a day hour r ≡ accepted b
        → floats_fed_in lent day hour r ≡ accepted b
    unfolding floats_fed_in
    floats-are day hour r e = rw (up.back []) e

    floats-call : (day hour : ℕ) (r : FloatReadings) → feed_floats_of a day hour r ≡ accepted b
        → CallTold (account_bytes a) (floats_told day hour r 0) (account_bytes b)
    floats-call day hour r e =
        call-in a b [] (drop account_width lent) (floats_told day hour r 0)
        (CallTold.feeds_floats lent left
        (leaves-next (floats_fed_in lent day hour r) (floats-are day hour r e)))

    -- a trial of a line that the account takes

    module _ (l : List ℕ) (e : feed_of a l ≡ accepted b) (buffer : List ℕ)
        (room : trial_width ≤ length buffer) where
      abbrev contents : Contents
      contents = record { code = 0; tried = a; next = b }

      abbrev trial : List ℕ
      trial = trial_bytes contents ++ drop trial_width buffer

      same : contents_by a l ≡ contents
      same = contents-same (ap code_of e) refl (ap (left_of a) e)

      made : tried_in lent l (length buffer) ≡ accepted contents
      unfolding tried_in
      made = rw (up.back [], le-ltb (length buffer) trial_width room) (ap accepted same)

      held : contents_in trial ≡ accepted contents
      unfolding is_code
      held = contents-back contents refl (omega arith) up next (drop trial_width buffer)

      carried : answer_carried contents ≡ fed_in lent l
      unfolding named_answer
      carried = sym (fed-is a lent (up.back []) l ∙ e)

      tries : (reading : Readout) → readout_of (read_of b) ≡ reading
          → TriesBytes lent l buffer (record { code = 0; answer = 0; reading = reading }) trial
      tries reading read = record {
        answers = sym (ap tried_of made ∙ rw read refl);
        leaves = sym (ap (trial_after buffer) made);
        holds = λ c f. held ∙ sym made ∙ f;
        carries = λ c f. ap answer_carried (sym (accepted-same (sym made ∙ f))) ∙ carried;
      }

      trial-call : (reading : Readout) → readout_of (read_of b) ≡ reading
          → CallTold (account_bytes a)
          (trial_told l buffer (record { code = 0; answer = 0; reading = reading }) trial)
          (account_bytes a)
      trial-call reading read =
          call-in a a [] []
          (trial_told l buffer (record { code = 0; answer = 0; reading = reading }) trial)
          (CallTold.tries lent (tries reading read))

      -- and its take

      taken : taken_in lent trial ≡ accepted b
      unfolding taken_in
      taken = rw (up.back [], held, carried, fed-is a lent (up.back []) l) (take-fed a l ∙ e)

      take-call : CallTold (account_bytes a) (take_told trial 0) (account_bytes b)
      take-call =
          call-in a b [] (drop account_width lent) (take_told trial 0)
          (CallTold.takes lent left (leaves-next (taken_in lent trial) taken)
          (λ z. record { tried = a; line = l; holds = held ∙ ap accepted (sym same) }))

  -- a line that it refuses leaves it

  leaves-same : (o : Outcome Account) (w : ℕ × ℕ) → o ≡ refused w
      → LeavesBytes lent o (code_of_row w) lent
  leaves-same o w e = record {
    answers = ap code_of (sym e);
    leaves = ap (bytes_after lent) (sym e);
    holds = λ c f. refused-not-accepted (sym e ∙ f);
  }

  refused-call : (l : List ℕ) (w : ℕ × ℕ) → feed_of a l ≡ refused w
      → CallTold (account_bytes a) (line_told l (code_of_row w)) (account_bytes a)
  refused-call l w e =
      let is : fed_in lent l ≡ refused w = fed-is a lent (up.back []) l ∙ e in
      call-in a a [] [] (line_told l (code_of_row w))
      (CallTold.feeds lent lent (leaves-same (fed_in lent l) w is))

  -- the only one of a list

  count-one : count_in lent ≡ 1
  count-one = rw (append-nil (account_bytes a), account-length a) refl

  only-one : list_in lent ≡ accepted (a ∷ [])
  unfolding accounts_in
  only-one = ap (λ (n : ℕ). accounts_in n lent) count-one ∙ rw (up.back []) refl

  -- a reading, and the account's line

  reading-call : (reading : Readout) → readout_of (read_of a) ≡ reading
      → CallTold (account_bytes a) (reading_told reading) (account_bytes a)
  reading-call reading e =
      call-in a a [] [] (reading_told reading)
      (CallTold.reads lent (sym (ap readout_of (read_is a lent (up.back [])) ∙ e)))

  line-in : printed_line lent ≡ format_of a
  unfolding printed_line
  line-in = rw (up.back []) refl

  print-call : (text paper : List ℕ) → format_of a ≡ accepted text → length text ≤ length paper
      → CallTold (account_bytes a)
      (print_told paper (record { code = 0; length = length text })
      (text ++ drop (length text) paper))
      (account_bytes a)
  print-call text paper e room =
      let long = le-ltb (length paper) (length text) room in
      let told =
      print_told paper (record { code = 0; length = length text })
      (text ++ drop (length text) paper) in
      call-in a a [] [] told
      (CallTold.prints lent
      (record {
        written = Ok (length text);
        prints =
            record { answers = rw (line-in, e, long) refl; leaves = rw (line-in, e, long) refl };
        answers = refl;
      }))

-- ---- a line to a list of one

module _ (a b : Account) (up : TakenUp a) (next : TakenUp b) (l : List ℕ)
    (possible : impossible a ≡ false) (e : feed_of a l ≡ accepted b) where
  abbrev alone : List ℕ
  alone = account_bytes a ++ []

  fed-one : fed_listed_of alone l ≡ accepted (b ∷ [])
  unfolding fed_listed_of feed_all_of any_impossible any_unlike together
  fed-one = rw (only-one a up, count-one a up, possible, e) refl

  nothing-behind : drop (account_width * count_in alone) alone ≡ []
  nothing-behind =
      ap (λ (n : ℕ). drop (account_width * n) alone) (count-one a up)
      ∙ drop_at (account_bytes a) [] account_width (account-length a)

  left-one : account_bytes b ++ [] ≡ listed_after alone (accepted (b ∷ []))
  unfolding accounts_bytes
  left-one =
      sym (append-nil (account_bytes b ++ []))
      ∙ ap (λ (d : List ℕ). (account_bytes b ++ []) ++ d) (sym nothing-behind)

  feeds-one : FeedsListed alone l (Ok tt) (account_bytes b ++ [])
  feeds-one = record {
    answers = ap reply (sym fed-one);
    leaves = left-one ∙ ap (listed_after alone) (sym fed-one);
    holds = λ ys f. only-one b next ∙ sym fed-one ∙ f;
  }

  all-one : FeedsAllBytes alone l 0 (account_bytes b ++ [])
  all-one = record { answers = ap code_of (sym fed-one); reply = Ok tt; feeds = feeds-one }

  list-call : CallTold (account_bytes a) (list_told alone l 0) (account_bytes b)
  list-call =
      call-in a b [] [] (list_told alone l 0)
      (CallTold.feeds_all 0 alone (account_bytes b ++ []) all-one)

-- ---- the run

first-floats : feed_floats_of (opened dark_header) 1 0 dark_floats ≡ accepted (dark_account 1)
unfolding checked temperature_out
first-floats =
    let at : (n : ℕ) → n ≤ 65535 → IsWhole (float n) (pos n) = float-promise.positive in
    let are : AreWhole dark_floats (wholes_in (dark_hour 0)) =
    record {
      ozone = at 500 (omega arith);
      ppfd = at 0 (omega arith);
      radiation = at 0 (omega arith);
      temperature = at 230 (omega arith);
      vpd = at 1000 (omega arith);
      wind = at 300 (omega arith);
      soil = at 1000 (omega arith);
    }
    in
    float-promise.line (opened dark_header) (dark_hour 0) dark_floats are refl
    (omega arith, omega arith) refl ∙ lines.first-hour

dark_read : readout_of (read_of (dark_account 2)) ≡ dark_reading 2
unfolding read_of impossible checked figures_in figures_of verdict_of
dark_read = refl

dark_after : readout_of (read_of (dark_account 3)) ≡ dark_reading 3
unfolding read_of impossible checked figures_in figures_of verdict_of
dark_after = refl

dark_line : format_of (dark_account 3) ≡ accepted dark_text
unfolding format_of read_of impossible checked figures_in figures_of verdict_of totals_line decimal
    digits_before
dark_line = refl

module _ (room : List ℕ) (long : account_width ≤ length room) where
  abbrev begun : List ℕ
  begun = account_bytes fresh_account ++ drop account_width room

  fresh-stores : Stores fresh_account room 0 begun
  fresh-stores =
      let size = account-length fresh_account in
      let test : ltb (length room) (length (account_bytes fresh_account)) ≡ false =
      le-ltb (length room) (length (account_bytes fresh_account)) (omega arith) in
      record {
        answers = rw test refl;
        leaves = rw (test, size) refl;
        holds = λ none. fresh-up.back (drop account_width room);
      }

  shown-run : (buffer paper : List ℕ) → trial_width ≤ length buffer → 18 ≤ length paper
      → ShownRun room buffer paper
  shown-run buffer paper h k =
      let header = frame_line (Record.Header dark_header) in
      let l = frame_line (Record.Hour (dark_hour 1)) in
      let next = frame_line (Record.Hour (dark_hour 2)) in
      let o = opened dark_header in
      let a = dark_account 1 in
      let b = dark_account 2 in
      let c = dark_account 3 in
      let tried = trial a first-up b second-up l lines.second-hour buffer h in
      let one = alone b c second-up third-up next second-possible lines.third-hour in
      record {
        begun = begun;
        trial = tried;
        alone = one;
        left = account_bytes c;
        one = rw (append-nil (account_bytes b), account-length b) refl;
        stores = fresh-stores;
        calls =
            subst (λ (x : List ℕ). Calls x (shown_told buffer paper tried one) (account_bytes c))
            (sym (front-is fresh_account (drop account_width room)))
            (Calls.call (fed-call fresh_account fresh-up o opened-up header lines.begun)
            (Calls.call (refused-call o opened-up header (4, 0) lines.second-header)
            (Calls.call (floats-call o opened-up a first-up 1 0 dark_floats first-floats)
            (Calls.call
            (trial-call a first-up b second-up l lines.second-hour buffer h
            (dark_reading 2) dark_read)
            (Calls.call (take-call a first-up b second-up l lines.second-hour buffer h)
            (Calls.call (list-call b c second-up third-up next second-possible lines.third-hour)
            (Calls.call (reading-call c third-up (dark_reading 3) dark_after)
            (Calls.call (print-call c third-up dark_text paper dark_line k) Calls.stop))))))));
      }

pub shown : (room buffer paper : List ℕ) → account_width ≤ length room → trial_width ≤ length buffer
    → 18 ≤ length paper → ShownRun room buffer paper
shown room buffer paper long h k = shown-run room long buffer paper h k
