-- A trial made of an account in bytes, taken with bytes that hold the same account, is the line
-- fed.
use Prim.Native.Nat.{ℕ, ◌/◌, ◌%◌, ◌<◌}
use mathlib.Core.Path.{◌≡◌, refl, sym, ap, ◌∙◌}
use mathlib.Core.Bool.{Bool, true, false, not, cond}
use mathlib.Core.List.{List}
use native.Mathlib.Omega.{arith}
use borrow.Author.Tests.{eqb-true, eqb-false}
use lib.Dec.{eqb, ltb}
use lib.ListN.{length}
use Rattle.frames.specs.Answers.{Outcome, accepted, refused, row, onward}
use Rattle.account_spec.specs.declared.Account.{Account}
use Rattle.account_spec.specs.Account.{impossible}
use Rattle.account_spec.specs.Rules.{feed_of, left_of}
use Rattle.stored.specs.Layout.{take_up_of}
use Rattle.stored.specs.declared.answers.Tried.{Tried}
use Rattle.stored.specs.Code.{code_of, named_answer}
use Rattle.stored.specs.Reading.{readout_of}
use Rattle.trial.specs.Taking.{answer_in, take_with}
use Rattle.trial.specs.Same.{is_same}
use Rattle.trial.proofs.SameLaws.{same-is}
use Rattle.trial.proofs.TrialLaws.{other, carries, take-fed}
use Rattle.stored.specs.TrialLayout.{Contents, answer_carried, trial_width, contents_in}
use Rattle.stored.proofs.ContentsLaws.{taken-row}
use Rattle.part.specs.Calls.{fed_in, bytes_after, FeedsBytes}
use Rattle.part.specs.Trials.{contents_by, tried_in, tried_of, TriesBytes, taken_from, taken_in}
use Rattle.part.specs.Trials.{TakesBytes, TakenAsFed, TrialBytesPromise}
use Rattle.part.proofs.HeldLaws.{fed-is, read_is, left-held}

module _ (tried line : List ℕ) (room : ℕ) where
  abbrev made : Outcome Contents
  made = tried_in tried line room

  -- with code 0 a trial of the account was made
  made_by :
      (o : Outcome Account) → take_up_of tried ≡ o → (b : Bool) → ltb room trial_width ≡ b →
      (tried_of made).code ≡ 0
      → (a : Account) × (take_up_of tried ≡ accepted a) × (made ≡ accepted (contents_by a line))
  unfolding tried_in
  made_by o e b f z = grind (arith, taken-row)

module _ (tried line before trial account : List ℕ) (made : Tried)
    (k : TriesBytes tried line before made trial) (a : Account)
    (has : take_up_of tried ≡ accepted a)
    (is : tried_in tried line (length before) ≡ accepted (contents_by a line))
    (same : take_up_of account ≡ take_up_of tried) where
  held : take_up_of account ≡ accepted a
  held = same ∙ has

  take-is : taken_in account trial ≡ feed_of a line
  unfolding taken_in
  take-is =
      rw (
        held,
        k.holds (contents_by a line) is,
        k.carries (contents_by a line) is,
        fed-is a tried has line,
      )
      (take-fed a line)

  taken-fed :
      (answer : ℕ) (after : List ℕ) → TakesBytes account trial answer after →
      TakenAsFed account line made answer after
  taken-fed answer after t =
      let alike : taken_in account trial ≡ fed_in account line =
      take-is ∙ sym (fed-is a account held line) in
      let feeds : FeedsBytes account line answer after =
      record {
        answers = t.answers ∙ ap code_of alike;
        leaves = t.leaves ∙ ap (bytes_after account) alike;
        holds = λ b e. t.holds b (alike ∙ e);
      }
      in
      let told : made ≡ tried_of (accepted (contents_by a line)) = k.answers ∙ ap tried_of is in
      let left =
      left-held a account held (fed_in account line) (feed_of a line)
      (fed-is a account held line) after answer feeds in
      record {
        feeds = feeds;
        answered = t.answers ∙ ap code_of take-is ∙ sym (ap (λ (r : Tried). r.answer) told);
        read =
            ap readout_of (read_is (left_of a (feed_of a line)) after left)
            ∙ sym (ap (λ (r : Tried). r.reading) told);
      }

other-bytes :
    (account trial : List ℕ) (a : Account) (c : Contents) → take_up_of account ≡ accepted a →
    contents_in trial ≡ accepted c → (a ≡ c.tried → ⊥)
    → taken_in account trial ≡ row 13 (impossible a) (refused (16, 0))
unfolding taken_in
other-bytes account trial a c e f h = rw (e, f) (other a c.tried (answer_carried c) h)

-- ---- bytes that no line made

no-contents : (l : List ℕ) (w : ℕ × ℕ) → contents_in l ≡ refused w → contents_in l ≡ refused (13, 0)
unfolding contents_in
no-contents l w e = grind (arith, taken-row)

none-bytes :
    (account trial : List ℕ) (w : ℕ × ℕ) → contents_in trial ≡ refused w →
    taken_in account trial ≡ refused (13, 0)
unfolding taken_in
none-bytes account trial w e = by (take_up_of account) refl
  where
    by :
        (o : Outcome Account) → take_up_of account ≡ o →
        onward (take_up_of account) (taken_from trial) ≡ refused (13, 0)
    by (accepted a) f = rw (f, no-contents trial w e) refl
    by (refused v) f = rw (taken-row account v f) refl

carried-bytes :
    (account trial : List ℕ) (c : Contents) → take_up_of account ≡ accepted c.tried →
    contents_in trial ≡ accepted c → impossible c.tried ≡ false
    → taken_in account trial ≡ answer_in (answer_carried c)
unfolding taken_in
carried-bytes account trial c e f possible = rw (e, f) (carries c.tried (answer_carried c) possible)

-- what is accepted: the account that the bytes carry, and that of the trial

pub record Accepted (a : Account) (trial : List ℕ) : Type 0 where
  pub contents : Contents
  pub holds : contents_in trial ≡ accepted contents
  pub tried : contents.tried ≡ a
  pub accepts : contents.code ≡ 0
  pub possible : impossible contents.next ≡ false
  pub taken : taken_from trial a ≡ accepted contents.next

zero-row :
    {A : Type 0} (n : ℕ) (t : Bool) (o : Outcome A) → 0 < n → 0 ≡ code_of (row n t o) →
    (t ≡ false) × (0 ≡ code_of o)
zero-row n true o h e = absurd (omega arith)
zero-row n false o h e = (refl, e)

zero-answer :
    (code : ℕ) (next : Account) → 0 ≡ code_of (answer_in (named_answer code next)) →
    (code ≡ 0) × (impossible next ≡ false)
unfolding named_answer
zero-answer code next e = by (eqb code 0) refl e
  where
    by :
        (t : Bool) → eqb code 0 ≡ t →
        0 ≡ code_of (answer_in (cond t (accepted next) (refused (code % 256, code / 256)))) →
        (code ≡ 0) × (impossible next ≡ false)
    by true is z =
        (eqb-true code 0 is, (zero-row 13 (impossible next) (accepted next) (omega arith) z).0)
    by false is z = absurd (eqb-false code 0 is (omega (arith, z)))

not-false : (t : Bool) → not t ≡ false → t ≡ true
not-false t e = grind arith

zero-taken :
    (a : Account) (trial : List ℕ) (o : Outcome Contents) → contents_in trial ≡ o →
    0 ≡ code_of (taken_from trial a) → Accepted a trial
unfolding take_with named_answer
zero-taken a trial (refused w) e z =
    let none : taken_from trial a ≡ refused (13, 0) = rw (no-contents trial w e) refl in
    let row-13 : code_of (taken_from trial a) ≡ 13 = ap code_of none in
    absurd (omega (arith, z, row-13))
zero-taken a trial (accepted c) e z =
    let given = zero-row 13 (impossible a) _ (omega arith) (rw e at z) in
    let same = zero-row 16 (not (is_same a c.tried)) _ (omega arith) given.1 in
    let carried = zero-answer c.code c.next same.1 in
    record {
      contents = c;
      holds = e;
      tried = sym ((same-is a c.tried).0 (not-false (is_same a c.tried) same.0));
      accepts = carried.0;
      possible = carried.1;
      taken = rw (e, given.0, same.0, carried.0, carried.1) refl;
    }

-- an accepted take is of such bytes
pub accepted-take :
    (a : Account) (trial : List ℕ) → 0 ≡ code_of (taken_from trial a) → Accepted a trial
accepted-take a trial z = zero-taken a trial (contents_in trial) refl z

pub trial-bytes-promise : TrialBytesPromise
trial-bytes-promise = record {
  taken = λ tried line before trial made k z account same.
      let m =
      made_by tried line (length before) (take_up_of tried) refl
      (ltb (length before) trial_width) refl (sym (ap (λ (r : Tried). r.code) k.answers) ∙ z) in
      taken-fed tried line before trial account made k m.0 m.1 m.2 same;
  other = other-bytes;
  none = none-bytes;
  carries = carried-bytes;
}
