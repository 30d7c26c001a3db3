-- Trials stored and taken up, taken up and stored.
use Rattle.frames.specs.declared.records.Refusal.{Refusal}
use Rattle.std.specs.Prelude.{Result, Ok, Err}
use Prim.Native.Nat.{ℕ, ◌+◌, ◌-◌, ◌*◌, ◌/◌, ◌%◌, ◌≤◌, ◌<◌}
use mathlib.Core.Path.{◌≡◌, refl, sym, ap, subst, ◌∙◌}
use mathlib.Core.Bool.{true, not}
use mathlib.Core.List.{List, [], ◌++◌, append_assoc}
use native.Mathlib.Omega.{arith}
use native.Mathlib.Nat.{zero-add}
use lib.ListN.{length, get_or, take, drop, length-append, length-drop, take-append-drop}
use lib.Seq.{length-sets, sets, sets-eq, drop_at, drop-drop, get_or-drop}
use borrow.Rule.Slice.PartMut.{mid_of, put_mid}
use Rattle.frames.specs.Answers.{accepted}
use Rattle.frames.specs.Buffer.{Prints}
use Rattle.frames.proofs.AnswerLaws.{row-passed, onward-passed, accepted-same, refused-not-accepted}
use Rattle.account_spec.specs.declared.Account.{Account}
use Rattle.account_spec.specs.Rules.{fed_as, left_by, Fed}
use Rattle.account_spec.specs.Reading.{Reads}
use Rattle.stored.specs.Packing.{big_endian, big_endian_at}
use Rattle.stored.specs.Layout.{account_width, account_bytes, take_up_of}
use Rattle.stored.specs.RoundTrip.{TakenUp}
use Rattle.stored.proofs.HeldLaws.{taken-room}
use Rattle.stored.proofs.PackingLaws.{sets-append}
use Rattle.stored.proofs.RoundTripLaws.{big_endian-back}
use Rattle.stored.proofs.AccountLaws.{account-length, stored_back}
use Rattle.stored.specs.Code.{code_of, is_code, named_answer}
use Rattle.stored.proofs.CodeLaws.{code_is, code-answer}
use Rattle.trial.specs.declared.Trial.{Trial}
use Rattle.trial.specs.Trial.{Tries}
use Rattle.trial.proofs.TrialLaws.{taken_is}
use Rattle.stored.specs.TrialLayout.{Contents, contents_of, answer_carried, code_width, trial_width}
use Rattle.stored.specs.TrialLayout.{trial_bytes, contents_in, HoldsTrial}
use Rattle.stored.proofs.TrialPartLaws.{put-part}
use Rattle.stored.specs.TrialRoundTrip.{TriedAgain, TrialTakenUp, TrialStoredBack}

-- ---- the bytes

pub trial-length : (c : Contents) → length (trial_bytes c) ≡ trial_width
unfolding trial_bytes big_endian
trial-length c =
    let both = length-append (account_bytes c.tried) (account_bytes c.next) in
    omega (arith, both, account-length c.tried, account-length c.next)

-- the code, then the tried account, then the next
put-bytes : (c : Contents) (b : List ℕ) → trial_width ≤ length b
    → sets (sets (sets b 0 (big_endian code_width c.code [])) code_width (account_bytes c.tried))
    (code_width + account_width) (account_bytes c.next)
    ≡ trial_bytes c ++ drop trial_width b
unfolding trial_bytes big_endian
put-bytes c b h =
    let xs = big_endian code_width c.code [] in
    let a = account_bytes c.tried in
    let n = account_bytes c.next in
    let place : code_width + account_width ≡ 0 + length (xs ++ a) =
    omega (arith, account-length c.tried) in
    let size : 0 + length (trial_bytes c) ≡ trial_width =
    zero-add (length (trial_bytes c)) ∙ trial-length c in
    ap (λ (k : ℕ). sets (sets b 0 (xs ++ a)) k n) place
    ∙ sets-append (xs ++ a) n b 0
    ∙ sets-eq (trial_bytes c) b 0 (omega arith)
    ∙ ap (λ (k : ℕ). trial_bytes c ++ drop k b) size

-- the bytes by what each call leaves: the code, then the tried account into the part from its place
-- on, then the next
module _ (c : Contents) (b front e f : List ℕ) (room : trial_width ≤ length b)
    (code : front ≡ sets b 0 (big_endian code_width c.code []))
    (v : Result ℕ Refusal) (first :
    Prints (accepted (account_bytes c.tried))
    (mid_of code_width (length front - code_width) front) v e) where
  abbrev at : ℕ
  at = code_width + account_width

  abbrev both : List ℕ
  both = put_mid code_width (length front - code_width) front e

  front-length : length front ≡ length b
  front-length = ap length code ∙ length-sets b 0 (big_endian code_width c.code [])

  both_is : both ≡ sets front code_width (account_bytes c.tried)
  both_is =
      put-part (account_bytes c.tried) front code_width
      (omega (arith, front-length, account-length c.tried)) e v first

  both-length : length both ≡ length b
  both-length =
      ap length both_is ∙ length-sets front code_width (account_bytes c.tried) ∙ front-length

  pub laid :
      (next : Account) → next ≡ c.next → (w : Result ℕ Refusal) →
      Prints (accepted (account_bytes next)) (mid_of at (length both - at) both) w f
      → put_mid at (length both - at) both f ≡ trial_bytes c ++ drop trial_width b
  laid next is w second =
      put-part (account_bytes next) both at
      (omega (arith, both-length, account-length next)) f w second
      ∙ ap (λ (a : Account). sets both at (account_bytes a)) is
      ∙ ap (λ (l : List ℕ). sets l at (account_bytes c.next))
      (both_is ∙ ap (λ (l : List ℕ). sets l code_width (account_bytes c.tried)) code)
      ∙ put-bytes c b room

-- ---- stored and taken up

pub contents-back :
    (c : Contents) → is_code c.code ≡ true → c.code < 65536 → TakenUp c.tried → TakenUp c.next
    → (rest : List ℕ) → contents_in (trial_bytes c ++ rest) ≡ accepted c
unfolding contents_in trial_bytes big_endian big_endian_at
contents-back c is small tried next rest =
    let a = account_bytes c.tried in
    let b = account_bytes c.next in
    let code : (0 * 256 + c.code / 256 % 256) * 256 + c.code % 256 ≡ c.code = omega arith in
    let line : (a ++ b) ++ rest ≡ a ++ (b ++ rest) = append_assoc a b rest in
    let first : take_up_of ((a ++ b) ++ rest) ≡ accepted c.tried =
    ap take_up_of line ∙ tried.back (b ++ rest) in
    let second : take_up_of (drop account_width ((a ++ b) ++ rest)) ≡ accepted c.next =
    ap (λ (l : List ℕ). take_up_of (drop account_width l)) line
    ∙ ap take_up_of (drop_at a (b ++ rest) account_width (account-length c.tried)) ∙ next.back rest
    in
    simp (code, is, first, second)

code-valid : (f : Fed) → is_code (code_of (fed_as f)) ≡ true
unfolding is_code
code-valid (Ok b) = refl
code-valid (Err (r, b)) = code_is r

-- the answer is that of its code
pub fed-answer : (f : Fed) → named_answer (code_of (fed_as f)) (left_by f) ≡ fed_as f
unfolding named_answer
fed-answer (Ok b) = refl
fed-answer (Err (r, b)) = code-answer r b

-- a trial with the contents of one that was made, and with its own reading, is made so
tries-again :
    (a : Account) (l : List ℕ) (t u : Trial) → Tries a l t → contents_of u ≡ contents_of t →
    Reads (left_by u.answer) u.reading → Tries a l u
tries-again a l t u made e reads =
    let left = ap (λ (c : Contents). c.next) e ∙ made.answer.leaves in
    record {
      tried = ap (λ (c : Contents). c.tried) e ∙ made.tried;
      answer = record {
        answers =
            sym (fed-answer u.answer) ∙ ap answer_carried e ∙ fed-answer t.answer
            ∙ made.answer.answers;
        leaves = left;
      };
      reading = subst (λ (x : Account). Reads x u.reading) left reads;
    }

module _ (t : Trial) (small : code_of (fed_as t.answer) < 65536) (tried : TakenUp t.tried)
    (next : TakenUp (left_by t.answer)) where
  back :
      (rest : List ℕ) → contents_in (trial_bytes (contents_of t) ++ rest) ≡ accepted (contents_of t)
  back = contents-back (contents_of t) (code-valid t.answer) small tried next

  again :
      (a : Account) (l : List ℕ) → Tries a l t → (rest : List ℕ) (held : Result Trial Refusal) →
      HoldsTrial (contents_in (trial_bytes (contents_of t) ++ rest)) held → TriedAgain a l held
  again a l made rest (Ok u) h =
      let tries =
      tries-again a l t u made (accepted-same (h.answers ∙ back rest)) (h.reading u refl) in
      record { trial = u; same = refl; tries = tries; fed = taken_is a l u tries }
  again a l made rest (Err r) h = refused-not-accepted (h.answers ∙ back rest)

  pub trial-taken-up : TrialTakenUp t
  trial-taken-up = record { back = back; again = again }

-- ---- taken up and stored

module _ (l : List ℕ) (small : (i : ℕ) → get_or l i 0 < 256) (tried next : Account)
    (first : take_up_of (drop code_width l) ≡ accepted tried)
    (second : take_up_of (drop (code_width + account_width) l) ≡ accepted next) where
  small-in : (k i : ℕ) → get_or (drop k l) i 0 < 256
  small-in k i = rw get_or-drop (small (k + i))

  tail-same : account_bytes next ++ drop trial_width l ≡ drop (code_width + account_width) l
  tail-same =
      ap (λ (r : List ℕ). account_bytes next ++ r)
      (sym (drop-drop account_width (code_width + account_width) l))
      ∙ (stored_back (drop (code_width + account_width) l)
      (small-in (code_width + account_width))).same
      next second

  accounts-same : account_bytes tried ++ drop (code_width + account_width) l ≡ drop code_width l
  accounts-same =
      ap (λ (r : List ℕ). account_bytes tried ++ r) (sym (drop-drop account_width code_width l))
      ∙ (stored_back (drop code_width l) (small-in code_width)).same tried first

  bytes_same :
      trial_bytes (record { code = big_endian_at code_width 0 l; tried = tried; next = next })
      ++ drop trial_width l
      ≡ l
  unfolding trial_bytes
  bytes_same =
      let a = account_bytes tried in
      let n = account_bytes next in
      let rest = drop trial_width l in
      let room = taken-room (drop code_width l) tried first in
      ap (λ (r : List ℕ). r ++ rest)
      (big_endian-back l small code_width 0 (a ++ n) (omega (arith, length-drop code_width l)))
      ∙ append_assoc (take code_width l) (a ++ n) rest
      ∙ ap (λ (r : List ℕ). take code_width l ++ r)
      (append_assoc a n rest ∙ ap (λ (r : List ℕ). a ++ r) tail-same ∙ accounts-same)
      ∙ take-append-drop code_width l

pub trial-stored-back : (l : List ℕ) → ((i : ℕ) → get_or l i 0 < 256) → TrialStoredBack l
unfolding contents_in
trial-stored-back l small = record {
  same = λ c e.
      let passed = row-passed (not (is_code (big_endian_at code_width 0 l))) (13, 0) _ c e in
      let first = onward-passed (take_up_of (drop code_width l)) _ c passed.1 in
      let second = onward-passed (take_up_of (drop (code_width + account_width) l)) _ c first.2 in
      subst (λ (x : Contents). trial_bytes x ++ drop trial_width l ≡ l) (accepted-same second.2)
      (bytes_same l small first.0 second.0 first.1 second.1);
}
