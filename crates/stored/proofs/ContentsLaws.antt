-- What bytes hold, by what the calls below answer.
use Rattle.std.specs.Prelude.{Option, Some, None, Result, Ok, Err}
use Prim.Native.Nat.{ℕ, ◌+◌, ◌<◌}
use mathlib.Core.Path.{◌≡◌, refl, sym, ap, subst, ◌∙◌}
use mathlib.Core.Bool.{Bool, true, false, not}
use mathlib.Core.List.{List}
use native.Mathlib.Omega.{arith}
use lib.ListN.{length, drop, length-drop}
use Rattle.frames.specs.declared.records.Refusal.{Refusal}
use Rattle.frames.specs.Answers.{Outcome, accepted, refused, row, onward, row_of, outcome_of}
use Rattle.account_spec.specs.declared.Account.{Account}
use Rattle.account_spec.specs.Rules.{fed_as, left_by, Fed}
use Rattle.account_spec.specs.Reading.{Reads}
use Rattle.stored.specs.Packing.{big_endian_at}
use Rattle.stored.specs.Layout.{account_width, account_in, holds_none, take_up_of}
use Rattle.stored.proofs.HeldLaws.{none-short, taken_none}
use Rattle.stored.specs.Code.{code_of, is_code, coded_of, coded_as}
use Rattle.stored.proofs.CodeLaws.{code-promise, named-code, unknown-code}
use Rattle.trial.specs.declared.Trial.{Trial}
use Rattle.stored.specs.TrialLayout.{Contents, code_width, trial_width, contents_in, HoldsTrial}

-- ---- a code and two accounts

abbrev pub contents : ℕ → Account → Account → Contents
contents code tried next = record { code = code; tried = tried; next = next }

pub contents-same :
    {m n : ℕ} {a b x y : Account} → m ≡ n → a ≡ b → x ≡ y → contents m a x ≡ contents n b y
contents-same {m = m} {n = n} {a = a} {b = b} {x = x} {y = y} e f g =
    ap (λ (k : ℕ). contents k a x) e ∙ ap (λ (z : Account). contents n z x) f
    ∙ ap (λ (z : Account). contents n b z) g

trial-same : {t u : Trial} → ◌≡◌ {A = Result Trial Refusal} (Ok t) (Ok u) → t ≡ u
trial-same e = cc

-- a refusal holds no trial
pub holds-none :
    (o : Outcome Contents) (r : Refusal) → refused (row_of r) ≡ o → HoldsTrial o (Err r)
holds-none o r e =
    record { answers = e; reading = λ t f. let z : ◌≡◌ {A = ℕ} 0 1 = cc in absurd (omega arith) }

module _ (code : ℕ) (tried next : Account) (coded : Option (Result Unit Refusal))
    (says : coded_as coded ≡ coded_of code) where
  abbrev read : Outcome Contents
  read = row 13 (not (is_code code)) (accepted (contents code tried next))

  -- a trial whose answer has this code and this account
  pub holds-trial :
      (named : Result Unit Refusal) (f : Fed) (t : Trial) → coded ≡ Some named →
      code_of (fed_as f) ≡ code_of (outcome_of named) → left_by f ≡ next
      → (t.tried ≡ tried) × (t.answer ≡ f) → Reads (left_by f) t.reading → HoldsTrial read (Ok t)
  holds-trial named f t e same left is reads =
      let o = outcome_of named in
      let of_code : coded_of code ≡ Some o = sym says ∙ ap coded_as e in
      record {
        answers = rw (named-code code o of_code)
            (ap accepted
            (contents-same
            (ap (λ (g : Fed). code_of (fed_as g)) is.1 ∙ same ∙ code-promise.same code o of_code)
            is.0 (ap left_by is.1 ∙ left)));
        reading = λ u e.
            subst (λ (v : Trial). Reads (left_by v.answer) v.reading) (trial-same e)
            (subst (λ (g : Fed). Reads (left_by g) t.reading) (sym is.1) reads);
      }

-- ---- bytes

-- bytes that hold no account are row 13
pub taken-row : (l : List ℕ) (w : ℕ × ℕ) → take_up_of l ≡ refused w → take_up_of l ≡ refused (13, 0)
unfolding take_up_of
taken-row l w e = by (holds_none l) e
  where
    by :
        (t : Bool) → row 13 t (accepted (account_in l)) ≡ refused w →
        row 13 t (accepted (account_in l)) ≡ refused (13, 0)
    by true e = refl
    by false e = let z : ◌≡◌ {A = ℕ} 0 1 = cc in absurd (omega arith)

taken-which : (l : List ℕ) (w : ℕ × ℕ) → take_up_of l ≡ refused w → w ≡ (13, 0)
taken-which l w e = let q = sym e ∙ taken-row l w e in cc

-- the contents, by the test and the two accounts
abbrev by_parts : ℕ → Bool → Outcome Account → Outcome Account → Outcome Contents
by_parts code t first second =
    row 13 t (onward first (λ tried. onward second (λ next. accepted (contents code tried next))))

first-none :
    (code : ℕ) (t : Bool) (second : Outcome Account) →
    refused (13, 0) ≡ by_parts code t (refused (13, 0)) second
first-none code true second = refl
first-none code false second = refl

second-refused :
    (code : ℕ) (t b : Bool) (a : Account) →
    refused (13, 0) ≡ by_parts code t (row 13 b (accepted a)) (refused (13, 0))
second-refused code true b a = refl
second-refused code false true a = refl
second-refused code false false a = refl

second_none :
    (code : ℕ) (t : Bool) (k : List ℕ) →
    refused (13, 0) ≡ by_parts code t (take_up_of k) (refused (13, 0))
unfolding take_up_of
second_none code t k = second-refused code t (holds_none k) (account_in k)

module _ (l : List ℕ) where
  abbrev code : ℕ
  code = big_endian_at code_width 0 l

  pub none-in-first :
      (w : ℕ × ℕ) → take_up_of (drop code_width l) ≡ refused w → refused w ≡ contents_in l
  unfolding contents_in
  none-in-first w e =
      rw (taken-which (drop code_width l) w e, taken-row (drop code_width l) w e)
      (first-none code (not (is_code code)) (take_up_of (drop (code_width + account_width) l)))

  pub none-in-second :
      (w : ℕ × ℕ) → take_up_of (drop (code_width + account_width) l) ≡ refused w →
      refused w ≡ contents_in l
  unfolding contents_in
  none-in-second w e =
      rw (
        taken-which (drop (code_width + account_width) l) w e,
        taken-row (drop (code_width + account_width) l) w e,
      )
      (second_none code (not (is_code code)) (drop code_width l))

  pub none-in-code :
      (coded : Option (Result Unit Refusal)) → coded_as coded ≡ coded_of code → coded ≡ None →
      refused (13, 0) ≡ contents_in l
  unfolding contents_in
  none-in-code coded says e = rw (unknown-code code (sym says ∙ ap coded_as e)) refl

  pub contents-short : length l < trial_width → refused (13, 0) ≡ contents_in l
  contents-short h =
      let k = drop (code_width + account_width) l in
      let few : length k < account_width = rw length-drop (omega arith) in
      none-in-second (13, 0) (sym (taken_none k (sym (none-short k few))))

  contents-is :
      (tried next : Account) → take_up_of (drop code_width l) ≡ accepted tried →
      take_up_of (drop (code_width + account_width) l) ≡ accepted next
      → row 13 (not (is_code code)) (accepted (contents code tried next)) ≡ contents_in l
  unfolding contents_in
  contents-is tried next e f = rw (e, f) refl

  pub holds-in :
      (tried next : Account) (held : Result Trial Refusal) →
      take_up_of (drop code_width l) ≡ accepted tried →
      take_up_of (drop (code_width + account_width) l) ≡ accepted next
      → HoldsTrial (row 13 (not (is_code code)) (accepted (contents code tried next))) held →
      HoldsTrial (contents_in l) held
  holds-in tried next held e f h =
      subst (λ (o : Outcome Contents). HoldsTrial o held) (contents-is tried next e f) h
