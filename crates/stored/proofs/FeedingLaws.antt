-- Feeding a list that stands in bytes, by what the calls below it answer.
use Rattle.std.specs.Prelude.{Result, Ok, Err}
use Prim.Native.Nat.{ℕ, suc, ◌+◌, ◌*◌}
use mathlib.Core.Path.{◌≡◌, refl, sym, ap, ◌∙◌}
use mathlib.Core.Bool.{true, false}
use mathlib.Core.List.{List, ◌++◌}
use native.Mathlib.Omega.{arith}
use lib.ListN.{length, drop, length-append, length-drop}
use Rattle.frames.specs.declared.records.Refusal.{Refusal}
use Rattle.frames.specs.Answers.{Outcome, accepted, refused, reply, row_of, outcome_of}
use Rattle.frames.proofs.AnswerLaws.{refused-not-accepted}
use Rattle.account_spec.specs.declared.Account.{Account}
use Rattle.stored.specs.Packing.{total_width}
use Rattle.stored.specs.Layout.{widths}
use Rattle.stand.specs.Together.{left_together, Each}
use Rattle.stand.specs.Feeding.{size_out, feed_all_of, FeedsAll}
use Rattle.stand.proofs.RunLaws.{accepted-fed}
use Rattle.stored.specs.InBytes.{accounts_bytes, accounts_in, count_in, list_in}
use Rattle.stored.specs.Feeding.{fed_listed_of, listed_after, FeedsListed}
use Rattle.stored.specs.steps.Listed.{StoresAll}
use Rattle.stored.proofs.TakingLaws.{taken-length}
use Rattle.stored.proofs.StoringLaws.{accounts-length, accounts-back}

-- ---- answers

reply-refused : {A : Type 0} (o : Outcome A) (w : ℕ × ℕ) → reply o ≡ refused w → o ≡ refused w
reply-refused (accepted a) w e = refused-not-accepted (sym e)
reply-refused (refused v) w e = let same : v ≡ w = cc in ap refused same

reply-accepted :
    (xs : List Account) (o : Outcome (List Account)) → reply o ≡ accepted tt →
    o ≡ accepted (left_together xs o)
reply-accepted xs (accepted ys) e = refl
reply-accepted xs (refused w) e = refused-not-accepted e

each-length :
    {A B : Type 0} {R : A → B → Type 0} {xs : List A} {ys : List B} → Each R xs ys →
    length ys ≡ length xs
each-length Each.none = refl
each-length (Each.more r rs) = ap suc (each-length rs)

fed-length :
    (xs ys : List Account) (line : List ℕ) → feed_all_of xs line ≡ accepted ys →
    length ys ≡ length xs
fed-length xs ys line e =
    each-length (accepted-fed xs ys line
    (record { answers = ap reply (sym e); leaves = ap (left_together xs) (sym e) }))

module _ (before line : List ℕ) where
  abbrev count : ℕ
  count = count_in before

  -- ---- refused before the list is fed

  refused-by :
      (why : Refusal) → fed_listed_of before line ≡ refused (row_of why) →
      FeedsListed before line (Err why) before
  refused-by why q = record {
    answers = ap reply (sym q);
    leaves = ap (listed_after before) (sym q);
    holds = λ ys e. refused-not-accepted (sym q ∙ e);
  }

  pub listed-size : size_out count ≡ true → FeedsListed before line (Err Refusal.ListSize) before
  unfolding fed_listed_of
  listed-size out = refused-by Refusal.ListSize (rw out)

  module _ (fits : size_out count ≡ false) where
    pub listed-none :
        (why : Refusal) → refused (row_of why) ≡ list_in before →
        FeedsListed before line (Err why) before
    unfolding fed_listed_of
    listed-none why none = refused-by why (rw (fits, sym none))

    -- ---- the list fed

    module _ (xs ys : List Account) (held : accepted xs ≡ list_in before)
        (answer : Result Unit Refusal) (fed : FeedsAll xs line answer ys) where
      fed-is : fed_listed_of before line ≡ feed_all_of xs line
      unfolding fed_listed_of
      fed-is = rw (fits, sym held)

      pub listed-refused :
          (why : Refusal) → answer ≡ Err why → FeedsListed before line (Err why) before
      listed-refused why e =
          refused-by why
          (fed-is
          ∙ reply-refused (feed_all_of xs line) (row_of why) (sym fed.answers ∙ ap outcome_of e))

      module _ (after : List ℕ) (e : answer ≡ (Ok tt)) (stores : StoresAll ys before after) where
        fed-left : feed_all_of xs line ≡ accepted ys
        fed-left =
            reply-accepted xs (feed_all_of xs line) (sym fed.answers ∙ ap outcome_of e)
            ∙ ap accepted (sym fed.leaves)

        left-length : length ys ≡ count
        left-length = fed-length xs ys line fed-left ∙ taken-length count before xs (sym held)

        after_is : after ≡ accounts_bytes ys ++ drop (total_width widths * count) before
        after_is =
            stores.leaves
            ∙ ap (λ (n : ℕ). accounts_bytes ys ++ drop (total_width widths * n) before) left-length

        count_same : count_in after ≡ length ys
        count_same =
            let rest = drop (total_width widths * count) before in
            let size : length after ≡ length (accounts_bytes ys) + length rest =
            ap length after_is ∙ length-append (accounts_bytes ys) rest in
            omega (
              arith,
              left-length,
              accounts-length ys,
              length-drop (total_width widths * count) before,
            )

        after-held : list_in after ≡ accepted ys
        after-held =
            ap (λ (n : ℕ). accounts_in n after) count_same
            ∙ ap (accounts_in (length ys)) after_is
            ∙ accounts-back ys stores.back (drop (total_width widths * count) before)

        pub listed-accepted : FeedsListed before line (Ok tt) after
        listed-accepted =
            let q : fed_listed_of before line ≡ accepted ys = fed-is ∙ fed-left in
            record {
              answers = ap reply (sym q);
              leaves = after_is ∙ ap (listed_after before) (sym q);
              holds = λ zs f. after-held ∙ sym q ∙ f;
            }
