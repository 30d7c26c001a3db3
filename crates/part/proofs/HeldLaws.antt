-- Bytes that hold an account: what a line and a reading answer, what an answer leaves, and the
-- account's own bytes among those lent.
use Prim.Native.Nat.{ℕ, ◌≤◌}
use mathlib.Core.Path.{◌≡◌, sym, ap, ◌∙◌}
use mathlib.Core.List.{List}
use native.Mathlib.Omega.{arith}
use lib.ListN.{length}
use Rattle.std.proofs.lemmas.List.{length-take}
use Rattle.frames.specs.Answers.{Outcome, accepted, refused}
use Rattle.account_spec.specs.declared.Account.{Account}
use Rattle.account_spec.specs.Rules.{feed_of, left_of}
use Rattle.account_spec.specs.Reading.{read_of}
use Rattle.stored.specs.Layout.{account_width, take_up_of}
use Rattle.stored.proofs.HeldLaws.{taken-room, front-taken}
use Rattle.part.specs.Calls.{bytes_after, LeavesBytes, fed_in, read_in}
use Rattle.part.specs.Told.{front}

module _ (a : Account) (b : List ℕ) (held : take_up_of b ≡ accepted a) where
  pub fed-is : (l : List ℕ) → fed_in b l ≡ feed_of a l
  unfolding fed_in
  fed-is l = rw held

  pub read_is : read_in b ≡ read_of a
  unfolding read_in
  read_is = rw held

  -- the bytes that an answer leaves hold the account that it leaves
  pub left-held : (o p : Outcome Account) → o ≡ p → (after : List ℕ) (code : ℕ)
      → LeavesBytes b o code after → take_up_of after ≡ accepted (left_of a p)
  left-held o (accepted n) e after code k = k.holds n e
  left-held o (refused w) e after code k = ap take_up_of (k.leaves ∙ ap (bytes_after b) e) ∙ held

-- ---- in front

module _ (lent : List ℕ) (a : Account) where
  pub lent-held : take_up_of (front lent) ≡ accepted a → take_up_of lent ≡ accepted a
  lent-held e =
      let room : account_width ≤ length lent =
      omega (arith, taken-room (front lent) a e, length-take account_width lent) in
      sym (front-taken lent room) ∙ e

  pub front-held : take_up_of lent ≡ accepted a → take_up_of (front lent) ≡ accepted a
  front-held e = front-taken lent (taken-room lent a e) ∙ e
