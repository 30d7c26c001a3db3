-- A list of calls on the bytes of one account tells a season of it.
use Prim.Native.Nat.{ℕ}
use mathlib.Core.Path.{◌≡◌, refl, ap, ◌∙◌}
use mathlib.Core.List.{List, [], ◌++◌}
use Rattle.frames.specs.Answers.{accepted}
use Rattle.account_spec.specs.declared.Account.{Account}
use Rattle.account_spec.specs.Account.{fresh_account}
use Rattle.account_spec.specs.Runs.{Event}
use Rattle.account_spec.specs.Promise.{SeasonPromise}
use Rattle.account_spec.specs.FillingPromise.{FillingPromise}
use Rattle.stored.specs.Layout.{take_up_of}
use Rattle.stored.specs.Code.{code_of}
use Rattle.part.specs.Calls.{Stores}
use Rattle.part.specs.Trials.{taken_from, taken_in, TakesBytes}
use Rattle.part.specs.Told.{Told, front, Calls}
use Rattle.part.specs.Promise.{account_now, Tellings, SeasonTold, ForgedTaken, PartPromise}
use Rattle.part.proofs.HeldLaws.{lent-held, front-held}
use Rattle.part.proofs.TakenLaws.{accepted-take}
use Rattle.part.proofs.ShownLaws.{shown}
use Rattle.part.proofs.SeasonLaws.{SeasonSoFar, nothing-yet, run-kept, call-step}

taken_is : (a : Account) (b : List ℕ) → take_up_of b ≡ accepted a → (trial : List ℕ)
    → taken_in b trial ≡ taken_from trial a
unfolding taken_in
taken_is a b held trial = rw held refl

-- ---- call by call

record Told-on (done : List Event) (ts : List Told) (left : List ℕ) : Type 0 where
  events : List Event
  told : Tellings done ts events
  begun : SeasonSoFar events
  holds : take_up_of left ≡ accepted (account_now events)

calls-told :
    SeasonPromise → (done : List Event) → SeasonSoFar done → (b left : List ℕ) (ts : List Told)
    → take_up_of b ≡ accepted (account_now done) → Calls b ts left → Told-on done ts left
calls-told p done n b left ts held Calls.stop =
    record { events = done; told = Tellings.stop; begun = n; holds = held }
calls-told p done n b left ts held (Calls.call {after = after} {t = t} {ts = rest} k calls) =
    let one = call-step p done n b after t held k in
    let all = calls-told p (done ++ one.more) one.next after left rest one.held calls in
    record {
      events = all.events;
      told = Tellings.call one.telling all.told;
      begun = all.begun;
      holds = all.holds;
    }

module _ (p : SeasonPromise) (filling : FillingPromise) (room begun : List ℕ)
    (stores : Stores fresh_account room 0 begun) where
  season-told : (left : List ℕ) (ts : List Told) → Calls (front begun) ts left → SeasonTold ts left
  season-told left ts calls =
      let all =
      calls-told p [] nothing-yet (front begun) left ts
      (front-held begun fresh_account (stores.holds refl)) calls in
      record {
        events = all.events;
        told = all.told;
        kept = run-kept p all.events all.begun;
        alone = filling.alone all.events all.begun.run;
        holds = all.holds;
      }

  -- ---- a trial that no line made

  forged-taken : (lent trial after : List ℕ) (events : List Event)
      → take_up_of (front lent) ≡ accepted (account_now events) → TakesBytes lent trial 0 after
      → ForgedTaken events trial after
  forged-taken lent trial after events first k =
      let now = account_now events in
      let is = taken_is now lent (lent-held lent now first) trial in
      let a = accepted-take now trial (k.answers ∙ ap code_of is) in
      record {
        contents = a.contents;
        holds = a.holds;
        tried = a.tried;
        accepts = a.accepts;
        possible = a.possible;
        left = k.holds a.contents.next (is ∙ a.taken);
      }

pub part-promise : SeasonPromise → FillingPromise → PartPromise
part-promise p filling = record {
  season = λ room begun left ts stores calls. season-told p filling room begun stores left ts calls;
  forged = λ room begun lent trial after ts stores calls k.
      let s = season-told p filling room begun stores (front lent) ts calls in
      (s, forged-taken p filling room begun stores lent trial after s.events s.holds k);
  filling = filling;
  shown = shown;
}
