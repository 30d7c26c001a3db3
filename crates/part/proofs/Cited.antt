-- The season's promise over calls that are tied by the contracts of the functions, as they stand
-- there, and by nothing else.
use Prim.Native.Nat.{ℕ}
use mathlib.Core.List.{List, []}
use denote.MutBor.{MutBor}
use denote.Ref.{Bor}
use Rattle.account_spec.specs.Account.{fresh_account}
use Rattle.account_spec.specs.Promise.{SeasonPromise}
use Rattle.account_spec.specs.FillingPromise.{FillingPromise}
use Rattle.floats.specs.declared.FloatReadings.{FloatReadings}
use Rattle.floats.proofs.PromiseLaws.{float-promise}
use Rattle.stored.proofs.RunLaws.{listed-promise}
use Rattle.stored.specs.declared.answers.Printed.{Printed}
use Rattle.stored.specs.declared.answers.Readout.{Readout}
use Rattle.stored.specs.declared.answers.Tried.{Tried}
use Rattle.part.specs.Calls.{Stores}
use Rattle.part.specs.Trials.{TakesBytes}
use Rattle.part.specs.Told.{Told, CallTold, Calls}
use Rattle.part.specs.Promise.{PartPromise}
use Rattle.part.proofs.FloatLaws.{float-bytes-promise}
use Rattle.part.proofs.TakenLaws.{trial-bytes-promise}
use Rattle.part.proofs.PromiseLaws.{part-promise}
use Rattle.part.proofs.pod1_fresh.Reads as fresh-reads
use Rattle.part.proofs.pod1_feed.Reads as feed-reads
use Rattle.part.proofs.pod1_read.Reads as read-reads
use Rattle.part.proofs.pod1_line.Reads as line-reads
use Rattle.part.proofs.logger.pod1_feed_floats.Reads as floats-reads
use Rattle.part.proofs.trials.pod1_trial.Reads as trial-reads
use Rattle.part.proofs.trials.pod1_take.Reads as take-reads
use Rattle.part.proofs.several.pod1_feed_all.Reads as all-reads

-- bytes lent for a call
abbrev pub lent : List ℕ → Bor (List ℕ)
lent l = record { ref_ptr = (0, 0); now = l }

abbrev pub lent-mut : List ℕ → MutBor (List ℕ)
lent-mut l = record { ref_ptr = (0, 0); ghost_name = 0; now = l }

-- what a call of each promises

abbrev Begun : (room begun : List ℕ) → Type 0
Begun room begun = fresh-reads.Post ([], tt) (lent-mut room, tt) 0 (lent-mut begun, tt)

abbrev CallFeeds : (b line : List ℕ) → ℕ → List ℕ → Type 0
CallFeeds b line code after =
    feed-reads.Post ([], ([], tt)) (lent-mut b, (lent line, tt)) code
    (lent-mut after, (lent line, tt))

abbrev FloatsFed : List ℕ → ℕ → ℕ → FloatReadings → ℕ → List ℕ → Type 0
FloatsFed b day hour readings code after =
    floats-reads.Post ([], tt) (lent-mut b, (day, (hour, (readings, tt)))) code
    (lent-mut after, (day, (hour, (readings, tt))))

abbrev pub Tries : (b line buffer : List ℕ) → Tried → List ℕ → Type 0
Tries b line buffer answer trial =
    trial-reads.Post ([], ([], ([], tt))) (lent b, (lent line, (lent-mut buffer, tt))) answer
    (lent b, (lent line, (lent-mut trial, tt)))

abbrev pub Takes : (b trial : List ℕ) → ℕ → List ℕ → Type 0
Takes b trial code after =
    take-reads.Post ([], ([], tt)) (lent-mut b, (lent trial, tt)) code
    (lent-mut after, (lent trial, tt))

abbrev FedAll : (b line : List ℕ) → ℕ → List ℕ → Type 0
FedAll b line code after =
    all-reads.Post ([], ([], tt)) (lent-mut b, (lent line, tt)) code
    (lent-mut after, (lent line, tt))

abbrev ReadTold : List ℕ → Readout → Type 0
ReadTold b answer = read-reads.Post ([], tt) (lent b, tt) answer (lent b, tt)

abbrev LineTold : (b buffer : List ℕ) → Printed → List ℕ → Type 0
LineTold b buffer answer text =
    line-reads.Post ([], ([], tt)) (lent b, (lent-mut buffer, tt)) answer
    (lent b, (lent-mut text, tt))

-- ---- a call as `CallTold` has it is one of which the contract holds, and the contract says all
-- that `CallTold` asks

call-tied : {b after : List ℕ} {t : Told} → CallTold b t after → CallTold b t after
call-tied (CallTold.feeds b after {line} {code} k) =
    let call : CallFeeds b line code after = k in CallTold.feeds b after call
call-tied (CallTold.feeds_floats b after {day} {hour} {readings} {code} k) =
    let call : FloatsFed b day hour readings code after =
    (k, (float-promise, float-bytes-promise)) in
    CallTold.feeds_floats b after call.0
call-tied (CallTold.tries b {line} {buffer} {trial} {answer} k) =
    let call : Tries b line buffer answer trial = k in CallTold.tries b call
call-tied (CallTold.takes b after {trial} {code} k made) =
    let call : Takes b trial code after = (k, trial-bytes-promise) in
    CallTold.takes b after call.0 made
call-tied (CallTold.feeds_all i b after {line} {code} k) =
    let call : FedAll b line code after = (k, listed-promise) in
    CallTold.feeds_all i b after call.0
call-tied (CallTold.reads b {answer} k) = let call : ReadTold b answer = k in CallTold.reads b call
call-tied (CallTold.prints b {buffer} {text} {answer} k) =
    let call : LineTold b buffer answer text = k in CallTold.prints b call

calls-tied : {b left : List ℕ} {ts : List Told} → Calls b ts left → Calls b ts left
calls-tied Calls.stop = Calls.stop
calls-tied (Calls.call k calls) = Calls.call (call-tied k) (calls-tied calls)

begun-tied : PartPromise → (room begun : List ℕ) → Stores fresh_account room 0 begun
    → Stores fresh_account room 0 begun
begun-tied p room begun k = let call : Begun room begun = (k, p) in call.0

takes-tied : (b trial after : List ℕ) → TakesBytes b trial 0 after → TakesBytes b trial 0 after
takes-tied b trial after k = let call : Takes b trial 0 after = (k, trial-bytes-promise) in call.0

calls-cited : PartPromise → PartPromise
calls-cited p = record {
  season =
      λ room begun left ts k calls. p.season room begun left ts (begun-tied p room begun k)
      (calls-tied calls);
  forged = λ room begun b trial after ts k calls t.
      p.forged room begun b trial after ts (begun-tied p room begun k) (calls-tied calls)
      (takes-tied b trial after t);
  filling = p.filling;
  shown = p.shown;
}

pub part-cited : SeasonPromise → FillingPromise → PartPromise
part-cited season filling = calls-cited (part-promise season filling)
