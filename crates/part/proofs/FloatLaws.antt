-- An hour of floats in bytes is the line that says its numbers.
use mathlib.Core.Path.{◌≡◌, refl}
use Rattle.frames.specs.Answers.{Outcome, accepted, refused, onward}
use Rattle.floats.proofs.PromiseLaws.{float-promise}
use Rattle.part.specs.Calls.{fed_in}
use Rattle.part.specs.Floats.{floats_fed_in, FloatBytesPromise}

-- steps that agree on every account
onward-same :
    {A B : Type 0} (o : Outcome A) (f g : A → Outcome B) → ((a : A) → f a ≡ g a) →
    onward o f ≡ onward o g
onward-same (accepted a) f g e = e a
onward-same (refused r) f g e = refl

pub float-bytes-promise : FloatBytesPromise
unfolding floats_fed_in fed_in
float-bytes-promise = record {
  line = λ before h r answer after are kind width range k.
      rw (onward-same _ _ _ (λ a. float-promise.line a h r are kind width range)) at k;
}
