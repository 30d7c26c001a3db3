-- `frames::layout::frame_at` meets its contract: a line's kind tells the length that its fields
-- need.
use Prim.Native.Nat.{ℕ}
use mathlib.Core.Path.{refl, sym, ap, ◌∙◌}
use native.Mathlib.Omega.{arith}
use Rattle.frames.specs.Digits.{byte_at}
use Rattle.frames.specs.Kinds.{length_of}
use Rattle.frames.specs.Layout.{frame_of}
use Rattle.frames.specs.declared.records.Raw.{Raw}
use Rattle.frames.proofs.KindLaws.{kind-cases, hour-left}
use Rattle.frames.proofs.FrameLaws.{frame_is, hour-framed, sized-ge, sized-within, sized-le}
use Rattle.frames.proofs.layout.frame_at.Goals as goal

pub returns-in-1 : goal.returns-in-1
unfolding frame_of
returns-in-1 c = λ l says sized.
    let kind = sym (c.byte_at-kind.ensures l says (sized-ge l sized)) ∙ c.in-1.is in
    ap Raw.Header (c.header_at.ensures l says (sized-le l sized kind)) ∙ sym (frame_is l kind)

pub returns-in-3 : goal.returns-in-3
unfolding frame_of length_of
returns-in-3 c = λ l says sized.
    let kind = sym (c.byte_at-kind.ensures l says (sized-ge l sized)) ∙ c.in-3.is in
    ap (λ (n : ℕ). Raw.End (record { hours = n }))
    (c.number_at-hours.ensures l says (sized-le l sized kind))
    ∙ sym (frame_is l kind)

pub returns-in-6 : goal.returns-in-6
unfolding frame_of length_of
returns-in-6 c = λ l says sized.
    let kind = sym (c.byte_at-kind.ensures l says (sized-ge l sized)) ∙ c.in-6.is in
    ap (λ (n : ℕ). Raw.Ceiling (record { ozone = n }))
    (c.number_at-ozone.ensures l says (sized-le l sized kind))
    ∙ sym (frame_is l kind)

pub returns-in-7 : goal.returns-in-7
unfolding frame_of
returns-in-7 c = λ l says sized.
    let kind = sym (c.byte_at-kind.ensures l says (sized-ge l sized)) ∙ c.in-7.is in
    ap Raw.Parameters (c.parameters_at.ensures l says (sized-le l sized kind))
    ∙ sym (frame_is l kind)

pub returns-in-8 : goal.returns-in-8
unfolding frame_of
returns-in-8 c = λ l says sized.
    let kind = sym (c.byte_at-kind.ensures l says (sized-ge l sized)) ∙ c.in-8.is in
    ap Raw.Warmth (c.warmth_at.ensures l says (sized-le l sized kind)) ∙ sym (frame_is l kind)

-- the other kinds are those of hours
pub returns-in_default : goal.returns-in_default
returns-in_default c = λ l says sized.
    let kind = c.byte_at-kind.ensures l says (sized-ge l sized) in
    let case = kind-cases (byte_at 0 l) (sized-within l sized) in
    let hour =
    hour-left _ case (λ e. omega arith) (λ e. omega arith) (λ e. omega arith) (λ e. omega arith)
    (λ e. omega arith) in
    ap Raw.Hour ((rw kind at c.hour_at.ensures) hour l says (sized-le l sized refl))
    ∙ sym (hour-framed l hour refl)
