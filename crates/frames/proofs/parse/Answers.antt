-- `frames::parse` meets its contract: rows 1 to 3 in order, then the frame.
use mathlib.Core.Path.{◌≡◌, sym, ap, ◌∙◌}
use mathlib.Core.Bool.{true}
use borrow.Author.Tests.{eq-eqb, ne_eqb, not-false}
use lib.ListN.{length}
use Rattle.frames.specs.Answers.{accepted}
use Rattle.frames.specs.Digits.{all_digits, byte_at}
use Rattle.frames.specs.Kinds.{is_length, length_of}
use Rattle.frames.specs.steps.Frames.{SaysValues}
use Rattle.frames.proofs.KindLaws.{length-ge, length-le}
use Rattle.frames.proofs.FrameLaws.{kind-out, kind-in}
use Rattle.frames.proofs.parse.Goals.{Else-not-is_length, After-length_of}
use Rattle.frames.proofs.parse.Goals as goal

sized : (c : Else-not-is_length) → is_length (length c.args.line.now) ≡ true
sized c = sym c.is_length.ensures ∙ not-false _ c.if-not-is_length.false-raw

pub line_of-read-requires : goal.line_of-read-requires
line_of-read-requires c =
    length-le (length c.args.line.now) (sized (goal.at.line_of-read-requires c).Else-not-is_length)

-- what is known of the line's kind
record Read (c : After-length_of) : Type 0 where
  whole : all_digits c.args.line.now ≡ true
  says : SaysValues c.line_of-read.result.values c.args.line.now
  span : c.length_of.result ≡ length_of (byte_at 0 c.args.line.now)

read : (c : After-length_of) → is_length (length c.args.line.now) ≡ true → Read c
read c fits =
    let whole : all_digits c.args.line.now ≡ true =
    sym c.line_of-read.ensures.digits ∙ c.if-not-read.false in
    let says = c.line_of-read.ensures.says whole in
    record {
      whole = whole;
      says = says;
      span =
          c.length_of.ensures
          ∙ ap length_of
          (c.byte_at.ensures c.args.line.now says (length-ge (length c.args.line.now) fits));
    }

pub returns-then-length_of-line : goal.returns-then-length_of-line
returns-then-length_of-line c = let l = c.args.line.now in
    let fits = sized (goal.at.returns-then-length_of-line c).Else-not-is_length in
    let known = read (goal.at.returns-then-length_of-line c).After-length_of fits in
    kind-out _ fits known.whole
    (ne_eqb (length_of (byte_at 0 l)) (length l) (λ p. c.if-length_of-line.true (known.span ∙ p)))

pub returns : goal.returns
returns c = let l = c.args.line.now in
    let fits = sized (goal.at.returns c).Else-not-is_length in
    let known = read (goal.at.returns c).After-length_of fits in
    let fit : length_of (byte_at 0 l) ≡ length l = sym known.span ∙ c.if-length_of-line.false in
    ap accepted (c.frame_at.ensures l known.says (record { some = fits; own = fit }))
    ∙ kind-in _ fits known.whole (eq-eqb (length_of (byte_at 0 l)) (length l) fit)
