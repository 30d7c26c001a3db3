-- `account::possible::impossible` meets its contract.
use mathlib.Core.Path.{◌≡◌, sym, ◌∙◌}
use mathlib.Core.Bool.{◌||◌}
use borrow.Author.Rules.{rules}
use Rattle.account_spec.specs.HourKinds.{kind_out}
use Rattle.account_spec.specs.Account.{unmeasured_in, warmth_alone, carried_out, any_of, sums_out}
use Rattle.account.proofs.RowLaws.{impossible_is}
use Rattle.account.proofs.possible.impossible.Goals as goal
use Rattle.account.proofs.possible.impossible.Goals.{then-sums_out, else-sums_out, then-kind_out}
use Rattle.account.proofs.possible.impossible.Goals.{else-kind_out, then-unmeasured}
use Rattle.account.proofs.possible.impossible.Goals.{else-unmeasured, then-warmth_alone}
use Rattle.account.proofs.possible.impossible.Goals.{else-warmth_alone}

pub returns-then-carried_out : goal.returns-then-carried_out
returns-then-carried_out c =
    let a = c.args.a in
    let two : c.if-sums_out.value
    ≡ (any_of (sums_out a.season a.sums) || kind_out a.kind a.sums.hours) =
    elim c.if-sums_out.branch [ then-sums_out w ↦ search rules | else-sums_out w ↦ search rules ] in
    let three : c.if-kind_out.value
    ≡ (c.if-sums_out.value || unmeasured_in a.season a.kind a.sums.hours) =
    elim c.if-kind_out.branch [ then-kind_out w ↦ search rules | else-kind_out w ↦ search rules ] in
    let four : c.if-unmeasured.value ≡ (c.if-kind_out.value || warmth_alone a.season) =
    elim c.if-unmeasured.branch [
      | then-unmeasured w ↦ search rules
      | else-unmeasured w ↦ search rules
    ] in
    let five : c.if-warmth_alone.value
    ≡ (c.if-unmeasured.value || carried_out a.season a.sums.hours a.carried) =
    elim c.if-warmth_alone.branch [
      | then-warmth_alone w ↦ search rules
      | else-warmth_alone w ↦ search rules
    ] in
    let first :
    (any_of (sums_out a.season a.sums) || kind_out a.kind a.sums.hours
    || unmeasured_in a.season a.kind a.sums.hours || warmth_alone a.season
    || carried_out a.season a.sums.hours a.carried)
    ≡ c.if-warmth_alone.value =
    sym (rw (four, three, two) at five) in
    c.if-carried_out.true ∙ (rw (first ∙ c.if-carried_out.true) at (impossible_is a))

pub returns-else-carried_out : goal.returns-else-carried_out
returns-else-carried_out c =
    let a = c.args.a in
    let two : c.if-sums_out.value
    ≡ (any_of (sums_out a.season a.sums) || kind_out a.kind a.sums.hours) =
    elim c.if-sums_out.branch [ then-sums_out w ↦ search rules | else-sums_out w ↦ search rules ] in
    let three : c.if-kind_out.value
    ≡ (c.if-sums_out.value || unmeasured_in a.season a.kind a.sums.hours) =
    elim c.if-kind_out.branch [ then-kind_out w ↦ search rules | else-kind_out w ↦ search rules ] in
    let four : c.if-unmeasured.value ≡ (c.if-kind_out.value || warmth_alone a.season) =
    elim c.if-unmeasured.branch [
      | then-unmeasured w ↦ search rules
      | else-unmeasured w ↦ search rules
    ] in
    let five : c.if-warmth_alone.value
    ≡ (c.if-unmeasured.value || carried_out a.season a.sums.hours a.carried) =
    elim c.if-warmth_alone.branch [
      | then-warmth_alone w ↦ search rules
      | else-warmth_alone w ↦ search rules
    ] in
    let first :
    (any_of (sums_out a.season a.sums) || kind_out a.kind a.sums.hours
    || unmeasured_in a.season a.kind a.sums.hours || warmth_alone a.season
    || carried_out a.season a.sums.hours a.carried)
    ≡ c.if-warmth_alone.value =
    sym (rw (four, three, two) at five) in
    c.phase_out.ensures ∙ (rw (first ∙ c.if-carried_out.false) at (impossible_is a))
