-- `account::turns::by_kind` meets its contract.
use Rattle.std.specs.Prelude.{Option, Bool, true, false, not}
use Prim.Native.Nat.{ℕ}
use mathlib.Core.Path.{◌≡◌, sym, ap, ◌∙◌}
use native.Mathlib.Omega.{arith}
use Rattle.std.proofs.lemmas.Result.{err_from_is_err_and}
use Rattle.frames.specs.Answers.{Outcome, accepted, refused, row, outcome_of}
use Rattle.frames.specs.Ranges.{checked, lacks_ceiling}
use Rattle.frames.specs.Layout.{ozone_of}
use Rattle.account_spec.proofs.RuleLaws.{header-in, due_in, count-in, ceiling-in, parameters-out}
use Rattle.account_spec.proofs.RuleLaws.{ramps-out, ramps-in, warmth-in}
use Rattle.account.proofs.turns.by_kind.Goals as goal
use Rattle.account.proofs.turns.by_kind.Goals.{in-Header}
use Rattle.account.proofs.turns.by_kind.Goals.{in-Hour+in_ok-in_order-in-Hour+else-lacks_ceiling}
use Rattle.account.proofs.turns.by_kind.Goals.{in-End+else-count_wrong}
use Rattle.account.proofs.turns.by_kind.Goals.{
  in-Parameters+in_ok-check_parameters-in-Parameters+else-ramps_out,
}

-- row 18 of what `ozone_of` gave
lacks-is :
    (ceiling n : ℕ) (o : Option ℕ) → o ≡ ozone_of n →
    lacks_ceiling ceiling (ozone_of n) ≡ lacks_ceiling ceiling o
lacks-is ceiling n o e = ap (lacks_ceiling ceiling) (sym e)

-- rows 15 and 9 are passed
in-order :
    (mixed due : Bool) →
    let passed : Outcome Unit = accepted tt in
    row 15 mixed (row 9 (not due) passed) ≡ passed → (mixed ≡ false) × (due ≡ true)
in-order mixed due e = grind arith

-- row 24 is passed
in-range :
    (out : Bool) →
    let passed : Outcome Unit = accepted tt in row 24 out passed ≡ passed → out ≡ false
in-range out e = grind arith

-- row 24 is not passed
out-of-range :
    (out : Bool) (x : ℕ × ℕ) →
    let of : Outcome Unit = refused x in
    of ≡ row 24 out (accepted tt) → (out ≡ true) × (x ≡ (24, 0))
out-of-range out x e = grind arith

pub returns-in_err-check_parameters-in-Parameters :
    goal.returns-in_err-check_parameters-in-Parameters
unfolding checked
returns-in_err-check_parameters-in-Parameters c =
    let given =
    err_from_is_err_and c.from_residual-in_err-check_parameters-in-Parameters.result
    c.from_residual-in_err-check_parameters-in-Parameters.ensures.1 in
    let out =
    out-of-range _ _
    (sym (ap outcome_of c.in_err-check_parameters-in-Parameters.was)
    ∙ c.check_parameters.ensures) in
    rw (given.1, given.2, c.in-Parameters.is) (ap refused out.1 ∙ parameters-out _ _ out.0)

pub returns-then-ramps_out : goal.returns-then-ramps_out
unfolding checked
returns-then-ramps_out c =
    let sound =
    in-range _
    (sym c.check_parameters.ensures ∙ ap outcome_of c.in_ok-check_parameters-in-Parameters.was) in
    rw c.in-Parameters.is (ramps-out _ _ sound (sym c.ramps_out.ensures ∙ c.if-ramps_out.true))

pub returns : goal.returns
unfolding checked
returns c =
    let ceiling = c.args.s.season.ceiling in
    elim c.match-frame.branch [
      | in-Header w ↦ grind (
        arith,
        c.record_of.ensures,
        w.in-Header,
        w.frame-is,
        header-in c.args.s,
        ceiling-in c.args.s,
        warmth-in c.args.s,
      )
      | in-Hour+in_ok-in_order-in-Hour+else-lacks_ceiling v ↦
          let order =
          in-order _ _ (sym v.in_order.ensures ∙ ap outcome_of v.in_ok-in_order-in-Hour.was) in
          c.record_of.ensures
          ∙ rw (v.frame-is, v.in-Hour.is) (due_in _ _ order.0 order.1
          (lacks-is ceiling v.in-Hour.raw.ozone _ v.ozone_of.ensures ∙ sym v.lacks_ceiling.ensures
          ∙ v.if-lacks_ceiling.false))
      | in-End+else-count_wrong u ↦
          c.record_of.ensures
          ∙ rw (u.frame-is, u.in-End.is)
          (count-in _ _ (sym u.count_wrong.ensures ∙ u.if-count_wrong.false))
      | in-Parameters+in_ok-check_parameters-in-Parameters+else-ramps_out v ↦
          let sound =
          in-range _
          (sym v.check_parameters.ensures
          ∙ ap outcome_of v.in_ok-check_parameters-in-Parameters.was) in
          c.record_of.ensures
          ∙ rw (v.frame-is, v.in-Parameters.is)
          (ramps-in _ _ sound (sym v.ramps_out.ensures ∙ v.if-ramps_out.false))
    ]
