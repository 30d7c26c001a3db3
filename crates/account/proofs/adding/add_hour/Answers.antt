-- `account::adding::add_hour` meets its contract: no row refuses the hour, and the sums have room.
use native.Mathlib.Omega.{arith}
use Rattle.account_spec.proofs.PossibleLaws.{room-is}
use Rattle.account.proofs.AddingLaws.{possible-grown, has-stand, hour-temperate, hour-is}
use Rattle.account.proofs.adding.add_hour.Goals as goal

pub carry-carried-requires-clause-sum : goal.carry-carried-requires-clause-sum
carry-carried-requires-clause-sum c =
    let held = c.args.held in omega (arith, (room-is held.account held.possible).sum)

pub carry-carried-requires-clause-total : goal.carry-carried-requires-clause-total
carry-carried-requires-clause-total c =
    let held = c.args.held in (room-is held.account held.possible).total

pub carry-carried-requires-clause-temperature : goal.carry-carried-requires-clause-temperature
carry-carried-requires-clause-temperature c =
    hour-temperate c.args.held.account.season c.args.passed.hour c.requires

pub pair_after-pair-requires : goal.pair_after-pair-requires
pair_after-pair-requires c = has-stand c.args.held.account.season c.args.passed.hour c.requires

pub add-sums-requires-clause-room : goal.add-sums-requires-clause-room
add-sums-requires-clause-room c =
    let held = c.args.held in (
      possible-grown held.account held.possible,
      omega (arith, (room-is held.account held.possible).hours),
    )

pub returns : goal.returns
returns c =
    hour-is c.args.held.account c.args.passed.hour c.requires _ _ _ _ c.kind_of.ensures
    c.pair_after-pair.ensures.is c.add-sums.ensures.is c.carry-carried.ensures
