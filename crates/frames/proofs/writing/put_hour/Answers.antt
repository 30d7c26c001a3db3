-- `frames::writing::put_hour` meets its contract.
use Rattle.frames.proofs.LineLaws.{plain-line, pressure-line}
use Rattle.frames.proofs.writing.put_hour.Goals as goal

pub returns-in-Deficit : goal.returns-in-Deficit
returns-in-Deficit c = rw (plain-line c.args.h c.in-Deficit.is) c.put_hour_line.ensures

pub returns-in-Pressure : goal.returns-in-Pressure
returns-in-Pressure c = rw (pressure-line c.args.h c.in-Pressure.is) c.put_pressure_line.ensures
