-- `account::fresh` keeps the promises of a season and of filling its gaps.
use Rattle.account.proofs.Cited.{season-cited, filling-cited}
use Rattle.account.proofs.fresh.Goals as goal

pub returns-clause-season : goal.returns-clause-season
returns-clause-season c = season-cited

pub returns-clause-filling : goal.returns-clause-filling
returns-clause-filling c = filling-cited
