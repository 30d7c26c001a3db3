-- `account::start` meets its contract: row 13 lets a fresh account pass.
use mathlib.Core.Path.{ap, ◌∙◌}
use Rattle.account_spec.specs.Account.{impossible}
use Rattle.account_spec.specs.Book.{empty_book}
use Rattle.account_spec.proofs.BookLaws.{fresh-same, proper-possible}
use Rattle.account_spec.proofs.SeasonLaws.{fresh-proper}
use Rattle.account.proofs.start.Goals as goal

pub invariant_of-result : goal.invariant_of-result
invariant_of-result c =
    record {
      possible =
          ap impossible (c.fresh.ensures.value ∙ fresh-same)
          ∙ proper-possible empty_book fresh-proper;
    }
