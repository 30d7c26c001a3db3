-- What reading gives, as numbers: the sums and the verdict, or the code of a refusal and zeros.
use Rattle.std.specs.Prelude.{ℕ}
use Rattle.frames.specs.Answers.{Outcome, accepted, refused}
use Rattle.account_spec.specs.declared.Verdict.{Verdict}
use Rattle.account_spec.specs.declared.Verdict.TheVariants.{None, Undecided, Exceeded, Below}
use Rattle.account_spec.specs.declared.Totals.{Totals}
use Rattle.stored.specs.declared.answers.Readout.{Readout}
use Rattle.stored.specs.declared.answers.Tried.{Tried}
use Rattle.stored.specs.Code.{code_of_row}

abbrev pub verdict_number : Verdict → ℕ
verdict_number None = 0
verdict_number Undecided = 1
verdict_number Exceeded = 2
verdict_number Below = 3

abbrev pub no_readout : ℕ → Readout
no_readout code = record {
  code = code;
  verdict = 0;
  hours = 0;
  counted = 0;
  missing = 0;
  least = 0;
  most = 0;
  lower = 0;
  upper = 0;
}

-- on a refusal its code, and zeros
abbrev pub readout_of : Outcome Totals → Readout
readout_of (accepted t) = record {
  code = 0;
  verdict = verdict_number t.verdict;
  hours = t.sums.hours;
  counted = t.sums.counted;
  missing = t.sums.missing;
  least = t.sums.least;
  most = t.sums.most;
  lower = t.sums.lower;
  upper = t.sums.upper;
}
readout_of (refused r) = no_readout (code_of_row r)

-- where no trial is made: its code, and zeros
abbrev pub no_trial : ℕ → Tried
no_trial code = record { code = code; answer = 0; reading = no_readout 0 }
