-- `sameness::wrote_same` meets its contract.
use Rattle.sameness.proofs.Answers.{wrote_both}
use Rattle.sameness.proofs.wrote_same.Goals as goal

pub returns-in-Ok-second : goal.returns-in-Ok-second
returns-in-Ok-second c =
    wrote_both c.in-Ok.is c.in-Ok-second.is c.same.ensures
