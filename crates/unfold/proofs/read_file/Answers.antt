-- Of a missing file nothing is read, and of no bytes none are taken.
use Rattle.std.proofs.Common.{sym, ◌∙◌}
use Rattle.programs.proofs.TakenRead.{taken-none}
use Rattle.unfold.proofs.read_file.Goals as goal

pub returns-in-None-clause-read : goal.returns-in-None-clause-read
returns-in-None-clause-read g c = rw c.in-None.is (c.new.ensures.items ∙ sym taken-none)
