-- What is known of the input, its first bytes, is what `take` lets through, `read_to_end` appends and `truncate` keeps.
use Rattle.std.proofs.Common.{ap, rules}
use Rattle.programs.specs.Programs.{most_bytes}
use Rattle.programs.proofs.TakenRead.{taken-read}
use Rattle.programs.proofs.reading.read_input.Goals as goal

pub returns-clause-few : goal.returns-clause-few
unfolding most_bytes
returns-clause-few g c = search rules

pub returns-clause-read : goal.returns-clause-read
unfolding most_bytes
returns-clause-read g c =
    taken-read (g.R.Read.remaining c.args.input) (g.R.Read.remaining c.take.result.inner) c.take.result.limit
    c.in_ok-bytes.bytes.items c.read_to_end.new.buf.items c.truncate.new.self.items
    (ap g.R.Read.remaining c.take.ensures.inner) c.take.ensures.limit c.in_ok-bytes.ensures.items
    c.in_ok-read_to_end.ensures.bytes c.truncate.ensures.items
