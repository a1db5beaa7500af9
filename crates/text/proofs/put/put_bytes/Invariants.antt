-- The bytes from k on are still to come.
use Rattle.std.proofs.Common.{◌+◌, drop}
use Rattle.words.proofs.Puts.{Going}
use Rattle.text.proofs.put.put_bytes.Given as goal

abbrev pub invariant-loop-k : goal.invariant-loop-k
invariant-loop-k l = Going l.fn.text l.at l.bytes (drop l.k l.bytes) l.text (l.at + l.k)
