use Rattle.std.proofs.Common.{arith}
use Rattle.text.proofs.CopiedBytes.{bytes-start, bytes-more, bytes-end}
use Rattle.text.proofs.put.put_bytes.Goals as goal

pub loop-k-init : goal.loop-k-init
loop-k-init c = bytes-start c.args.bytes.now c.requires

pub loop-k-preserved : goal.loop-k-preserved
loop-k-preserved c = bytes-more c.args.bytes.now (omega arith) c.loop-k.invariant

pub returns : goal.returns
returns c = bytes-end c.args.bytes.now (omega arith) c.loop-k.invariant
