-- The four keys are looked for in turn, by their bytes. One that stands here is the answer (`key-found`), and behind
-- the last each has been missed, which is what `NoOnceKey` asks.
use Rattle.text.specs.Lines.{bytes}
use Rattle.text.specs.Text.{key_name}
use Rattle.text.specs.declared.keys.Key.TheVariants as code
use Rattle.text.proofs.KeyLines.{key-found}
use Rattle.text.proofs.keys.head_key_at.Goals as goal

pub returns-in-Some : goal.returns-in-Some
unfolding bytes key_name
returns-in-Some c = key-found code.Task c.in-Some.ensures

pub returns-in-Some-word : goal.returns-in-Some-word
unfolding bytes key_name
returns-in-Some-word c = key-found code.Objects c.in-Some-word.ensures

pub returns-in-Some-word-2 : goal.returns-in-Some-word-2
unfolding bytes key_name
returns-in-Some-word-2 c = key-found code.Arity c.in-Some-word-2.ensures

pub returns-in-Some-word-3 : goal.returns-in-Some-word-3
unfolding bytes key_name
returns-in-Some-word-3 c = key-found code.End c.in-Some-word-3.ensures

pub returns : goal.returns
unfolding bytes key_name
returns c = record {
  no-task = c.in_default.ensures;
  no-objects = c.in_default-word.ensures;
  no-arity = c.in_default-word-2.ensures;
  no_end = c.in_default-word-3.ensures;
}
