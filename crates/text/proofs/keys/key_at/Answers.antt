-- Each key that may stand more than once is looked for in turn, by its bytes; behind them all those of lines that stand
-- once are. The key that is found is the only one, since no two stand at one place.
use Rattle.text.specs.Lines.{bytes}
use Rattle.text.specs.Text.{key_name}
use Rattle.text.specs.declared.keys.Key.TheVariants as code
use Rattle.text.proofs.KeyLines.{key-found, once-key}
use Rattle.text.proofs.keys.key_at.Goals as goal

pub returns-in-Some : goal.returns-in-Some
unfolding bytes key_name
returns-in-Some c = key-found code.Pre c.in-Some.ensures

pub returns-in-Some-word : goal.returns-in-Some-word
unfolding bytes key_name
returns-in-Some-word c = key-found code.Add c.in-Some-word.ensures

pub returns-in-Some-word-2 : goal.returns-in-Some-word-2
unfolding bytes key_name
returns-in-Some-word-2 c = key-found code.Del c.in-Some-word-2.ensures

pub returns-in-Some-word-3 : goal.returns-in-Some-word-3
unfolding bytes key_name
returns-in-Some-word-3 c = key-found code.Part c.in-Some-word-3.ensures

pub returns-in-Some-word-4 : goal.returns-in-Some-word-4
unfolding bytes key_name
returns-in-Some-word-4 c = key-found code.Schema c.in-Some-word-4.ensures

pub returns-in-Some-word-5 : goal.returns-in-Some-word-5
unfolding bytes key_name
returns-in-Some-word-5 c = key-found code.Differ c.in-Some-word-5.ensures

pub returns-in-Some-word-6 : goal.returns-in-Some-word-6
unfolding bytes key_name
returns-in-Some-word-6 c = key-found code.Init c.in-Some-word-6.ensures

pub returns-in-Some-word-7 : goal.returns-in-Some-word-7
unfolding bytes key_name
returns-in-Some-word-7 c = key-found code.Goal c.in-Some-word-7.ensures

pub returns : goal.returns
unfolding bytes key_name
returns c = once-key c.args.text.now c.args.from c.head_key_at.result c.head_key_at.ensures (record {
  no-pre = c.in_default.ensures;
  no_add = c.in_default-word.ensures;
  no-del = c.in_default-word-2.ensures;
  no_part = c.in_default-word-3.ensures;
  no-schema = c.in_default-word-4.ensures;
  no-differ = c.in_default-word-5.ensures;
  no-init = c.in_default-word-6.ensures;
  no-goal = c.in_default-word-7.ensures;
})
