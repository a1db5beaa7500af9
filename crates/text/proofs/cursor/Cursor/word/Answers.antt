-- Too few bytes are left for the word; or the chain tests each byte of it at its place, and the first that differs ends
-- the test.
use Rattle.std.proofs.Common.{arith, rules, tests, refl}
use lib.ListN.{drop, length-drop}
use Rattle.words.proofs.Chains.{all_ran}
use Rattle.words.proofs.Loops.{all_start}
use Rattle.text.proofs.WordLoop.{after-short, same_byte, word_found, word_differs}
use Rattle.text.proofs.cursor.Cursor.word.Goals as goal

pub returns-then-text-self : goal.returns-then-text-self
returns-then-text-self c =
    let l = length-drop c.args.self.at c.args.text.now in
    let i = c.requires.inside in
    after-short c.args.word.now (drop c.args.self.at c.args.text.now) (omega arith)

pub returns-then-not-all : goal.returns-then-not-all
returns-then-not-all c =
    let i = c.requires.inside in
    word_differs c.args.text.now c.args.word.now c.args.self.at (omega arith)
    (all_ran {p = same_byte c.args.text.now c.args.word.now c.args.self.at} all_start c.if-not-all.ensures.ran
    (λ x b q k. search (rules, tests)))

pub returns : goal.returns
returns c =
    let i = c.requires.inside in
    record {
      is = word_found c.args.text.now c.args.word.now c.args.self.at (omega arith)
          (all_ran {p = same_byte c.args.text.now c.args.word.now c.args.self.at} all_start c.if-not-all.ensures.ran
          (λ x b q k. search (rules, tests)));
      far = refl;
      inside = omega arith;
      line = refl;
    }
