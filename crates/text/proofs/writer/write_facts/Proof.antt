-- `text::writer::write_facts` meets its contract: the atoms behind those of the schemas are the initial and the goal
-- atoms (`facts-atoms`).
use native.Mathlib.Omega.{arith}
use Prim.Native.Nat.{ℕ}
use mathlib.Core.Path.{◌≡◌, ◌∙◌, ap, ap₂}
use mathlib.Core.List.{List}
use lib.ListN.{length}
use Rattle.task.proofs.TableReads.{counts-inside}
use Rattle.text.specs.TableLines.{atoms_text, facts_text}
use Rattle.text.proofs.WholeText.{facts-atoms, facts-inside}
use Rattle.text.proofs.Writes.{writes-same}
use borrow.Author.Rules.{rules}
use Rattle.text.proofs.writer.write_facts.Statement.{statement}
use Rattle.text.proofs.writer.write_facts.Tie as tie

abbrev start : tie.After-fact_count → tie.Start
start c = c.before.before.before.before.before

abbrev words : tie.After-fact_count → List ℕ
words c = (start c).args.table.now

facts-read : (c : tie.After-fact_count) →
    atoms_text (words c) c.facts_base.result c.fact_count.result ≡ facts_text (words c)
facts-read c =
    ap₂ (atoms_text (words c)) c.facts_base.ensures c.fact_count.ensures ∙
    facts-atoms (words c) (start c).requires.0

facts-base-requires : tie.Need-facts_base-requires
facts-base-requires c κs =
    let start = c in
    let l = counts-inside start.args.table.now start.requires.0 in
    omega arith

write-atoms-requires : tie.Need-write_atoms-requires
write-atoms-requires c κs =
    let n = c.fact_count.ensures in
    let fits = (start c).requires.1 in
    let long = ap length (facts-read c) in (
      λ k h. rw c.facts_base.ensures (facts-inside (words c) (start c).requires.0 k (omega arith)),
      omega arith,
    )

returns : tie.Need-returns
returns c = writes-same (facts-read c.before.before.before) c.write_atoms.ensures

pub write_facts_spec : {M : Type 1} → statement M
write_facts_spec =
    tie.close
    (tie.spec facts-base-requires (λ c κs. search rules) write-atoms-requires (λ c. search rules) returns)
