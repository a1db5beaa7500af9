-- `defines::writer::objects_size` meets its contract: each object takes its mark and its digits (`names-long`), and a
-- table has few.
use native.Mathlib.Omega.{arith}
use Prim.Native.Nat.{ℕ, ◌≤◌}
use mathlib.Core.Path.{ap}
use lib.ListN.{length}
use Rattle.words.specs.Lists.{up_to}
use Rattle.task.specs.Limits.{most_objects}
use Rattle.task.proofs.TableReads.{counts-inside}
use Rattle.text.specs.Lines.{bytes}
use Rattle.defines.specs.ByWords.{marked}
use Rattle.defines.proofs.MarkedNames.{names-long, below-long}
use Rattle.defines.proofs.Frames.{objects-few}
use borrow.Author.Rules.{rules}
use Rattle.defines.proofs.writer.objects_size.Statement.{statement}
use Rattle.defines.proofs.writer.objects_size.Tie as tie

few : (c : tie.After-word-objects) → c.word-objects.result ≤ most_objects
few c = omega (arith, objects-few _ c.requires, c.word-objects.ensures.0)

add-result : tie.Need-overflow_add-result
add-result c =
    let b = below-long c.word-objects.result (few c.before) in
    let e = c.below_size.ensures in
    let f = few c.before in
    omega arith

returns : tie.Need-returns
unfolding bytes
returns c =
    let objects = c.word-objects.ensures.0 in
    let l = names-long (bytes " o") c.word-objects.result in
    let e = c.below_size.ensures in
    let r = ap (λ (n : ℕ). length (marked (bytes " o") (up_to n))) objects in
    omega arith

pub objects_size_spec : {M : Type 1} → statement M
objects_size_spec =
    tie.close
    (tie.spec (λ c κs. omega (arith, counts-inside _ c.requires)) (λ c. search rules) (λ c κs. few c)
    add-result returns)
