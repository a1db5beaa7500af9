-- `proposals::schemas::schema_parts` meets its contract: the arcs, parameters and numbers that are put are those of
-- each atom in its own part (`stretch-in-play`). With these the merging begins, so it ends with the parts proposed.
use Prim.Native.Nat.{ℕ, ◌+◌, ◌-◌, ◌≤◌}
use mathlib.Core.Path.{◌≡◌, ◌∙◌, ap}
use mathlib.Core.List.{List}
use native.Mathlib.Omega.{arith}
use lib.ListN.{length}
use borrow.Author.Rules.{rules}
use Rattle.words.specs.Lists.{up_to}
use Rattle.words.proofs.Puts.{length-put}
use Rattle.task.specs.Limits.{most_atoms, most_schema_atoms}
use Rattle.task.specs.Task.{Schema}
use Rattle.task.specs.Table.{atom_in}
use Rattle.arcs.specs.Order.{gives_arc}
use Rattle.arcs.specs.Stretches.{pair_stretch_in, stretch_in}
use Rattle.tokens.proofs.KeptSchemas.{atoms-few}
use Rattle.proposals.specs.Scratch.{InPlay, KeepsBehind}
use Rattle.proposals.proofs.Scratches.{keeps-trans, keeps-room}
use Rattle.proposals.proofs.StartWords.{arcs-still}
use Rattle.proposals.proofs.SchemaStart.{stretch-in-play, merged-proposed}
use Rattle.proposals.proofs.schemas.schema_parts.Statement.{statement}
use Rattle.proposals.proofs.schemas.schema_parts.Tie as tie

-- the atoms have their places
room : (s : tie.Start) → (s.args.from ≤ s.args.to) × (s.args.to ≤ most_schema_atoms) ×
    (s.args.to - s.args.from ≤ most_atoms)
room s =
    let stretch = s.requires.0 in
    (stretch.forward, omega (arith, stretch.known, atoms-few s.args.table.now stretch.table), s.requires.1.1.0)

-- ---- the arcs are put, then the parameters
abbrev arcs-put : tie.After-put_parameters → tie.After-put_arcs
arcs-put c = c.before.before.before.before

abbrev start : tie.After-put_parameters → tie.Start
start c = (arcs-put c).before.before.before.before

abbrev scratch : tie.After-put_parameters → List ℕ
scratch c = c.put_parameters.new.scratch

keeps : (c : tie.After-put_parameters) → KeepsBehind (start c).args.scratch.now (scratch c)
keeps c = keeps-trans (arcs-put c).put_arcs.ensures.0 c.put_parameters.ensures.0

begun : (c : tie.After-put_parameters) (s : Schema) →
    s.pairs ≡ pair_stretch_in (start c).args.table.now (start c).args.pair (start c).args.end →
    s.atoms ≡ stretch_in (start c).args.table.now (start c).args.from (start c).args.to →
    InPlay s ((start c).args.to - (start c).args.from) (up_to ((start c).args.to - (start c).args.from)) (scratch c)
begun c s pairs atoms =
    let a = (start c).args in
    let w = a.table.now in
    let ps = pair_stretch_in w a.pair a.end in
    let arcs = (arcs-put c).put_arcs in
    let put = c.put_parameters.ensures.1 in
    stretch-in-play w s a.from a.to atoms ps pairs (scratch c)
    (arcs-still (λ p q. gives_arc ps (atom_in w (a.from + p)) (atom_in w (a.from + q)))
    arcs.new.scratch (scratch c) (room (start c)).2 put.0 arcs.ensures.1) put.1

put-parameters-requires : tie.Need-put_parameters-requires
put-parameters-requires c κs =
    let arcs = c in
    let p = arcs.requires in
    (p.0, (p.1.1.0, keeps-room arcs.put_arcs.ensures.0 p.1.1.1.1))

number-requires : tie.Need-number-requires
number-requires c κs =
    let s = start c.before.before.before in
    (room s, s.requires.1.1.1.0)

-- ---- with the numbers the merging begins
abbrev found : tie.After-number → tie.After-put_parameters
found c = c.before.before.before.before

merge-all-requires : tie.Need-merge_all-requires
merge-all-requires c κs =
    let numbers = c in
    let s = start (found numbers.before.before) in
    let a = s.args in
    let long = length-put a.parts.now a.from (up_to (a.to - a.from)) ∙ s.requires.1.1.1.0 in
    (room s, (ap length numbers.number.ensures ∙ long, keeps-room (keeps (found numbers.before.before)) s.requires.1.1.1.1))

returns : tie.Need-returns
returns c =
    let ends = c in
    let numbers = ends in
    let s = start (found numbers.before.before.before.before.before) in
    let a = s.args in
    let r = room s in
    let e = ends.merge_all.ensures in (
      keeps-trans (keeps (found numbers.before.before.before.before.before)) e.0,
      λ schema named pairs atoms.
          merged-proposed a.table.now schema a.from a.to atoms a.width a.parts.now
          numbers.number.new.parts (scratch (found numbers.before.before.before.before.before)) ends.merge_all.new.parts
          ends.merge_all.result (omega (arith, r.0, r.1, s.requires.1.1.1.0)) numbers.number.ensures
          (e.1.1 schema named) (begun (found numbers.before.before.before.before.before) schema pairs atoms),
    )

pub schema_parts_spec : {M : Type 1} → statement M
schema_parts_spec =
    tie.close
    (tie.spec (λ c κs. search rules) put-parameters-requires number-requires merge-all-requires (λ c. search rules)
    returns)
