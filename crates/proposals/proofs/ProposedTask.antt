-- The task proposed: the same task but for its parts, well formed where no schema ends with more than 16 of them, and
-- never refused as circular (9) when it is split; and which schema 23 names.
use Prim.Native.Nat.{ℕ, ◌+◌, ◌≤◌, ◌<◌}
use mathlib.Core.Path.{◌≡◌, refl, sym, ◌∙◌, ap, ap₂, subst}
use mathlib.Core.Bool.{Bool, true, false}
use mathlib.Core.List.{List, [], ◌∷◌, map}
use mathlib.Core.Logic.{◌↔◌}
use Rattle.std.specs.Prelude.{None, Some}
use native.Mathlib.Omega.{arith}
use lib.ListN.{length, length-map}
use lib.Dec.{ltb, leb}
use borrow.Author.Tests.{ltb-true, ltb-false, lt-ltb, le-ltb, le-leb}
use Rattle.words.specs.Lists.{sum, first, up_to}
use Rattle.words.proofs.Lists.{In, in_all, all_in, get_or-in, map-in, get_or-map, in-up_to, first-none, false-if}
use Rattle.words.proofs.Ascending.{no_none}
use Rattle.task.specs.Limits.{most_parts, most_schema_atoms, most_pairs}
use Rattle.task.specs.Task.{Schema, Task, no_schema, schema_fits, well_formed, schema_atoms, schema_pairs, part_count}
use Rattle.task.specs.Run.{schema_at}
use Rattle.task.proofs.Tests.{task-tests, tests-task}
use Rattle.arcs.specs.Order.{order_of}
use Rattle.tokens.specs.Split.{circular, split}
use Rattle.tokens.proofs.Refusals.{first-is, is-first, split-circular}
use Rattle.proposals.specs.Proposal.{with_parts, proposed_parts, proposed_schema, proposed_task, too_many}
use Rattle.proposals.proofs.Partitions.{parted-fits}
use Rattle.proposals.proofs.Proposed.{Proposed, proposed}

-- schemas have as many atoms and pairs as they had
module _ (width : ℕ) where
  pub same-atoms : (ss : List Schema) → schema_atoms (map (proposed_schema width) ss) ≡ schema_atoms ss
  unfolding sum proposed_schema
  same-atoms [] = refl
  same-atoms (s ∷ ss) = ap₂ ◌+◌ (proposed width s).same_size (same-atoms ss)

  pub same-pairs : (ss : List Schema) → schema_pairs (map (proposed_schema width) ss) ≡ schema_pairs ss
  unfolding sum proposed_schema with_parts
  same-pairs [] = refl
  same-pairs (s ∷ ss) = ap (λ (n : ℕ). length s.pairs + n) (same-pairs ss)

module _ (width : ℕ) (t : Task) where
  abbrev t' : Task
  t' = proposed_task width t

  -- ---- schema by schema
  pub proposed-length : length (proposed_task width t).schemas ≡ length t.schemas
  unfolding proposed_task
  proposed-length = length-map t.schemas (proposed_schema width)

  proposed_at : (k : ℕ) → k < length t.schemas →
      schema_at (proposed_task width t) k ≡ proposed_schema width (schema_at t k)
  unfolding proposed_task schema_at
  proposed_at k l = get_or-map (proposed_schema width) t.schemas k no_schema no_schema l

  -- schema k is that of the task with the parts proposed for it
  proposed-schema : (k : ℕ) → k < length t.schemas →
      schema_at (proposed_task width t) k ≡ with_parts (schema_at t k) (proposed_parts width (schema_at t k))
  unfolding proposed_schema
  proposed-schema k l = proposed_at k l

  -- all else is as it was, and each schema is one that note 5 wants
  pub record SameTask : Type 0 where
    pub objects : (proposed_task width t).objects ≡ t.objects
    pub arities : (proposed_task width t).arities ≡ t.arities
    pub init : (proposed_task width t).init ≡ t.init
    pub goal : (proposed_task width t).goal ≡ t.goal
    pub count : length (proposed_task width t).schemas ≡ length t.schemas
    pub schema : (k : ℕ) → k < length t.schemas →
        schema_at (proposed_task width t) k ≡ with_parts (schema_at t k) (proposed_parts width (schema_at t k))
    pub proposes : (k : ℕ) → k < length t.schemas →
        Proposed width (schema_at t k) (proposed_parts width (schema_at t k))

  pub same-task : SameTask
  unfolding proposed_task
  same-task = record {
    objects = refl;
    arities = refl;
    init = refl;
    goal = refl;
    count = proposed-length;
    schema = proposed-schema;
    proposes = λ k l. proposed width (schema_at t k);
  }

  -- "The result is accepted by the order rule": splitting never answers 9 for it
  pub never-circular : (k : ℕ) → split (proposed_task width t) ≡ circular k → ⊥
  never-circular k h =
      let c = split-circular t' k h in
      let l : k < length t.schemas = let m = c.known in let e = proposed-length in omega arith in
      no_none (sym c.no-order ∙ (ap order_of (proposed-schema k l) ∙ (proposed width (schema_at t k)).accepted.taken))

  -- ---- 23
  abbrev parts_of : ℕ → ℕ
  parts_of k = part_count (proposed_schema width (schema_at t k)).atoms

  -- "when a schema ends with more than 16 parts, with the first such schema"
  pub record TooMany (k : ℕ) : Type 0 where
    pub known : k < length t.schemas
    pub many : most_parts < part_count (proposed_schema width (schema_at t k)).atoms
    pub before : (q : ℕ) → q < k → part_count (proposed_schema width (schema_at t q)).atoms ≤ most_parts

  abbrev many : ℕ → Bool
  many k = ltb most_parts (part_count (schema_at t' k).atoms)

  parts_at : (k : ℕ) → k < length t.schemas → part_count (schema_at t' k).atoms ≡ parts_of k
  parts_at k l = ap (λ (s : Schema). part_count s.atoms) (proposed_at k l)

  pub too-many-exactly : (k : ℕ) → (too_many (proposed_task width t) ≡ Some k) ↔ TooMany k
  unfolding too_many up_to
  too-many-exactly k = (forth, back)
    where
      forth : first many (up_to (length t'.schemas)) ≡ Some k → TooMany k
      forth h =
          let f = first-is many 0 (length t'.schemas) k h in
          let e = proposed-length in
          let l : k < length t.schemas = let m = f.below in omega arith in
          record {
            known = l;
            many = let z = ltb-true most_parts (part_count (schema_at t' k).atoms) f.passes in
                omega (arith, parts_at k l);
            before = λ q m.
                let z = ltb-false most_parts (part_count (schema_at t' q).atoms) (f.lowest q (omega arith) m) in
                omega (arith, parts_at q (omega arith));
          }

      back : TooMany k → first many (up_to (length t'.schemas)) ≡ Some k
      back c =
          let e = proposed-length in
          let l = c.known in
          is-first many 0 (length t'.schemas) k (record {
            from = omega arith;
            below = omega arith;
            passes = let m = c.many in
                lt-ltb most_parts (part_count (schema_at t' k).atoms) (omega (arith, parts_at k l));
            lowest = λ q m x.
                let n = c.before q x in
                le-ltb most_parts (part_count (schema_at t' q).atoms) (omega (arith, parts_at q (omega arith)));
          })

  -- ---- well formed
  few-parts : too_many t' ≡ None → (k : ℕ) → k < length t.schemas → parts_of k ≤ most_parts
  unfolding too_many
  few-parts h k l =
      let e = proposed-length in
      let f : many k ≡ false = false-if (many k) (first-none many h (in-up_to (length t'.schemas) k (omega arith))) in
      let z = ltb-false most_parts (part_count (schema_at t' k).atoms) f in
      omega (arith, parts_at k l)

  fits-again : (s : Schema) → schema_fits t.arities s ≡ true → part_count (proposed_schema width s).atoms ≤ most_parts →
      schema_fits t.arities (proposed_schema width s) ≡ true
  unfolding proposed_schema with_parts
  fits-again s h l =
      parted-fits t.arities s (proposed_parts width s) h
      (le-leb (part_count (with_parts s (proposed_parts width s)).atoms) most_parts l) (proposed width s).filled

  all_fit : well_formed t ≡ true → too_many t' ≡ None → (s' : Schema) → In s' (map (proposed_schema width) t.schemas) →
      schema_fits t.arities s' ≡ true
  unfolding schema_at
  all_fit h few s' i =
      let (s, j, e) = map-in (proposed_schema width) t.schemas s' i in
      let (k, l, f) = get_or-in no_schema j in
      ap (schema_fits t.arities) e ∙ fits-again s (all_in (schema_fits t.arities) (task-tests t h).fit j)
      (subst (λ (s : Schema). part_count (proposed_schema width s).atoms ≤ most_parts) f (few-parts few k l))

  pub proposed-well-formed : well_formed t ≡ true → too_many (proposed_task width t) ≡ None →
      well_formed (proposed_task width t) ≡ true
  unfolding proposed_task
  proposed-well-formed h few =
      let c = task-tests t h in
      let ss = t.schemas in
      tests-task t' (record {
        some-object = c.some-object;
        objects = c.objects;
        some-pred = c.some-pred;
        preds = c.preds;
        arities = c.arities;
        schemas = rw proposed-length c.schemas;
        atoms = subst (λ (n : ℕ). leb n most_schema_atoms ≡ true) (sym (same-atoms width ss)) c.atoms;
        inits = c.inits;
        goals = c.goals;
        fit = in_all (schema_fits t.arities) (map (proposed_schema width) ss) (all_fit h few);
        init = c.init;
        goal = c.goal;
        pairs = subst (λ (n : ℕ). leb n most_pairs ≡ true) (sym (same-pairs width ss)) c.pairs;
      })
