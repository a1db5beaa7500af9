-- The parts proposed for schema after schema of a table: where a schema lies, that the words for the schemas before it
-- stay when its own are put, and which schema is the first that ends with too many parts.
use Prim.Native.Nat.{ℕ, suc, ◌+◌, ◌-◌, ◌≤◌, ◌<◌}
use mathlib.Core.Path.{◌≡◌, refl, sym, ◌∙◌, ap, subst₂}
use mathlib.Core.Bool.{true}
use mathlib.Core.List.{List}
use Rattle.std.specs.Prelude.{Option, None, Some}
use native.Mathlib.Omega.{arith}
use lib.ListN.{length}
use borrow.Author.Count.{below_more}
use borrow.Author.Tests.{leb-true}
use Rattle.words.specs.Lists.{put}
use Rattle.words.specs.Words.{words_at}
use Rattle.task.specs.Limits.{most_atoms, most_parts, most_schema_atoms}
use Rattle.task.specs.Task.{Schema, Task, part_count}
use Rattle.task.specs.Run.{schema_at}
use Rattle.task.specs.Table.{task_of, is_table}
use Rattle.task.specs.Turns.{first_atom, first_pair}
use Rattle.task.proofs.Tests.{schema-tests}
use Rattle.task.proofs.StartLaws.{start-rises}
use Rattle.task.proofs.TablesByIndex.{table-frame, start-suc}
use Rattle.arcs.specs.Stretches.{IsStretch, IsPairStretch, stretch_in, pair_stretch_in}
use Rattle.arcs.proofs.AtomWords.{schema-fits}
use Rattle.arcs.proofs.SchemaEnds.{schema-known}
use Rattle.arcs.proofs.Stretches.{schema-atoms, schema-stretch, schema-pairs, schema-pair-stretch}
use Rattle.tokens.proofs.KeptSchemas.{atoms-few}
use Rattle.proposals.specs.Proposal.{count_of, proposed_parts, proposed_schema, proposed_task, too_many}
use Rattle.proposals.specs.Scratch.{HaveParts, Named}
use Rattle.proposals.proofs.Proposed.{proposed}
use Rattle.proposals.proofs.ProposedTask.{too-many-exactly}
use Rattle.words.proofs.PutWords.{words-before, words-put}
use Rattle.proposals.proofs.Widths.{fits-named}

-- a schema's atoms come behind those of the schema before it
atoms-next : (w : List ℕ) → is_table w ≡ true → (s : ℕ) → s < length (task_of w).schemas →
    first_atom (task_of w) (suc s) ≡ first_atom (task_of w) s + length (schema_at (task_of w) s).atoms
atoms-next w h s l = start-suc w (table-frame w h) s (schema-known w h s l)

-- ---- where a schema lies
-- its atoms are atoms `from` to `to - 1`, and its pairs are pairs `pair` to `end - 1`
pub record OfSchema (w : List ℕ) (s : Schema) (from to pair end : ℕ) : Type 0 where
  pub stretch : IsStretch w from to
  pub pair-stretch : IsPairStretch w pair end
  pub few : to - from ≤ most_atoms
  pub named : Named s
  pub pairs : s.pairs ≡ pair_stretch_in w pair end
  pub atoms : s.atoms ≡ stretch_in w from to

module _ (w : List ℕ) (h : is_table w ≡ true) (s : ℕ) (l : s < length (task_of w).schemas) where
  lies-there : OfSchema w (schema_at (task_of w) s) (first_atom (task_of w) s) (first_atom (task_of w) (suc s))
      (first_pair (task_of w) s) (first_pair (task_of w) (suc s))
  lies-there =
      let t = task_of w in
      let known = schema-known w h s l in
      let fits = schema-fits w h s l in
      record {
        stretch = schema-stretch w h s known;
        pair-stretch = schema-pair-stretch w h s known;
        few = omega (
          arith,
          atoms-next w h s l,
          leb-true (length (schema_at t s).atoms) most_atoms (schema-tests t.arities (schema_at t s) fits).few,
        );
        named = fits-named t.arities (schema_at t s) fits;
        pairs = schema-pairs w h s known;
        atoms = schema-atoms w h s known;
      }

  pub schema-lies : {from to pair end : ℕ} → from ≡ first_atom (task_of w) s → to ≡ first_atom (task_of w) (suc s) →
      pair ≡ first_pair (task_of w) s → end ≡ first_pair (task_of w) (suc s) →
      OfSchema w (schema_at (task_of w) s) from to pair end
  schema-lies {from} {to} {pair} {end} a b c d =
      let t = task_of w in
      let schema = schema_at t s in
      subst₂ (λ (x y : ℕ). OfSchema w schema x y pair end) (sym a) (sym b)
      (subst₂ (λ (x y : ℕ). OfSchema w schema (first_atom t s) (first_atom t (suc s)) x y) (sym c) (sym d) lies-there)

  -- ---- the words for its parts
  -- they are put behind those of the schemas before it
  pub have-more : (width : ℕ) (parts after : List ℕ) {from : ℕ} → length parts ≡ most_schema_atoms →
      from ≡ first_atom (task_of w) s → after ≡ put parts from (proposed_parts width (schema_at (task_of w) s)) →
      HaveParts width (task_of w) s parts → HaveParts width (task_of w) (s + 1) after
  have-more width parts after {from} long begins own have = below_more Has s earlier here
    where
      t : Task
      t = task_of w

      Has : ℕ → Type 0
      Has r = words_at after (first_atom t r) (length (schema_at t r).atoms) ≡ proposed_parts width (schema_at t r)

      put-at : (r : ℕ) → words_at after (first_atom t r) (length (schema_at t r).atoms) ≡
          words_at (put parts (first_atom t s) (proposed_parts width (schema_at t s))) (first_atom t r)
          (length (schema_at t r).atoms)
      put-at r =
          ap (λ (v : List ℕ). words_at v (first_atom t r) (length (schema_at t r).atoms))
          (own ∙ ap (λ (k : ℕ). put parts k (proposed_parts width (schema_at t s))) begins)

      earlier : (r : ℕ) → r < s → Has r
      earlier r k =
          put-at r ∙
          (words-before parts (first_atom t s) (proposed_parts width (schema_at t s)) (first_atom t r)
          (length (schema_at t r).atoms)
          (omega (arith, atoms-next w h r (omega arith), start-rises w h (suc r) s k)) ∙ have r k)

      here : Has s
      here =
          put-at s ∙
          words-put parts (first_atom t s) (length (schema_at t s).atoms) (proposed_parts width (schema_at t s))
          (proposed width (schema_at t s)).size
          (omega (arith, atoms-next w h s l, lies-there.stretch.known, atoms-few w h, long))

-- ---- too many parts
module _ (width : ℕ) (t : Task) where
  -- the schemas before s end with few enough
  abbrev pub FewParts : ℕ → Type 0
  FewParts s = (r : ℕ) → r < s → count_of (proposed_parts width (schema_at t r)) ≤ most_parts

  counted : (r : ℕ) →
      part_count (proposed_schema width (schema_at t r)).atoms ≡ count_of (proposed_parts width (schema_at t r))
  unfolding proposed_schema
  counted r = (proposed width (schema_at t r)).counted

  module _ (s : ℕ) (few : FewParts s) where
    pub many-here : s < length t.schemas → most_parts < count_of (proposed_parts width (schema_at t s)) →
        too_many (proposed_task width t) ≡ Some s
    many-here l m = (too-many-exactly width t s).1 (record {
      known = l;
      many = omega (arith, counted s);
      before = λ r k. omega (arith, counted r, few r k);
    })

    pub many-nowhere : s ≡ length t.schemas → too_many (proposed_task width t) ≡ None
    many-nowhere e = go (too_many (proposed_task width t)) refl
      where
        go : (o : Option ℕ) → too_many (proposed_task width t) ≡ o → o ≡ None
        go None f = refl
        go (Some r) f =
            let c = (too-many-exactly width t r).0 f in
            absurd (omega (arith, c.many, counted r, few r (let l = c.known in omega arith)))

    pub few-more : count_of (proposed_parts width (schema_at t s)) ≤ most_parts → FewParts (s + 1)
    few-more m = below_more (λ r. count_of (proposed_parts width (schema_at t r)) ≤ most_parts) s few m
