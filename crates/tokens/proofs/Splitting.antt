-- What holds where a split is written: the split is well formed, its counts are small, and what is kept of a part is
-- the part's place.
use Prim.Native.Nat.{ℕ, zero, suc, ◌+◌, ◌-◌, ◌≤◌, ◌<◌}
use mathlib.Core.Path.{◌≡◌, refl, sym, ◌∙◌, ap, subst}
use mathlib.Core.Bool.{true, cond}
use mathlib.Core.List.{List, [], ◌∷◌, ◌++◌}
use native.Mathlib.Omega.{arith}
use lib.ListN.{length, take, length-map, length-append}
use lib.Seq.{take-length}
use lib.Dec.{eqb}
use borrow.Author.Tests.{leb-true}
use Rattle.words.specs.Lists.{concat_map, sum, up_to, up_from}
use Rattle.words.specs.Putting.{Puts}
use Rattle.task.specs.Layout.{head_in, params_base, params_in}
use Rattle.task.specs.Task.{Atom, Schema, Task, part_count, schema_fits, well_formed, no_schema}
use Rattle.task.specs.Run.{schema_at}
use Rattle.task.specs.Table.{atom_words, rows_from, task_of}
use Rattle.words.proofs.Lists.{all_in, in-get_or, length-up_to, length-concat_map, map_same}
use Rattle.task.proofs.Tests.{TaskTests, task-tests, schema-tests, SchemaTests}
use Rattle.task.proofs.Tables.{of-table}
use Rattle.task.proofs.TableReads.{table-roomy}
use Rattle.task.proofs.TablesByIndex.{table-frame, arities-word, schemas-word, params_at}
use Rattle.words.specs.Sets.{member}
use Rattle.arcs.proofs.OrderTaken.{order_of-laws}
use Rattle.tokens.specs.Split.{parts, later_parts, par_count, procnone, do_token, par_token, orders, split_schema}
use Rattle.tokens.specs.Split.{split_task, first_of}
use Rattle.tokens.specs.Writing.{PlaceOf, part_words, TokensOf}
use Rattle.tokens.specs.declared.part_atoms.PartPlace.{PartPlace}
use Rattle.tokens.proofs.Accepted.{Ordered, later-step, later-mono, token_at, split-within}
use Rattle.tokens.proofs.Predicates.{predicate-count}
use Rattle.tokens.proofs.WellSplit.{part_of, limits-only}
use Rattle.tokens.proofs.PartSplit.{part-words}
use Rattle.tokens.proofs.SchemaRuns.{schemas_up_to, all-fewer, schemas-more, schemas-fewer}
use Rattle.task.specs.Limits.{most_schemas, most_predicates, most_parts, most_parameters}
use Rattle.tokens.specs.Kept.{kept_start, kept_end, kept_first, kept_part, kept_own, SchemaKept}
use Rattle.tokens.specs.Acceptance.{AcceptedKept, part_schemas}
use Rattle.tokens.specs.declared.measure.Sizes.{Sizes}
use Rattle.tokens.specs.declared.part_atoms.PartTokens.{PartTokens}
use Rattle.tokens.proofs.KeptSchemas.{before-step}
use Rattle.tokens.proofs.KeptSchema.{kept-stretch, kept-rise, kept-atoms, stretch-small}
use Rattle.tokens.proofs.PartWords.{roles-begin}

-- a schema with an atom has a part
some-count : (atoms : List Atom) → 1 ≤ length atoms → 1 ≤ part_count atoms
unfolding part_count
some-count [] h = absurd (omega arith)
some-count (a ∷ rest) h = omega arith

module _ {w : List ℕ} {sizes : Sizes} {kept : List ℕ} (S : AcceptedKept w sizes kept) where
  abbrev pub t : Task
  t = task_of w

  -- ---- counts
  pub well : well_formed t ≡ true
  well = (of-table w S.table).0

  pub ordered : Ordered t
  ordered = S.parts.taken

  pub split-well : well_formed (split_task t) ≡ true
  split-well = limits-only t well ordered ∙ split-within t (split_task t) S.accepted

  pub split-tests : TaskTests (split_task t)
  split-tests = task-tests (split_task t) split-well

  pub few-schemas : length t.schemas ≤ most_schemas
  few-schemas = leb-true (length t.schemas) most_schemas (task-tests t well).schemas

  pub few-split-schemas : length (split_task t).schemas ≤ most_schemas
  few-split-schemas = leb-true (length (split_task t).schemas) most_schemas split-tests.schemas

  pub few-predicates : length t.arities + 1 + later_parts t.schemas + par_count t ≤ most_predicates
  few-predicates =
      omega (arith, predicate-count t, leb-true (length (split_task t).arities) most_predicates split-tests.preds)

  pub predicates-word : length t.arities ≡ (head_in w).predicates
  predicates-word = arities-word w (table-frame w S.table)

  module _ (s : ℕ) (l : s < length t.schemas) where
    pub schema-kept : SchemaKept w s kept
    schema-kept = record { table = S.table; known = l; all = S.parts }

    tests-of : SchemaTests t.arities (schema_at t s)
    unfolding schema_at
    tests-of =
        schema-tests t.arities (schema_at t s)
        (all_in (schema_fits t.arities) (task-tests t well).fit (in-get_or t.schemas s no_schema l))

    pub order-size : length (orders t s) ≡ parts (schema_at t s)
    unfolding parts
    order-size = (order_of-laws (schema_at t s) (orders t s) (ordered s l)).size

    pub few-parts : length (orders t s) ≤ most_parts
    unfolding parts
    few-parts = omega (arith, order-size, leb-true (part_count (schema_at t s).atoms) most_parts tests-of.parts)

    pub some-part : 1 ≤ length (orders t s)
    unfolding parts
    some-part =
        let some = leb-true 1 (length (schema_at t s).atoms) tests-of.some-atom in
        omega (arith, order-size, some-count (schema_at t s).atoms some)

    pub few-params : (schema_at t s).params ≤ most_parameters
    few-params = leb-true (schema_at t s).params most_parameters tests-of.params

    -- its parameter count lies in the table
    pub params-inside : params_base w + s < length w
    params-inside =
        let r = (table-roomy w S.table).inside in
        omega (arith, schemas-word w (table-frame w S.table))

    -- later parts in the schemas before
    pub few-before : later_parts (take s t.schemas) ≤ later_parts t.schemas
    few-before =
        let all = ap later_parts (take-length t.schemas) in
        omega (arith, later-mono t.schemas s (length t.schemas) (omega arith))

    -- one schema further: later parts
    later_more : later_parts (take (suc s) t.schemas) ≡ later_parts (take s t.schemas) + (length (orders t s) - 1)
    unfolding schema_at
    later_more = omega (arith, later-step t.schemas s no_schema l, order-size)

    -- ---- the place of a part
    module _ (j : ℕ) (h : j < length (orders t s)) (here : PartPlace) where
      pub place_is : here.from ≡ kept_start kept s → here.to ≡ kept_end kept s → here.part.0 ≡ kept_part kept s j →
          here.own ≡ kept_own kept s j → here.params ≡ params_in w s →
          here.par ≡ (head_in w).predicates + later_parts t.schemas + 1 → PlaceOf w s j here
      unfolding par_token procnone
      place_is e₁ e₂ e₃ e₄ e₅ e₆ =
          let fr = table-frame w S.table in
          let n = schemas-word w fr in
          let a = arities-word w fr in
          let p = e₅ ∙ sym (params_at w fr s (omega arith)) in
          record {
            roles = roles-begin (kept-stretch schema-kept e₁ e₂) (kept-rise schema-kept e₁ e₂);
            short = stretch-small schema-kept e₁ e₂;
            atoms = sym (kept-atoms schema-kept e₁ e₂);
            part = e₃ ∙ S.parts.part s j l h;
            params = p;
            few = omega (arith, few-params);
            own = λ x. ap (λ (k : ℕ). member k x) e₄ ∙ S.parts.params s j x l h;
            par = omega arith;
            low = omega (arith, few-predicates);
          }

      -- its words, by what the code finds of it
      pub words_of : PlaceOf w s j here → (tokens : PartTokens) → TokensOf t s j tokens →
          part_words w here tokens ≡ concat_map (atom_words here.number) (split_schema t s (orders t s) j).atoms
      words_of place tokens T = part-words w s j here place (part_of t well ordered s j l h) tokens T

  -- ---- the parts of the schemas before one
  -- each schema before has one part that is no later one
  later-before : (s : ℕ) → s ≤ length t.schemas → first_of t s ≡ later_parts (take s t.schemas) + s
  unfolding first_of later_parts sum up_to up_from
  later-before zero l = refl
  later-before (suc s) l =
      omega (arith, before-step t s, later_more s l, some-part s l, later-before s (omega arith))

  pub kept-before : (s : ℕ) → s < length t.schemas → kept_first kept s ≡ later_parts (take s t.schemas) + s
  kept-before s l = S.parts.first s (omega arith) ∙ later-before s (omega arith)

  -- they are the split's schemas before its first part
  pub kept-number : (s : ℕ) → s < length t.schemas → kept_first kept s ≡ length (schemas_up_to (part_schemas t) s)
  unfolding first_of
  kept-number s l =
      S.parts.first s (omega arith) ∙
      sym (length-concat_map (part_schemas t) (up_to s) ∙
      ap sum (map_same (λ q. length (part_schemas t q)) (λ q. length (orders t q)) (up_to s) (λ q i.
      length-map (up_to (length (orders t q))) (split_schema t q (orders t q)) ∙ length-up_to (length (orders t q)))))

  -- one schema further: the words of its rows, atoms or pairs, come behind those of the schemas before
  module _ {Row : Type 0} (words : ℕ → Row → List ℕ) (rows : Schema → List Row) (s : ℕ) (l : s < length t.schemas)
    where
      pub rows_behind : rows_from words rows 0 (schemas_up_to (part_schemas t) (s + 1)) ≡
          rows_from words rows 0 (schemas_up_to (part_schemas t) s) ++
          rows_from words rows (kept_first kept s) (part_schemas t s)
      rows_behind =
          schemas-more words rows (part_schemas t) s ∙
          ap (λ (i : ℕ). rows_from words rows 0 (schemas_up_to (part_schemas t) s) ++
          rows_from words rows i (part_schemas t s)) (sym (kept-number s l))

      -- and there are no more than in all
      pub rows-within : length (rows_from words rows 0 (schemas_up_to (part_schemas t) s)) +
          length (rows_from words rows (kept_first kept s) (part_schemas t s)) ≤
          length (rows_from words rows 0 (split_task t).schemas)
      unfolding split_task
      rows-within =
          omega (
            arith,
            ap length rows_behind,
            length-append (rows_from words rows 0 (schemas_up_to (part_schemas t) s))
                (rows_from words rows (kept_first kept s) (part_schemas t s)),
            schemas-fewer words rows (part_schemas t) (s + 1) (length t.schemas) (omega arith),
          )

  -- the schemas before are few
  pub kept-few : (s : ℕ) → s < length t.schemas → kept_first kept s ≤ most_schemas
  unfolding split_task
  kept-few s l =
      omega (
        arith,
        kept-number s l,
        few-split-schemas,
        all-fewer (part_schemas t) s (length t.schemas) (omega arith),
      )

-- words of the split's schemas, put schema by schema, are all there behind the last
pub split-put : (f : List Schema → List ℕ) (t : Task) (n : ℕ) {found out : List ℕ} {at next : ℕ} →
    n ≡ length t.schemas → Puts found at (f (schemas_up_to (part_schemas t) n)) out next →
    Puts found at (f (split_task t).schemas) out next
unfolding split_task
split-put f t n {found} {out} {at} {next} e =
    subst (λ (k : ℕ). Puts found at (f (schemas_up_to (part_schemas t) k)) out next) e

-- the token before a position, as it is computed
pub token-is : (t : Task) (s : ℕ) (o : List ℕ) (p b n i : ℕ) → p ≡ procnone t → b ≡ later_parts (take s t.schemas) →
    n ≡ length o → cond (eqb i 0) p (cond (eqb i n) p (p + b + i)) ≡ token_at t s o i
unfolding token_at do_token
token-is t s o p b n i e f g = λ k. cond (eqb i 0) (e k) (cond (eqb i (g k)) (e k) (e k + f k + i))
