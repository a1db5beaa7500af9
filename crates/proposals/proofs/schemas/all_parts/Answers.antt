-- `proposals::schemas::all_parts` meets its contract: a schema's words are put behind those of the schemas before it,
-- and the first that ends with too many parts is handed back.
use Rattle.std.proofs.Common.{ℕ, ◌≡◌, ◌<◌, true, List, length, get_or, refl, sym, ◌∙◌, ap, arith, add-one}
use Rattle.words.specs.Lists.{put, sum}
use Rattle.words.proofs.Puts.{length-put}
use Rattle.task.specs.Run.{schema_at}
use Rattle.task.specs.Table.{task_of, is_table}
use Rattle.task.specs.Turns.{first_atom, first_pair}
use Rattle.task.proofs.TableReads.{counts-inside}
use Rattle.task.proofs.TablesByIndex.{table-frame, schemas-word}
use Rattle.proposals.specs.Proposal.{count_of, proposed_parts}
use Rattle.proposals.proofs.Scratches.{keeps-refl, keeps-trans}
use Rattle.proposals.proofs.SchemaParts.{OfSchema, schema-lies, have-more, few-more, many-here, many-nowhere}
use Rattle.proposals.proofs.schemas.all_parts.Goals as goal
use Rattle.proposals.proofs.schemas.all_parts.Goals.{In-loop-s, After-schema_ends-ends, After-schema_parts-count}

pub word-schemas-requires : goal.word-schemas-requires
word-schemas-requires c = omega (arith, counts-inside c.args.table.now c.requires.table_value)

pub loop-s-init : goal.loop-s-init
unfolding sum
loop-s-init c = record {
  begins = refl;
  pairs = refl;
  long = c.requires.parts_len;
  keeps = keeps-refl _;
  have = λ s l. absurd (omega arith);
  few = λ s l. absurd (omega arith);
}

-- as many schemas as the table says
counted : (w : List ℕ) → is_table w ≡ true → {n : ℕ} → n ≡ get_or w 2 0 → n ≡ length (task_of w).schemas
counted w h e = e ∙ sym (schemas-word w (table-frame w h))

-- ---- in a turn
known : (c : In-loop-s) → c.loop-s.s < length (task_of c.args.table.now).schemas
known c = omega (arith, counted c.args.table.now c.requires.table_value c.word-schemas.ensures.value)

pub schema_ends-ends-requires-clause-s_in_bounds :
    goal.schema_ends-ends-requires-clause-s_in_bounds
schema_ends-ends-requires-clause-s_in_bounds c = known c

pub schema_ends-ends-requires-clause-from_value : goal.schema_ends-ends-requires-clause-from_value
schema_ends-ends-requires-clause-from_value c = c.loop-s.invariant.begins

pub schema_ends-ends-requires-clause-pair_value : goal.schema_ends-ends-requires-clause-pair_value
schema_ends-ends-requires-clause-pair_value c = c.loop-s.invariant.pairs

lies : (c : After-schema_ends-ends) →
    OfSchema c.args.table.now (schema_at (task_of c.args.table.now) c.loop-s.s) c.loop-s.from
    c.schema_ends-ends.result.atoms c.loop-s.pair c.schema_ends-ends.result.pairs
lies c =
    let ends = c.schema_ends-ends.ensures in
    schema-lies c.args.table.now c.requires.table_value c.loop-s.s
    (omega (arith, counted c.args.table.now c.requires.table_value c.word-schemas.ensures.value))
    c.loop-s.invariant.begins ends.atoms_value c.loop-s.invariant.pairs ends.pairs_value

pub schema_parts-count-requires-clause-stretch : goal.schema_parts-count-requires-clause-stretch
schema_parts-count-requires-clause-stretch c =
    (lies (goal.at.schema_parts-count-requires-clause-stretch c).After-schema_ends-ends).stretch

pub schema_parts-count-requires-clause-pair_stretch :
    goal.schema_parts-count-requires-clause-pair_stretch
schema_parts-count-requires-clause-pair_stretch c =
    (lies (goal.at.schema_parts-count-requires-clause-pair_stretch c).After-schema_ends-ends).pair-stretch

pub schema_parts-count-requires-clause-from_bound :
    goal.schema_parts-count-requires-clause-from_bound
schema_parts-count-requires-clause-from_bound c =
    (lies (goal.at.schema_parts-count-requires-clause-from_bound c).After-schema_ends-ends).few

pub schema_parts-count-requires-clause-parts_len :
    goal.schema_parts-count-requires-clause-parts_len
schema_parts-count-requires-clause-parts_len c = c.loop-s.invariant.long

-- what is found of its parts
found : (c : After-schema_parts-count) →
    let own = proposed_parts c.args.width (schema_at (task_of c.args.table.now) c.loop-s.s) in
    (c.schema_parts-count.new.parts ≡ put c.loop-s.parts c.loop-s.from own) ×
    (c.schema_parts-count.result ≡ count_of own)
found c =
    let ends = c.schema_ends-ends.ensures in
    let l =
    schema-lies c.args.table.now c.requires.table_value c.loop-s.s
    (omega (arith, counted c.args.table.now c.requires.table_value c.word-schemas.ensures.value))
    c.loop-s.invariant.begins ends.atoms_value c.loop-s.invariant.pairs ends.pairs_value in
    c.schema_parts-count.ensures.parts_after _ l.named l.pairs l.atoms

pub returns-then-count-gt-MOST_PARTS-clause-keeps_behind :
    goal.returns-then-count-gt-MOST_PARTS-clause-keeps_behind
returns-then-count-gt-MOST_PARTS-clause-keeps_behind c =
    keeps-trans c.loop-s.invariant.keeps c.schema_parts-count.ensures.keeps_behind

pub returns-then-count-gt-MOST_PARTS-clause-result_value :
    goal.returns-then-count-gt-MOST_PARTS-clause-result_value
returns-then-count-gt-MOST_PARTS-clause-result_value c =
    let at = goal.at.returns-then-count-gt-MOST_PARTS-clause-result_value c in
    sym (many-here c.args.width (task_of c.args.table.now) c.loop-s.s c.loop-s.invariant.few (known at.In-loop-s)
    (omega (arith, (found at.After-schema_parts-count).1)))

pub loop-s-preserved : goal.loop-s-preserved
loop-s-preserved c =
    let at = goal.at.loop-s-preserved c in
    let h = c.loop-s.invariant in
    let table = c.args.table.now in
    let own : List ℕ = proposed_parts c.args.width (schema_at (task_of table) c.loop-s.s) in
    let (put, count) = found at.After-schema_parts-count in
    record {
      begins = c.schema_ends-ends.ensures.atoms_value ∙ ap (first_atom (task_of table)) (sym (add-one c.loop-s.s));
      pairs = c.schema_ends-ends.ensures.pairs_value ∙ ap (first_pair (task_of table)) (sym (add-one c.loop-s.s));
      long = ap length put ∙ (length-put c.loop-s.parts c.loop-s.from own ∙ h.long);
      keeps = keeps-trans h.keeps c.schema_parts-count.ensures.keeps_behind;
      have =
          have-more table c.requires.table_value c.loop-s.s (known at.In-loop-s) c.args.width c.loop-s.parts _ h.long
          h.begins put h.have;
      few = few-more c.args.width (task_of table) c.loop-s.s h.few (omega (arith, count));
    }

-- ---- all schemas have had their turn
pub returns-clause-keeps_behind : goal.returns-clause-keeps_behind
returns-clause-keeps_behind c = c.loop-s.invariant.keeps

pub returns-clause-result_value : goal.returns-clause-result_value
returns-clause-result_value c =
    let table = c.args.table.now in
    sym (many-nowhere c.args.width (task_of table) c.loop-s.s c.loop-s.invariant.few
    (omega (arith, counted table c.requires.table_value c.word-schemas.ensures.value)))

pub returns-clause-have_parts : goal.returns-clause-have_parts
returns-clause-have_parts c e s l =
    c.loop-s.invariant.have s
    (omega (arith, counted c.args.table.now c.requires.table_value c.word-schemas.ensures.value))
