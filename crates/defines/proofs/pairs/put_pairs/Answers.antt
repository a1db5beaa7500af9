-- A pair that names the schema is one of the schema's (`pair-before-end`), and where none is left or the next names
-- another, the schema's have ended.
use Rattle.std.proofs.Common.{◌+◌, ◌<◌, ◌≤◌, ℕ, suc, sym, ◌∙◌, List, arith}
use native.Mathlib.Decide.{dec_lt}
use Rattle.words.specs.Putting.{Puts}
use Rattle.words.proofs.Puts.{Going, going_start, going-left, going-room, going_on, going_end}
use Rattle.task.specs.Table.{task_of}
use Rattle.task.specs.Turns.{first_pair}
use Rattle.task.proofs.TableReads.{table-roomy, counts-inside}
use Rattle.text.proofs.Onwards.{onwards, onwards-next, onwards-none}
use Rattle.defines.specs.ByWords.{apart_in, pairs_in}
use Rattle.defines.proofs.PairItems.{pairs-rise, pairs-inside, pair-before-end, pair-names, pairs-onwards}
use Rattle.defines.proofs.pairs.put_pairs.Goals as goal
use Rattle.defines.proofs.pairs.put_pairs.Goals.{Then-pair_number-schema, Else-pair_number-schema}

pub word-count-requires : goal.word-count-requires
word-count-requires c = omega (arith, counts-inside _ c.requires.table_value)

pub loop-pair-init : goal.loop-pair-init
loop-pair-init c =
    let w = c.args.table.now in
    let from = c.requires.from_value in
    let rises = pairs-rise w c.requires.table_value c.args.schema (suc c.args.schema) (omega arith) in
    record {
      within = omega arith;
      going = going-left (pairs-onwards w _ _) (going_start c.requires.schema_in_bounds);
    }

pub pair_number-requires-clause-roomy : goal.pair_number-requires-clause-roomy
pair_number-requires-clause-roomy c = table-roomy _ c.requires.table_value

-- the pair is one of the schema's
own : (c : Else-pair_number-schema) → c.loop-pair.pair < first_pair (task_of c.args.table.now) (suc c.args.schema)
own c =
    let e = c.word-count.ensures.value in
    pair-before-end c.args.table.now c.requires.table_value c.args.schema c.requires.schema_bound c.loop-pair.pair
    (omega arith) (sym c.pair_number.ensures ∙ c.if-pair_number-schema.false)

pub put_pair-next-requires-clause-i_in_bounds : goal.put_pair-next-requires-clause-i_in_bounds
put_pair-next-requires-clause-i_in_bounds c =
    let piece = apart_in c.args.table.now in
    let end = first_pair (task_of c.args.table.now) (suc c.args.schema) in
    going-room (piece c.loop-pair.pair) (onwards piece (c.loop-pair.pair + 1) end)
    (going-left (onwards-next piece c.loop-pair.pair end
    (own (goal.at.put_pair-next-requires-clause-i_in_bounds c).Else-pair_number-schema)) c.loop-pair.invariant.going)

pub loop-pair-preserved : goal.loop-pair-preserved
loop-pair-preserved c =
    let piece = apart_in c.args.table.now in
    let end = first_pair (task_of c.args.table.now) (suc c.args.schema) in
    let l = own (goal.at.loop-pair-preserved c).Else-pair_number-schema in
    record {
      within = omega arith;
      going = going_on (going-left (onwards-next piece c.loop-pair.pair end l) c.loop-pair.invariant.going)
          c.put_pair-next.ensures;
    }

-- behind the schema's last pair all of them are put
put : {w v : List ℕ} {at pair next : ℕ} (table : List ℕ) (from end : ℕ) → end ≤ pair →
    Going w at (pairs_in table from end) (onwards (apart_in table) pair end) v next →
    Puts w at (pairs_in table from end) v next
put {pair = pair} table from end l going = going_end (going-left (onwards-none (apart_in table) pair end l) going)

-- a pair that names another schema stands behind
ended : (c : Then-pair_number-schema) → first_pair (task_of c.args.table.now) (suc c.args.schema) ≤ c.loop-pair.pair
ended c = elim (dec_lt c.loop-pair.pair (first_pair (task_of c.args.table.now) (suc c.args.schema))) [
  | yes l ↦
      let from = c.requires.from_value in
      absurd (c.if-pair_number-schema.true (c.pair_number.ensures ∙
      pair-names c.args.table.now c.requires.table_value c.args.schema c.requires.schema_bound c.loop-pair.pair
      (omega arith) l))
  | no l ↦ omega arith
]

pub returns-then-pair_number-schema-clause-pair_value : goal.returns-then-pair_number-schema-clause-pair_value
returns-then-pair_number-schema-clause-pair_value c =
    let l = ended c in let within = c.loop-pair.invariant.within in omega arith

pub returns-then-pair_number-schema-clause-fact : goal.returns-then-pair_number-schema-clause-fact
returns-then-pair_number-schema-clause-fact c = put c.args.table.now _ _ (ended c) c.loop-pair.invariant.going

pub returns-clause-pair_value : goal.returns-clause-pair_value
returns-clause-pair_value c =
    let e = c.word-count.ensures.value in
    let within = c.loop-pair.invariant.within in
    let inside = pairs-inside c.args.table.now c.requires.table_value c.args.schema c.requires.schema_bound in
    omega arith

pub returns-clause-fact : goal.returns-clause-fact
returns-clause-fact c =
    let e = c.word-count.ensures.value in
    let inside = pairs-inside c.args.table.now c.requires.table_value c.args.schema c.requires.schema_bound in
    put c.args.table.now _ _ (omega arith) c.loop-pair.invariant.going
