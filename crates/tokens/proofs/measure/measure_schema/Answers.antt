use Rattle.std.proofs.Common.{◌≡◌, ℕ, length, sym, ap, ◌∙◌, arith}
use Rattle.task.specs.Task.{Schema, schema_atoms}
use Rattle.task.specs.Table.{task_of}
use Rattle.tokens.specs.Split.{orders}
use Rattle.tokens.specs.Acceptance.{largest_of}
use Rattle.tokens.proofs.KeptSchema.{schema-small, count_small, kept-fits, kept-params, kept-order, counted}
use Rattle.tokens.proofs.KeptSchema.{params-kept}
use Rattle.tokens.proofs.SharedParameters.{shared-bounded}
use Rattle.tokens.proofs.SplitSizes.{parts_up_to, part-sum-none, part-largest-none, part-sum-more, part-largest-more}
use Rattle.tokens.proofs.measure.measure_schema.Goals as goal

pub count_of-j-end-requires : goal.count_of-j-end-requires
count_of-j-end-requires c = schema-small c.requires

pub loop-j-init : goal.loop-j-init
loop-j-init c =
    let t = task_of c.args.table.now in
    (omega arith, sym (part-sum-none t c.args.s (λ (u : Schema). length u.atoms)), sym (part-largest-none t c.args.s))

pub loop-j-preserved : goal.loop-j-preserved
loop-j-preserved c =
    let t = task_of c.args.table.now in
    let s = c.args.s in
    let j = c.loop-j.j in
    let e = part-sum-more t s (λ (u : Schema). length u.atoms) j in
    let n = c.part_size-n.ensures in
    (omega (arith, n.upper_bound), omega (arith, n.value), omega (arith, n.value, part-largest-more t s j))

pub shared_in-requires-clause-s_lt_most_schemas : goal.shared_in-requires-clause-s_lt_most_schemas
shared_in-requires-clause-s_lt_most_schemas c = schema-small c.requires

pub shared_in-requires-clause-s_bound : goal.shared_in-requires-clause-s_bound
shared_in-requires-clause-s_bound c = count_small c.requires

pub returns : goal.returns
returns c =
    let t = task_of c.args.table.now in
    let s = c.args.s in
    let K = c.requires in
    let e : c.loop-j.j ≡ length (orders t s) = omega (arith, counted K, c.count_of-j-end.ensures) in
    let shared = c.shared_in in
    record {
      atoms = c.loop-j.invariant.1 ∙ ap (λ (n : ℕ). schema_atoms (parts_up_to t s n)) e;
      largest = c.loop-j.invariant.2 ∙ ap (λ (n : ℕ). largest_of (parts_up_to t s n)) e;
      shared = c.bound.ensures.value ∙ shared-bounded t s (orders t s) shared.result (kept-fits K) (kept-params K)
          (kept-order K) (shared.ensures t (orders t s) (params-kept K));
      pairs = c.pairs_carried.ensures.value;
      atoms-most = omega (arith, count_small K, c.count_of-j-end.ensures);
      shared-most = c.bound.ensures.upper_bound;
      pairs-most = c.pairs_carried.ensures.upper_bound;
    }
