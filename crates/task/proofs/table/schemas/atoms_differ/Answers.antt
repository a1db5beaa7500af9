use Prim.Native.Nat.{ℕ, ◌-◌, ◌≤◌, ◌<◌}
use mathlib.Core.Path.{◌≡◌, refl, sym, ◌∙◌, ap}
use mathlib.Core.Bool.{true}
use mathlib.Core.List.{List}
use native.Mathlib.Omega.{arith}
use lib.ListN.{length-set}
use Rattle.task.specs.Task.{distinct, roles_ascend}
use Rattle.task.specs.Table.{atom_in}
use Rattle.task.specs.WordTests.{atoms_in}
use Rattle.task.proofs.AtomRuns.{distinct_none, roles-rise, roles-known}
use Rattle.task.proofs.Repeats.{seen_more, some-repeated, distinct_more}
use Rattle.task.proofs.table.schemas.atoms_differ.Goals as goal

-- the role of an atom has a set
has-set : (w : List ℕ) (first end i role : ℕ) → roles_ascend (atoms_in w first (end - first)) ≡ true → first < i →
    i ≤ end → role ≡ (atom_in w (i - 1)).role → role < 3
has-set w first end i role h l m e =
    let low = roles-known w first end h (i - 1) (omega arith) (omega arith) in omega arith

pub loop-i-init : goal.loop-i-init
loop-i-init c = record {
  from = omega arith;
  few = refl;
  seen = λ j l m. absurd (omega arith);
  differ = distinct_none c.args.table.now c.args.end c.args.end (omega arith);
}

pub offset_bounds-seen-own : goal.offset_bounds-seen-own
offset_bounds-seen-own c =
    let l = has-set c.args.table.now c.args.first c.args.end c.loop-i.i c.role-own.result c.requires.first_value
    c.loop-i-test.true c.loop-i.auto.i c.role-own.ensures in
    omega arith

pub bounds-seen-own : goal.bounds-seen-own
bounds-seen-own c =
    has-set c.args.table.now c.args.first c.args.end c.loop-i.i c.role-own.result c.requires.first_value
    c.loop-i-test.true c.loop-i.auto.i c.role-own.ensures

pub repeats-requires-clause-roles_rise : goal.repeats-requires-clause-roles_rise
repeats-requires-clause-roles_rise c = λ j k l m n.
    let at = c.loop-i-test.true in
    roles-rise c.args.table.now c.args.first c.args.end c.requires.first_value j k (omega arith) m n

pub returns-then-repeats : goal.returns-then-repeats
returns-then-repeats c =
    let at = c.loop-i-test.true in
    let end = c.loop-i.auto.i in
    some-repeated c.args.table.now c.args.end (c.loop-i.i - 1) c.args.first (omega arith) (omega arith)
    (sym c.repeats.ensures ∙ c.if-repeats.true)

pub offset_bounds-seen-own-in-loop-i : goal.offset_bounds-seen-own-in-loop-i
offset_bounds-seen-own-in-loop-i c =
    let l = has-set c.args.table.now c.args.first c.args.end c.loop-i.i c.role-own.result c.requires.first_value
    c.loop-i-test.true c.loop-i.auto.i c.role-own.ensures in
    omega arith

pub bounds-seen-own-in-loop-i : goal.bounds-seen-own-in-loop-i
bounds-seen-own-in-loop-i c =
    has-set c.args.table.now c.args.first c.args.end c.loop-i.i c.role-own.result c.requires.first_value
    c.loop-i-test.true c.loop-i.auto.i c.role-own.ensures

pub loop-i-preserved : goal.loop-i-preserved
loop-i-preserved c =
    let w = c.args.table.now in
    let at = c.loop-i-test.true in
    let end = c.loop-i.auto.i in
    let few = c.loop-i.invariant.few in
    let l = has-set w c.args.first c.args.end c.loop-i.i c.role-own.result c.requires.first_value
    c.loop-i-test.true c.loop-i.auto.i c.role-own.ensures in
    record {
      from = omega arith;
      few = length-set c.loop-i.seen c.role-own.result c.with.result ∙ few;
      seen = seen_more w c.args.end c.loop-i.seen c.role-own.result c.predicate_bit-bit.result c.with.result (omega arith)
          c.with.ensures c.loop-i.i c.loop-i.invariant.seen c.role-own.ensures c.predicate_bit-bit.ensures;
      differ = distinct_more w c.args.end c.loop-i.i (omega arith) end (sym c.if-repeats.false ∙ c.repeats.ensures)
          c.loop-i.invariant.differ;
    }

pub returns : goal.returns
returns c =
    let done = c.loop-i-test.false in
    let from = c.loop-i.invariant.from in
    let e : c.loop-i.i ≡ c.args.first = omega arith in
    sym (sym (ap (λ (n : ℕ). distinct (atoms_in c.args.table.now n (c.args.end - n))) e) ∙ c.loop-i.invariant.differ)
