use mathlib.Core.Path.{◌≡◌, sym, ◌∙◌, subst}
use native.Mathlib.Omega.{arith}
use Rattle.task.proofs.SpanLaws.{rows_fit, rows-ascend, add-inside, atom-found}
use Rattle.task.proofs.ExchangeLaws.{Held, held_none, held_more, held_all}
use Rattle.task.proofs.exchange.first_new.Goals as goal

pub loop-k-init : goal.loop-k-init
loop-k-init c = λ t g u. held_none g _ _

pub find-row-requires : goal.find-row-requires
find-row-requires c =
    let (t, g, u) = c.requires.by_index in record { n_in_bounds = rows_fit u; rows_ascend = rows-ascend u }

pub is_row-requires : goal.is_row-requires
is_row-requires c = let (t, g, u) = c.requires.by_index in rows_fit u

pub returns-then-not-is_row : goal.returns-then-not-is_row
returns-then-not-is_row c =
    let from = c.loop-k.auto.k in
    let less = c.loop-k-test.true in λ t g u. record {
      from = from;
      within = omega arith;
      hold = held_all g _ _ _ (c.loop-k.invariant t g u);
      new = λ l. sym (atom-found u (add-inside u less) c.find-row.ensures c.is_row.ensures) ∙ c.if-not-is_row.true;
      place = λ l. c.find-row.ensures;
    }

pub loop-k-preserved : goal.loop-k-preserved
loop-k-preserved c = λ t g u.
    held_more g (c.loop-k.invariant t g u)
    (sym (atom-found u (add-inside u c.loop-k-test.true) c.find-row.ensures c.is_row.ensures) ∙ c.if-not-is_row.false)

pub returns : goal.returns
returns c =
    let end = c.loop-k.auto.k-end c.requires.from_le_deletes in
    let done = c.loop-k-test.false in
    let e : c.loop-k.k ≡ c.args.spans.deletes = omega arith in λ t g u. record {
      from = c.requires.from_le_deletes;
      within = omega arith;
      hold = held_all g _ _ _ (subst (Held g _ _) e (c.loop-k.invariant t g u));
      new = λ l. absurd (omega arith);
      place = λ l. absurd (omega arith);
    }
