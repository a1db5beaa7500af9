-- The first row of another schema is the first behind the schema's own; where there is none, all are.
use Rattle.std.proofs.Common.{◌≡◌, ℕ, ◌+◌, ◌*◌, ◌≤◌, ◌<◌, List, get_or, arith, rules, Option, Some, None, subst, sym}
use Rattle.std.specs.Option.{MatchOption, unwrap_or}
use Rattle.std.proofs.lemmas.Iterator.{first_from_Range}
use borrow.Author.Tests.{tests}
use Rattle.text.specs.TableLines.{SchemaRun}
use Rattle.text.proofs.writer.rows_of.Goals as goal

run-found : (w : List ℕ) (size b left schema n : ℕ) (r : Option ℕ) →
    MatchOption r ((k : ℕ) → 0 ≤ k → k < left → get_or w (b + size * k) 0 ≡ schema)
    (λ i. (0 ≤ i) × (i < left) × (get_or w (b + size * i) 0 ≡ schema → ⊥) ×
    ((k : ℕ) → 0 ≤ k → k < i → get_or w (b + size * k) 0 ≡ schema)) →
    n ≡ unwrap_or r left → SchemaRun w size b left schema n
run-found w size b left schema n None h e = record {
  within = omega arith;
  same = λ k l. h k (omega arith) (omega arith);
  stops = λ l q. absurd (omega arith);
}
run-found w size b left schema n (Some i) h e =
    let run : SchemaRun w size b left schema i = record {
      within = let l = h.1 in omega arith;
      same = λ k l. h.3 k (omega arith) l;
      stops = λ l. h.2;
    } in
    subst (λ (m : ℕ). SchemaRun w size b left schema m) (sym e) run

pub returns : goal.returns
returns c =
    let a = c.args in
    run-found a.table.now a.size a.base a.left a.schema c.unwrap_or.result c.find.result
    (first_from_Range _ _ _ c.find.result (λ k. get_or a.table.now (a.base + a.size * k) 0 ≡ a.schema → ⊥)
    (λ k. get_or a.table.now (a.base + a.size * k) 0 ≡ a.schema) c.find.ensures.ran (λ x q k. search (rules, tests))
    (λ x q k. search (rules, tests)))
    c.unwrap_or.ensures
