-- `task::exchange::exchange_one` meets its contract.
-- Four ways, a law each: the delete does not hold (`not_there`); it is one of the adds passed, which hold (`is-add`);
-- the next missing add takes its row (`replaced-by`); no add is missing, and its row goes out alone (`goes-alone`).
-- Where one row has the delete's number, the row looked at has it, so that says whether the delete holds (`row-holds`).
use Prim.Native.Nat.{ℕ, ◌≤◌, ◌<◌}
use mathlib.Core.Path.{◌≡◌, sym, ◌∙◌}
use native.Mathlib.Omega.{arith}
use lib.ListN.{get_or}
use borrow.Author.Tests.{not-false}
use Rattle.task.specs.Task.{Fact, Task}
use Rattle.task.specs.Records.{Known, row_number}
use Rattle.task.specs.Spans.{UnderWay, AllHold}
use Rattle.task.proofs.RowsFound.{row_is, row-holds, row_out}
use Rattle.task.proofs.RowsReplaced.{row-replaced}
use Rattle.task.proofs.SpanLaws.{rows_fit, rows-ascend, few-before, add-inside, atom-known, known_small}
use Rattle.task.proofs.ExchangeTurns.{Passed, not_there, is-add, replaced-by, goes-alone}
use borrow.Author.Rules.{rules}
use Rattle.task.proofs.exchange.exchange_one.Statement.{statement}
use Rattle.task.proofs.exchange.exchange_one.Tie as tie

-- ---- what is known at the start
abbrev Way : tie.Start → Task → (ℕ → Fact) → Type 0
Way s t g = let a = s.args in UnderWay t g a.spans a.numbers.now a.state.now a.n

passed : (s : tie.Start) {t : Task} {g : ℕ → Fact} → Way s t g → let a = s.args in
    AllHold t g a.spans.adds a.next a.state.now a.n →
    Passed t g a.spans a.numbers.now a.next a.state.now a.n
passed s u h = record { way = u; from = s.requires.0.1; within = s.requires.0.2; hold = h }

-- ---- and once the delete is looked for
abbrev entry : tie.After-is_row → tie.Start
entry r = r.before.before.before.before.before.before

-- the delete is a ground atom of the task, and its number that of the code
known : (r : tie.After-is_row) {t : Task} {g : ℕ → Fact} → Way (entry r) t g → let a = (entry r).args in
    Known t a.state.now a.n (g a.k) (get_or a.numbers.now a.k 0)
known r u = atom-known u (entry r).args.k (entry r).requires.0.0

-- where it holds, its row is one of the state's
row : (e : tie.Else-not-is_row) → let r = e in
    let a = (entry r.before).args in
    let k = r.row_for-row.result in
    (k < a.n) × (row_number a.state.now k ≡ get_or a.numbers.now a.k 0)
row e = e.is_row.ensures.found e.if-not-is_row.false

-- ---- and once the next missing add is looked for
abbrev held : tie.After-first_new-new → tie.Else-not-is_row
held f = f.before

abbrev begun : tie.After-first_new-new → tie.Start
begun f = entry (held f).before

new : (f : tie.After-first_new-new) {t : Task} {g : ℕ → Fact} → Way (begun f) t g → let a = (begun f).args in
    let atom = f.first_new-new.result.atom in
    atom < a.spans.deletes → Known t a.state.now a.n (g atom) (get_or a.numbers.now atom 0)
new f u less = atom-known u f.first_new-new.result.atom (add-inside u less)

-- its place is one among the numbers
inside : (f : tie.After-first_new-new) → f.first_new-new.result.atom ≤ (begun f).args.spans.end
inside f =
    let (t, g, u) = (begun f).requires.1 in
    let l = (f.first_new-new.ensures t g u).within in
    let m = u.deletes in
    omega arith

-- ---- the answers
row-for-requires : tie.Need-row_for-row-requires
row-for-requires c κs = let (t, g, u) = c.requires.1 in (rows_fit u, rows-ascend u)

is-row-requires : tie.Need-is_row-requires
is-row-requires c κs = let (t, g, u) = c.requires.1 in rows_fit u

returns : tie.Need-returns-then-not-is_row
returns c = λ t g u h.
    let r = c in
    let told = row-holds (known r.before u) r.row_for-row.ensures r.is_row.ensures in
    not_there (passed (entry r.before) u h) _ (sym told ∙ c.if-not-is_row.true)

absent-requires : tie.Need-absent-requires
absent-requires c κs = let (t, g, u) = (begun c).requires.1 in few-before u (inside c)

returns-2 : tie.Need-returns-then-not-absent
returns-2 c = λ t g u h.
    let f = c in
    is-add (passed (begun f.before.before) u h) _ (f.first_new-new.ensures t g u) (known (held f.before.before).before u)
    c.absent.ensures c.if-not-absent.true

replace-requires : tie.Need-replace-requires
replace-requires c κs =
    let f = c in
    let (t, g, u) = (begun f.before.before.before.before.before.before).requires.1 in
    let less = c.if-atom-spans.true in
    let in-state = (row (held f.before.before.before.before.before.before)).0 in
    let place = ((f.first_new-new.ensures t g u).place less).within in
    let room = rows_fit u in
    (omega arith, omega arith, known_small (new f.before.before.before.before.before.before u less))

returns-3 : tie.Need-returns-then-atom-spans
returns-3 c = λ t g u h.
    let out = c in
    let then = out in
    let less = then.if-atom-spans.true in
    let e = then in
    let a = e in
    let f = a in
    let first = f.first_new-new.ensures t g u in
    let r = (held f.before.before.before.before.before.before.before.before.before).before in
    replaced-by (passed (begun f.before.before.before.before.before.before.before.before.before) u h) _ first _ (known r u) a.absent.ensures e.if-not-absent.false less
    (row-replaced (known r u) (new f.before.before.before.before.before.before.before.before.before u less) (first.new less) (row (held f.before.before.before.before.before.before.before.before.before)) (first.place less)
    out.replace.ensures out.replace.auto.state)

remove-row-requires : tie.Need-remove_row-requires
remove-row-requires c κs =
    let f = c in
    let (t, g, u) = (begun f.before.before.before.before.before).requires.1 in
    ((row (held f.before.before.before.before.before)).0, rows_fit u)

sub-t12 : tie.Need-overflow_sub-result
sub-t12 c = omega (arith, (row (held c.before.before.before.before.before.before.before.before)).0)

returns-4 : tie.Need-returns
returns-4 c = λ t g u h.
    let out = c in
    let e = out in
    let a = e in
    let f = a in
    let r = (held f.before.before.before.before.before.before.before.before).before in
    goes-alone (passed (begun f.before.before.before.before.before.before.before.before) u h) _ (f.first_new-new.ensures t g u) _ _ (known r u) a.absent.ensures
    e.if-not-absent.false
    (row_out (known r u) (row_is r.is_row.ensures (not-false _ (held f.before.before.before.before.before.before.before.before).if-not-is_row.false-raw)) out.remove_row.ensures
    out.remove_row.auto.state)

pub exchange_one_spec : {M : Type 1} → statement M
exchange_one_spec =
    tie.close
    (tie.spec (λ c. search rules) (λ c. search rules) (λ c κs. search rules) row-for-requires is-row-requires
    (λ c. search rules) returns (λ c κs. search rules) absent-requires (λ c. search rules) returns-2 (λ c. search rules)
    (λ c. search rules) replace-requires (λ c. search rules) (λ c. search rules) returns-3 remove-row-requires sub-t12
    (λ c. search rules) returns-4)
