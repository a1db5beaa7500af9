-- `text::lines::differ::follows`: the first pair of a schema comes behind none; another is compared with the words of
-- the one before it, by the lower parameter and then by the higher, as the definition compares the pairs.
use Rattle.text.proofs.lines.differ.follows.Tie as tie
use Prim.Native.Nat.{ℕ, ◌+◌, ◌-◌}
use mathlib.Core.Path.{◌≡◌, sym, ◌∙◌, ap}
use native.Mathlib.Omega.{arith}
use borrow.Author.Rules.{rules}
use lib.ListN.{get_or}
use Rattle.task.specs.Limits.{pair_size}
use Rattle.task.specs.Task.{Pair, pair_less}
use Rattle.task.proofs.PairOrder.{less-lower, less-higher}
use Rattle.text.specs.Text.{Draft, pair_follows}
use Rattle.text.specs.Holding.{Holds, pair_at}
use Rattle.text.proofs.Growing.{pairs-order, first-behind}
use Rattle.text.proofs.HeldPairs.{last-inside, follows-last}
use Rattle.text.proofs.lines.differ.follows.Statement.{statement}

-- ---- the pair before, and the one asked about
abbrev start : tie.After-next_pair-last → tie.Start
start p = p.before.before.before.before

abbrev last : tie.After-next_pair-last → ℕ
last p = p.next_pair-last.result - pair_size

before-next : (p : tie.After-next_pair-last) → last p ≡ pair_at (start p).args.counts - pair_size
before-next p = ap (λ (n : ℕ). n - pair_size) p.next_pair-last.ensures

abbrev before : tie.After-next_pair-last → Pair
before p = record {
  lower = get_or (start p).args.table.now (last p + 1) 0;
  higher = get_or (start p).args.table.now (last p + 2) 0;
}

abbrev asked : tie.After-next_pair-last → Pair
asked p = record { lower = (start p).args.lower; higher = (start p).args.higher }

compared : (p : tie.After-next_pair-last) (d : Draft) → Holds d (start p).args.table.now (start p).args.counts →
    pair_less (before p) (asked p) ≡ pair_follows d.current.pairs (asked p)
compared p d h =
    let some = p.if-counts-eq0.false in
    follows-last h (omega arith) (last p) (before-next p) (asked p)

-- ---- the answers
returns : tie.Need-returns-then-counts-eq0
returns c = λ d h.
    let e = h.apart in
    let z = c.if-counts-eq0.true in
    sym (first-behind pairs-order d.current.pairs _ (omega arith))

shared-slice-read-before : tie.Need-bounds-table-last
shared-slice-read-before c =
    let p = c in
    omega (arith, last-inside (start p.before).requires.holds (before-next p.before))

cast-before : tie.Need-overflow_cast-before
cast-before c = omega (arith, c.shared_slice_known-2-1.given (last c.before + 1))

returns-2 : tie.Need-returns-then-before-lower
returns-2 c = λ d h. less-lower (before c.before.before) _ c.if-before-lower.true ∙ compared c.before.before d h

shared-slice-read-result : tie.Need-bounds-table-last-2
shared-slice-read-result c =
    let p = c in
    omega (arith, last-inside (start p.before.before.before).requires.holds (before-next p.before.before.before))

cast-result : tie.Need-overflow_cast-result
cast-result c = omega (arith, c.shared_slice_known-3-1.given (last c.before.before.before + 2))

returns-3 : tie.Need-returns
returns-3 c =
    let p = c in
    λ d h. less-higher (before p.before.before.before) _ c.if-before-lower.false ∙ compared p.before.before.before d h

pub follows_spec : {M : Type 1} → statement M
follows_spec =
    tie.close
    (tie.spec returns (λ c κs. search rules) (λ c. search rules) (λ c. search rules) (λ c. search rules)
    shared-slice-read-before cast-before returns-2 (λ c. search rules) (λ c. search rules) shared-slice-read-result
    cast-result returns-3)
