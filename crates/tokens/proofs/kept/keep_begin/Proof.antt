-- `tokens::kept::keep_begin` meets its contract.
-- Three words of the row are put one after the other, as the contract nests them. All three numbers are below 2 ^ 16,
-- as is required, so the casts keep them.
use Rattle.tokens.proofs.kept.keep_begin.Tie as tie
use mathlib.Core.Path.{◌∙◌, ap}
use mathlib.Core.List.{List}
use Prim.Native.Nat.{ℕ}
use borrow.Author.Rules.{rules}
use Rattle.tokens.specs.Kept.{first_place, pair_place, with_field}
use Rattle.tokens.proofs.kept.keep_begin.Statement.{statement}

returns : tie.Need-returns
returns c =
    let two = c in
    let one = two in
    let a = one.args in
    c.put-3.ensures ∙
    ap (λ (kept : List ℕ). with_field kept a.row pair_place a.pair)
    (two.put-2.ensures ∙ ap (λ (kept : List ℕ). with_field kept a.row first_place a.first) one.put.ensures)

pub keep_begin_spec : {M : Type 1} → statement M
keep_begin_spec =
    tie.close
    (tie.spec (λ c. search rules) (λ c κs. search rules) (λ c. search rules) (λ c κs. search rules)
    (λ c. search rules) (λ c κs. search rules) returns)
