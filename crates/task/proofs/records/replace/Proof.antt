-- `task::records::replace` meets its contract: the rows between move up over row k, or down, and the new row's digits
-- are written.
use Rattle.task.specs.Records.{up, down}
use borrow.Author.Rules.{rules}
use Rattle.task.proofs.records.replace.Statement.{statement}
use Rattle.task.proofs.records.replace.Tie as tie

returns : tie.Need-returns-then-j-k
returns c =
    let at-write-at = c in
    let at-move-up = at-write-at in
    let at-if1 = at-move-up in
    up at-if1.if-j-k.true at-move-up.move_up.ensures at-write-at.write_at.ensures

returns-2 : tie.Need-returns-else-j-k
returns-2 c =
    let at-write-at2 = c in
    let at-move-down = at-write-at2 in
    let at-if1 = at-move-down in
    down at-if1.if-j-k.false at-move-down.move_down.ensures at-write-at2.write_at-else-j-k.ensures

pub replace_spec : {M : Type 1} → statement M
replace_spec =
    tie.close
    (tie.spec (λ c. search rules) (λ c. search rules) (λ c κs. search rules) (λ c. search rules) (λ c κs. search rules)
    (λ c. search rules) (λ c. search rules) (λ c. search rules) (λ c κs. search rules) (λ c. search rules)
    (λ c. search rules) (λ c κs. search rules) (λ c. search rules) returns (λ c. search rules) returns-2)
