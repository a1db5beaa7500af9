-- `arcs::choice::is_ahead` meets its contract: by preconditions where they differ in number, else by new parameters.
use mathlib.Core.Path.{sym, ◌∙◌}
use borrow.Author.Rules.{rules}
use Rattle.arcs.proofs.Choosing.{ahead_apart, ahead-level}
use Rattle.arcs.proofs.choice.is_ahead.Statement.{statement}
use Rattle.arcs.proofs.choice.is_ahead.Tie as tie

returns : tie.Need-returns-then-counts-p
returns c = λ atoms placed t b.
    let a = c.args in
    let n = c.if-counts-p.true in
    rw (t.counted a.p, t.counted a.q)
    (ahead_apart atoms placed a.q a.p (λ e. n (t.counted a.p ∙ e ∙ sym (t.counted a.q))))

returns-2 : tie.Need-returns
returns-2 c = λ atoms placed t b.
    let a = c.args in
    let e = c.if-counts-p.false in
    let counts = a.counts.now in
    rw (c.new_parameters.ensures atoms counts placed t b, c.new_parameters-2.ensures atoms counts placed t b)
    (ahead-level atoms placed a.q a.p (sym (t.counted a.p) ∙ e ∙ t.counted a.q))

pub is_ahead_spec : {M : Type 1} → statement M
is_ahead_spec =
    tie.close
    (tie.spec (λ c. search rules) (λ c. search rules) (λ c. search rules) (λ c. search rules) (λ c. search rules)
    (λ c. search rules) (λ c. search rules) (λ c. search rules) returns (λ c κs. search rules) (λ c κs. search rules)
    returns-2)
