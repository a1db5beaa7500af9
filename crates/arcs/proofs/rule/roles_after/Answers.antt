use Rattle.std.proofs.Common.{ℕ, Bool, eqb, ◌&&◌, ◌||◌, ◌≡◌, ap, sym, ◌∙◌}
use mathlib.Core.Bool.{and-true}
use Rattle.words.specs.Lists.{up_to}
use Rattle.words.specs.Sets.{member}
use Rattle.words.proofs.Loops.{set-start, set_more, set-ends}
use Rattle.words.proofs.Ranges.{or-false}
use Rattle.words.proofs.Words.{and-false}
use Rattle.arcs.specs.Order.{role_before}
use Rattle.arcs.proofs.RoleTable.{listed-after}
use Rattle.arcs.proofs.rule.roles_after.Goals as goal
use Rattle.arcs.proofs.rule.roles_after.Goals.{then-role_before, else-role_before}

pub loop-q-init : goal.loop-q-init
unfolding up_to
loop-q-init c = set-start

pub loop-q-preserved : goal.loop-q-preserved
loop-q-preserved c =
    let set = c.loop-q.after in
    let q = c.loop-q.q in
    let told = sym c.role_before.ensures in
    let joins : (x : ℕ) → member c.if-role_before.after x ≡ member set x || (eqb q x && role_before c.args.r q) =
    λ x. elim c.if-role_before.branch [
      | then-role_before w ↦ ap (λ (s : ℕ). member s x) w.after-is ∙ (w.with-after.ensures x ∙
          ap (λ (b : Bool). member set x || b) (sym (rw (told ∙ w.if-role_before.true) (and-true (eqb q x)))))
      | else-role_before w ↦ ap (λ (s : ℕ). member s x) w.after-is ∙
          sym (rw (told ∙ w.if-role_before.false, and-false (eqb q x)) (or-false (member set x)))
    ] in
    set_more c.loop-q.invariant c.loop-q-test.true joins

pub returns : goal.returns
returns c = λ q. set-ends c.loop-q.invariant c.loop-q-test.false q ∙ listed-after c.args.r q
