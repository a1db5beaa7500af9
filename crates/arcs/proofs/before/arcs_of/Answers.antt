use Rattle.std.proofs.Common.{arith, ℕ, ◌<◌, ◌≡◌, List, [], ◌∷◌, ◌+◌, get_or, replicate, sym, subst, refl, ◌∙◌}
use Rattle.task.specs.Limits.{most_parts}
use Rattle.task.specs.Task.{Atom, schema_roles, precondition, addition, deletion}
use Rattle.task.specs.Table.{atom_in}
use Rattle.arcs.specs.declared.before.Reach.{Reach}
use Rattle.arcs.specs.Stretches.{IsReach, Joins, stretch_in, pair_stretch_in, arcs_between}
use Rattle.arcs.proofs.ArcSets.{from-none, from_more, arcs-joined, within-reach}
use Rattle.arcs.proofs.AtomWords.{role-known}
use Rattle.arcs.proofs.RoleTable.{none-reaches, of-each-role}
use Rattle.arcs.proofs.Partners.{stretch-pairing}
use Rattle.arcs.proofs.Stretches.{stretch-atom, rows-one}
use Rattle.arcs.proofs.before.arcs_of.Goals as goal

each-reach : (w : List ℕ) (first to : ℕ) {a b c : Reach} → IsReach w precondition first to a →
    IsReach w addition first to b → IsReach w deletion first to c → (r : ℕ) → r < schema_roles →
    IsReach w r first to (get_or (a ∷ b ∷ c ∷ []) r (record { after = 0; end = 0 }))
each-reach w first to {a} {b} {c} p q s =
    of-each-role (λ r. IsReach w r first to (get_or (a ∷ b ∷ c ∷ []) r (record { after = 0; end = 0 }))) p q s

pub loop-i-init : goal.loop-i-init
loop-i-init c =
    let w = c.args.table.now in (
      refl,
      from-none (pair_stretch_in w c.args.pair c.args.end) w c.args.from (stretch_in w c.args.from c.args.to)
          (replicate most_parts 0),
    )

pub loop-i-preserved : goal.loop-i-preserved
loop-i-preserved c =
    let w = c.args.table.now in
    let from = c.args.from in
    let to = c.args.to in
    let h = c.loop-i in
    let pairs = pair_stretch_in w c.args.pair c.args.end in
    let all = stretch_in w from to in
    let first = c.first_of-first.ensures in
    let is = stretch-atom c.requires.stretch h.i c.loop-i-test.true in
    let known = c.role_of.ensures in
    let own = get_or (c.reach_of.result ∷ c.reach_of-2.result ∷ c.reach_of-3.result ∷ []) c.role_of.result
    (record { after = 0; end = 0 }) in
    let reach = subst (λ (r : ℕ). IsReach w r c.first_of-first.result to own) known.value
    (each-reach w c.first_of-first.result to c.reach_of.ensures c.reach_of-2.ensures c.reach_of-3.ensures
    c.role_of.result known.upper_bound) in
    let later = c.add_from.new.before in
    let joined = within-reach pairs w (atom_in w h.i) from c.first_of-first.result own.end to first.0 reach.behind reach.within
    (λ k l m. let q = (atom_in w k).role in
    none-reaches q (sym (c.roles_reached.ensures q) ∙ first.2 k l m) (atom_in w h.i).role (role-known w h.i is))
    (λ k l m. sym (reach.after (atom_in w k).role) ∙ reach.none k l m) h.before later
    (c.add_from.ensures.joins pairs (stretch-pairing c.requires.pair_stretch c.partners_of-partners.ensures)) in (
      c.add_from.ensures.before_len_2,
      from_more pairs w from h.i (h.i + 1) (omega arith) (omega arith) all (replicate most_parts 0) h.before later
          h.invariant.1
          (subst (λ (xs : List Atom). Joins (arcs_between pairs xs all) h.before later) (sym (rows-one (atom_in w) h.i))
          joined),
    )

pub returns : goal.returns
returns c =
    let w = c.args.table.now in
    let h = c.loop-i in
    let pairs = pair_stretch_in w c.args.pair c.args.end in
    let all = stretch_in w c.args.from c.args.to in
    let e : h.i ≡ c.args.to = omega arith in
    arcs-joined pairs all most_parts h.before
    (subst (λ (n : ℕ). Joins (arcs_between pairs (stretch_in w c.args.from n) all) (replicate most_parts 0) h.before) e
    h.invariant.1)
