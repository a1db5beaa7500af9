-- `proposals::start::arcs_among` meets its contract: an atom of the set gives an arc where its role comes before that
-- of atom q and it holds no pair with it (`arc-among`), and where there is no pair none is held.
use Prim.Native.Nat.{ℕ, ◌+◌, ◌-◌}
use mathlib.Core.Path.{◌≡◌, sym, ◌∙◌, ap}
use mathlib.Core.Bool.{Bool, true, not, ◌&&◌, and-true}
use mathlib.Core.List.{List}
use lib.ListN.{get_or}
use lib.Dec.{ltb}
use borrow.Author.Rules.{rules}
use borrow.Author.Tests.{lt-ltb}
use Rattle.words.specs.Sets.{member}
use Rattle.words.proofs.Lists.{and_left}
use Rattle.task.specs.Task.{Atom, Pair}
use Rattle.task.specs.Table.{atom_in}
use Rattle.arcs.specs.Order.{gives_arc, hold_pair, role_before}
use Rattle.arcs.proofs.Arcs.{none-held}
use Rattle.proposals.proofs.StartArcs.{atom-of, arc-among}
use Rattle.proposals.proofs.start.arcs_among.Statement.{statement}
use Rattle.proposals.proofs.start.arcs_among.Tie as tie

abbrev start : tie.After-common-set → tie.Start
start c = c.before.before.before.before.before

-- atom p of the stretch
abbrev atom : tie.Start → ℕ → Atom
atom s p = atom_in s.args.table.now (s.args.from + p)

-- whether atoms p and q hold a pair
abbrev held : tie.Start → List Pair → ℕ → Bool
held s pairs p = hold_pair pairs (atom s p).args (atom s s.args.q).args

in-set : (c : tie.After-common-set) (p : ℕ) → member c.common-set.result p ≡ true → member (start c).args.alike p ≡ true
in-set c p m = and_left (member (start c).args.alike p) _ (sym (c.common-set.ensures p) ∙ m)

-- the roles and the pairs decide
found : (c : tie.After-common-set) (pairs : List Pair) (p : ℕ) →
    member c.common-set.result p && not (held (start c) pairs p) ≡
    member (start c).args.alike p && gives_arc pairs (atom (start c) p) (atom (start c) (start c).args.q)
found c pairs p =
    let s = start c in
    let a = s.args in
    let role = c.role_of in
    ap (λ (b : Bool). b && not (held s pairs p)) (c.common-set.ensures p) ∙
    arc-among pairs (atom s p) (atom s a.q) (member a.alike p) (ltb p (a.to - a.from))
    (member (get_or a.before.now role.result 0) p)
    (λ m. lt-ltb p (a.to - a.from) (s.requires.1.1.0 p m))
    (λ m. s.requires.1.1.1.0 p m)
    (s.requires.1.1.1.1.1 role.result p role.ensures.1 ∙
    ap (λ (r : ℕ). ltb p (a.to - a.from) && role_before (atom s p).role r) role.ensures.0)

role-of-requires : tie.Need-role_of-requires
role-of-requires c κs =
    let s = c in
    atom-of s.requires.0 s.args.q s.requires.1.0.1

holding-none-requires : tie.Need-holding_none-requires
holding-none-requires c κs =
    let common = c in
    let s = start common.before in (
      s.requires.0,
      (
        s.requires.1.0,
        (λ p m. s.requires.1.1.0 p (in-set common.before p m), λ p m. s.requires.1.1.1.0 p (in-set common.before p m)),
      ),
    )

returns : tie.Need-returns-then-paired
returns c pairs h p = c.holding_none.ensures pairs h.partners p ∙ found c.before.before pairs p

returns-2 : tie.Need-returns
returns-2 c pairs h p =
    let common = c in
    let a = (atom (start common.before) p).args in
    let b = (atom (start common.before) (start common.before).args.q).args in
    let none = ap (λ (ps : List Pair). hold_pair ps a b) (h.unpaired c.if-paired.false) ∙ none-held a b in
    sym (and-true (member common.common-set.result p)) ∙
    (ap (λ (b : Bool). member common.common-set.result p && not b) (sym none) ∙ found common.before pairs p)

pub arcs_among_spec : {M : Type 1} → statement M
arcs_among_spec =
    tie.close
    (tie.spec (λ c. search rules) role-of-requires (λ c. search rules) (λ c. search rules) (λ c κs. search rules)
    holding-none-requires returns returns-2)
