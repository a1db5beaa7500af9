-- What the contracts of this crate's code speak of: stretches of a table's schema atoms and of its pairs, what is found
-- of each parameter and each part, and the order that is handed back.
use Rattle.std.specs.Prelude.{ℕ, ◌-◌, ◌≤◌, ◌<◌, ◌≡◌, Bool, true, false, not, ◌&&◌, ◌||◌, List, [], map, length, get_or, take, eqb}
use Rattle.std.specs.Prelude.{Option, None, Some}
use Rattle.words.specs.Lists.{any, up_from}
use Rattle.task.specs.Layout.{head_in}
use Rattle.task.specs.Limits.{most_parts, most_parameters}
use Rattle.task.specs.Task.{Atom, Pair}
use Rattle.task.specs.Table.{pair_in, atom_in, is_table}
use Rattle.task.specs.declared.Part.{Part}
use Rattle.arcs.specs.declared.Order.{Order}
use Rattle.arcs.specs.declared.before.Reach.{Reach}
use Rattle.arcs.specs.Order.{role_before, are_pair, gives_arc, arc, in_part, preconditions, tests}
use Rattle.words.specs.Sets.{SetBelow, member}

-- ---- atoms and pairs of a table
-- words of a table, and a schema atom of it: its head says how many there are
pub record IsSchemaAtom (w : List ℕ) (i : ℕ) : Type 0 where
  pub table : is_table w ≡ true
  pub known : i < (head_in w).schema_atoms

-- words of a table, and a stretch of its schema atoms, atoms `from` to `to - 1`, as the atoms of a schema are
pub record IsStretch (w : List ℕ) (from to : ℕ) : Type 0 where
  pub table : is_table w ≡ true
  pub forward : from ≤ to
  pub known : to ≤ (head_in w).schema_atoms

-- the same of its pairs, as those of a schema are
pub record IsPairStretch (w : List ℕ) (from to : ℕ) : Type 0 where
  pub table : is_table w ≡ true
  pub forward : from ≤ to
  pub known : to ≤ (head_in w).pairs

-- what is read of the rows `from` to `to - 1`
unfoldable pub stretch : {Row : Type 0} → (ℕ → Row) → ℕ → ℕ → List Row
unfolding up_from
stretch row from to = map row (up_from from (to - from))

-- the atoms of a stretch, and the pairs of one
abbrev pub stretch_in : List ℕ → ℕ → ℕ → List Atom
stretch_in w from to = stretch (atom_in w) from to

abbrev pub pair_stretch_in : List ℕ → ℕ → ℕ → List Pair
pair_stretch_in w from to = stretch (pair_in w) from to

-- the roles that an arc goes to from role r
abbrev pub AreAfter : ℕ → ℕ → Type 0
AreAfter r roles = (q : ℕ) → member roles q ≡ role_before r q

-- no atom of a stretch has one of these roles
abbrev pub NoneOf : List ℕ → ℕ → ℕ → ℕ → Type 0
NoneOf w roles from to = (k : ℕ) → from ≤ k → k < to → member roles (atom_in w k).role ≡ false

-- what atoms of role r have arcs to in a stretch: the roles after it, and an end from which on no atom has one of them
pub record IsReach (w : List ℕ) (r from to : ℕ) (reach : Reach) : Type 0 where
  pub after : AreAfter r reach.after
  pub behind : from ≤ reach.end
  pub within : reach.end ≤ to
  pub none : NoneOf w reach.after reach.end to

-- whether one of these atoms and one of others give an arc from part p to part q; the arcs of a list are those between
-- it and itself
unfoldable pub arcs_between : List Pair → List Atom → List Atom → ℕ → ℕ → Bool
unfolding any gives_arc
arcs_between pairs these others p q =
    not (eqb p q) &&
    any (λ a. eqb a.part p && any (λ b. eqb b.part q && gives_arc pairs a b) others) these

-- ---- what is found of each parameter and each part
-- p joins the set of q where a test takes p and q; nothing else changes
abbrev pub Joins : (ℕ → ℕ → Bool) → List ℕ → List ℕ → Type 0
Joins test sets after = (p q : ℕ) → member (get_or after q 0) p ≡ member (get_or sets q 0) p || test p q

-- for each q the set of those p that a test takes with it
abbrev pub SetsAre : (ℕ → ℕ → Bool) → List ℕ → Type 0
SetsAre test sets = (p q : ℕ) → member (get_or sets q 0) p ≡ test p q

-- for each parameter the set of those that it is a declared pair with
abbrev pub ArePartners : List Pair → List ℕ → Type 0
ArePartners pairs sets = SetsAre (are_pair pairs) sets

-- the same, and whether there is a pair at all
pub record Pairing (pairs : List Pair) (paired : Bool) (sets : List ℕ) : Type 0 where
  pub partners : ArePartners pairs sets
  pub unpaired : paired ≡ false → pairs ≡ []

-- for each part the set of parts that have an arc to it
abbrev pub AreArcs : List Pair → List Atom → List ℕ → Type 0
AreArcs pairs atoms sets = SetsAre (arc pairs atoms) sets

-- for each part the set of its parameters
pub record AreParameters (atoms : List Atom) (sets : List ℕ) : Type 0 where
  pub long : length sets ≡ most_parts
  pub named : SetsAre (in_part atoms) sets

-- for each part its number of preconditions, and the set of parameters that these name
pub record AreTests (atoms : List Atom) (counts sets : List ℕ) : Type 0 where
  pub counted : (p : ℕ) → get_or counts p 0 ≡ preconditions atoms p
  pub named : SetsAre (tests atoms) sets
  pub below : (p : ℕ) → SetBelow most_parameters (get_or sets p 0)

-- the set of the parameters that stand in placed parts
abbrev pub IsBound : List Atom → List ℕ → ℕ → Type 0
IsBound atoms placed bound = (x : ℕ) → member bound x ≡ any (in_part atoms x) placed

-- ---- the choice
-- the part that is chosen, if one is ready
unfoldable pub chosen : Option Part → Option ℕ
chosen (Some p) = Some p.0
chosen None = None

-- a part that is chosen is below n
abbrev pub ChosenBelow : ℕ → Option Part → Type 0
ChosenBelow n c = (p : ℕ) → chosen c ≡ Some p → p < n

-- ---- the order handed back
-- its part numbers, or none where no order complies
unfoldable pub order_told : Option Order → Option (List ℕ)
order_told (Some o) = Some (map (λ (p : Part). p.0) (take o.count o.parts))
order_told None = None
