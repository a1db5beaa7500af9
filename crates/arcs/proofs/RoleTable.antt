-- The rule between two roles written out as a table, first role by second, and what is asked of the roles through it.
use Prim.Native.Nat.{ℕ, zero, suc, ◌+◌, ◌<◌}
use mathlib.Core.Path.{◌≡◌, refl, sym, ◌∙◌, ap, ap₂}
use mathlib.Core.Bool.{Bool, false, ◌&&◌}
use mathlib.Core.List.{List, [], map}
use native.Mathlib.Nat.{zero-add}
use native.Mathlib.Omega.{arith}
use lib.ListN.{get_or}
use lib.Dec.{eqb}
use borrow.Author.Tests.{eqb-true, eq-eqb}
use Rattle.words.specs.Lists.{any, up_to}
use Rattle.task.specs.Task.{precondition, addition, deletion, schema_roles}
use Rattle.words.proofs.Lists.{and_left, and_right, and_both, both-ft, bool-ext, false-if, any-in, in-any, in-up_to}
use Rattle.words.proofs.Lists.{get_or-mapped}
use Rattle.arcs.specs.Order.{role_before}
use Rattle.arcs.proofs.Arcs.{Ordered, tested-then-added, tested-then-deleted, deleted-then-added, role-rule}

-- a row for each first role, in it an entry for each second
unfoldable pub rule_row : ℕ → List Bool
unfolding up_to role_before
rule_row r = map (role_before r) (up_to schema_roles)

unfoldable pub rule_table : List (List Bool)
unfolding up_to rule_row
rule_table = map rule_row (up_to schema_roles)

-- each of the nine entries is document 01's rule: that a constant is the rule written out is one computed equation
pub each-entry : (table : List (List Bool)) → table ≡ rule_table → (r q : ℕ) → r < schema_roles → q < schema_roles →
    get_or (get_or table r []) q false ≡ role_before r q
unfolding rule_table rule_row up_to
each-entry table e r q l m =
    ap (λ (rows : List (List Bool)). get_or (get_or rows r []) q false) e
    ∙ (ap (λ (row : List Bool). get_or row q false) (get_or-mapped rule_row 0 schema_roles r [] l)
    ∙ (get_or-mapped (role_before (0 + r)) 0 schema_roles q false m ∙ ap₂ role_before (zero-add r) (zero-add q)))

-- the roles that come after one are among the three
pub listed-after : (r x : ℕ) → any (λ q. eqb q x && role_before r q) (up_to schema_roles) ≡ role_before r x
listed-after r x = bool-ext (any test (up_to schema_roles)) (role_before r x)
    (λ h.
    let (q, i, y) = any-in test (up_to schema_roles) h in
    sym (ap (role_before r) (eqb-true q x (and_left (eqb q x) _ y))) ∙ and_right (eqb q x) _ y)
    (λ h. in-any test (in-up_to schema_roles x (small ((role-rule r x).0 h))) (and_both _ _ (eq-eqb x x refl) h))
  where
    test : ℕ → Bool
    test q = eqb q x && role_before r q

    small : {r q : ℕ} → Ordered r q → q < schema_roles
    small tested-then-added = omega arith
    small tested-then-deleted = omega arith
    small deleted-then-added = omega arith

-- where no role comes before q, none of the three does
pub none-reaches : (q : ℕ) → any (λ r. role_before r q) (up_to schema_roles) ≡ false → (r : ℕ) → r < schema_roles →
    role_before r q ≡ false
none-reaches q h r l =
    false-if (role_before r q) (λ t. both-ft (in-any (λ r. role_before r q) (in-up_to schema_roles r l) t) h)

-- what holds of each role holds of all
pub of-each-role : (P : ℕ → Type 0) → P precondition → P addition → P deletion → (r : ℕ) → r < schema_roles → P r
of-each-role P x y z zero l = x
of-each-role P x y z (suc zero) l = y
of-each-role P x y z (suc (suc zero)) l = z
of-each-role P x y z (suc (suc (suc r))) l = absurd (omega arith)
