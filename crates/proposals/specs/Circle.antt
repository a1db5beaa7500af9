-- Whether parts stand in a circle: placed one after another, each with no arc from an unplaced one, all must be placed.
-- Arcs are a test of two parts, so that it doesn't matter how they are kept; and what becomes of them in a merge.
use Rattle.std.specs.Prelude.{ℕ, zero, suc, Bool, true, false, cond, not, ◌&&◌, List, [], ◌∷◌, length, eqb, ltb}
use Rattle.std.specs.Prelude.{Option, None, Some}
use Rattle.words.specs.Lists.{any, filter, first, up_to}
use Rattle.task.specs.Task.{Schema}
use Rattle.arcs.specs.Order.{arc}

abbrev pub Arcs : Type 0
Arcs = ℕ → ℕ → Bool

-- the arcs between a schema's parts
abbrev pub arcs_of : Schema → Arcs
arcs_of s = arc s.pairs s.atoms

-- ---- the test for a circle
-- a part that no unplaced part has an arc to
unfoldable pub free : Arcs → List ℕ → ℕ → Bool
unfolding any
free arcs unplaced p = not (any (λ q. arcs q p) unplaced)

-- the lowest of them, if there is one
unfoldable pub next_free : Arcs → List ℕ → Option ℕ
unfolding first free
next_free arcs unplaced = first (free arcs unplaced) unplaced

-- the part placed is unplaced no more; where none is free, not all can be placed
unfoldable pub place_one : (List ℕ → Bool) → List ℕ → Option ℕ → Bool
unfolding filter
place_one rest unplaced None = false
place_one rest unplaced (Some p) = rest (filter (λ q. not (eqb p q)) unplaced)

-- whether n unplaced parts can be placed one after another, each free when its turn comes
unfoldable pub all_placed : Arcs → ℕ → List ℕ → Bool
unfolding place_one next_free
all_placed arcs zero unplaced = true
all_placed arcs (suc n) unplaced = place_one (λ ps. all_placed arcs n ps) unplaced (next_free arcs unplaced)

-- the same of parts in a list
unfoldable pub placeable : Arcs → List ℕ → Bool
unfolding all_placed
placeable arcs unplaced = all_placed arcs (length unplaced) unplaced

-- n parts have no circle of arcs
unfoldable pub no_circle : Arcs → ℕ → Bool
unfolding placeable up_to
no_circle arcs n = placeable arcs (up_to n)

-- ---- the arcs after a merge
-- where part p was before b closed up
unfoldable pub came_from : ℕ → ℕ → ℕ
came_from b p = cond (ltb p b) p (suc p)

-- the parts that become part p when a and b merge
unfoldable pub becoming : ℕ → ℕ → ℕ → List ℕ
unfolding came_from
becoming a b p = cond (eqb p a) (a ∷ b ∷ []) (came_from b p ∷ [])

-- an arc between merged parts is one between parts that became them; "Arcs inside a part don't count"
unfoldable pub merged_arcs : ℕ → ℕ → Arcs → Arcs
unfolding becoming any
merged_arcs a b arcs p q =
    not (eqb p q) && any (λ x. any (λ y. arcs x y) (becoming a b q)) (becoming a b p)
