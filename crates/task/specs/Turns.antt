-- What one step and a whole list do to a state in lent words, as the inner functions of running speak of them.
-- No promise of an entry point cites these.
use Rattle.task.specs.declared.refusals.Reason.TheVariants as reason
use Rattle.std.specs.Prelude.{ℕ, ◌≤◌, ◌<◌, ◌≡◌, true, false, List, map, length, get_or, take, leb, ◌⊎◌, Result, Ok, Err}
use Rattle.task.specs.declared.refusals.Reason.{Reason}
use Rattle.task.specs.declared.running.Stop.{Stop}
use Rattle.words.specs.Lists.{sum}
use Rattle.task.specs.Task.{Schema, Task, Fact}
use Rattle.task.specs.Table.{atom_in}
use Rattle.task.specs.Run.{Step, applies, next, room_in, state_in, Running, ran, stopped, outgrown}
use Rattle.task.specs.Records.{Keeps}

-- the index of the first atom of schema s
abbrev pub first_atom : Task → ℕ → ℕ
first_atom t s = sum (take s (map (λ (s : Schema). length s.atoms) t.schemas))

-- the index of its first pair
abbrev pub first_pair : Task → ℕ → ℕ
first_pair t s = sum (take s (map (λ (s : Schema). length s.pairs) t.schemas))

-- the starts of the schemas' atoms, and the end of the last
abbrev pub Starts : Task → List ℕ → Type 0
Starts t starts = (s : ℕ) → s ≤ length t.schemas → get_or starts s 0 ≡ first_atom t s

-- the atoms from a to r - 1 have the role, and r is no such atom or b
pub record RoleEnds (table : List ℕ) (a b role r : ℕ) : Type 0 where
  pub from : a ≤ r
  pub within : r ≤ b
  pub has : (k : ℕ) → a ≤ k → k < r → (atom_in table k).role ≡ role
  pub stops : r < b → (atom_in table r).role ≡ role → ⊥

-- a step ran and left so many records; or a precondition is missing; or the next state is outgrown
unfoldable pub Turned : Task → Step → List ℕ → ℕ → Result ℕ Reason → List ℕ → Type 0
Turned t x found n (Ok left) out =
    (applies t (state_in t found n) x ≡ true) × (leb (length (next t (state_in t found n) x)) (room_in found) ≡ true) ×
    Keeps t out left (next t (state_in t found n) x)
Turned t x found n (Err r) out =
    (((r ≡ reason.MissingPrecondition) × (applies t (state_in t found n) x ≡ false)) ⊎
    ((r ≡ reason.StateTooLarge) × (applies t (state_in t found n) x ≡ true) ×
    (leb (length (next t (state_in t found n) x)) (room_in found) ≡ false))) × (out ≡ found)

-- a list stopped at a step by a missing precondition, or by a next state that is outgrown
abbrev pub StoppedBy : Reason → ℕ → List Fact → Running → Type 0
StoppedBy r i s run =
    ((r ≡ reason.MissingPrecondition) × (run ≡ stopped i s)) ⊎ ((r ≡ reason.StateTooLarge) × (run ≡ outgrown i s))

-- how a list ended, with the state that it left
unfoldable pub EndedAs : Result ℕ Stop → List Fact → Running → Type 0
EndedAs (Ok left) s run = run ≡ ran s
EndedAs (Err stop) s run = StoppedBy stop.reason stop.step s run

unfoldable pub records_left : Result ℕ Stop → ℕ
records_left (Ok left) = left
records_left (Err stop) = stop.left
