-- Deletes and adds exchanged row for row, as the inner functions of running speak of it. No promise of an entry point
-- cites these.
use Rattle.std.specs.Prelude.{ℕ, ◌≤◌, ◌<◌, ◌≡◌, true, false, List, ◌∷◌, get_or}
use Rattle.task.specs.Task.{Fact, Task}
use Rattle.task.specs.Run.{holds, insert_all, remove_all, state_in, is_state}
use Rattle.task.specs.declared.exchange.New.{New}
use Rattle.task.specs.Records.{LowerBound}
use Rattle.task.specs.Spans.{span, AllHold}

-- the first atom from a on that does not hold in the state kept, with the place of its row, or b
pub record FirstNew (t : Task) (g : ℕ → Fact) (numbers : List ℕ) (a b : ℕ) (state : List ℕ) (n : ℕ) (r : New) : Type
    0 where
  pub from : a ≤ r.atom
  pub within : r.atom ≤ b
  pub hold : AllHold t g a r.atom state n
  pub new : r.atom < b → holds (state_in t state n) (g r.atom) ≡ false
  pub place : r.atom < b → LowerBound state n (get_or numbers r.atom 0) r.row

-- the delete k is dealt with, whatever deletes are still to come, and the adds before `next` hold
pub record ExchangedOne (t : Task) (g : ℕ → Fact) (add del k : ℕ) (found : List ℕ) (n : ℕ) (out : List ℕ)
    (left next : ℕ) : Type 0 where
  pub from : add ≤ next
  pub within : next ≤ del
  pub state : is_state t out left ≡ true
  pub hold : AllHold t g add next out left
  pub same : (fs : List Fact) →
      insert_all (span g add del) (remove_all fs (state_in t out left)) ≡
      insert_all (span g add del) (remove_all (g k ∷ fs) (state_in t found n))
