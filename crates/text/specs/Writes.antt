-- Bytes written where there is room for them, and counted always: a writer that is run on no bytes gives a size.
use Rattle.std.specs.Prelude.{ℕ, ◌+◌, ◌≤◌, ◌≡◌, List, length}
use Rattle.words.specs.Lists.{put}

-- the place behind them; and where that lies in what is lent, they stand there from a place on
pub record Writes (lent : List ℕ) (at : ℕ) (run after : List ℕ) (next : ℕ) : Type 0 where
  pub place : next ≡ at + length run
  pub long : length after ≡ length lent
  pub words : next ≤ length lent → after ≡ put lent at run
