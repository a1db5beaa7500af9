-- Words, or bytes, put into a lent buffer.
use Rattle.std.specs.Prelude.{ℕ, ◌+◌, ◌≡◌, List, length}
use Rattle.words.specs.Lists.{put}

-- they are put one after another from a place on, and the place behind them
pub record Puts (lent : List ℕ) (at : ℕ) (run after : List ℕ) (next : ℕ) : Type 0 where
  pub words : after ≡ put lent at run
  pub place : next ≡ at + length run
