-- A state's records, as the inner functions test them one after another. No promise of an entry point cites these.
use Rattle.std.specs.Prelude.{ℕ, ◌*◌, ◌-◌, Bool, ◌&&◌, ◌||◌, List, eqb}
use Rattle.words.specs.Lists.{eq_list, less_list}
use Rattle.words.specs.Words.{words_at}
use Rattle.task.specs.Limits.{record_size}
use Rattle.task.specs.Task.{Task, args_fit}
use Rattle.task.specs.Run.{record_at, record_words}

-- record i is that of a ground atom of the task: its predicate and arguments are the task's, and its words are theirs
abbrev pub is_record_at : Task → List ℕ → ℕ → Bool
is_record_at t w i =
    args_fit t.arities t.objects (record_at t w i).pred (record_at t w i).args &&
    eq_list (words_at w (record_size * i) record_size) (record_words (record_at t w i))

-- and comes behind the one before it
abbrev pub record_stands : Task → List ℕ → ℕ → Bool
record_stands t w i =
    is_record_at t w i &&
    (eqb i 0 ||
    less_list (words_at w (record_size * (i - 1)) record_size) (words_at w (record_size * i) record_size))
