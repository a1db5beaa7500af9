-- "without partitions"; "No two tables that differ in anything but their partitions give the same text".
use Rattle.std.specs.Prelude.{ℕ, ◌+◌, ◌<◌, ◌≡◌, List, map, get_or}
use Rattle.task.specs.Limits.{table_words}
use Rattle.task.specs.Layout.{head_in, atom_base}
use Rattle.task.specs.Task.{Atom, Schema, Task}

-- a task with all its atoms in part 0
unfoldable pub without_part : Atom → Atom
without_part a = record { role = a.role; pred = a.pred; part = 0; args = a.args }

unfoldable pub undivided : Schema → Schema
unfolding without_part
undivided s = record { params = s.params; pairs = s.pairs; atoms = map without_part s.atoms }

unfoldable pub without_parts : Task → Task
unfolding undivided
without_parts t = record {
  objects = t.objects;
  arities = t.arities;
  schemas = map undivided t.schemas;
  init = t.init;
  goal = t.goal;
}

-- word i of a table is the part word of a schema atom
pub record PartWord (w : List ℕ) (i : ℕ) : Type 0 where
  pub atom : ℕ
  pub known : atom < (head_in w).schema_atoms
  pub place : i ≡ atom_base w atom + 3

-- two tables differ in nothing but their partitions
abbrev pub SameButParts : List ℕ → List ℕ → Type 0
SameButParts v w = (i : ℕ) → i < table_words → (PartWord v i → ⊥) → get_or v i 0 ≡ get_or w i 0
