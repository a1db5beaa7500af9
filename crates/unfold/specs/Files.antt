-- The bytes of a file that may be missing.
use Rattle.std.specs.Prelude.{ℕ, List, [], Option, Some, None}

-- "a missing file counts as empty"; a file's bytes are those that its reader gives, where they are known
abbrev pub file_bytes : {R : Type 0} → (R → Option (List ℕ)) → Option R → Option (List ℕ)
file_bytes remaining None = Some []
file_bytes remaining (Some file) = remaining file
