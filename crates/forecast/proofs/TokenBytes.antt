-- The bytes of some atoms' lines add up, and so do those of a part's tokens: role by role, a bare token and its pars.
use Prim.Native.Nat.{ℕ, ◌+◌, ◌≤◌}
use mathlib.Core.Path.{◌≡◌, ◌∙◌, ap}
use mathlib.Core.Bool.{Bool, true, false, cond}
use mathlib.Core.List.{List, [], ◌∷◌, ◌++◌, append-nil}
use native.Mathlib.Omega.{arith}
use lib.ListN.{length, length-append}
use Rattle.words.specs.Lists.{concat_map}
use Rattle.task.specs.Task.{Atom, precondition, addition, deletion}
use Rattle.tokens.specs.declared.part_atoms.PartPlace.{PartPlace}
use Rattle.tokens.specs.declared.part_atoms.PartTokens.{PartTokens}
use Rattle.forecast.specs.Counting.{row_line, atoms_bytes, tokens_here, part_tokens}
use Rattle.forecast.proofs.SplitText.{pieces-append}

pub bytes-more : (a : Atom) (atoms : List Atom) → atoms_bytes (a ∷ atoms) ≡ length (row_line a) + atoms_bytes atoms
unfolding atoms_bytes concat_map
bytes-more a atoms = length-append (row_line a) (concat_map row_line atoms)

pub bytes-append : (these others : List Atom) → atoms_bytes (these ++ others) ≡ atoms_bytes these + atoms_bytes others
unfolding atoms_bytes
bytes-append these others = pieces-append row_line these others

-- ---- a part's tokens
module _ (here : PartPlace) (tokens : PartTokens) where
  abbrev pub required : List Atom
  required = tokens_here here precondition tokens.required tokens.pars.later

  abbrev pub added : List Atom
  added = tokens_here here addition tokens.handed tokens.pars.first

  abbrev pub deleted : List Atom
  deleted = tokens_here here deletion tokens.required tokens.pars.last

  -- whatever stands behind those required
  abbrev with-effects : Bool → List Atom
  with-effects b = required ++ cond b [] (added ++ deleted)

  pub required-within : atoms_bytes required ≤ atoms_bytes (part_tokens here tokens)
  unfolding part_tokens
  required-within = omega (arith, bytes-append required (cond tokens.lone [] (added ++ deleted)))

  pub lone-bytes : tokens.lone ≡ true → atoms_bytes (part_tokens here tokens) ≡ atoms_bytes required
  unfolding part_tokens
  lone-bytes e = ap (λ (b : Bool). atoms_bytes (with-effects b)) e ∙ ap atoms_bytes (append-nil required)

  pub parted-bytes : tokens.lone ≡ false →
      atoms_bytes (part_tokens here tokens) ≡ atoms_bytes required + (atoms_bytes added + atoms_bytes deleted)
  unfolding part_tokens
  parted-bytes e =
      ap (λ (b : Bool). atoms_bytes (with-effects b)) e ∙ bytes-append required (added ++ deleted) ∙
      ap (λ (n : ℕ). atoms_bytes required + n) (bytes-append added deleted)
