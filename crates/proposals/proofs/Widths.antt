-- How many parameters two parts have together, by sets: as many as a set has that holds the parameters of either. A
-- schema's atoms name its own parameters alone, and these are few enough for the set of a word.
use Prim.Native.Nat.{ℕ, ◌<◌}
use mathlib.Core.Path.{◌≡◌, refl, sym, ◌∙◌, ap}
use mathlib.Core.Bool.{true, ◌||◌}
use mathlib.Core.List.{List}
use mathlib.Core.Logic.{inl, inr}
use native.Mathlib.Omega.{arith}
use lib.ListN.{length}
use borrow.Author.Tests.{leb-true}
use Rattle.words.specs.Lists.{up_to}
use Rattle.words.specs.Sets.{word_bits, member, members}
use Rattle.words.proofs.Lists.{or_cases, any-in, in-any, filter_same}
use Rattle.words.proofs.SetMembers.{filter-below}
use Rattle.task.specs.Limits.{most_parameters}
use Rattle.task.specs.Task.{Atom, Schema, names, schema_fits}
use Rattle.task.proofs.Tests.{schema-tests}
use Rattle.task.proofs.States.{names_in, schema_fits-fits}
use Rattle.arcs.specs.Order.{in_part}
use Rattle.proposals.specs.Proposal.{with_part, with_parts, together}
use Rattle.proposals.specs.Scratch.{Named}
use Rattle.proposals.proofs.Partitions.{parted-any}
use Rattle.proposals.proofs.PartNames.{part-names}

-- a well-formed schema is so
pub fits-named : (arities : List ℕ) (s : Schema) → schema_fits arities s ≡ true → Named s
fits-named arities s h = record {
  few = leb-true s.params most_parameters (schema-tests arities s h).params;
  known = λ x e.
      let (a, i, n) = any-in (names x) s.atoms e in
      ((schema_fits-fits arities s h).fit a i).small x (names_in x a n);
}

module _ (s : Schema) (known : Named s) (ps : List ℕ) where
  -- a part has parameters of the schema
  part-known : (x p : ℕ) → in_part (with_parts s ps).atoms x p ≡ true → x < s.params
  unfolding with_parts with_part names
  part-known x p h =
      let k = part-names (with_parts s ps).atoms x p h in
      known.known x
      (sym (parted-any (names x) (λ q c. refl) s.atoms ps) ∙ in-any (names x) k.one k.names-it)

  pub together-counted : (a b set : ℕ) →
      ((x : ℕ) → member set x ≡ in_part (with_parts s ps).atoms x a || in_part (with_parts s ps).atoms x b) →
      length (members set word_bits) ≡ together (with_parts s ps) a b
  unfolding together members with_parts
  together-counted a b set same =
      let few = known.few in
      ap length
      (filter-below (member set) s.params word_bits (omega arith) below
      ∙ filter_same (member set) (λ x. in_part atoms x a || in_part atoms x b) (up_to s.params) (λ x i. same x))
    where
      atoms : List Atom
      atoms = (with_parts s ps).atoms

      below : (x : ℕ) → member set x ≡ true → x < s.params
      below x h = elim (or_cases (in_part atoms x a) (in_part atoms x b) (sym (same x) ∙ h)) [
        | inl e ↦ part-known x a e
        | inr e ↦ part-known x b e
      ]
