-- What the contracts of this crate's code speak of: the lent scratch, in which the arcs between parts and the
-- parameters of each are kept; two parts that stand as one in the test for a circle; and what is known of the parts at
-- each turn of the merging.
use Rattle.std.specs.Prelude.{ℕ, ◌+◌, ◌-◌, ◌≤◌, ◌<◌, ◌≡◌, Bool, true, false, cond, not, ◌&&◌, ◌||◌, List, length, get_or, eqb, ltb}
use Rattle.std.specs.Prelude.{Option, None, Some}
use Rattle.words.specs.Lists.{all, any, up_to}
use Rattle.words.specs.Words.{words_at}
use Rattle.words.specs.Sets.{member, set_bits}
use Rattle.task.specs.Limits.{most_atoms, most_parameters}
use Rattle.task.specs.Task.{Schema, Task, names}
use Rattle.task.specs.Run.{schema_at}
use Rattle.task.specs.Turns.{first_atom}
use Rattle.arcs.specs.Order.{in_part}
use Rattle.proposals.specs.Proposal.{PartPair, with_parts, proposed_parts}
use Rattle.proposals.specs.Circle.{Arcs, arcs_of, becoming, merged_arcs}
use Rattle.proposals.specs.Outcome.{scratch_words}

-- ---- the scratch
-- "one 64-bit word a part, a bit for each part it has an arc from": there are never more parts than a schema has atoms
abbrev pub arcs_to : List ℕ → ℕ → ℕ
arcs_to scratch q = get_or scratch q 0

-- whether part p has an arc to part q
abbrev pub arcs_in : List ℕ → Arcs
arcs_in scratch p q = member (arcs_to scratch q) p

-- behind them a word a part, a bit for each of its parameters
abbrev pub parameters_to : List ℕ → ℕ → ℕ
parameters_to scratch q = get_or scratch (most_atoms + q) 0

-- the words behind the scratch stay, and there are as many words as before
pub record KeepsBehind (lent after : List ℕ) : Type 0 where
  pub long : length after ≡ length lent
  pub behind : (i : ℕ) → scratch_words ≤ i → get_or after i 0 ≡ get_or lent i 0

-- so do the words of arcs, or those of parameters
abbrev pub KeepsArcs : List ℕ → List ℕ → Type 0
KeepsArcs lent after = (q : ℕ) → q < most_atoms → arcs_to after q ≡ arcs_to lent q

abbrev pub KeepsParameters : List ℕ → List ℕ → Type 0
KeepsParameters lent after = (q : ℕ) → q < most_atoms → parameters_to after q ≡ parameters_to lent q

-- none of n parts has an arc to itself
abbrev pub NoOwn : ℕ → Arcs → Type 0
NoOwn n arcs = (p : ℕ) → p < n → arcs p p ≡ false

-- of n parts, a and b are merged: the arcs between the n - 1 parts after that
pub record MergesArcs (a b n : ℕ) (lent after : List ℕ) : Type 0 where
  pub keeps : KeepsBehind lent after
  pub parameters : KeepsParameters lent after
  pub arcs : NoOwn n (arcs_in lent) → (p q : ℕ) → p < n - 1 → q < n - 1 →
      arcs_in after p q ≡ merged_arcs a b (arcs_in lent) p q

-- the same for their parameters
pub record MergesParameters (a b n : ℕ) (lent after : List ℕ) : Type 0 where
  pub keeps : KeepsBehind lent after
  pub arcs : KeepsArcs lent after
  pub named : (q x : ℕ) → q < n - 1 →
      member (parameters_to after q) x ≡ any (λ p. member (parameters_to lent p) x) (becoming a b q)

-- ---- two parts that stand as one
-- the parts that a or b has an arc from, but for the two
abbrev pub ArcsOfBoth : ℕ → ℕ → Arcs → ℕ → Type 0
ArcsOfBoth a b arcs joined = (p : ℕ) → member joined p ≡ (arcs p a || arcs p b) && (not (eqb a p) && not (eqb b p))

-- the parts that part q has an arc from, where a and b share theirs
abbrev pub shared_to : ℕ → ℕ → ℕ → List ℕ → ℕ → ℕ
shared_to a b joined scratch q = cond (eqb q a || eqb q b) joined (arcs_to scratch q)

-- the same as arcs
abbrev pub shared_in : ℕ → ℕ → ℕ → List ℕ → Arcs
shared_in a b joined scratch p q = member (shared_to a b joined scratch q) p

-- whether no unplaced part has an arc to part p
abbrev pub is_free : Arcs → ℕ → ℕ → Bool
is_free arcs unplaced p = not (any (λ q. arcs q p && member unplaced q) (up_to set_bits))

-- ---- the parts in play
-- n parts, "numbered without a gap"
pub record Numbered (n : ℕ) (ps : List ℕ) : Type 0 where
  pub below : all (λ p. ltb p n) ps ≡ true
  pub filled : all (λ p. any (eqb p) ps) (up_to n) ≡ true

-- its parameters are few enough for a set, and its atoms name no others
pub record Named (s : Schema) : Type 0 where
  pub few : s.params ≤ most_parameters
  pub known : (x : ℕ) → any (names x) s.atoms ≡ true → x < s.params

-- n parts of a schema, by the part numbers of its atoms: the scratch has their arcs and their parameters
pub record InPlay (s : Schema) (n : ℕ) (ps scratch : List ℕ) : Type 0 where
  pub size : length ps ≡ length s.atoms
  pub numbered : Numbered n ps
  pub arcs : (p q : ℕ) → p < n → q < n → arcs_in scratch p q ≡ arcs_of (with_parts s ps) p q
  pub named : (p x : ℕ) → p < n → member (parameters_to scratch p) x ≡ in_part (with_parts s ps).atoms x p

-- the pair that is found, if there is one
unfoldable pub pair_found : Option (ℕ × ℕ) → Option PartPair
pair_found (Some p) = Some (record { lower = p.0; higher = p.1 })
pair_found None = None

-- ---- all schemas
-- the words for the atoms of the first k schemas are the parts proposed for them
abbrev pub HaveParts : ℕ → Task → ℕ → List ℕ → Type 0
HaveParts width t k parts = (s : ℕ) → s < k →
    words_at parts (first_atom t s) (length (schema_at t s).atoms) ≡ proposed_parts width (schema_at t s)
