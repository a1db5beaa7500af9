-- The lent scratch: the words of a part lie in it, and no two parts share one. So one word set changes one part's arcs
-- or parameters alone, and the words behind the scratch stay.
use Prim.Native.Nat.{ℕ, ◌+◌, ◌≤◌, ◌<◌}
use mathlib.Core.Path.{◌≡◌, refl, ◌∙◌}
use mathlib.Core.List.{List}
use native.Mathlib.Omega.{arith}
use lib.ListN.{length, set, length-set}
use lib.Seq.{get_or-set_same, get_or-set_other}
use Rattle.task.specs.Limits.{most_atoms}
use Rattle.proposals.specs.Outcome.{scratch_words}
use Rattle.proposals.specs.Scratch.{KeepsArcs, KeepsBehind, KeepsParameters, arcs_to, parameters_to}

-- ---- what lies behind the scratch
pub keeps-refl : (w : List ℕ) → KeepsBehind w w
keeps-refl w = record { long = refl; behind = λ i l. refl }

pub keeps-trans : {w v u : List ℕ} → KeepsBehind w v → KeepsBehind v u → KeepsBehind w u
keeps-trans a b = record { long = b.long ∙ a.long; behind = λ i l. b.behind i l ∙ a.behind i l }

-- a scratch that is kept has its words still
pub keeps-room : {w v : List ℕ} → KeepsBehind w v → scratch_words ≤ length w → scratch_words ≤ length v
keeps-room k h = let e = k.long in omega arith

-- ---- the words of a part
pub arcs-inside : {n q : ℕ} → scratch_words ≤ n → q < most_atoms → q < n
unfolding scratch_words
arcs-inside h l = omega arith

pub parameters-inside : {n q : ℕ} → scratch_words ≤ n → q < most_atoms → most_atoms + q < n
unfolding scratch_words
parameters-inside h l = omega arith

-- ---- one word set
module _ (w : List ℕ) (q : ℕ) (l : q < most_atoms) (x : ℕ) where
  pub arcs-set-keeps : KeepsBehind w (set w q x)
  unfolding scratch_words
  arcs-set-keeps = record {
    long = length-set w q x;
    behind = λ i b. get_or-set_other w q i x 0 (λ e. let o = e in omega arith);
  }

  pub arcs-set-here : scratch_words ≤ length w → arcs_to (set w q x) q ≡ x
  arcs-set-here h = get_or-set_same w q x 0 (arcs-inside h l)

  pub arcs-set-other : (p : ℕ) → (p ≡ q → ⊥) → arcs_to (set w q x) p ≡ arcs_to w p
  arcs-set-other p d = get_or-set_other w q p x 0 d

  pub arcs-set-parameters : KeepsParameters w (set w q x)
  arcs-set-parameters p m = get_or-set_other w q (most_atoms + p) x 0 (λ e. let o = e in omega arith)

  pub parameters-set-keeps : KeepsBehind w (set w (most_atoms + q) x)
  unfolding scratch_words
  parameters-set-keeps = record {
    long = length-set w (most_atoms + q) x;
    behind = λ i b. get_or-set_other w (most_atoms + q) i x 0 (λ e. let o = e in omega arith);
  }

  pub parameters-set-here : scratch_words ≤ length w → parameters_to (set w (most_atoms + q) x) q ≡ x
  parameters-set-here h = get_or-set_same w (most_atoms + q) x 0 (parameters-inside h l)

  pub parameters-set-other : (p : ℕ) → (p ≡ q → ⊥) → parameters_to (set w (most_atoms + q) x) p ≡ parameters_to w p
  parameters-set-other p d = get_or-set_other w (most_atoms + q) (most_atoms + p) x 0 (λ e. d (let o = e in omega arith))

  pub parameters-set-arcs : KeepsArcs w (set w (most_atoms + q) x)
  parameters-set-arcs p m = get_or-set_other w (most_atoms + q) p x 0 (λ e. let o = e in omega arith)
