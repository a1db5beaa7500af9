-- Before the schemas a place allows its own key alone, in a schema the keys up to `part`, and behind it those up to
-- `end`: the arms are the runs of keys that `last_key` tells apart.
use mathlib.Core.Logic.{⊎_elim}
use Rattle.std.proofs.Common.{refl}
use Rattle.text.specs.ReadCode.{last_key}
use Rattle.text.proofs.keys.last_key.Goals as goal

pub returns-in-Task : goal.returns-in-Task
unfolding last_key
returns-in-Task c = ⊎_elim (λ e. rw e refl) (⊎_elim (λ e. rw e refl) (λ e. rw e refl)) c.in-Task.is

pub returns-in-Differ : goal.returns-in-Differ
unfolding last_key
returns-in-Differ c =
    ⊎_elim (λ e. rw e refl)
    (⊎_elim (λ e. rw e refl) (⊎_elim (λ e. rw e refl) (⊎_elim (λ e. rw e refl) (λ e. rw e refl))))
    c.in-Differ.is

pub returns-in-Schema : goal.returns-in-Schema
unfolding last_key
returns-in-Schema c =
    ⊎_elim (λ e. rw e refl) (⊎_elim (λ e. rw e refl) (⊎_elim (λ e. rw e refl) (λ e. rw e refl))) c.in-Schema.is
