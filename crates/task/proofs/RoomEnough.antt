-- Room enough to run: a next state has at most as many more facts as its step adds. So with room for the facts at the
-- start and for as many more as the steps add together, no next state outgrows it.
use Prim.Native.Nat.{ℕ, suc, ◌+◌, ◌≤◌}
use mathlib.Core.Path.{◌≡◌, sym, ◌∙◌, ap}
use mathlib.Core.Bool.{Bool, true, false}
use mathlib.Core.List.{List, [], ◌∷◌}
use native.Mathlib.Omega.{arith}
use lib.ListN.{length, length-map}
use lib.Dec.{leb}
use borrow.Author.Tests.{le-leb}
use Rattle.words.specs.Lists.{sum}
use Rattle.task.specs.Task.{Fact, Task, addition, deletion}
use Rattle.task.specs.Run.{Step, schema_at, ground, of_role, ground_role, applies, next, Running, outgrown, turn}
use Rattle.task.specs.Run.{run_fitting, run_within, add_sum}
use Rattle.task.proofs.States.{Asc, asc-insert_all}
use Rattle.task.proofs.SizeLaws.{remove-length, removed-asc, few-inserted}

module _ (t : Task) (x : Step) {s : List Fact} (a : Asc s) where
  next-asc : Asc (next t s x)
  unfolding next
  next-asc = asc-insert_all (ground_role t addition x) (removed-asc (ground_role t deletion x) a)

  next-size : length (next t s x) ≤ length s + length (of_role addition (schema_at t x.schema).atoms)
  unfolding next ground_role
  next-size =
      let l = few-inserted (ground_role t addition x) (ground_role t deletion x) a in
      let m = remove-length (ground_role t deletion x) s in
      let e = length-map (of_role addition (schema_at t x.schema).atoms) (ground x.objects) in
      omega arith

module _ (room : ℕ) (t : Task) where
  abbrev from : ℕ → List Step → List Fact → Running
  from i xs s = run_fitting t (λ s. leb (length s) room) i xs s

  fitting : (i : ℕ) (xs : List Step) (s : List Fact) → Asc s → length s + add_sum t xs ≤ room →
      (j : ℕ) (e : List Fact) → from i xs s ≡ outgrown j e → ⊥
  unfolding run_fitting turn add_sum sum
  fitting i [] s a l j e q = let z : ◌≡◌ {A = ℕ} 0 1 = cc in omega arith
  fitting i (x ∷ xs) s a l j e q =
      let n = next-size t x a in
      go (applies t s x) (fitting (suc i) xs (next t s x) (next-asc t x a) (omega arith) j e)
      (ap (λ (fits : Bool). turn (applies t s x) fits i s (from (suc i) xs (next t s x)))
      (sym (le-leb (length (next t s x)) room (omega arith))) ∙ q)
    where
      go : (b : Bool) → (from (suc i) xs (next t s x) ≡ outgrown j e → ⊥) →
          turn b true i s (from (suc i) xs (next t s x)) ≡ outgrown j e → ⊥
      go true never q = never q
      go false never q = let z : ◌≡◌ {A = ℕ} 0 1 = cc in omega arith

  pub never-outgrown : (xs : List Step) (s : List Fact) → Asc s → length s + add_sum t xs ≤ room →
      (j : ℕ) (e : List Fact) → run_within room t xs s ≡ outgrown j e → ⊥
  unfolding run_within
  never-outgrown xs s a l j e q = fitting 0 xs s a l j e q
