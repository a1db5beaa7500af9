-- What the search for a record's number says of the state that the words keep: whether the fact holds, and what taking
-- its row out or putting it in leaves. For every task and fact of which the words and the number are.
use Prim.Native.Nat.{ℕ, ◌+◌, ◌-◌, ◌*◌, ◌≤◌, ◌<◌}
use mathlib.Core.Path.{◌≡◌, refl, sym, subst}
use mathlib.Core.Bool.{Bool, true, false}
use mathlib.Core.List.{List, [], ◌∷◌}
use native.Mathlib.Omega.{arith}
use native.Mathlib.Decide.{dec_lt}
use lib.ListN.{length}
use Rattle.task.specs.Task.{Fact, Task}
use Rattle.task.specs.Run.{holds, insert, remove_all, state_in}
use Rattle.task.specs.Records.{
  row_number,
  RowsAscend,
  LowerBound,
  RowIs,
  RowFor,
  MovedDown,
  MovedUp,
  Written,
  Known,
  Keeps,
}
use Rattle.words.proofs.Lists.{false-if, In}
use Rattle.task.proofs.States.{holds-in, in-holds, args_fit-fitting, Fits}
use Rattle.task.proofs.Rows.{Kept, state-kept, kept-ascend, kept-keeps}
use Rattle.task.proofs.RowsChanged.{insert-present}
use Rattle.task.proofs.RowsMoved.{row_in, in_row, taken_out, put_in}

pub row_is : {w : List ℕ} {n k number : ℕ} {r b : Bool} → RowIs w n k number r → r ≡ b → RowIs w n k number b
row_is {w} {n} {k} {number} h e = subst (RowIs w n k number) e h

-- the first row that is not below the number has it, where one has it
pub bound-row : {w : List ℕ} {n number k : ℕ} → RowsAscend w n → LowerBound w n number k → RowFor w n number k
bound-row {w} {n} {number} {k} a b i l e = elim (dec_lt i k) [
  | yes x ↦ let z = b.below i x in absurd (omega arith)
  | no x ↦
      let y = b.from k (omega arith) (omega arith) in
      let z = a k i (omega arith) l in
      (omega arith, omega arith)
]

pub no_row : {w : List ℕ} {n number k : ℕ} → RowsAscend w n → LowerBound w n number k → RowIs w n k number false →
    (i : ℕ) → i < n → row_number w i ≡ number → ⊥
no_row a b r i l e = let (m, q) = bound-row a b i l e in r.missed refl m q

module _ {t : Task} {w : List ℕ} {n : ℕ} {f : Fact} {number : ℕ} (d : Known t w n f number) where
  abbrev s : List Fact
  s = state_in t w n

  pub known_kept : Kept t w n s
  known_kept = state-kept t d.task w n d.state

  pub known-fits : Fits t f
  known-fits = args_fit-fitting t.objects t.arities f.pred f.args d.fits

  found_in : {k : ℕ} → RowIs w n k number true → In f s
  found_in {k} r = let (l, e) = r.found refl in row_in t d.task w n s known_kept f number known-fits d.is k l e

  pub row-holds : {k : ℕ} {r : Bool} → RowFor w n number k → RowIs w n k number r → r ≡ holds s f
  row-holds {k} {r = true} b h = sym (in-holds (found_in h))
  row-holds {k} {r = false} b h = sym (false-if (holds s f) (λ e.
      let (i, l, q) = in_row t d.task w n s known_kept f number known-fits d.is (holds-in s f e) in
      let (m, z) = b i l q in
      h.missed refl m z))

  pub found-holds : {k : ℕ} {r : Bool} → LowerBound w n number k → RowIs w n k number r → r ≡ holds s f
  found-holds b h = row-holds (bound-row (kept-ascend t d.task w n s known_kept) b) h

  pub row_out : {k : ℕ} {out : List ℕ} → RowIs w n k number true → MovedDown w (5 * k) (5 * (n - 1)) out →
      length out ≡ length w →
      Keeps t out (n - 1) (remove_all (f ∷ []) s)
  row_out {k} {out} r m z =
      let (l, e) = r.found refl in
      kept-keeps t d.task out (n - 1) (remove_all (f ∷ []) s)
      (taken_out t d.task w n s known_kept f number known-fits d.is k out l e m z)

  pub row-there : {k : ℕ} → RowIs w n k number true → Keeps t w n (insert f s)
  row-there r = record { state = d.state; facts = sym (insert-present f s known_kept.state.asc (found_in r)) }

  pub row-came : {k : ℕ} {mid out : List ℕ} → LowerBound w n number k → RowIs w n k number false →
      MovedUp w (5 * k) (5 * n) mid →
      Written mid (5 * k) number out → length out ≡ length w → 5 * n + 5 ≤ length w → Keeps t out (n + 1) (insert f s)
  row-came {k} {mid} {out} b r m v z y =
      kept-keeps t d.task out (n + 1) (insert f s)
      (put_in t d.task w n s known_kept f number known-fits d.is k mid out b (r.missed refl) m v z y)
