-- Counting a next state's size: an atom that goes out counts where it still holds after those before it, one that
-- comes in where it holds neither in what is left nor among those before it. Numbers stand for the atoms.
use Prim.Native.Nat.{ℕ, suc, ◌+◌, ◌-◌, ◌/◌, ◌≤◌, ◌<◌}
use mathlib.Core.Path.{◌≡◌, refl, sym, ◌∙◌, ap, ap₂}
use mathlib.Core.Bool.{Bool, true, false, not, ◌&&◌, ◌||◌, and-true}
use mathlib.Core.List.{List, [], ◌∷◌, ◌++◌, map}
use native.Mathlib.Omega.{arith}
use lib.ListN.{length, get_or, length-map}
use lib.Dec.{eqb, leb}
use borrow.Author.Tests.{eqb-true, eq-eqb, not-true, not-false, le-leb}
use Rattle.words.specs.Lists.{all, any, filter, keep_if, up_from}
use Rattle.task.specs.Task.{Fact, Task, fact_eq, well_formed}
use Rattle.task.specs.Table.{task_of, is_table}
use Rattle.task.specs.Run.{holds, insert_all, remove_all, state_in, room_in, is_state}
use Rattle.task.specs.Records.{record_number, Known}
use Rattle.task.specs.Spans.{span, UnderWay, without, exchanged}
use Rattle.task.specs.declared.spans.Spans.{Spans}
use Rattle.words.specs.Words.{words_at}
use Rattle.words.proofs.Lists.{both-ft, bool-ext, In, here, there, map-append, up_from-in, up_from-last}
use Rattle.words.proofs.Lists.{length-up_from, all_in}
use Rattle.words.proofs.Words.{and-false}
use Rattle.task.proofs.States.{fact_eq-eq, eq-fact_eq, holds-in, in-holds, Asc, asc-insert_all, asc-filter, Fits}
use Rattle.task.proofs.Tables.{of-table}
use Rattle.task.proofs.Numbers.{number-fact}
use Rattle.task.proofs.Rows.{state-kept}
use Rattle.task.proofs.StateWords.{state-here, length-state_in}
use Rattle.task.proofs.RowsFound.{known-fits}
use Rattle.task.proofs.Changes.{
  remove-last,
  insert-last,
  removed-holds,
  inserted-holds,
  remove-held,
  remove-missing,
  insert-missing,
  insert-held,
  insert_all-length,
}
use Rattle.task.proofs.SpanLaws.{facts-asc, atom-known}

-- ---- numbers for atoms
module _ (t : Task) (wf : well_formed t ≡ true) (f : Fact) (number : ℕ) (c : Fits t f) (e : record_number f ≡ number)
  where
    number_is : (g : Fact) → Fits t g → eqb (record_number g) number ≡ fact_eq f g
    number_is g d = bool-ext (eqb (record_number g) number) (fact_eq f g)
        (λ h. eq-fact_eq f g (number-fact t wf f g c d (e ∙ sym (eqb-true (record_number g) number h))))
        (λ h. eq-eqb (record_number g) number (ap record_number (sym (fact_eq-eq f g h)) ∙ e))

    none-holds : (g : ℕ → Fact) (numbers ks : List ℕ) →
        ((k : ℕ) → In k ks → Fits t (g k) × (get_or numbers k 0 ≡ record_number (g k))) →
        all (λ a. not (eqb a number)) (map (λ k. get_or numbers k 0) ks) ≡ not (holds (map g ks) f)
    unfolding all holds any
    none-holds g numbers [] h = refl
    none-holds g numbers (k ∷ ks) h =
        let (fits, is) = h k (here refl) in
        ap₂ (λ (a b : Bool). not a && b) (ap (λ (a : ℕ). eqb a number) is ∙ number_is (g k) fits)
        (none-holds g numbers ks (λ x i. h x (there i))) ∙
        nor (fact_eq f (g k)) (holds (map g ks) f)
      where
        nor : (a b : Bool) → not a && not b ≡ not (a || b)
        nor true b = refl
        nor false b = refl

-- that none of the numbers is the atom's says that it is none of the atoms
pub span-absent : {t : Task} {g : ℕ → Fact} {spans : Spans} {numbers state : List ℕ} {n : ℕ} →
    UnderWay t g spans numbers state n → (a b : ℕ) → b ≤ spans.end → {f : Fact} {number : ℕ} →
    Known t state n f number →
    all (λ x. not (eqb x number)) (words_at numbers a (b - a)) ≡ not (holds (span g a b) f)
unfolding span words_at
span-absent {t} {g} {numbers = numbers} u a b l {f} {number} d =
    none-holds t d.task f number (known-fits d) d.is g numbers (up_from a (b - a)) (λ k i.
    let (m, z) = up_from-in a (b - a) k i in
    let inside : k < _ = omega arith in (known-fits (atom-known u k inside), u.number k inside))

span_last : (g : ℕ → Fact) (a k : ℕ) → a ≤ k → span g a (k + 1) ≡ span g a k ++ (g k ∷ [])
unfolding span
span_last g a k l =
    let e : k + 1 - a ≡ suc (k - a) = omega arith in
    let z : a + (k - a) ≡ k = omega arith in
    ap (λ (n : ℕ). map g (up_from a n)) e ∙
    (ap (map g) (up_from-last a (k - a) ∙ ap (λ (j : ℕ). up_from a (k - a) ++ (j ∷ [])) z) ∙
    map-append g (up_from a (k - a)) (k ∷ []))

span-first : (g : ℕ → Fact) (a : ℕ) → span g a a ≡ []
unfolding span up_from
span-first g a = let e : a - a ≡ 0 = omega arith in ap (λ (n : ℕ). map g (up_from a n)) e

length-span : (g : ℕ → Fact) (a b : ℕ) → length (span g a b) ≡ b - a
unfolding span
length-span g a b = length-map (up_from a (b - a)) g ∙ length-up_from a (b - a)

-- ---- what stays and what comes
pub stays-held : (fs s : List Fact) (f : Fact) (r : Bool) → holds s f ≡ true → r ≡ not (holds fs f) →
    r ≡ holds (remove_all fs s) f
stays-held fs s f r h e = e ∙ sym (removed-holds fs s f ∙ ap (λ (b : Bool). b && not (holds fs f)) h)

pub stays-missing : (fs s : List Fact) (f : Fact) → holds s f ≡ false → false ≡ holds (remove_all fs s) f
stays-missing fs s f h = sym (removed-holds fs s f ∙ ap (λ (b : Bool). b && not (holds fs f)) h)

-- one of those that all hold
pub one_holds : (fs s : List Fact) (f : Fact) → all (holds s) fs ≡ true → not (holds fs f) ≡ false → true ≡ holds s f
one_holds fs s f a h = sym (all_in (holds s) a (holds-in fs f (not-false (holds fs f) h)))

pub goes_first : (fs s : List Fact) (f : Fact) (r : Bool) → not (holds fs f) ≡ true → r ≡ holds s f →
    r ≡ holds (remove_all fs s) f
goes_first fs s f r h e =
    e ∙ sym (removed-holds fs s f ∙ (ap (λ (b : Bool). holds s f && b) h ∙ and-true (holds s f)))

pub goes-again : (fs s : List Fact) (f : Fact) → not (holds fs f) ≡ false → false ≡ holds (remove_all fs s) f
goes-again fs s f h = sym (removed-holds fs s f ∙ (ap (λ (b : Bool). holds s f && b) h ∙ and-false (holds s f)))

pub comes-new : (fs s : List Fact) (f : Fact) (r : Bool) → not (holds fs f) ≡ true → r ≡ holds s f →
    not r ≡ not (holds (insert_all fs s) f)
comes-new fs s f r h e = ap not (e ∙
    sym (inserted-holds fs s f ∙ ap (λ (b : Bool). b || holds s f) (not-true (holds fs f) h)))

pub comes-again : (fs s : List Fact) (f : Fact) → not (holds fs f) ≡ false → false ≡ not (holds (insert_all fs s) f)
comes-again fs s f h = ap not (sym (inserted-holds fs s f ∙
    ap (λ (b : Bool). b || holds s f) (not-false (holds fs f) h)))

-- ---- the count
module _ (fs : List Fact) (f : Fact) (s : List Fact) (a : Asc s) where
  pub size-goes : holds (remove_all fs s) f ≡ true → length (remove_all (fs ++ (f ∷ [])) s) + 1 ≡ length (remove_all fs s)
  unfolding remove_all
  size-goes h =
      let e = ap length (remove-last fs f s) in
      let z = remove-held f (remove_all fs s) (asc-filter (λ g. not (holds fs g)) a) h in
      omega arith

  pub size-stays : holds (remove_all fs s) f ≡ false → length (remove_all (fs ++ (f ∷ [])) s) ≡ length (remove_all fs s)
  size-stays h = ap length (remove-last fs f s) ∙ remove-missing f (remove_all fs s) h

  pub size-grows : holds (insert_all fs s) f ≡ false →
      length (insert_all (fs ++ (f ∷ [])) s) ≡ length (insert_all fs s) + 1
  size-grows h = ap length (insert-last fs f s) ∙ insert-missing f (insert_all fs s) (λ i. both-ft (in-holds i) h)

  pub size_same : holds (insert_all fs s) f ≡ true → length (insert_all (fs ++ (f ∷ [])) s) ≡ length (insert_all fs s)
  size_same h = ap length (insert-last fs f s) ∙ insert-held f (insert_all fs s) (asc-insert_all fs a) h

pub remove-length : (fs s : List Fact) → length (remove_all fs s) ≤ length s
unfolding remove_all filter keep_if
remove-length fs [] = omega arith
remove-length fs (g ∷ s) = go (not (holds fs g)) (remove-length fs s)
  where
    go : (b : Bool) → length (remove_all fs s) ≤ length s → length (keep_if b g (remove_all fs s)) ≤ length (g ∷ s)
    go true l = omega arith
    go false l = omega arith

-- ---- the loops' invariants
-- `done` gives the state after the atoms from `from` to k, and `size` is how long it is
pub record CountedSo (g : ℕ → Fact) (done : List Fact → List Fact) (from to k size : ℕ) : Type 0 where
  pub from_first : from ≤ k
  pub to_last : k ≤ to
  pub is : size ≡ length (done (span g from k))

module _ (g : ℕ → Fact) (done : List Fact → List Fact) where
  pub count-start : (from to size : ℕ) → from ≤ to → size ≡ length (done []) →
      CountedSo g done from to from size
  count-start from to size l e = record {
    from_first = omega arith;
    to_last = l;
    is = e ∙ ap (λ (fs : List Fact). length (done fs)) (sym (span-first g from));
  }

  -- one turn, by what it does to the length
  pub count_turn : {from to k size size' : ℕ} → CountedSo g done from to k size → k < to →
      size' ≡ length (done (span g from k ++ (g k ∷ []))) →
      CountedSo g done from to (k + 1) size'
  count_turn {from} {to} {k} c l e = record {
    from_first = let z = c.from_first in omega arith;
    to_last = omega arith;
    is = e ∙ ap (λ (fs : List Fact). length (done fs)) (sym (span_last g from k c.from_first));
  }

  pub count-end : {from to k size : ℕ} → CountedSo g done from to k size → to ≤ k →
      size ≡ length (done (span g from to))
  count-end {from} {to} {k} c l =
      let z = c.to_last in
      let e : k ≡ to = omega arith in
      c.is ∙ ap (λ (j : ℕ). length (done (span g from j))) e

pub removed-asc : (fs : List Fact) {s : List Fact} → Asc s → Asc (remove_all fs s)
unfolding remove_all
removed-asc fs a = asc-filter (λ g. not (holds fs g)) a

pub few-inserted : (fs gs : List Fact) {s : List Fact} → Asc s →
    length (insert_all fs (remove_all gs s)) ≤ length (remove_all gs s) + length fs
few-inserted fs gs {s} a = (insert_all-length fs (remove_all gs s) (removed-asc gs a)).1

-- the state of a table's task
pub state-asc : (w state : List ℕ) (n : ℕ) → is_table w ≡ true → is_state (task_of w) state n ≡ true →
    Asc (state_in (task_of w) state n)
state-asc w state n h e = (state-kept (task_of w) (of-table w h).0 state n e).state.asc

-- ---- room
module _ {t : Task} {g : ℕ → Fact} {spans : Spans} {numbers state : List ℕ} {n : ℕ}
    (u : UnderWay t g spans numbers state n) where
  pub state-room : n ≤ length state / 5
  unfolding room_in
  state-room = (state-here t state n u.state_is).room

  pub few-left : length (without t g spans state n) ≤ n
  few-left =
      let m = remove-length (span g spans.deletes spans.end) (state_in t state n) in
      let d = length-state_in t state n in
      omega arith

  pub left-room : {size : ℕ} → size ≡ length (without t g spans state n) → size ≤ length state / 5
  left-room e = let m = few-left in let r = state-room in omega arith

  -- the adds that have come in make the state longer by one each at most
  pub few-come : (k : ℕ) → length (insert_all (span g spans.adds k) (without t g spans state n)) ≤
      n + (k - spans.adds)
  few-come k =
      let m = few-inserted (span g spans.adds k) (span g spans.deletes spans.end) (facts-asc u) in
      let c = length-span g spans.adds k in
      let l = few-left in
      omega arith

  -- every add fits, beside the records left or more
  pub all_fit : {size : ℕ} → length (without t g spans state n) ≤ size → size ≤ length state / 5 →
      spans.deletes - spans.adds ≤ length state / 5 - size →
      true ≡ leb (length (exchanged t g spans state n)) (room_in state)
  unfolding room_in
  all_fit left r l =
      let m = few-inserted (span g spans.adds spans.deletes) (span g spans.deletes spans.end) (facts-asc u)
      in
      let c = length-span g spans.adds spans.deletes in
      sym (le-leb (length (exchanged t g spans state n)) (length state / 5) (omega arith))
