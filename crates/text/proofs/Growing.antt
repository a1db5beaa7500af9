-- A test of a task, one atom or pair at a time: what it says of a list that gains a last one, both ways. Where a test
-- of the longer list gives the test of the shorter one, it gives that of every beginning (`prefix`).
use Prim.Native.Nat.{ℕ, suc, ◌≤◌}
use mathlib.Core.Path.{◌≡◌, refl, sym, ◌∙◌, ap, subst}
use mathlib.Core.Bool.{Bool, true, not, ◌&&◌}
use mathlib.Core.List.{List, [], ◌∷◌, ◌++◌, append_assoc, append-nil}
use mathlib.Core.Logic.{◌⊎◌, inl, inr}
use native.Mathlib.Omega.{arith}
use lib.ListN.{length, get_or, length-append}
use lib.Dec.{eqb, ltb, leb}
use borrow.Author.Tests.{ltb-true, leb-true, eqb-true, not-true, lt-ltb, le-leb, eq-eqb}
use Rattle.words.specs.Lists.{all, any, eq_list, last_or}
use Rattle.task.specs.Task.{Atom, Fact, same_atom, distinct, roles_ascend, ascending, fact_less, facts_fit, pair_less}
use Rattle.task.specs.Task.{pairs_ascend}
use Rattle.words.proofs.Lists.{both-ft, and_left, and_right, and_both, false-if, In, here, there, in-empty, in_left}
use Rattle.words.proofs.Lists.{in_right, in-append, any-in, in-any, eq_list-refl, eq_list-eq}
use Rattle.task.proofs.Tests.{fits, fact-tests, tests-fact}
use Rattle.text.specs.Text.{follows, pair_follows}

-- ---- lists
module _ {A : Type 0} where
  pub all_snoc : (p : A → Bool) (xs : List A) (x : A) → all p xs ≡ true → p x ≡ true → all p (xs ++ (x ∷ [])) ≡ true
  unfolding all
  all_snoc p [] x h k = and_both _ _ k refl
  all_snoc p (y ∷ xs) x h k =
      and_both _ _ (and_left (p y) (all p xs) h) (all_snoc p xs x (and_right (p y) (all p xs) h) k)

  pub not-any : (p : A → Bool) (xs : List A) → ((x : A) → In x xs → p x ≡ true → ⊥) → not (any p xs) ≡ true
  not-any p xs h = ap not (false-if (any p xs) (λ e. let (x, i, k) = any-in p xs e in h x i k))

  pub any-not : (p : A → Bool) (xs : List A) → not (any p xs) ≡ true → (x : A) → In x xs → p x ≡ true → ⊥
  any-not p xs h x i e = both-ft (in-any p i e) (not-true (any p xs) h)

  -- what passes to a list without its last element passes to each beginning
  pub prefix : (P : List A → Type 0) → ((xs : List A) (x : A) → P (xs ++ (x ∷ [])) → P xs) →
      (xs ys : List A) → P (xs ++ ys) → P xs
  prefix P f xs [] h = subst P (append-nil xs) h
  prefix P f xs (y ∷ ys) h = f xs y (prefix P f (xs ++ (y ∷ [])) ys (subst P (sym (append_assoc xs (y ∷ []) ys)) h))

  -- room for one more
  pub more_room : (xs : List A) (x : A) (n : ℕ) → ltb (length xs) n ≡ true → leb (length (xs ++ (x ∷ []))) n ≡ true
  more_room xs x n h =
      let k = ltb-true (length xs) n h in
      le-leb (length (xs ++ (x ∷ []))) n (omega (arith, length-append xs (x ∷ [])))

  pub room_for : (whole xs : List A) (x : A) (more : List A) (n : ℕ) → leb (length whole) n ≡ true →
      whole ≡ xs ++ (x ∷ more) → ltb (length xs) n ≡ true
  room_for whole xs x more n h e =
      let k = leb-true (length whole) n h in
      let l = ap length e in
      lt-ltb (length xs) n (omega (arith, length-append xs (x ∷ more)))

-- ---- roles
-- the role of the last atom, 0 where there is none
unfoldable pub last_role : List Atom → ℕ
last_role [] = 0
last_role (a ∷ []) = a.role
last_role (a ∷ b ∷ more) = last_role (b ∷ more)

pub last_role-snoc : (bs : List Atom) (a : Atom) → last_role (bs ++ (a ∷ [])) ≡ a.role
unfolding last_role
last_role-snoc [] a = refl
last_role-snoc (x ∷ []) a = refl
last_role-snoc (x ∷ y ∷ bs) a = last_role-snoc (y ∷ bs) a

pub record Roles (bs : List Atom) (a : Atom) : Type 0 where
  pub front : roles_ascend bs ≡ true
  pub last : last_role bs ≤ a.role
  pub small : a.role ≤ 2

pub roles-snoc : (bs : List Atom) (a : Atom) → Roles bs a → roles_ascend (bs ++ (a ∷ [])) ≡ true
unfolding roles_ascend last_role
roles-snoc [] a r = le-leb a.role 2 r.small
roles-snoc (x ∷ []) a r = and_both _ _ (le-leb x.role a.role r.last) (le-leb a.role 2 r.small)
roles-snoc (x ∷ y ∷ bs) a r =
    let first = leb x.role y.role in
    let rest = roles_ascend (y ∷ bs) in
    and_both _ _ (and_left first rest r.front)
    (roles-snoc (y ∷ bs) a (record { front = and_right first rest r.front; last = r.last; small = r.small }))

pub snoc-roles : (bs : List Atom) (a : Atom) → roles_ascend (bs ++ (a ∷ [])) ≡ true → Roles bs a
unfolding roles_ascend last_role
snoc-roles [] a h = record { front = refl; last = omega arith; small = leb-true a.role 2 h }
snoc-roles (x ∷ []) a h =
    let k = leb-true x.role a.role (and_left (leb x.role a.role) (leb a.role 2) h) in
    let l = leb-true a.role 2 (and_right (leb x.role a.role) (leb a.role 2) h) in
    record { front = le-leb x.role 2 (omega arith); last = k; small = l }
snoc-roles (x ∷ y ∷ bs) a h =
    let first = leb x.role y.role in
    let rest = roles_ascend (y ∷ (bs ++ (a ∷ []))) in
    let r = snoc-roles (y ∷ bs) a (and_right first rest h) in
    record { front = and_both _ _ (and_left first rest h) r.front; last = r.last; small = r.small }

-- ---- no atom twice
pub same-sym : (a b : Atom) → same_atom a b ≡ true → same_atom b a ≡ true
unfolding same_atom
same-sym a b h =
    let role = eqb a.role b.role in
    let pred = eqb a.pred b.pred in
    let args = eq_list a.args b.args in
    let k = and_right role (pred && args) h in
    let r = eqb-true a.role b.role (and_left role (pred && args) h) in
    let p = eqb-true a.pred b.pred (and_left pred args k) in
    and_both _ _ (eq-eqb b.role a.role (sym r))
    (and_both _ _ (eq-eqb b.pred a.pred (sym p))
    (rw (eq_list-eq a.args b.args (and_right pred args k)) (eq_list-refl b.args)))

pub distinct_snoc : (bs : List Atom) (a : Atom) → distinct bs ≡ true → not (any (same_atom a) bs) ≡ true →
    distinct (bs ++ (a ∷ [])) ≡ true
unfolding distinct
distinct_snoc [] a h k = and_both _ _ (not-any (same_atom a) [] (λ x i e. in-empty i)) refl
distinct_snoc (x ∷ bs) a h k =
    and_both _ _ (not-any (same_atom x) (bs ++ (a ∷ [])) (λ y i e. go y (in-append bs i) e))
    (distinct_snoc bs a (and_right (not (any (same_atom x) bs)) (distinct bs) h)
    (not-any (same_atom a) bs (λ y i e. any-not (same_atom a) (x ∷ bs) k y (there i) e)))
  where
    go : (y : Atom) → In y bs ⊎ In y (a ∷ []) → same_atom x y ≡ true → ⊥
    go y (inl i) e = any-not (same_atom x) bs (and_left (not (any (same_atom x) bs)) (distinct bs) h) y i e
    go y (inr (there x8)) e = elim x8 [ ]
    go y (inr (here q)) e = any-not (same_atom a) (x ∷ bs) k x (here refl) (same-sym x a (rw q at e))

pub snoc-distinct : (bs : List Atom) (a : Atom) → distinct (bs ++ (a ∷ [])) ≡ true →
    (distinct bs ≡ true) × (not (any (same_atom a) bs) ≡ true)
unfolding distinct
snoc-distinct [] a h = (refl, not-any (same_atom a) [] (λ x i e. in-empty i))
snoc-distinct (x ∷ bs) a h =
    let k = and_left (not (any (same_atom x) (bs ++ (a ∷ [])))) (distinct (bs ++ (a ∷ []))) h in
    let l = and_right (not (any (same_atom x) (bs ++ (a ∷ [])))) (distinct (bs ++ (a ∷ []))) h in
    let (d, n) = snoc-distinct bs a l in (
      and_both _ _
          (not-any (same_atom x) bs (λ y i e. any-not (same_atom x) (bs ++ (a ∷ [])) k y (in_left (a ∷ []) i) e)) d,
      not-any (same_atom a) (x ∷ bs) (λ y i e. go k n y i e),
    )
  where
    go : not (any (same_atom x) (bs ++ (a ∷ []))) ≡ true → not (any (same_atom a) bs) ≡ true →
        (y : Atom) → In y (x ∷ bs) → same_atom a y ≡ true → ⊥
    go k n y (here q) e =
        any-not (same_atom x) (bs ++ (a ∷ [])) k a (in_right bs (here refl)) (same-sym a x (rw q at e))
    go k n y (there i) e = any-not (same_atom a) bs n y i e

-- ---- in order
-- a list that ascends, each element beside the next, and whether one more comes behind its last
pub record Order {A : Type 0} (less : A → A → Bool) (ascends : List A → Bool) (behind : List A → A → Bool) :
    Type 0 where
  pub empty : ascends [] ≡ true
  pub one : (x : A) → ascends (x ∷ []) ≡ true
  pub more : (x y : A) (xs : List A) → ascends (x ∷ y ∷ xs) ≡ less x y && ascends (y ∷ xs)
  pub free : (x : A) → behind [] x ≡ true
  pub last : (y : A) (xs : List A) (x : A) → behind (y ∷ xs) x ≡ less (last_or xs y) x

-- facts, by predicate and then arguments; pairs, by the lower parameter and then the higher
pub facts-order : Order fact_less ascending follows
unfolding ascending follows
facts-order = record {
  empty = refl;
  one = λ x. refl;
  more = λ x y xs. refl;
  free = λ x. refl;
  last = λ y xs x. refl;
}

pub pairs-order : Order pair_less pairs_ascend pair_follows
unfolding pairs_ascend pair_follows
pairs-order = record {
  empty = refl;
  one = λ x. refl;
  more = λ x y xs. refl;
  free = λ x. refl;
  last = λ y xs x. refl;
}

-- the last of a list that isn't empty, by index
last-at : {A : Type 0} (x : A) (xs : List A) (d : A) → last_or xs x ≡ get_or (x ∷ xs) (length xs) d
unfolding last_or
last-at x [] d = refl
last-at x (y ∷ xs) d = last-at y xs d

module _ {A : Type 0} {less : A → A → Bool} {ascends : List A → Bool} {behind : List A → A → Bool}
    (order : Order less ascends behind) where
  pub ascends-snoc : (xs : List A) (x : A) → ascends xs ≡ true → behind xs x ≡ true → ascends (xs ++ (x ∷ [])) ≡ true
  unfolding last_or
  ascends-snoc [] x h k = order.one x
  ascends-snoc (y ∷ []) x h k = order.more y x [] ∙ and_both _ _ (sym (order.last y [] x) ∙ k) (order.one x)
  ascends-snoc (y ∷ z ∷ xs) x h k =
      let g = sym (order.more y z xs) ∙ h in
      order.more y z (xs ++ (x ∷ [])) ∙ and_both _ _ (and_left (less y z) (ascends (z ∷ xs)) g)
      (ascends-snoc (z ∷ xs) x (and_right (less y z) (ascends (z ∷ xs)) g)
      (order.last z xs x ∙ (sym (order.last y (z ∷ xs) x) ∙ k)))

  pub snoc-ascends : (xs : List A) (x : A) → ascends (xs ++ (x ∷ [])) ≡ true →
      (ascends xs ≡ true) × (behind xs x ≡ true)
  unfolding last_or
  snoc-ascends [] x h = (order.empty, order.free x)
  snoc-ascends (y ∷ []) x h =
      (order.one y, order.last y [] x ∙ and_left (less y x) (ascends (x ∷ [])) (sym (order.more y x []) ∙ h))
  snoc-ascends (y ∷ z ∷ xs) x h =
      let g = sym (order.more y z (xs ++ (x ∷ []))) ∙ h in
      let rest = ascends (z ∷ (xs ++ (x ∷ []))) in
      let (a, b) = snoc-ascends (z ∷ xs) x (and_right (less y z) rest g) in (
        order.more y z xs ∙ and_both _ _ (and_left (less y z) rest g) a,
        order.last y (z ∷ xs) x ∙ (sym (order.last z xs x) ∙ b),
      )

  -- whether one comes behind the last, by index
  pub first-behind : (xs : List A) (x : A) → length xs ≡ 0 → behind xs x ≡ true
  first-behind [] x e = order.free x
  first-behind (y ∷ xs) x e = absurd (omega arith)

  pub later-behind : (xs : List A) (x : A) (k : ℕ) (d : A) → length xs ≡ suc k → behind xs x ≡ less (get_or xs k d) x
  later-behind [] x k d e = absurd (omega arith)
  later-behind (y ∷ xs) x k d e =
      let z : length xs ≡ k = omega arith in
      order.last y xs x ∙ ap (λ (y : A). less y x) (last-at y xs d ∙ ap (λ (i : ℕ). get_or (y ∷ xs) i d) z)

pub more-facts : (n : ℕ) (ns : List ℕ) (fs : List Fact) (f : Fact) → facts_fit n ns fs ≡ true → fits n ns f ≡ true →
    follows fs f ≡ true → facts_fit n ns (fs ++ (f ∷ [])) ≡ true
more-facts n ns fs f h k l =
    let c = fact-tests n ns fs h in
    tests-fact n ns (fs ++ (f ∷ []))
    (record { fit = all_snoc (fits n ns) fs f c.fit k; order = ascends-snoc facts-order fs f c.order l })
