-- The atoms of one role in a part's schema: each fits the split's predicates, and no two are the same.
-- Old atoms stay apart because renumbering by the index among the part's own parameters can be undone; a token's
-- predicate is higher than every old one; a par has a parameter of two parts, and so is one of the split's predicates.
use Prim.Native.Nat.{ℕ, suc, ◌≤◌, ◌<◌}
use mathlib.Core.Path.{◌≡◌, refl, sym, ◌∙◌, ap, ap₂}
use mathlib.Core.Bool.{Bool, true, false, cond}
use mathlib.Core.List.{List, [], ◌∷◌, ◌++◌, map, append-nil}
use native.Mathlib.Omega.{arith}
use lib.ListN.{length, get_or, length-map}
use lib.Dec.{eqb}
use borrow.Author.Tests.{ltb-true}
use Rattle.words.specs.Lists.{filter, up_to, index_of}
use Rattle.task.specs.Task.{Atom, Schema, Task, schema_fits}
use Rattle.task.specs.Run.{schema_at, of_role}
use Rattle.tokens.specs.Split.{has, params_of, first_position, last_position, parts, par_count, procnone, token, own}
use Rattle.tokens.specs.Split.{old_atoms, required, handed_on, first_here, last_here, later_here, pars, split_task}
use Rattle.words.proofs.Lists.{and_right, In, here, there, in-empty, in-get_or, map-in, up_to-in}
use Rattle.task.proofs.Tests.{SchemaTests, schema-tests}
use Rattle.task.proofs.States.{Fitting, SchemaFits, schema_fits-fits}
use Rattle.words.proofs.Ascending.{Once, once-up_from, once-filter}
use Rattle.arcs.proofs.OrderTaken.{OrderOf}
use Rattle.tokens.proofs.Places.{index-small, get_or-index, atom-has, in_params, params-in, At, first-at, last-at}
use Rattle.tokens.proofs.AtomLists.{SameAtom, Apart, apart_cons, distinct_apart, apart-append, apart-filter}
use Rattle.tokens.proofs.AtomLists.{apart-map, apart-once}
use Rattle.tokens.proofs.RoleAtoms.{renumber, atoms_here, par_atom, role_atoms, an-old, the-token, of-parameter}
use Rattle.tokens.proofs.RoleAtoms.{here-atom, from-role}
use Rattle.tokens.proofs.Predicates.{last_bare, predicate-count, old-arity, bare-arity, par-arity, par-known}
use Rattle.tokens.proofs.Predicates.{par-high, par-fixes, par-exists, token-low}
use Rattle.tokens.proofs.Accepted.{required-is, handed_on-is, token-high}

-- ---- renumbering can be undone
undo : (own xs : List ℕ) → ((x : ℕ) → In x xs → In x own) →
    map (λ i. get_or own i 0) (map (λ x. index_of x own) xs) ≡ xs
undo own [] h = refl
undo own (x ∷ xs) h =
    ap₂ (λ (y : ℕ) (ys : List ℕ). y ∷ ys) (get_or-index (h x (here refl))) (undo own xs (λ y i. h y (there i)))

renumber-fixes : (own xs ys : List ℕ) → ((x : ℕ) → In x xs → In x own) → ((y : ℕ) → In y ys → In y own) →
    map (λ x. index_of x own) xs ≡ map (λ x. index_of x own) ys → xs ≡ ys
renumber-fixes own xs ys h k e = sym (undo own xs h) ∙ ap (map (λ i. get_or own i 0)) e ∙ undo own ys k

own-once : (t : Task) (s : ℕ) (o : List ℕ) (j : ℕ) → Once (own t s o j)
unfolding own params_of up_to
own-once t s o j = once-filter (λ x. has (schema_at t s) x (get_or o j 0)) (once-up_from 0 (schema_at t s).params)

-- ---- the part at position j of an order of a schema that fits
pub record PartOf (t : Task) (s : ℕ) (o : List ℕ) (j : ℕ) : Type 0 where
  pub known : s < length t.schemas
  pub fits : schema_fits t.arities (schema_at t s) ≡ true
  pub order : OrderOf (schema_at t s) o
  pub inside : j < length o

module _ (t : Task) (s : ℕ) (o : List ℕ) (j : ℕ) (P : PartOf t s o j) where
  abbrev pub old : Schema
  old = schema_at t s

  abbrev pub mine : List ℕ
  mine = own t s o j

  pub tests : SchemaTests t.arities old
  tests = schema-tests t.arities old P.fits

  pub facts : SchemaFits t.arities old
  facts = schema_fits-fits t.arities old P.fits

  pub own_in : (a : Atom) → In a old.atoms → a.part ≡ get_or o j 0 → (x : ℕ) → In x a.args → In x mine
  unfolding own
  own_in a i e x k = params-in old x (get_or o j 0) ((facts.fit a i).small x k) (atom-has old x (get_or o j 0) a i e k)

  -- ---- a parameter at two positions has a par
  two-positions : (x i k : ℕ) → x < old.params → At old o x i → At old o x k → i < k → x < par_count t
  unfolding parts
  two-positions x i k l a b h =
      par-exists t s x (get_or o k 0) (get_or o i 0) P.known l (placed k b.inside) (placed i a.inside)
      (P.order.once i k h b.inside) b.found a.found
    where
      placed : (i : ℕ) → i < length o → get_or o i 0 < parts old
      placed i l = up_to-in (parts old) (get_or o i 0) (P.order.from (get_or o i 0) (in-get_or o i 0 l))

  mine-at : (x : ℕ) → In x mine → (x < old.params) × At old o x j
  unfolding own
  mine-at x i = let (l, e) = in_params old x (get_or o j 0) i in (l, record { inside = P.inside; found = e })

  later-par : (x : ℕ) → In x mine → later_here t s o j x ≡ true → x < par_count t
  unfolding later_here
  later-par x i h =
      let (l, a) = mine-at x i in
      two-positions x (first_position old o x) j l (first-at old o x j a) a (ltb-true (first_position old o x) j h)

  first-par : (x : ℕ) → In x mine → first_here t s o j x ≡ true → x < par_count t
  unfolding first_here
  first-par x i h =
      let (l, a) = mine-at x i in
      two-positions x j (last_position old o x) l a (last-at old o x j a)
      (ltb-true j (last_position old o x) (and_right (eqb (first_position old o x) j) _ h))

  last-par : (x : ℕ) → In x mine → last_here t s o j x ≡ true → x < par_count t
  unfolding last_here
  last-par x i h =
      let (l, a) = mine-at x i in
      two-positions x (first_position old o x) j l (first-at old o x j a) a
      (ltb-true (first_position old o x) j (and_right (eqb (last_position old o x) j) _ h))

  -- ---- one role
  -- a role's bare token and pars are predicates of the split
  pub record Tokens (k : ℕ) (test : ℕ → Bool) : Type 0 where
    pub high : procnone t ≤ k
    pub low : k ≤ last_bare t
    pub par : (x : ℕ) → In x mine → test x ≡ true → x < par_count t

  pub pre-tokens : Tokens (required t s o j) (later_here t s o j)
  unfolding parts
  pre-tokens = record {
    high = rw (required-is t s o j P.inside) (token-high t s o j);
    low = rw (required-is t s o j P.inside) (token-low t s o j P.known P.order.size (omega arith));
    par = later-par;
  }

  pub add-tokens : Tokens (handed_on t s o j) (first_here t s o j)
  unfolding parts
  add-tokens = record {
    high = rw (handed_on-is t s o j) (token-high t s o (suc j));
    low = rw (handed_on-is t s o j) (token-low t s o (suc j) P.known P.order.size P.inside);
    par = first-par;
  }

  pub del-tokens : Tokens (required t s o j) (last_here t s o j)
  del-tokens = record { high = pre-tokens.high; low = pre-tokens.low; par = last-par }

  module _ (r : ℕ) (without : Bool) (k : ℕ) (test : ℕ → Bool) (c : Tokens k test) where
    pub role-fits : (a : Atom) → In a (role_atoms t s o j r without k test) →
        Fitting (length mine) (split_task t).arities a.pred a.args
    unfolding token procnone
    role-fits a i = elim (from-role t s o j r without k test a i) [
      | an-old b m q p e ↦ rw e (record {
        known = omega (arith, (facts.fit b m).known, predicate-count t);
        count = length-map b.args (λ x. index_of x mine) ∙ (facts.fit b m).count ∙
            sym (old-arity t b.pred (facts.fit b m).known);
        small = λ x n.
            let (y, l, d) = map-in (λ x. index_of x mine) b.args x n in
            rw d (index-small (own_in b m p y l));
      })
      | the-token w e ↦ rw e (record {
        known = omega (arith, c.low, predicate-count t);
        count = sym (bare-arity t k c.high c.low);
        small = λ x n. absurd (in-empty n);
      })
      | of-parameter w x m u e ↦ rw e (record {
        known = par-known t x (c.par x m u);
        count = sym (par-arity t x (c.par x m u));
        small = λ y n. elim n [ here d ↦ rw d (index-small m) | there d ↦ absurd (in-empty d) ];
      })
    ]

    old_apart : Apart (old_atoms t s o j r)
    unfolding old_atoms of_role
    old_apart =
        apart-map (renumber t s o j r)
        (apart-filter (λ a. eqb (get_or o j 0) a.part)
        (apart-filter (λ a. eqb r a.role) (distinct_apart old.atoms tests.apart)))
        (λ a b i l e.
        let (m, q, p) = here-atom t s o j r a i in
        let (n, u, v) = here-atom t s o j r b l in
        record {
          role = q ∙ sym u;
          pred = e.pred;
          args = renumber-fixes mine a.args b.args (own_in a m p) (own_in b n v) e.args;
        })

    tokens-apart : Apart (token r k [] ∷ pars t s o j r test)
    unfolding pars token
    tokens-apart = apart_cons bare-par
        (apart-once (par_atom t s o j r) (once-filter test (own-once t s o j)) (λ x y e. par-fixes t x y e.pred))
      where
        bare-par : (b : Atom) → In b (pars t s o j r test) → SameAtom (token r k []) b → ⊥
        bare-par b i e =
            let (x, l, q) = map-in (par_atom t s o j r) (filter test mine) b i in
            let z = e.args ∙ ap (λ b. b.args) q in
            (let y : ◌≡◌ {A = ℕ} 0 1 = cc in omega arith)

    old-low : (a : Atom) → In a (old_atoms t s o j r) → a.pred < procnone t
    unfolding old_atoms procnone
    old-low a i =
        let (b, l, e) = map-in (renumber t s o j r) (atoms_here t s o j r) a i in
        rw e (facts.fit b (here-atom t s o j r b l).0).known

    token-up : (b : Atom) → In b (token r k [] ∷ pars t s o j r test) → procnone t ≤ b.pred
    unfolding pars token
    token-up b (here e) = rw e c.high
    token-up b (there i) =
        let (x, l, e) = map-in (par_atom t s o j r) (filter test mine) b i in
        rw e (par-high t x)

    pub role-apart : Apart (role_atoms t s o j r without k test)
    role-apart = go without
      where
        go : (b : Bool) → Apart (old_atoms t s o j r ++ cond b [] (token r k [] ∷ pars t s o j r test))
        go true = rw append-nil old_apart
        go false =
            apart-append old_apart tokens-apart
            (λ a b i l e. let x = old-low a i in let y = token-up b l in let z = e.pred in omega arith)
