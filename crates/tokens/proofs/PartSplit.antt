-- The words that are put for a part are those of its schema in the split: its set of parameters has just the part's
-- own, so a parameter's number among the set's is its index among the own, and its atoms are those of each role.
use Prim.Native.Nat.{ℕ, suc, ◌+◌, ◌-◌, ◌<◌}
use mathlib.Core.Path.{◌≡◌, refl, sym, ◌∙◌, ap, ap₂}
use mathlib.Core.Bool.{Bool, true, false, cond, ◌&&◌, not}
use mathlib.Core.List.{List, [], ◌∷◌, ◌++◌, map}
use native.Mathlib.Omega.{arith}
use lib.ListN.{length, get_or, length-append}
use lib.Seq.{get_or-append-add}
use borrow.Author.Tests.{leb-true}
use Rattle.words.specs.Lists.{filter, keep_if, concat_map, up_from, up_to, index_of}
use Rattle.task.specs.Limits.{most_parameters}
use Rattle.task.specs.Task.{Atom, Task, precondition, addition, deletion}
use Rattle.task.specs.Run.{schema_at}
use Rattle.task.specs.Table.{atom_words, task_of}
use Rattle.words.proofs.Lists.{In, map_same, filter-in, append-concat_map, filter-append, up_from-append, filter_same}
use Rattle.words.specs.Sets.{member, members, word_bits}
use Rattle.tokens.specs.Split.{has, params_of, orders, par_token, token, own, old_atoms, first_here}
use Rattle.tokens.specs.Split.{last_here, later_here, pars, split_schema}
use Rattle.tokens.specs.Writing.{new_number, renumbered, old_in, par_in, old_words, par_words, token_words, role_words}
use Rattle.std.specs.Bool.{then_some}
use Rattle.tokens.specs.Writing.{part_words}
use Rattle.tokens.specs.Writing.{PlaceOf, TokensOf}
use Rattle.tokens.specs.declared.part_atoms.PartPlace.{PartPlace}
use Rattle.words.proofs.Sums.{filter-filter}
use Rattle.tokens.proofs.Places.{index-get_or, in_params}
use Rattle.tokens.proofs.RoleAtoms.{renumber, atoms_here, par_atom, role_atoms, here-atom, pre_atoms, add_atoms}
use Rattle.tokens.proofs.RoleAtoms.{del_atoms, schema-atoms}
use Rattle.tokens.proofs.PartRoles.{PartOf, tests, own_in}
use Rattle.tokens.proofs.ParPlaces.{own-listed}
use Rattle.tokens.specs.declared.part_atoms.PartTokens.{PartTokens}
use Rattle.tokens.specs.declared.part_atoms.RoleTokens.{RoleTokens}

-- ---- numbers in a set of bits
module _ (set n x : ℕ) (l : x < n) (e : member set x ≡ true) where
  -- those below a member, it, and those behind it
  members-split : members set n ≡ members set x ++ (x ∷ filter (member set) (up_from (suc x) (n - suc x)))
  unfolding members up_to up_from filter
  members-split =
      let m : n ≡ x + suc (n - suc x) = omega arith in
      let z : 0 + x ≡ x = omega arith in
      ap (λ (k : ℕ). filter (member set) (up_from 0 k)) m ∙
      ap (filter (member set)) (up_from-append 0 x (suc (n - suc x))) ∙
      filter-append (member set) (up_from 0 x) (up_from (0 + x) (suc (n - suc x))) ∙
      ap (λ (k : ℕ). filter (member set) (up_from 0 x) ++ filter (member set) (up_from k (suc (n - suc x)))) z ∙
      ap (λ (b : Bool). filter (member set) (up_from 0 x) ++
      keep_if b x (filter (member set) (up_from (suc x) (n - suc x)))) e

  -- a member's index is the number of those below it
  pub index-member : new_number set x ≡ index_of x (members set n)
  unfolding members up_to
  index-member =
      let k = length (members set x) in
      let rest = x ∷ filter (member set) (up_from (suc x) (n - suc x)) in
      let s = members-split in
      let z : k ≡ k + 0 = omega arith in
      let l : k < length (members set n) = omega (arith, ap length s, length-append (members set x) rest) in
      let g : get_or (members set n) k 0 ≡ x =
      ap (λ (xs : List ℕ). get_or xs k 0) s ∙
      (ap (λ (i : ℕ). get_or (members set x ++ rest) i 0) z ∙ get_or-append-add (members set x) rest 0 0) in
      sym (index-get_or (member set) 0 n k l) ∙ ap (λ (y : ℕ). index_of y (members set n)) g

-- the own parameters that a test takes, as a set
pub here-members : (t : Task) (s : ℕ) (o : List ℕ) (j which : ℕ) (test : ℕ → Bool) →
    ((x : ℕ) → member which x ≡ has (schema_at t s) x (get_or o j 0) && test x) →
    filter test (own t s o j) ≡ members which (schema_at t s).params
unfolding own params_of members
here-members t s o j which test h =
    let mine : ℕ → Bool = λ x. has (schema_at t s) x (get_or o j 0) in
    filter-filter test mine (up_to (schema_at t s).params) ∙
    filter_same (λ x. mine x && test x) (member which) (up_to (schema_at t s).params) (λ x i. sym (h x))

-- ---- a part
module _ (t : Task) (s : ℕ) (o : List ℕ) (j : ℕ) (P : PartOf t s o j) (set : ℕ)
    (is : (x : ℕ) → member set x ≡ has (schema_at t s) x (get_or o j 0)) where
  pub own-members : own t s o j ≡ members set (schema_at t s).params
  unfolding own params_of members
  own-members =
      filter_same (λ x. has (schema_at t s) x (get_or o j 0)) (member set) (up_to (schema_at t s).params)
      (λ x i. sym (is x))

  -- the set has as many numbers as the part's schema has parameters
  pub set-size : length (members set word_bits) ≡ (split_schema t s o j).params
  unfolding split_schema
  set-size =
      let few = leb-true (schema_at t s).params most_parameters (tests t s o j P).params in
      ap length (own-listed t s o j word_bits P.fits (omega arith) set is)

  pub new-index : (x : ℕ) → In x (own t s o j) → new_number set x ≡ index_of x (own t s o j)
  unfolding own
  new-index x i =
      let (l, h) = in_params (schema_at t s) x (get_or o j 0) i in
      index-member set (schema_at t s).params x l (is x ∙ h) ∙ ap (index_of x) (sym own-members)

  pub old-same : (r : ℕ) → old_in set r (get_or o j 0) (schema_at t s).atoms ≡ old_atoms t s o j r
  unfolding old_in old_atoms
  old-same r = map_same (renumbered set r) (renumber t s o j r) (atoms_here t s o j r) (λ a i.
      let (k, q, p) = here-atom t s o j r a i in
      ap {B = Atom} (λ (args : List ℕ). record { role = r; pred = a.pred; part = 0; args = args })
      (map_same (new_number set) (λ x. index_of x (own t s o j)) a.args
      (λ x m. new-index x (own_in t s o j P a k p x m))))

  pub par-same : (par r which : ℕ) (test : ℕ → Bool) → par ≡ par_token t 0 →
      filter test (own t s o j) ≡ members which (schema_at t s).params →
      map (par_in set par r) (members which (schema_at t s).params) ≡ pars t s o j r test
  unfolding pars par_token
  par-same par r which test q e =
      ap (map (par_in set par r)) (sym e) ∙
      map_same (par_in set par r) (par_atom t s o j r) (filter test (own t s o j)) (λ x i.
      let (m, u) = filter-in test (own t s o j) x i in
      let z : par + x ≡ par_token t x = omega arith in
      ap₂ (λ (p k : ℕ). token r p (k ∷ [])) z (new-index x m))

-- ---- its words
module _ (w : List ℕ) (s j : ℕ) (here : PartPlace) (place : PlaceOf w s j here)
    (P : PartOf (task_of w) s (orders (task_of w) s) j) where
  abbrev t : Task
  t = task_of w

  abbrev o : List ℕ
  o = orders t s

  abbrev words : List Atom → List ℕ
  words = concat_map (atom_words here.number)

  role-words : (r : ℕ) (lone : Bool) (tokens : RoleTokens) (test : ℕ → Bool) →
      filter test (own t s o j) ≡ members tokens.which (schema_at t s).params →
      role_words w here r (then_some (not lone) tokens) ≡ words (role_atoms t s o j r lone tokens.bare test)
  unfolding concat_map
  role-words r lone tokens test e =
      ap₂ (λ (xs ys : List ℕ). xs ++ ys) old (go lone) ∙
      sym (append-concat_map (atom_words here.number) (old_atoms t s o j r)
      (cond lone [] (token r tokens.bare [] ∷ pars t s o j r test)))
    where
      old : old_words w here r ≡ words (old_atoms t s o j r)
      old =
          ap₂ (λ (p : ℕ) (atoms : List Atom). words (old_in here.own r p atoms)) place.part place.atoms ∙
          ap words (old-same t s o j P here.own place.own r)

      new : par_words here r tokens.which ≡ words (pars t s o j r test)
      new =
          ap (λ (n : ℕ). words (map (par_in here.own here.par r) (members tokens.which n))) place.params ∙
          ap words (par-same t s o j P here.own place.own here.par r tokens.which test place.par e)

      go : (b : Bool) → token_words here r (then_some (not b) tokens) ≡
          words (cond b [] (token r tokens.bare [] ∷ pars t s o j r test))
      go true = refl
      go false = ap (λ (ys : List ℕ). atom_words here.number (token r tokens.bare []) ++ ys) new

  pub part-words : (tokens : PartTokens) → TokensOf t s j tokens →
      part_words w here tokens ≡ words (split_schema t s o j).atoms
  part-words tokens T =
      let sets = tokens.pars in
      let bare = tokens.required in
      let e = here-members t s o j sets.later (later_here t s o j) T.pars.later in
      let f = here-members t s o j sets.first (first_here t s o j) T.pars.first in
      let g = here-members t s o j sets.last (last_here t s o j) T.pars.last in
      ap₂ (λ (xs ys : List ℕ). xs ++ ys)
      (role-words precondition false (record { bare = bare; which = sets.later }) (later_here t s o j) e ∙
      ap (λ (p : ℕ). words (role_atoms t s o j precondition false p (later_here t s o j))) T.before)
      (ap₂ (λ (xs ys : List ℕ). xs ++ ys)
      (role-words addition tokens.lone (record { bare = tokens.handed; which = sets.first })
      (first_here t s o j) f ∙
      ap₂ (λ (b : Bool) (p : ℕ). words (role_atoms t s o j addition b p (first_here t s o j))) T.alone T.behind)
      (role-words deletion tokens.lone (record { bare = bare; which = sets.last }) (last_here t s o j) g ∙
      ap₂ (λ (b : Bool) (p : ℕ). words (role_atoms t s o j deletion b p (last_here t s o j))) T.alone T.before) ∙
      sym (append-concat_map (atom_words here.number) (add_atoms t s o j) (del_atoms t s o j))) ∙
      (sym (append-concat_map (atom_words here.number) (pre_atoms t s o j) (add_atoms t s o j ++ del_atoms t s o j)) ∙
      ap words (sym (schema-atoms t s o j)))
