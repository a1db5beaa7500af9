-- The bytes of the schema that a part becomes, by what code finds of the part. The schema has its atoms role by role,
-- old ones before tokens, where code counts all old ones and then the tokens: a sum doesn't mind, since each old atom
-- has one of the three roles. All atoms are in part 0.
use Prim.Native.Nat.{ℕ, zero, suc, ◌+◌, ◌≤◌}
use mathlib.Core.Path.{◌≡◌, refl, sym, ◌∙◌, ap, ap₂, subst}
use mathlib.Core.Bool.{Bool, true, false, cond, ◌&&◌}
use mathlib.Core.List.{List, [], ◌∷◌, ◌++◌, map}
use native.Mathlib.Omega.{arith}
use lib.ListN.{length, get_or, replicate}
use lib.Dec.{eqb}
use borrow.Author.Tests.{eqb-true}
use Rattle.words.specs.Lists.{filter, keep_if, concat_map}
use Rattle.words.specs.Sets.{member, members, word_bits}
use Rattle.words.proofs.Lists.{In, here, there, map-in, filter-in}
use Rattle.task.specs.Task.{Atom, Pair, Schema, Task, precondition, addition, deletion}
use Rattle.task.specs.Run.{schema_at, of_role}
use Rattle.task.specs.Table.{task_of}
use Rattle.arcs.specs.Stretches.{stretch_in}
use Rattle.text.specs.Lines.{digits, entry_bytes, line}
use Rattle.text.specs.Text.{Key, Line, schema_line, differ_line, part_line, atom_line, key_name, key_of, write_line, atom_entry}
use Rattle.text.specs.Text.{pair_list, schema_lines}
use Rattle.text.proofs.Pieces.{pieces-map, pieces-same}
use Rattle.text.proofs.TableText.{role-key}
use Rattle.tokens.specs.Split.{has, token, orders, first_here, last_here, later_here, split_schema}
use Rattle.tokens.specs.Writing.{renumbered, old_in, par_in, PlaceOf, TokensOf}
use Rattle.tokens.specs.declared.part_atoms.PartPlace.{PartPlace}
use Rattle.tokens.specs.declared.part_atoms.PartTokens.{PartTokens}
use Rattle.tokens.proofs.AtomLists.{role-small}
use Rattle.tokens.proofs.RoleAtoms.{role_atoms, schema-atoms}
use Rattle.tokens.proofs.PartRoles.{PartOf, tests}
use Rattle.tokens.proofs.PartSchemas.{schema-roles, schema-part}
use Rattle.tokens.proofs.PartSplit.{here-members, set-size, old-same, par-same}
use Rattle.tokens.proofs.PairWords.{carried-is}
use Rattle.forecast.specs.Counting.{lines_bytes, row_line, atoms_bytes, part_line_bytes, schema_bytes, old_of, old_here}
use Rattle.forecast.specs.Counting.{tokens_here, part_tokens, pairs_bytes}
use Rattle.forecast.proofs.SplitText.{lines-append, lines-one}
use Rattle.forecast.proofs.TokenBytes.{bytes-more, bytes-append, required, added, deleted}

-- ---- atoms of a schema
-- each has one of the three roles
abbrev pub SchemaRoles : List Atom → Type 0
SchemaRoles atoms = (a : Atom) → In a atoms → a.role ≤ deletion

-- its line is that of its role
row-said : (a : Atom) → a.role ≤ deletion → write_line (atom_line a.role (atom_entry a)) ≡ row_line a
unfolding row_line write_line key_of
row-said a h = ap (λ (k : Key). line (key_name k) (entry_bytes (atom_entry a))) (role-key a.role h)

atoms-said : (atoms : List Atom) → SchemaRoles atoms →
    lines_bytes (map (λ a. atom_line a.role (atom_entry a)) atoms) ≡ atoms_bytes atoms
unfolding lines_bytes atoms_bytes
atoms-said atoms h =
    let said : Atom → Line = λ a. atom_line a.role (atom_entry a) in
    ap length (pieces-map write_line said atoms ∙
    pieces-same (λ a. write_line (said a)) row_line atoms (λ a i. row-said a (h a i)))

atoms-keep : (b : Bool) (a : Atom) (xs : List Atom) →
    atoms_bytes (keep_if b a xs) ≡ cond b (length (row_line a)) 0 + atoms_bytes xs
unfolding keep_if
atoms-keep true a xs = bytes-more a xs
atoms-keep false a xs = omega arith

both : (b : Bool) (xs ys : List Atom) →
    atoms_bytes (cond b [] (xs ++ ys)) ≡ atoms_bytes (cond b [] xs) + atoms_bytes (cond b [] ys)
unfolding atoms_bytes concat_map
both true xs ys = refl
both false xs ys = bytes-append xs ys

-- counted role by role, or all at once
by-role : (atoms : List Atom) → SchemaRoles atoms →
    atoms_bytes (of_role precondition atoms) +
    (atoms_bytes (of_role addition atoms) + atoms_bytes (of_role deletion atoms)) ≡
    atoms_bytes atoms
unfolding of_role filter atoms_bytes concat_map
by-role [] h = refl
by-role (a ∷ rest) h =
    omega (
      arith,
      by-role rest (λ b i. h b (there i)),
      atoms-keep (eqb precondition a.role) a (of_role precondition rest),
      atoms-keep (eqb addition a.role) a (of_role addition rest),
      atoms-keep (eqb deletion a.role) a (of_role deletion rest),
      atoms-keep true a rest,
      one a.role (length (row_line a)) (h a (here refl)),
    )
  where
    one : (r n : ℕ) → r ≤ deletion →
        cond (eqb precondition r) n 0 + (cond (eqb addition r) n 0 + cond (eqb deletion r) n 0) ≡ n
    one zero n l = omega arith
    one (suc zero) n l = omega arith
    one (suc (suc zero)) n l = omega arith
    one (suc (suc (suc r))) n l = absurd (omega arith)

-- ---- a schema all in part 0
bare_parts : (atoms : List Atom) → ((a : Atom) → In a atoms → a.part ≡ 0) →
    map (λ a. a.part) atoms ≡ replicate (length atoms) 0
bare_parts [] h = refl
bare_parts (a ∷ rest) h =
    ap₂ (λ (p : ℕ) (ps : List ℕ). p ∷ ps) (h a (here refl)) (bare_parts rest (λ b i. h b (there i)))

schema-is : (u : Schema) → SchemaRoles u.atoms → ((a : Atom) → In a u.atoms → a.part ≡ 0) →
    schema_bytes u ≡
    length (line "schema" (digits u.params)) + lines_bytes (map (λ q. differ_line (pair_list q)) u.pairs) +
    atoms_bytes u.atoms + part_line_bytes (length u.atoms)
unfolding schema_bytes schema_lines part_line_bytes write_line
schema-is u roles bare =
    let head : List Line = schema_line u.params ∷ [] in
    let pairs : List Line = map (λ q. differ_line (pair_list q)) u.pairs in
    let atoms : List Line = map (λ a. atom_line a.role (atom_entry a)) u.atoms in
    let parts : List ℕ = map (λ a. a.part) u.atoms in
    omega (
      arith,
      lines-append head (pairs ++ (atoms ++ (part_line parts ∷ []))),
      lines-append pairs (atoms ++ (part_line parts ∷ [])),
      lines-append atoms (part_line parts ∷ []),
      lines-one (schema_line u.params),
      atoms-said u.atoms roles,
      lines-one (part_line parts) ∙ ap (λ (ps : List ℕ). length (write_line (part_line ps))) (bare_parts u.atoms bare),
    )

-- ---- old atoms
module _ (own p : ℕ) where
  abbrev is_here : Atom → Bool
  is_here a = eqb p a.part

  abbrev anew : Atom → Atom
  anew a = renumbered own a.role a

  -- those of role r are just those among all
  old-of-role : (r : ℕ) (atoms : List Atom) → old_in own r p atoms ≡ of_role r (old_of own p atoms)
  unfolding old_in old_of of_role filter keep_if
  old-of-role r [] = refl
  old-of-role r (a ∷ rest) = go (eqb r a.role) (is_here a) refl refl (old-of-role r rest)
    where
      go : (b c : Bool) → eqb r a.role ≡ b → is_here a ≡ c → old_in own r p rest ≡ of_role r (old_of own p rest) →
          map (renumbered own r) (filter is_here (keep_if b a (of_role r rest))) ≡
          of_role r (map anew (keep_if c a (filter is_here rest)))
      go true true e f h =
          ap (λ (c : Bool). map (renumbered own r) (keep_if c a (filter is_here (of_role r rest)))) f ∙
          ap₂ (λ (b : Atom) (bs : List Atom). b ∷ bs) (ap (λ (k : ℕ). renumbered own k a) (eqb-true r a.role e)) h ∙
          ap (λ (b : Bool). keep_if b (anew a) (of_role r (old_of own p rest))) (sym e)
      go true false e f h = ap (λ (c : Bool). map (renumbered own r) (keep_if c a (filter is_here (of_role r rest)))) f ∙ h
      go false true e f h = h ∙ ap (λ (b : Bool). keep_if b (anew a) (of_role r (old_of own p rest))) (sym e)
      go false false e f h = h

  old-roles : (atoms : List Atom) → SchemaRoles atoms → SchemaRoles (old_of own p atoms)
  unfolding old_of
  old-roles atoms h a i =
      let (c, k, e) = map-in anew (filter is_here atoms) a i in
      omega (arith, ap (λ (a : Atom). a.role) e, h c (filter-in is_here atoms c k).0)

-- ---- a part
module _ (w : List ℕ) (s j : ℕ) (here : PartPlace) (place : PlaceOf w s j here)
    (P : PartOf (task_of w) s (orders (task_of w) s) j) where
  abbrev t : Task
  t = task_of w

  abbrev o : List ℕ
  o = orders t s

  -- its atoms of role r, by the sets of its parameters
  role-is : (r which : ℕ) (test : ℕ → Bool) {b c : Bool} {bare k : ℕ} → b ≡ c → bare ≡ k →
      ((x : ℕ) → member which x ≡ has (schema_at t s) x (get_or o j 0) && test x) →
      role_atoms t s o j r c k test ≡ of_role r (old_here w here) ++ cond b [] (tokens_here here r bare which)
  role-is r which test {b} {c} {bare} {k} d e f =
      ap₂ (λ (c : Bool) (k : ℕ). role_atoms t s o j r c k test) (sym d) (sym e) ∙
      ap₂ (λ (xs ys : List Atom). xs ++ cond b [] (token r bare [] ∷ ys))
      (sym (old-same t s o j P here.own place.own r) ∙
      ap₂ (old_in here.own r) (sym place.part) (sym place.atoms) ∙
      old-of-role here.own here.part.0 r (stretch_in w here.from here.to))
      (sym (par-same t s o j P here.own place.own here.par r which test place.par
      (here-members t s o j which test f)) ∙
      ap (λ (n : ℕ). map (par_in here.own here.par r) (members which n)) (sym place.params))

  module _ (tokens : PartTokens) (T : TokensOf t s j tokens) where
    -- its tokens that are none for the only part of a schema
    abbrev adding : List Atom
    adding = cond tokens.lone [] (added here tokens)

    abbrev deleting : List Atom
    deleting = cond tokens.lone [] (deleted here tokens)

    tokens-are : atoms_bytes (part_tokens here tokens) ≡
        atoms_bytes (required here tokens) + (atoms_bytes adding + atoms_bytes deleting)
    unfolding part_tokens
    tokens-are =
        omega (
          arith,
          bytes-append (required here tokens) (cond tokens.lone [] (added here tokens ++ deleted here tokens)),
          both tokens.lone (added here tokens) (deleted here tokens),
        )

    atoms_are : atoms_bytes (split_schema t s o j).atoms ≡
        atoms_bytes (old_here w here) + atoms_bytes (part_tokens here tokens)
    atoms_are =
        let old = old_here w here in
        let pre = of_role precondition old in
        let add = of_role addition old in
        let del = of_role deletion old in
        let roles : SchemaRoles (stretch_in w here.from here.to) =
        subst SchemaRoles (sym place.atoms) (role-small (schema_at t s).atoms (tests t s o j P).roles) in
        let all : (split_schema t s o j).atoms ≡
        (pre ++ required here tokens) ++ ((add ++ adding) ++ (del ++ deleting)) =
        schema-atoms t s o j ∙
        ap₂ (λ (xs ys : List Atom). xs ++ ys)
        (role-is precondition tokens.pars.later (later_here t s o j) {b = false} refl T.before T.pars.later)
        (ap₂ (λ (xs ys : List Atom). xs ++ ys)
        (role-is addition tokens.pars.first (first_here t s o j) T.alone T.behind T.pars.first)
        (role-is deletion tokens.pars.last (last_here t s o j) T.alone T.before T.pars.last)) in
        omega (
          arith,
          ap atoms_bytes all,
          bytes-append (pre ++ required here tokens) ((add ++ adding) ++ (del ++ deleting)),
          bytes-append (add ++ adding) (del ++ deleting),
          bytes-append pre (required here tokens),
          bytes-append add adding,
          bytes-append del deleting,
          by-role old (old-roles here.own here.part.0 (stretch_in w here.from here.to) roles),
          tokens-are,
        )

    pub part-is : schema_bytes (split_schema t s o j) ≡
        length (line "schema" (digits (length (members here.own word_bits)))) +
        pairs_bytes here.own (schema_at t s).pairs +
        (atoms_bytes (old_here w here) + atoms_bytes (part_tokens here tokens)) +
        part_line_bytes (length (split_schema t s o j).atoms)
    unfolding pairs_bytes
    part-is =
        omega (
          arith,
          schema-is (split_schema t s o j) (role-small (split_schema t s o j).atoms (schema-roles t s o j P))
              (schema-part t s o j P),
          ap (λ (n : ℕ). length (line "schema" (digits n))) (set-size t s o j P here.own place.own),
          ap (λ (qs : List Pair). lines_bytes (map (λ q. differ_line (pair_list q)) qs))
              (carried-is t s o j P here.own place.own),
          atoms_are,
        )
