-- The spans of a step: its schema's atoms stand together, preconditions first, then adds, then deletes, so that the
-- ground atoms of each role are those of one span.
use Prim.Native.Nat.{ℕ, suc, ◌+◌, ◌-◌, ◌*◌, ◌≤◌, ◌<◌}
use mathlib.Core.Path.{◌≡◌, refl, sym, ◌∙◌, ap, ap₂}
use mathlib.Core.Bool.{true}
use mathlib.Core.List.{List, [], ◌∷◌, ◌++◌, map}
use native.Mathlib.Omega.{arith}
use native.Mathlib.Decide.{dec_lt}
use lib.ListN.{length, get_or}
use lib.Dec.{eqb}
use borrow.Author.Tests.{eq-eqb, ne_eqb}
use Rattle.words.specs.Lists.{all, filter, up_from}
use Rattle.task.specs.Limits.{step_size, most_atoms}
use Rattle.task.specs.Layout.{head_in}
use Rattle.task.specs.Task.{Atom, Fact}
use Rattle.task.specs.Table.{atom_in, task_of, is_table}
use Rattle.task.specs.Run.{
  Step,
  schema_at,
  ground,
  of_role,
  ground_role,
  holds,
  insert_all,
  remove_all,
  step_at,
  is_step_at,
  applies,
  next,
}
use Rattle.task.specs.Spans.{ground_at, ground_from, span, SpanOf}
use Rattle.task.specs.Turns.{first_atom, RoleEnds}
use Rattle.words.proofs.Lists.{In, map-in, up_from-in, map-append, up_from-append, filter-append, filter-all, filter_none}
use Rattle.task.proofs.TablesByIndex.{table-frame, schemas-word, start-suc}
use Rattle.task.proofs.StartLaws.{start-rises}
use Rattle.task.proofs.SchemaAtoms.{schema-inside, own-number, role-rises, role-most, atoms-listed, few-atoms}
use Rattle.task.proofs.GroundWords.{step-words, step-schema}

-- ---- lists
nil-append : {A : Type 0} (xs : List A) → xs ++ [] ≡ xs
nil-append [] = refl
nil-append {A} (x ∷ xs) = ap {B = List A} (λ (ys : List A). x ∷ ys) (nil-append xs)

map-map : {A B C : Type 0} (f : B → C) (g : A → B) (xs : List A) → map f (map g xs) ≡ map (λ x. f (g x)) xs
map-map f g [] = refl
map-map {C = C} f g (x ∷ xs) = ap {B = List C} (λ (ys : List C). f (g x) ∷ ys) (map-map f g xs)

-- ---- a step's spans
module _ (w steps : List ℕ) (i : ℕ) (h : is_table w ≡ true) (st : is_step_at (task_of w) steps i ≡ true) where
  abbrev x : Step
  x = step_at (task_of w) steps i

  abbrev schema : ℕ
  schema = get_or steps (step_size * i) 0

  pub schema-known : schema < (head_in w).schemas
  schema-known =
      let c = (step-words (task_of w) steps i st).is.known in
      let e = step-schema (task_of w) steps i in
      let n = schemas-word w (table-frame w h) in
      omega arith

  pub span-bounds : (start end : ℕ) → start ≡ first_atom (task_of w) schema → end ≡ first_atom (task_of w) (suc schema) →
      (start ≤ end) × (end ≤ (head_in w).schema_atoms)
  span-bounds start end es ee =
      let r = start-rises w h schema (suc schema) (omega arith) in
      let m = schema-inside w h schema schema-known in
      (omega arith, omega arith)

  module _ (start end add del : ℕ) (es : start ≡ first_atom (task_of w) schema)
      (ee : end ≡ first_atom (task_of w) (suc schema))
      (ra : RoleEnds w start end 0 add) (rd : RoleEnds w add end 1 del) where
    pub own-atoms : SpanOf w steps i start end
    own-atoms = record {
      tabled = h;
      stepped = st;
      ordered = (span-bounds start end es ee).0;
      atoms = λ k y z. (
        let q = (span-bounds start end es ee).1 in omega arith,
        own-number w h schema schema-known k (omega arith) (omega arith),
      );
    }

    pub own-few : end - start ≤ most_atoms
    own-few =
        let q = start-suc w (table-frame w h) schema schema-known in
        let l = few-atoms w h schema schema-known in
        omega arith

    not-pre : (k : ℕ) → add ≤ k → k < end → 1 ≤ (atom_in w k).role
    not-pre k l m = elim (dec_lt 0 (atom_in w k).role) [
      | yes z ↦ z
      | no z ↦
          let a = ra.from in
          let r = role-rises w h schema schema-known add k (omega arith) l (omega arith) in
          absurd (ra.stops (omega arith) (omega arith))
    ]

    deletes : (k : ℕ) → del ≤ k → k < end → (atom_in w k).role ≡ 2
    deletes k l m =
        let a = ra.from in
        let d = rd.from in
        let p = not-pre del d (omega arith) in
        let r = role-rises w h schema schema-known del k (omega arith) l (omega arith) in
        let u = role-most w h schema schema-known k (omega arith) (omega arith) in
        elim (dec_lt 1 (atom_in w del).role) [
          | yes z ↦ omega arith
          | no z ↦ absurd (rd.stops (omega arith) (omega arith))
        ]

    abbrev own : ℕ → Atom
    own k = atom_in w (start + k)

    abbrev adds-at : ℕ
    adds-at = add - start

    abbrev dels-at : ℕ
    dels-at = del - start

    abbrev ends_at : ℕ
    ends_at = end - start

    part : ℕ → ℕ → List Atom
    part a b = map own (up_from a (b - a))

    part-roles : (a b r : ℕ) → ((k : ℕ) → start + a ≤ k → k < start + b → (atom_in w k).role ≡ r) → (y : Atom) →
        In y (part a b) → y.role ≡ r
    unfolding part
    part-roles a b r f y j =
        let (k, j', e) = map-in own (up_from a (b - a)) y j in
        let (m, n) = up_from-in a (b - a) k j' in
        ap (λ (z : Atom). z.role) e ∙ f (start + k) (omega arith) (omega arith)

    atoms-split : (schema_at (task_of w) schema).atoms ≡ part 0 adds-at ++ (part adds-at dels-at ++ part dels-at ends_at)
    unfolding part
    atoms-split =
        let fr = table-frame w h in
        let a = ra.from in
        let b = ra.within in
        let c = rd.from in
        let d = rd.within in
        let q = start-suc w fr schema schema-known in
        let n : ℕ = length (schema_at (task_of w) schema).atoms in
        let x : ℕ = adds-at - 0 in
        let y : ℕ = dels-at - adds-at in
        let z : ℕ = ends_at - dels-at in
        let e₁ : n ≡ x + (y + z) = omega arith in
        let e₂ : 0 + x ≡ adds-at = omega arith in
        let e₃ : adds-at + y ≡ dels-at = omega arith in
        sym (atoms-listed w h schema schema-known) ∙
        (ap₂ (λ (u v : ℕ). map (λ k. atom_in w (u + k)) (up_from 0 v)) (sym es) e₁ ∙
        (ap (map own) (up_from-append 0 x (y + z) ∙
        ap (λ (u : ℕ). up_from 0 x ++ up_from u (y + z)) e₂ ∙
        ap (λ (ys : List ℕ). up_from 0 x ++ ys) (up_from-append adds-at y z ∙
        ap (λ (u : ℕ). up_from adds-at y ++ up_from u z) e₃)) ∙
        (map-append own (up_from 0 x) (up_from adds-at y ++ up_from dels-at z) ∙
        ap (λ (ys : List Atom). map own (up_from 0 x) ++ ys)
        (map-append own (up_from adds-at y) (up_from dels-at z)))))

    role-part : (r : ℕ) → List Atom → Type 0
    role-part r ys = (y : Atom) → In y ys → y.role ≡ r

    pres : role-part 0 (part 0 adds-at)
    unfolding role-part
    pres = part-roles 0 adds-at 0 (λ k l m. ra.has k (omega arith) (let a = ra.from in omega arith))

    adds : role-part 1 (part adds-at dels-at)
    unfolding role-part
    adds =
        let a = ra.from in
        let d = rd.from in
        part-roles adds-at dels-at 1 (λ k l m. rd.has k (omega arith) (omega arith))

    dels : role-part 2 (part dels-at ends_at)
    unfolding role-part
    dels =
        let a = ra.from in
        let d = rd.from in
        let e = rd.within in
        part-roles dels-at ends_at 2 (λ k l m. deletes k (omega arith) (omega arith))

    kept-part : (r : ℕ) (ys : List Atom) → role-part r ys → filter (λ a. eqb r a.role) ys ≡ ys
    unfolding role-part
    kept-part r ys f = filter-all (λ a. eqb r a.role) ys (λ y j. eq-eqb r y.role (sym (f y j)))

    left-part : (r q : ℕ) (ys : List Atom) → (r ≡ q → ⊥) → role-part q ys → filter (λ a. eqb r a.role) ys ≡ []
    unfolding role-part
    left-part r q ys n f = filter_none (λ a. eqb r a.role) ys (λ y j. ne_eqb r y.role (λ e. n (e ∙ f y j)))

    split-role : (r : ℕ) (ps bs cs : List Atom) → filter (λ a. eqb r a.role) (part 0 adds-at) ≡ ps →
        filter (λ a. eqb r a.role) (part adds-at dels-at) ≡ bs →
        filter (λ a. eqb r a.role) (part dels-at ends_at) ≡ cs →
        of_role r (schema_at (task_of w) schema).atoms ≡ ps ++ (bs ++ cs)
    unfolding of_role
    split-role r ps bs cs p q u =
        ap (filter (λ a. eqb r a.role)) atoms-split ∙
        (filter-append (λ a. eqb r a.role) (part 0 adds-at) (part adds-at dels-at ++ part dels-at ends_at) ∙
        ap₂ (λ (x y : List Atom). x ++ y) p
        (filter-append (λ a. eqb r a.role) (part adds-at dels-at) (part dels-at ends_at) ∙
        ap₂ (λ (x y : List Atom). x ++ y) q u))

    grounded : (r a b : ℕ) → of_role r (schema_at (task_of w) schema).atoms ≡ part a b →
        ground_role (task_of w) r x ≡ span (ground_from w steps i start) a b
    unfolding ground_role span ground_from ground_at part
    grounded r a b e =
        ap (λ (s : ℕ). map (ground x.objects) (of_role r (schema_at (task_of w) s).atoms))
        (step-schema (task_of w) steps i) ∙
        (ap (map (ground x.objects)) e ∙ map-map (ground x.objects) own (up_from a (b - a)))

    pub pre-ground : ground_role (task_of w) 0 x ≡ span (ground_from w steps i start) 0 adds-at
    pre-ground = grounded 0 0 adds-at
        (split-role 0 (part 0 adds-at) [] [] (kept-part 0 (part 0 adds-at) pres)
        (left-part 0 1 (part adds-at dels-at) (λ e. omega arith) adds)
        (left-part 0 2 (part dels-at ends_at) (λ e. omega arith) dels) ∙ nil-append (part 0 adds-at))

    pub add-ground : ground_role (task_of w) 1 x ≡ span (ground_from w steps i start) adds-at dels-at
    add-ground = grounded 1 adds-at dels-at
        (split-role 1 [] (part adds-at dels-at) [] (left-part 1 0 (part 0 adds-at) (λ e. omega arith) pres)
        (kept-part 1 (part adds-at dels-at) adds)
        (left-part 1 2 (part dels-at ends_at) (λ e. omega arith) dels) ∙ nil-append (part adds-at dels-at))

    pub del-ground : ground_role (task_of w) 2 x ≡ span (ground_from w steps i start) dels-at ends_at
    del-ground = grounded 2 dels-at ends_at
        (split-role 2 [] [] (part dels-at ends_at) (left-part 2 0 (part 0 adds-at) (λ e. omega arith) pres)
        (left-part 2 1 (part adds-at dels-at) (λ e. omega arith) adds) (kept-part 2 (part dels-at ends_at) dels))

    pub step-applies : (s : List Fact) →
        applies (task_of w) s x ≡ all (holds s) (span (ground_from w steps i start) 0 adds-at)
    unfolding applies
    step-applies s = ap (all (holds s)) pre-ground

    pub step-next : (s : List Fact) →
        next (task_of w) s x ≡ insert_all (span (ground_from w steps i start) adds-at dels-at)
        (remove_all (span (ground_from w steps i start) dels-at ends_at) s)
    unfolding next
    step-next s = ap₂ (λ (fs gs : List Fact). insert_all fs (remove_all gs s)) add-ground del-ground
