-- Inside a block, folding has found the first parts of the block of one choice: that of the objects found so far, and 0
-- for a parameter not yet found. A part that fits binds its own parameters and leaves those found before as they were,
-- so the steps so far are the first parts of the new candidate too.
use Prim.Native.Nat.{ℕ, suc, ◌+◌, ◌<◌}
use mathlib.Core.Path.{◌≡◌, refl, sym, ◌∙◌, ap, ap₂, subst}
use mathlib.Core.Bool.{Bool, true, false, cond}
use mathlib.Core.List.{List, [], ◌∷◌, ◌++◌, map}
use mathlib.Core.Logic.{inl, inr}
use Rattle.std.specs.Prelude.{Option, None, Some}
use native.Mathlib.Omega.{arith}
use native.Mathlib.Decide.{dec_lt}
use lib.ListN.{length, get_or, length-map, length-replicate}
use lib.Seq.{ext_get_or}
use lib.Dec.{eqb}
use borrow.Author.Tests.{eqb-true}
use Rattle.words.specs.Lists.{up_to, index_of}
use Rattle.task.specs.Task.{Task}
use Rattle.task.specs.Run.{Step, schema_at}
use Rattle.tokens.specs.Split.{has, orders, params_of, first_of}
use Rattle.words.proofs.Lists.{and_left, and_right, In, here, there, in-get_or, get_or-in, map-in, get_or-map, map_same}
use Rattle.words.proofs.Lists.{map-append, up_to-suc, up_to-in}
use Rattle.task.proofs.States.{IsChoice}
use Rattle.tokens.proofs.Places.{index-small, index-get_or}
use Rattle.blocks.specs.Blocks.{params_at, part_step, beginner, Stage, outside, inside, begun, stage_for}
use Rattle.blocks.specs.Blocks.{fits_at, completed}
use Rattle.blocks.proofs.FoldBlock.{param-small}
use Rattle.task.specs.Bindings.{Bound, agrees, fits, bind, or_zero}
use Rattle.task.proofs.Binding.{nothing_bound, bind-size, bind-new, fits-length, fits-agrees, bind-other, in-or-not}

module _ (t : Task) where
  -- the stage before position j of a block of schema s, where b is bound and the steps `pre` are found
  pub record Inside (s j : ℕ) (b : Bound) (pre : List Step) : Type 0 where
    pub known : s < length t.schemas
    pub open_at : j < length (orders t s)
    pub size : length b ≡ (schema_at t s).params
    pub small : (p o : ℕ) → get_or b p None ≡ Some o → o < t.objects
    pub found : (p i : ℕ) → i < j → In p (params_at t s i) → (o : ℕ) × (get_or b p None ≡ Some o)
    pub so_far : pre ≡ map (part_step t (completed (inside s j b))) (up_to j)

  -- the choice made of what is bound
  pub completed-choice : (s j : ℕ) (b : Bound) → 0 < t.objects → s < length t.schemas →
      length b ≡ (schema_at t s).params → ((p o : ℕ) → get_or b p None ≡ Some o → o < t.objects) →
      IsChoice t (completed (inside s j b))
  unfolding completed or_zero
  completed-choice s j b some-object known size small = record {
    known = known;
    count = length-map b or_zero ∙ size;
    small = λ o i.
        let (c, k, e) = map-in or_zero b o i in
        let (p, l, d) = get_or-in None k in
        subst (λ o. o < t.objects) (sym e) (object c p d);
  }
    where
      object : (c : Option ℕ) (p : ℕ) → get_or b p None ≡ c → or_zero c < t.objects
      object None p d = some-object
      object (Some o) p d = small p o d

-- ---- a step that fits
-- what is bound once y is found at position j
abbrev pub bound_by : Task → ℕ → ℕ → Bound → Step → Bound
bound_by t s j b y = bind b (params_at t s j) y.objects

-- the candidate after y
abbrev pub candidate : Task → ℕ → ℕ → Bound → Step → Step
candidate t s j b y = completed (inside s (suc j) (bound_by t s j b y))

module _ {t : Task} {s j : ℕ} {b : Bound} {pre : List Step} (h : Inside t s j b pre) (y : Step)
    (f : fits_at t (inside s j b) y ≡ true) where
  abbrev ps : List ℕ
  ps = params_at t s j

  -- the object that y gives a parameter of this part
  abbrev given-by : ℕ → ℕ
  given-by p = get_or y.objects (index_of p ps) 0

  abbrev after : Bound
  after = bound_by t s j b y

  fits-objects : fits b ps y.objects ≡ true
  unfolding fits_at
  fits-objects = and_right (eqb y.schema (first_of t s + j)) _ f

  fits-schema : y.schema ≡ first_of t s + j
  unfolding fits_at
  fits-schema = eqb-true y.schema (first_of t s + j) (and_left (eqb y.schema (first_of t s + j)) _ f)

  objects-are : y.objects ≡ map given-by ps
  unfolding params_at params_of up_to
  objects-are =
      let n = fits-length b ps y.objects fits-objects in
      ext_get_or 0 y.objects (map given-by ps) (sym n ∙ sym (length-map ps given-by))
      (λ i l.
      let m : i < length ps = omega arith in
      sym (get_or-map given-by ps i 0 0 m ∙ ap (λ k. get_or y.objects k 0)
      (index-get_or (λ x. has (schema_at t s) x (get_or (orders t s) j 0)) 0 (schema_at t s).params i m)))

  -- ---- what is bound after it
  after_is : after ≡ bind b ps (map given-by ps)
  after_is = ap (bind b ps) objects-are

  ps-small : (q : ℕ) → In q ps → q < length b
  ps-small q i = rw h.size (param-small t s j q i)

  after-new : (p : ℕ) → In p ps → get_or after p None ≡ Some (given-by p)
  after-new p i = ap (λ z. get_or z p None) after_is ∙ bind-new given-by b ps p ps-small i

  after-other : (p : ℕ) → (In p ps → ⊥) → get_or after p None ≡ get_or b p None
  after-other p n = ap (λ z. get_or z p None) after_is ∙ bind-other given-by b ps p n

  after-size : length after ≡ length b
  after-size = bind-size b ps y.objects

  after-old : (p o : ℕ) → get_or b p None ≡ Some o → get_or after p None ≡ Some o
  unfolding agrees
  after-old p o e = elim (in-or-not p ps) [
    | inl i ↦
        let a = fits-agrees given-by b ps (ap (fits b ps) (sym objects-are) ∙ fits-objects) p i in
        let q = eqb-true o (given-by p) (sym (ap (λ z. agrees z (given-by p)) e) ∙ a) in
        after-new p i ∙ ap {B = Option ℕ} (λ z. Some z) (sym q)
    | inr n ↦ after-other p n ∙ e
  ]

  -- ---- the first parts of the candidate
  part-before : (i : ℕ) → i < j → part_step t (completed (inside s j b)) i ≡ part_step t (candidate t s j b y) i
  unfolding part_step completed
  part-before i l = λ k. record { schema = first_of t s + i; objects = same k }
    where
      same : map (λ p. get_or (map or_zero b) p 0) (params_at t s i) ≡
          map (λ p. get_or (map or_zero after) p 0) (params_at t s i)
      same = map_same (λ p. get_or (map or_zero b) p 0) (λ p. get_or (map or_zero after) p 0) (params_at t s i) (λ p m.
          let (o, e) = h.found p i l m in
          let q : p < length b = rw h.size (param-small t s i p m) in
          get_or-map or_zero b p None 0 q ∙ ap or_zero (e ∙ sym (after-old p o e)) ∙
          sym (get_or-map or_zero after p None 0 (rw after-size q)))

  part-here : y ≡ part_step t (candidate t s j b y) j
  unfolding part_step completed or_zero
  part-here = λ k. record { schema = fits-schema k; objects = same k }
    where
      same : y.objects ≡ map (λ p. get_or (map or_zero after) p 0) ps
      same = objects-are ∙ map_same given-by (λ p. get_or (map or_zero after) p 0) ps (λ p m.
          sym (get_or-map or_zero after p None 0 (rw after-size (ps-small p m)) ∙ ap or_zero (after-new p m)))

  -- the steps so far and y are the first parts of the candidate's block
  pub parts-so-far : pre ++ (y ∷ []) ≡ map (part_step t (candidate t s j b y)) (up_to (suc j))
  parts-so-far =
      ap₂ (λ (a : List Step) (c : Step). a ++ (c ∷ []))
      (h.so_far ∙ map_same (part_step t (completed (inside s j b))) (part_step t (candidate t s j b y)) (up_to j)
      (λ i k. part-before i (up_to-in j i k))) part-here ∙
      sym (ap (map (part_step t (candidate t s j b y))) (up_to-suc j) ∙
      map-append (part_step t (candidate t s j b y)) (up_to j) (j ∷ []))

  -- ---- the candidate is a choice of objects of the task, where y has objects of the task
  module _ (objects : (o : ℕ) → In o y.objects → o < t.objects) where
    given-small : (p : ℕ) → In p ps → given-by p < t.objects
    given-small p i =
        let n = fits-length b ps y.objects fits-objects in
        objects (given-by p) (in-get_or y.objects (index_of p ps) 0 (omega (arith, index-small i)))

    after_small : (p o : ℕ) → get_or after p None ≡ Some o → o < t.objects
    after_small p o e = elim (in-or-not p ps) [
      | inl i ↦
          let z : given-by p ≡ o = same (sym (after-new p i) ∙ e) in
          subst (λ o. o < t.objects) z (given-small p i)
      | inr n ↦ h.small p o (sym (after-other p n) ∙ e)
    ]
      where
        same : {a c : ℕ} → Some a ≡ Some c → a ≡ c
        same q = cc

    pub candidate-choice : 0 < t.objects → IsChoice t (candidate t s j b y)
    candidate-choice some-object =
        completed-choice t s (suc j) after some-object h.known (after-size ∙ h.size) after_small

    pub inside-next : suc j < length (orders t s) → Inside t s (suc j) after (pre ++ (y ∷ []))
    inside-next l = record {
      known = h.known;
      open_at = l;
      size = after-size ∙ h.size;
      small = after_small;
      found = λ p i l m. elim (dec_lt i j) [
        | yes q ↦ let (o, e) = h.found p i q m in (o, after-old p o e)
        | no q ↦
            let z : i ≡ j = omega arith in
            (given-by p, after-new p (subst (λ i. In p (params_at t s i)) z m))
      ];
      so_far = parts-so-far;
    }

-- ---- the stages that folding reaches
module _ (t : Task) where
  abbrev pub Reached : Stage → List Step → Type 0
  Reached outside pre = pre ≡ []
  Reached (inside s j b) pre = Inside t s j b pre

  module _ (filled : (s : ℕ) → s < length t.schemas → 0 < length (orders t s)) where
    pub beginner-in : (k : ℕ) (ss : List ℕ) (s : ℕ) → beginner t k ss ≡ Some s → In s ss
    unfolding beginner
    beginner-in k [] s e = absurd (let z : ◌≡◌ {A = ℕ} 0 1 = cc in omega arith)
    beginner-in k (q ∷ ss) s e = go (eqb k (first_of t q)) (beginner-in k ss s) e
      where
        same : {a c : ℕ} → Some a ≡ Some c → a ≡ c
        same z = cc

        go : (b : Bool) → (beginner t k ss ≡ Some s → In s ss) →
            cond b (Some q) (beginner t k ss) ≡ Some s → In s (q ∷ ss)
        go true rest e = here (sym (same e))
        go false rest e = there (rest e)

    begun-reached : (o : Option ℕ) → ((s : ℕ) → o ≡ Some s → s < length t.schemas) → (pre : List Step) → pre ≡ [] →
        Reached (begun t o) pre
    unfolding begun up_to
    begun-reached None known pre e = e
    begun-reached (Some s) known pre e = record {
      known = known s refl;
      open_at = filled s (known s refl);
      size = length-replicate (schema_at t s).params None;
      small = λ p o q. absurd (no-some (sym (nothing_bound (schema_at t s).params p) ∙ q));
      found = λ p i l m. absurd (omega arith);
      so_far = e;
    }
      where
        no-some : {o : ℕ} → None ≡ Some o → ⊥
        no-some q = let z : ◌≡◌ {A = ℕ} 0 1 = cc in omega arith

    pub stage-reached : (g : Stage) (y : Step) (pre : List Step) → Reached g pre → Reached (stage_for t g y) pre
    unfolding stage_for
    stage-reached outside y pre r =
        begun-reached (beginner t y.schema (up_to (length t.schemas)))
        (λ s e. up_to-in (length t.schemas) s (beginner-in y.schema (up_to (length t.schemas)) s e)) pre r
    stage-reached (inside s j b) y pre r = r
