-- What is kept of the parts grows schema by schema, as long as an order complies; and the first schema for which none
-- does is the circular one. A row is written behind those of earlier schemas, and so are the parts: no schema has more
-- parts than atoms. So what is kept of earlier schemas stays.
use Prim.Native.Nat.{ℕ, suc, ◌+◌, ◌*◌, ◌≤◌, ◌<◌}
use mathlib.Core.Path.{◌≡◌, sym, ◌∙◌, ap, subst}
use mathlib.Core.Bool.{Bool, true, false}
use mathlib.Core.List.{List, [], ◌∷◌, map}
use Rattle.std.specs.Prelude.{Option, None, Some}
use native.Mathlib.Omega.{arith}
use native.Mathlib.Decide.{dec_lt}
use native.Mathlib.Numerals.{add-one}
use lib.ListN.{length, get_or, take, length-map}
use lib.Dec.{eqb}
use lib.Seq.{get_or-take, length-take-le, get_or-set_other}
use borrow.Author.Tests.{eqb-true, leb-true}
use Rattle.words.specs.Lists.{sum, head, first, up_to, up_from}
use Rattle.task.specs.Layout.{head_in}
use Rattle.task.specs.Task.{Atom, Task, schema_atoms, schema_pairs, part_count}
use Rattle.task.specs.Run.{schema_at}
use Rattle.task.specs.Table.{task_of, is_table}
use Rattle.task.specs.declared.Part.{Part}
use Rattle.words.proofs.Lists.{get_or-map, in-get_or, up_to-in, filter_none}
use Rattle.words.proofs.Lists.{map-append, sum-append, up_to-suc, in-eq, in_map, any-in, all_in, length-up_to}
use Rattle.words.proofs.Ascending.{ascend-up_to, covered-few}
use Rattle.task.proofs.Tests.{has_part, schema-tests, task-tests}
use Rattle.task.proofs.Tables.{of-table}
use Rattle.task.proofs.TablesByIndex.{table-frame, atoms-word, pairs-word, start-suc}
use Rattle.task.proofs.StartLaws.{start-rises}
use Rattle.arcs.specs.declared.Order.{Order}
use Rattle.arcs.specs.Order.{in_part, order_of}
use Rattle.words.specs.Sets.{member}
use Rattle.arcs.specs.Stretches.{AreParameters, stretch_in, order_told}
use Rattle.arcs.proofs.OrderTaken.{order_of-laws}
use Rattle.arcs.proofs.Stretches.{schema-stretch}
use Rattle.tokens.specs.Split.{has, is_none, order_at, or_empty, orders, first_of}
use Rattle.tokens.specs.Acceptance.{part_at, OrderKept}
use Rattle.tokens.proofs.Accepted.{circular_at}
use Rattle.tokens.proofs.Refusals.{is-first}
use Rattle.arcs.proofs.AtomWords.{schema-fits}
use Rattle.arcs.proofs.SchemaEnds.{schema-known}
use Rattle.tokens.proofs.KeptParts.{part-is}
use Rattle.task.specs.Limits.{most_parts, most_schemas, most_schema_atoms, most_pairs}
use Rattle.task.specs.Turns.{first_atom, first_pair}
use Rattle.tokens.specs.Kept.{start_place, first_place, count_place, pair_place, order_place, own_place, kept_row}
use Rattle.tokens.specs.Kept.{kept_words, field, with_field, own_word, word_in, kept_start, kept_first, kept_count}
use Rattle.tokens.specs.Kept.{kept_pair, kept_part, kept_own, PartsKept}
use Rattle.tokens.proofs.KeptRows.{word-inside, field-long, field_put, behind-stays, row_begun, begun-before}
use Rattle.tokens.proofs.KeptRows.{begun-behind, begun-long, begun-start, begun_first, begun-pair}

-- ---- the parts of the schemas before one
pub before-step : (t : Task) (s : ℕ) → first_of t (suc s) ≡ first_of t s + length (orders t s)
unfolding first_of sum
before-step t s =
    let n : ℕ → ℕ = λ q. length (orders t q) in
    let a = ap (λ (z : List ℕ). sum (map n z)) (up_to-suc s) ∙ ap sum (map-append n (up_to s) (s ∷ [])) in
    let b = sum-append (map n (up_to s)) (n s ∷ []) in
    omega arith

-- ---- the parts of an order found
-- the parts that an answer hands back
abbrev parts_found : Order → List ℕ
parts_found f = map (λ (p : Part). p.0) (take f.count f.parts)

found-count : (f : Order) → f.count ≤ length f.parts → length (parts_found f) ≡ f.count
found-count f l = length-map (take f.count f.parts) (λ (p : Part). p.0) ∙ length-take-le f.count f.parts l

found_part : (f : Order) (j : ℕ) → f.count ≤ length f.parts → j < f.count →
    get_or (parts_found f) j 0 ≡ part_at f.parts j
found_part f j l k =
    let n = length-take-le f.count f.parts l in
    get_or-map (λ (p : Part). p.0) (take f.count f.parts) j (record { 0 = 0 }) 0 (omega arith) ∙
    ap (λ (p : Part). p.0) (get_or-take f.count f.parts j (record { 0 = 0 }) k) ∙
    part-is f.parts j (omega arith)

pub told_none : (t : Task) (s : ℕ) {found : Option Order} → order_told found ≡ order_of (schema_at t s) → found ≡ None →
    order_of (schema_at t s) ≡ None
unfolding order_told
told_none t s told e = sym told ∙ ap order_told e

module _ (t : Task) (s : ℕ) (f : Order) (told : order_told (Some f) ≡ order_of (schema_at t s)) where
  told-some : order_of (schema_at t s) ≡ Some (parts_found f)
  unfolding order_told
  told-some = sym told

  told-order : orders t s ≡ parts_found f
  unfolding orders order_at or_empty
  told-order = ap or_empty told-some

  told-count : f.count ≤ length f.parts → length (orders t s) ≡ f.count
  told-count l = ap length told-order ∙ found-count f l

  -- each part found is one of the schema's
  pub found-small : f.count ≤ length f.parts → part_count (schema_at t s).atoms ≤ most_parts →
      (j : ℕ) → j < f.count → part_at f.parts j < most_parts
  found-small l b j k =
      let n = found-count f l in
      let laws = order_of-laws (schema_at t s) (parts_found f) told-some in
      let i = in-get_or (parts_found f) j 0 (omega arith) in
      let m = up_to-in (part_count (schema_at t s).atoms) (get_or (parts_found f) j 0) (laws.from _ i) in
      omega (arith, found_part f j l k)

  -- the next schema's parts come behind those of this one
  pub first_more : f.count ≤ length f.parts → (first : ℕ) → first ≡ first_of t s →
      first + f.count ≡ first_of t (s + 1)
  first_more l first h =
      omega (arith, told-count l, before-step t s, ap (first_of t) (add-one s))

  told-taken : order_of (schema_at t s) ≡ Some (orders t s)
  told-taken = told-some ∙ ap Some (sym told-order)

-- ---- a table's schemas
module _ (w : List ℕ) (h : is_table w ≡ true) where
  pub schemas-few : length (task_of w).schemas ≤ most_schemas
  schemas-few = leb-true (length (task_of w).schemas) most_schemas (task-tests (task_of w) (of-table w h).0).schemas

  pub atoms-few : (head_in w).schema_atoms ≤ most_schema_atoms
  atoms-few =
      let tests = task-tests (task_of w) (of-table w h).0 in
      let b = leb-true (schema_atoms (task_of w).schemas) most_schema_atoms tests.atoms in
      omega (arith, atoms-word w (table-frame w h))

  pub pairs-few : (head_in w).pairs ≤ most_pairs
  pairs-few =
      let tests = task-tests (task_of w) (of-table w h).0 in
      let b = leb-true (schema_pairs (task_of w).schemas) most_pairs tests.pairs in
      omega (arith, pairs-word w (table-frame w h))

  -- "It has 1 to 16 parts"
  pub parts-few : (s : ℕ) → s < length (task_of w).schemas → part_count (schema_at (task_of w) s).atoms ≤ most_parts
  parts-few s l =
      let t = task_of w in
      leb-true (part_count (schema_at t s).atoms) most_parts
      (schema-tests t.arities (schema_at t s) (schema-fits w h s l)).parts

  pub order-few : (s : ℕ) → s < length (task_of w).schemas →
      order_of (schema_at (task_of w) s) ≡ Some (orders (task_of w) s) →
      length (orders (task_of w) s) ≤ most_parts
  order-few s l e =
      let b = parts-few s l in
      omega (arith, (order_of-laws (schema_at (task_of w) s) (orders (task_of w) s) e).size)

  -- "numbered without a gap": each part has an atom
  parts-in-atoms : (s : ℕ) → s < length (task_of w).schemas →
      part_count (schema_at (task_of w) s).atoms ≤ length (schema_at (task_of w) s).atoms
  parts-in-atoms s l =
      let t = task_of w in
      let atoms = (schema_at t s).atoms in
      let n = part_count atoms in
      let part : Atom → ℕ = λ a. a.part in
      let filled = (schema-tests t.arities (schema_at t s) (schema-fits w h s l)).filled in
      let few = covered-few (map part atoms) (up_to n) (ascend-up_to n) (λ p i.
      let (a, k, e) = any-in (λ a. eqb p a.part) atoms (all_in (has_part atoms) filled i) in
      in-eq (eqb-true p a.part e) (in_map part k)) in
      omega (arith, length-up_to n, length-map atoms part)

  -- so the places of its parts end before the atoms of a later schema begin
  pub parts-end : (r s : ℕ) → r < s → s ≤ length (task_of w).schemas →
      order_of (schema_at (task_of w) r) ≡ Some (orders (task_of w) r) →
      first_atom (task_of w) r + length (orders (task_of w) r) ≤ first_atom (task_of w) s
  parts-end r s a b e =
      let t = task_of w in
      let l : r < length t.schemas = omega arith in
      let next = start-suc w (table-frame w h) r (schema-known w h r l) in
      let most = parts-in-atoms r l in
      let size = (order_of-laws (schema_at t r) (orders t r) e).size in
      omega (arith, start-rises w h (suc r) s a)

  -- and before the last place for an atom
  pub found_inside : (s : ℕ) → s < length (task_of w).schemas → (f : Order) →
      order_told (Some f) ≡ order_of (schema_at (task_of w) s) → f.count ≤ length f.parts →
      first_atom (task_of w) s + f.count ≤ most_schema_atoms
  found_inside s l f told fits =
      let t = task_of w in
      let n = told-count t s f told fits in
      let b = parts-end s (suc s) (omega arith) (omega arith) (told-taken t s f told) in
      let k = (schema-stretch w h s (schema-known w h s l)).known in
      omega (arith, atoms-few)

  -- ---- schema by schema
  pub parts_none : (kept : List ℕ) → length kept ≡ kept_words → PartsKept (task_of w) 0 (row_begun kept 0 0 0 0)
  unfolding sum first_of up_to up_from
  parts_none kept l = record {
    long = begun-long kept 0 0 0 0 l;
    start = λ s k. let e : s ≡ 0 = omega arith in
        subst (λ (n : ℕ). kept_start begun n ≡ first_atom (task_of w) n) (sym e)
        (begun-start kept 0 0 0 0 l (omega arith));
    first = λ s k. let e : s ≡ 0 = omega arith in
        subst (λ (n : ℕ). kept_first begun n ≡ first_of (task_of w) n) (sym e)
        (begun_first kept 0 0 0 0 l (omega arith));
    pair = λ s k. let e : s ≡ 0 = omega arith in
        subst (λ (n : ℕ). kept_pair begun n ≡ first_pair (task_of w) n) (sym e)
        (begun-pair kept 0 0 0 0 l (omega arith));
    taken = λ s k. absurd (omega arith);
    count = λ s k. absurd (omega arith);
    part = λ s j k. absurd (omega arith);
    params = λ s j x k. absurd (omega arith);
  }
    where
      begun : List ℕ
      begun = row_begun kept 0 0 0 0

  module _ (s from to next pair : ℕ) (l : s < length (task_of w).schemas) (begins : from ≡ first_atom (task_of w) s)
      (ends : to ≡ first_atom (task_of w) (suc s)) (pairs_end : pair ≡ first_pair (task_of w) (suc s))
      (atoms : (schema_at (task_of w) s).atoms ≡ stretch_in w from to) (f : Order) (fits : f.count ≤ length f.parts)
      (told : order_told (Some f) ≡ order_of (schema_at (task_of w) s))
      (goes-on : next ≡ first_of (task_of w) (s + 1)) (sets : List ℕ)
      (named : AreParameters (stretch_in w from to) sets)
      (kept ordered : List ℕ)
      (new : OrderKept from f.count f.parts sets (with_field kept s count_place f.count) ordered)
      (old : PartsKept (task_of w) s kept) where
    abbrev t : Task
    t = task_of w

    -- the array with the count, then with the order, then with the next row begun
    abbrev counted : List ℕ
    counted = with_field kept s count_place f.count

    abbrev after : List ℕ
    after = row_begun ordered (s + 1) to next pair

    -- what holds of each schema before s and of s
    up-to : (P : ℕ → Type 0) → ((r : ℕ) → r < s → P r) → P s → (r : ℕ) → r < s + 1 → P r
    up-to P a b r k = elim (dec_lt r s) [
      | yes m ↦ a r m
      | no m ↦ let e : s ≡ r = omega arith in subst P e b
    ]

    few : s < most_schemas
    few = let n = schemas-few in omega arith

    -- what stands in the rows up to this one still stands, and all but the count stood there before
    row_stays : (i : ℕ) → i < kept_row * (s + 1) → get_or after i 0 ≡ get_or counted i 0
    row_stays i k = begun-before ordered (s + 1) to next pair i k ∙ new.rows i (omega (arith, few))

    stays : (i : ℕ) → i < kept_row * (s + 1) → (kept_row * s + count_place ≡ i → ⊥) → get_or after i 0 ≡ get_or kept i 0
    stays i k n = row_stays i k ∙ get_or-set_other kept (kept_row * s + count_place) i f.count 0 (λ e. n (sym e))

    -- what stands behind the rows still stands
    after-behind : (i : ℕ) → order_place ≤ i → get_or after i 0 ≡ get_or ordered i 0
    after-behind = begun-behind ordered (s + 1) to next pair (omega (arith, few))

    counted-behind : (i : ℕ) → order_place ≤ i → get_or counted i 0 ≡ get_or kept i 0
    counted-behind i k = behind-stays kept s count_place f.count i (omega (arith, few)) (omega arith) k

    counted-long : length counted ≡ kept_words
    counted-long = field-long kept s count_place f.count old.long

    ordered-long : length ordered ≡ kept_words
    ordered-long = new.long ∙ counted-long

    here-count : length (orders t s) ≡ f.count
    here-count = told-count t s f told fits

    here-part : (j : ℕ) → j < f.count → part_at f.parts j ≡ get_or (orders t s) j 0
    here-part j k = sym (ap (λ (o : List ℕ). get_or o j 0) (told-order t s f told) ∙ found_part f j fits k)

    here-params : (j x : ℕ) → j < f.count →
        member (own_word ordered (from + j)) x ≡ has (schema_at t s) x (get_or (orders t s) j 0)
    unfolding has
    here-params j x k =
        ap (λ (v : ℕ). member v x) (new.own j k) ∙
        named.named x (part_at f.parts j) ∙
        ap (λ (bs : List Atom). in_part bs x (part_at f.parts j)) (sym atoms) ∙
        ap (in_part (schema_at t s).atoms x) (here-part j k)

    -- a word of the rows, but for the count: in the rows before it still stands, and the next row has it as begun
    field-more : (place : ℕ) → place < kept_row → (place ≡ count_place → ⊥) → (value : ℕ → ℕ) →
        ((r : ℕ) → r ≤ s → field kept r place ≡ value r) → field after (s + 1) place ≡ value (s + 1) →
        (r : ℕ) → r ≤ s + 1 → field after r place ≡ value r
    field-more place a n value before begun r k = elim (dec_lt r (s + 1)) [
      | yes m ↦ stays (kept_row * r + place) (omega arith) (λ e. n (omega arith)) ∙ before r (omega arith)
      | no m ↦ let e : s + 1 ≡ r = omega arith in subst (λ (q : ℕ). field after q place ≡ value q) e begun
    ]

    starts_more : (r : ℕ) → r ≤ s + 1 → kept_start after r ≡ first_atom t r
    starts_more = field-more start_place (omega arith) (λ e. omega arith) (first_atom t) old.start
        (begun-start ordered (s + 1) to next pair ordered-long (omega (arith, few)) ∙ ends ∙
        ap (first_atom t) (sym (add-one s)))

    firsts_more : (r : ℕ) → r ≤ s + 1 → kept_first after r ≡ first_of t r
    firsts_more = field-more first_place (omega arith) (λ e. omega arith) (first_of t) old.first
        (begun_first ordered (s + 1) to next pair ordered-long (omega (arith, few)) ∙ goes-on)

    pairs-more : (r : ℕ) → r ≤ s + 1 → kept_pair after r ≡ first_pair t r
    pairs-more = field-more pair_place (omega arith) (λ e. omega arith) (first_pair t) old.pair
        (begun-pair ordered (s + 1) to next pair ordered-long (omega (arith, few)) ∙ pairs_end ∙
        ap (first_pair t) (sym (add-one s)))

    counts-more : (r : ℕ) → r < s + 1 → kept_count after r ≡ length (orders t r)
    counts-more = up-to (λ r. kept_count after r ≡ length (orders t r))
        (λ r k. stays (kept_row * r + count_place) (omega arith) (λ e. omega arith) ∙ old.count r k)
        (row_stays (kept_row * s + count_place) (omega arith) ∙
        field_put kept s count_place f.count old.long (omega (arith, few)) (omega arith) ∙ sym here-count)

    -- the place of a part of an earlier schema
    before : (r j : ℕ) → r < s → j < length (orders t r) → first_atom t r + j < from
    before r j m n = let e = parts-end r s m (omega arith) (old.taken r m) in omega arith

    inside : from ≤ most_schema_atoms
    inside = let k = schema-stretch w h s (schema-known w h s l) in omega (arith, k.forward, k.known, atoms-few)

    -- of the words from `base` on: the one for such a part still stands, and the one for a part of schema s stands as
    -- the order was kept
    module _ (base : ℕ) (behind : order_place ≤ base) (in_words_lem : base ≤ own_place) where
      word-stays : (r j : ℕ) → r < s → j < length (orders t r) →
          get_or ordered (base + (first_atom t r + j)) 0 ≡ get_or counted (base + (first_atom t r + j)) 0 →
          word_in after (base + (kept_start after r + j)) ≡ word_in kept (base + (kept_start kept r + j))
      word-stays r j m n e =
          let at = base + (first_atom t r + j) in
          let k = before r j m n in
          let q = inside in
          ap (λ (b : ℕ). word_in after (base + (b + j))) (starts_more r (omega arith)) ∙
          word-inside after at (omega arith) ∙ after-behind at (omega arith) ∙ e ∙
          counted-behind at (omega arith) ∙ sym (word-inside kept at (omega arith)) ∙
          ap (λ (b : ℕ). word_in kept (base + (b + j))) (sym (old.start r (omega arith)))

      word-here : (j : ℕ) → j < f.count →
          word_in after (base + (kept_start after s + j)) ≡ get_or ordered (base + (from + j)) 0
      word-here j k =
          let q = found_inside s l f told fits in
          ap (λ (b : ℕ). word_in after (base + (b + j))) (starts_more s (omega arith) ∙ sym begins) ∙
          word-inside after (base + (from + j)) (omega arith) ∙ after-behind (base + (from + j)) (omega arith)

    orders-more : (r : ℕ) → r < s + 1 → (j : ℕ) → j < length (orders t r) → kept_part after r j ≡ get_or (orders t r) j 0
    orders-more = up-to (λ r. (j : ℕ) → j < length (orders t r) → kept_part after r j ≡ get_or (orders t r) j 0)
        (λ r m j n.
        word-stays order_place (omega arith) (omega arith) r j m n
        (new.parts-before (first_atom t r + j) (before r j m n)) ∙ old.part r j m n)
        (λ j n.
        let q = here-count in
        word-here order_place (omega arith) (omega arith) j (omega arith) ∙ new.part j (omega arith) ∙
        here-part j (omega arith))

    owns-more : (r : ℕ) → r < s + 1 → (j x : ℕ) → j < length (orders t r) →
        member (kept_own after r j) x ≡ has (schema_at t r) x (get_or (orders t r) j 0)
    owns-more = up-to (λ r. (j x : ℕ) → j < length (orders t r) →
        member (kept_own after r j) x ≡ has (schema_at t r) x (get_or (orders t r) j 0))
        (λ r m j x n.
        ap (λ (v : ℕ). member v x)
        (word-stays own_place (omega arith) (omega arith) r j m n
        (new.owns-before (first_atom t r + j) (before r j m n))) ∙ old.params r j x m n)
        (λ j x n.
        let q = here-count in
        ap (λ (v : ℕ). member v x) (word-here own_place (omega arith) (omega arith) j (omega arith)) ∙
        here-params j x (omega arith))

    pub parts_more : PartsKept t (s + 1) after
    parts_more = record {
      long = begun-long ordered (s + 1) to next pair ordered-long;
      start = starts_more;
      first = firsts_more;
      pair = pairs-more;
      taken = up-to (λ r. order_of (schema_at t r) ≡ Some (orders t r)) old.taken (told-taken t s f told);
      count = counts-more;
      part = λ r j k. orders-more r k j;
      params = λ r j x k. owns-more r k j x;
    }

-- ---- the lowest schema that a test takes, as a loop finds it
module _ (test : ℕ → Bool) (s n : ℕ) (before : (r : ℕ) → r < s → test r ≡ false) where
  pub lowest-here : s < n → test s ≡ true → first test (up_to n) ≡ Some s
  unfolding up_to
  lowest-here l e =
      is-first test 0 n s
      (record { from = omega arith; below = omega arith; passes = e; lowest = λ r a b. before r b })

  pub lowest-nowhere : s ≡ n → first test (up_to n) ≡ None
  unfolding first head
  lowest-nowhere e =
      ap head (filter_none test (up_to n) (λ r i. before r (let l = up_to-in n r i in omega arith)))

-- the circular one
module _ (t : Task) (s : ℕ) (kept : (r : ℕ) → r < s → order_of (schema_at t r) ≡ Some (orders t r)) where
  ordered-before : (r : ℕ) → r < s → is_none (order_at t r) ≡ false
  unfolding is_none order_at
  ordered-before r l = ap is_none (kept r l)

  pub circular-here : s < length t.schemas → order_of (schema_at t s) ≡ None → circular_at t ≡ Some s
  unfolding is_none order_at
  circular-here l e =
      lowest-here (λ r. is_none (order_at t r)) s (length t.schemas) ordered-before l (ap is_none e)

  pub circular-nowhere : s ≡ length t.schemas → circular_at t ≡ None
  circular-nowhere = lowest-nowhere (λ r. is_none (order_at t r)) s (length t.schemas) ordered-before
