-- The line at a cursor by the key that stands there: no two keys stand at one place, so the line is the body of that
-- key where the fixed order allows it, and there is none elsewhere. What the order allows is a run of key numbers.
use Prim.Native.Nat.{ℕ, ◌<◌}
use Prim.Native.String.{String}
use mathlib.Core.Path.{◌≡◌, refl, sym, ◌∙◌, ap, subst}
use mathlib.Core.Bool.{Bool, true, false, not}
use mathlib.Core.List.{List, [], ◌∷◌}
use Rattle.std.specs.Prelude.{Option, None, Some}
use mathlib.Core.Logic.{◌⊎◌, inl, inr, ⊎_elim}
use native.Mathlib.Omega.{arith}
use lib.ListN.{get_or, length-append}
use lib.Dec.{eqb}
use borrow.Author.Tests.{eqb-true, eqb-false, eq-eqb, ne_eqb, not-true}
use Rattle.words.specs.Lists.{all, any}
use Rattle.words.proofs.Lists.{In, here, there, and_left, and_right, all_in, any-in, in-any, in-get_or, both-ft, no_ft}
use Rattle.text.specs.Lines.{Taken, Reader, and_then, or_else, after, read_key, read_line, bytes, equals}
use Rattle.text.specs.Text.{Key, task, objects, arity, schema, differ, pre, add, del, part, init, goal, end}
use Rattle.text.specs.Text.{key_name, Phase, at_task, at_objects, at_arity, between, in_differ, in_pre, in_add, in_del}
use Rattle.text.specs.Text.{in_init, in_goal, read_body, keys_at, Draft, next_line}
use Rattle.text.specs.declared.cursor.Cursor.{Cursor}
use Rattle.text.specs.declared.keys.Key.{Key as Code}
use Rattle.text.specs.ReadCode.{rest, key_bytes, key_number, meant, phase_number, last_key, KeyHere, KeyAt, OnceKeyAt}
use Rattle.text.specs.ReadCode.{may_stand, WordHere}
use Rattle.text.proofs.Taken.{after_read}
use Rattle.text.proofs.KeyedLines.{clash, after-clash, keyed, apart}

-- ---- readers of several keys
module _ {K L : Type 0} (name : K → String) (body : K → Reader L) (bs : List ℕ) where
  -- where none of the keys stands there is no line
  pub no_line : (ks : List K) → ((k : K) → In k ks → after (keyed (name k)) bs ≡ None) → read_line name body ks bs ≡ None
  unfolding read_line read_key
  no_line [] h = refl
  no_line (k ∷ ks) h =
      ap (λ (o : Option (List ℕ)). or_else (and_then o (body k)) (read_line name body ks bs)) (h k (here refl)) ∙
      no_line ks (λ j i. h j (there i))

  -- where one key stands, and none of the others, the line is its body
  module _ (k : K) (rest : List ℕ) (e : after (keyed (name k)) bs ≡ Some rest) where
    abbrev Others : List K → Type 0
    Others ks = (j : K) → In j ks → (j ≡ k) ⊎ (after (keyed (name j)) bs ≡ None)

    no_body : body k rest ≡ None → (ks : List K) → Others ks → read_line name body ks bs ≡ None
    unfolding read_line read_key
    no_body b [] h = refl
    no_body b (j ∷ ks) h =
        let later : read_line name body ks bs ≡ None = no_body b ks (λ i l. h i (there l)) in
        ⊎_elim
        (λ q. subst (λ (i : K). or_else (read_key (name i) (body i) bs) (read_line name body ks bs) ≡ None) (sym q)
        (ap (λ (o : Option (List ℕ)). or_else (and_then o (body k)) (read_line name body ks bs)) e ∙
        (ap (λ (o : Option (Taken L)). or_else o (read_line name body ks bs)) b ∙ later)))
        (λ n. ap (λ (o : Option (List ℕ)). or_else (and_then o (body j)) (read_line name body ks bs)) n ∙ later)
        (h j (here refl))

    comes-first : (ks : List K) → Others ks → read_line name body (k ∷ ks) bs ≡ body k rest
    unfolding read_line read_key
    comes-first ks h =
        ap (λ (o : Option (List ℕ)). or_else (and_then o (body k)) (read_line name body ks bs)) e ∙ go (body k rest) refl
      where
        go : (o : Option (Taken L)) → body k rest ≡ o → or_else o (read_line name body ks bs) ≡ o
        go None b = no_body b ks h
        go (Some m) b = refl

    pub one_line : {ks : List K} → In k ks → Others ks → read_line name body ks bs ≡ body k rest
    unfolding read_line read_key
    one_line (here {y = j} {ys = ks} q) h =
        subst (λ (i : K). read_line name body (i ∷ ks) bs ≡ body k rest) q (comes-first ks (λ i l. h i (there l)))
    one_line (there {y = j} {ys = ks} i) h =
        ⊎_elim
        (λ q. subst (λ (i : K). read_line name body (i ∷ ks) bs ≡ body k rest) (sym q)
        (comes-first ks (λ i l. h i (there l))))
        (λ n. ap (λ (o : Option (List ℕ)). or_else (and_then o (body j)) (read_line name body ks bs)) n ∙
        one_line i (λ j l. h j (there l)))
        (h j (here refl))

-- ---- keys are apart
clash-back : (xs ys : List ℕ) → clash xs ys ≡ true → clash ys xs ≡ true
unfolding clash
clash-back [] ys h = absurd (no_ft h)
clash-back (x ∷ xs) [] h = absurd (no_ft h)
clash-back (x ∷ xs) (y ∷ ys) h = go (eqb x y) refl h (clash-back xs ys)
  where
    picked : (b : Bool) → eqb y x ≡ b → elim b [ true ↦ clash ys xs | false ↦ true ] ≡ true →
        clash (y ∷ ys) (x ∷ xs) ≡ true
    picked b e h = ap (λ (c : Bool). elim c [ true ↦ clash ys xs | false ↦ true ]) e ∙ h

    go : (b : Bool) → eqb x y ≡ b → elim b [ true ↦ clash xs ys | false ↦ true ] ≡ true →
        (clash xs ys ≡ true → clash ys xs ≡ true) → clash (y ∷ ys) (x ∷ xs) ≡ true
    go true e h i = picked true (eq-eqb y x (sym (eqb-true x y e))) (i h)
    go false e h i = picked false (ne_eqb y x (λ q. eqb-false x y e (sym q))) refl

two-keys : {j k : Key} {ks : List Key} → apart key_name ks ≡ true → In j ks → In k ks →
    (j ≡ k) ⊎ (clash (key_bytes j) (key_bytes k) ≡ true)
unfolding apart
two-keys h (here e) (here q) = inl (e ∙ sym q)
two-keys {k = k} h (here {y = i} {ys = ks} e) (there l) =
    let tests = all (λ j. clash (key_bytes i) (key_bytes j)) ks in
    inr (subst (λ (x : Key). clash (key_bytes x) (key_bytes k) ≡ true) (sym e)
    (all_in (λ j. clash (key_bytes i) (key_bytes j)) (and_left tests (apart key_name ks) h) l))
two-keys {j = j} h (there {y = i} {ys = ks} l) (here e) =
    let tests = all (λ j. clash (key_bytes i) (key_bytes j)) ks in
    inr (subst (λ (x : Key). clash (key_bytes j) (key_bytes x) ≡ true) (sym e)
    (clash-back (key_bytes i) (key_bytes j)
    (all_in (λ j. clash (key_bytes i) (key_bytes j)) (and_left tests (apart key_name ks) h) l)))
two-keys h (there {y = i} {ys = ks} l) (there m) =
    two-keys (and_right (all (λ j. clash (key_bytes i) (key_bytes j)) ks) (apart key_name ks) h) l m

-- all keys, by number
abbrev every_key : List Key
every_key = task ∷ objects ∷ arity ∷ differ ∷ pre ∷ add ∷ del ∷ part ∷ schema ∷ init ∷ goal ∷ end ∷ []

numbered : (k : Key) → get_or every_key (key_number k) task ≡ k
numbered task = refl
numbered objects = refl
numbered arity = refl
numbered differ = refl
numbered pre = refl
numbered add = refl
numbered del = refl
numbered part = refl
numbered schema = refl
numbered init = refl
numbered goal = refl
numbered end = refl

pub key-of-number : (j k : Key) → key_number j ≡ key_number k → j ≡ k
key-of-number j k e = sym (numbered j) ∙ (ap (λ (n : ℕ). get_or every_key n task) e ∙ numbered k)

every-key : (k : Key) → In k every_key
every-key k = subst (λ (x : Key). In x every_key) (numbered k) (in-get_or every_key (key_number k) task (small k))
  where
    small : (k : Key) → key_number k < 12
    small task = omega arith
    small objects = omega arith
    small arity = omega arith
    small differ = omega arith
    small pre = omega arith
    small add = omega arith
    small del = omega arith
    small part = omega arith
    small schema = omega arith
    small init = omega arith
    small goal = omega arith
    small end = omega arith

keys-apart : apart key_name every_key ≡ true
unfolding apart key_name
keys-apart = refl

-- where one key stands no other does
other_keys : (bs : List ℕ) (k : Key) (rest : List ℕ) → after (key_bytes k) bs ≡ Some rest → (j : Key) →
    (j ≡ k) ⊎ (after (key_bytes j) bs ≡ None)
other_keys bs k rest h j =
    ⊎_elim inl
    (λ c. inr (ap (after (key_bytes j)) (after_read (key_bytes k) bs rest h) ∙
    after-clash (key_bytes j) (key_bytes k) rest c))
    (two-keys keys-apart (every-key j) (every-key k))

-- ---- the keys that the order allows
abbrev is_listed : Phase → Key → Bool
is_listed p k = any (λ j. eqb (key_number k) (key_number j)) (keys_at p)

same : Bool → Bool → Bool
same true b = b
same false b = not b

same-is : (a b : Bool) → same a b ≡ true → a ≡ b
unfolding same
same-is true b h = sym h
same-is false b h = sym (not-true b h)

tested : (p : Phase) → all (λ k. same (may_stand (phase_number p) (key_number k)) (is_listed p k)) every_key ≡ true
unfolding all any same last_key keys_at
tested at_task = refl
tested at_objects = refl
tested at_arity = refl
tested between = refl
tested in_differ = refl
tested in_pre = refl
tested in_add = refl
tested in_del = refl
tested in_init = refl
tested in_goal = refl

may-listed : (p : Phase) (k : Key) → may_stand (phase_number p) (key_number k) ≡ is_listed p k
may-listed p k =
    same-is _ _ (all_in (λ k. same (may_stand (phase_number p) (key_number k)) (is_listed p k)) (tested p) (every-key k))

pub allows-key : (p : Phase) (k : Key) → may_stand (phase_number p) (key_number k) ≡ true → In k (keys_at p)
allows-key p k h =
    let (j, i, e) = any-in (λ j. eqb (key_number k) (key_number j)) (keys_at p) (sym (may-listed p k) ∙ h) in
    subst (λ (x : Key). In x (keys_at p)) (sym (key-of-number k j (eqb-true (key_number k) (key_number j) e))) i

allows-no-key : (p : Phase) (k : Key) → may_stand (phase_number p) (key_number k) ≡ false → In k (keys_at p) → ⊥
allows-no-key p k h i =
    both-ft (in-any (λ j. eqb (key_number k) (key_number j)) i (eq-eqb (key_number k) (key_number k) refl))
    (sym (may-listed p k) ∙ h)

-- ---- the line that comes next
module _ (d : Draft) (bs : List ℕ) where
  pub next-missing : ((k : Key) → after (key_bytes k) bs ≡ None) → next_line d bs ≡ None
  unfolding next_line
  next-missing h = no_line key_name read_body bs (keys_at d.phase) (λ k i. h k)

  module _ (k : Key) (rest : List ℕ) (e : after (key_bytes k) bs ≡ Some rest) where
    pub next-allowed : may_stand (phase_number d.phase) (key_number k) ≡ true → next_line d bs ≡ read_body k rest
    unfolding next_line
    next-allowed h = one_line key_name read_body bs k rest e (allows-key d.phase k h) (λ j i. other_keys bs k rest e j)

    pub next-refused : may_stand (phase_number d.phase) (key_number k) ≡ false → next_line d bs ≡ None
    unfolding next_line
    next-refused h = no_line key_name read_body bs (keys_at d.phase) (λ j i.
        ⊎_elim (λ q. absurd (allows-no-key d.phase k h (subst (λ (x : Key). In x (keys_at d.phase)) q i))) (λ n. n)
        (other_keys bs k rest e j))

-- ---- the key at a cursor
pub key-found : {text : List ℕ} {c body : Cursor} (k : Code) → WordHere text c (key_bytes (meant k)) body →
    KeyHere text c k body
key-found k w =
    let f = w.far in
    let l = length-append (bytes (key_name (meant k))) (equals ∷ []) in
    record {
      is = w.is;
      moved = record { on = omega arith; inside = w.inside; line = w.line };
    }

pub record NoLaterKey (bs : List ℕ) : Type 0 where
  pub no-differ : after (key_bytes differ) bs ≡ None
  pub no-pre : after (key_bytes pre) bs ≡ None
  pub no_add : after (key_bytes add) bs ≡ None
  pub no-del : after (key_bytes del) bs ≡ None
  pub no_part : after (key_bytes part) bs ≡ None
  pub no-schema : after (key_bytes schema) bs ≡ None
  pub no-init : after (key_bytes init) bs ≡ None
  pub no-goal : after (key_bytes goal) bs ≡ None

pub once-key : (text : List ℕ) (c : Cursor) (r : Option (Code × Cursor)) → OnceKeyAt text c r →
    NoLaterKey (rest text c) → KeyAt text c r
once-key text c (Some (k, body)) h l = h
once-key text c None h l = no_key
  where
    no_key : (k : Key) → after (key_bytes k) (rest text c) ≡ None
    no_key task = h.no-task
    no_key objects = h.no-objects
    no_key arity = h.no-arity
    no_key differ = l.no-differ
    no_key pre = l.no-pre
    no_key add = l.no_add
    no_key del = l.no-del
    no_key part = l.no_part
    no_key schema = l.no-schema
    no_key init = l.no-init
    no_key goal = l.no-goal
    no_key end = h.no_end
