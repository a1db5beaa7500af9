-- The split's predicates: how many there are, the arity of each, and that every token a part names is one of them.
-- The arities are old ones, then zeros up to the last do, then ones, so each is found by its place; a do stays below
-- the pars because later parts are added up, and a parameter of two parts has its par because m is a maximum.
use Prim.Native.Nat.{ℕ, zero, suc, ◌+◌, ◌-◌, ◌≤◌, ◌<◌}
use mathlib.Core.Path.{◌≡◌, refl, sym, ◌∙◌, ap}
use mathlib.Core.Bool.{true}
use mathlib.Core.List.{List, [], ◌∷◌, ◌++◌, map}
use native.Mathlib.Omega.{arith}
use native.Mathlib.Decide.{dec_lt}
use lib.ListN.{length, get_or, replicate, length-append, length-replicate, get_or-replicate, get_or-append}
use lib.Seq.{take-length, get_or-append-add}
use borrow.Author.Tests.{lt-ltb}
use Rattle.words.specs.Lists.{filter, up_from, up_to, last_or}
use Rattle.task.specs.Task.{Schema, Task, no_schema}
use Rattle.task.specs.Run.{schema_at}
use Rattle.tokens.specs.Split.{has, parts, later_parts, shared, shared_bound, maximum, par_count, procnone, do_token}
use Rattle.tokens.specs.Split.{par_token, split_task}
use Rattle.words.proofs.Lists.{In, here, there, in-empty, in-filter, in-get_or, in_map, in-up_from, in-up_to, some-length}
use Rattle.tokens.proofs.Places.{last-most}
use Rattle.tokens.proofs.Accepted.{later-step, later-mono, token_at, token-zero, token_end, token-inside}

-- ---- their number and arities
module _ (t : Task) where
  -- the last do's number; procnone's where no schema has a later part
  abbrev pub last_bare : ℕ
  last_bare = procnone t + later_parts t.schemas

  abbrev do_arities : List ℕ
  do_arities = replicate (later_parts t.schemas) 0

  abbrev par_arities : List ℕ
  par_arities = replicate (par_count t) 1

  abbrev new_arities : List ℕ
  new_arities = 0 ∷ (do_arities ++ par_arities)

  do-count : length do_arities ≡ later_parts t.schemas
  do-count = length-replicate (later_parts t.schemas) 0

  par-count : length par_arities ≡ par_count t
  par-count = length-replicate (par_count t) 1

  pub predicate-count : length (split_task t).arities ≡ length t.arities + 1 + later_parts t.schemas + par_count t
  unfolding split_task
  predicate-count =
      omega (arith, length-append t.arities new_arities, length-append do_arities par_arities, do-count, par-count)

  pub old-arity : (p : ℕ) → p < length t.arities → get_or (split_task t).arities p 0 ≡ get_or t.arities p 0
  unfolding split_task
  old-arity p h = get_or-append t.arities new_arities 0 p h

  new-arity : (n : ℕ) → get_or (split_task t).arities (procnone t + n) 0 ≡ get_or new_arities n 0
  unfolding split_task procnone
  new-arity n = get_or-append-add t.arities new_arities n 0

  pub bare-arity : (p : ℕ) → procnone t ≤ p → p ≤ last_bare → get_or (split_task t).arities p 0 ≡ 0
  bare-arity p h k =
      let e : p ≡ procnone t + (p - procnone t) = omega arith in
      ap (λ p. get_or (split_task t).arities p 0) e ∙ new-arity (p - procnone t) ∙ go (p - procnone t) (omega arith)
    where
      go : (n : ℕ) → n ≤ later_parts t.schemas → get_or new_arities n 0 ≡ 0
      go zero l = refl
      go (suc n) l =
          get_or-append do_arities par_arities 0 n (omega (arith, do-count)) ∙
          get_or-replicate (later_parts t.schemas) n 0 0 l

  pub par-arity : (x : ℕ) → x < par_count t → get_or (split_task t).arities (par_token t x) 0 ≡ 1
  unfolding par_token
  par-arity x h =
      let e : last_bare + 1 + x ≡ procnone t + suc (length do_arities + x) = omega (arith, do-count) in
      ap (λ p. get_or (split_task t).arities p 0) e ∙ new-arity (suc (length do_arities + x)) ∙
      get_or-append-add do_arities par_arities x 0 ∙ get_or-replicate (par_count t) x 1 0 h

  pub par-known : (x : ℕ) → x < par_count t → par_token t x < length (split_task t).arities
  unfolding par_token procnone
  par-known x h = omega (arith, predicate-count)

  pub par-high : (x : ℕ) → procnone t ≤ par_token t x
  unfolding par_token
  par-high x = omega arith

  pub par-fixes : (x y : ℕ) → par_token t x ≡ par_token t y → x ≡ y
  unfolding par_token
  par-fixes x y e = omega arith

  -- ---- procnone and the dos
  pub do-low : (s j : ℕ) → s < length t.schemas → j < parts (schema_at t s) → do_token t s j ≤ last_bare
  unfolding do_token schema_at
  do-low s j l h =
      let a = later-step t.schemas s no_schema l in
      let b = later-mono t.schemas (suc s) (length t.schemas) l in
      let c = ap later_parts (take-length t.schemas) in
      omega arith

  pub token-low : (s : ℕ) (o : List ℕ) (j : ℕ) → s < length t.schemas → length o ≡ parts (schema_at t s) →
      j ≤ length o → token_at t s o j ≤ last_bare
  token-low s o j l e h = elim (dec_lt 0 j) [
    | yes k ↦ elim (dec_lt j (length o)) [
      | yes m ↦ rw (token-inside t s o j k m) (do-low s j l (omega arith))
      | no m ↦ rw (token_end t s o j (omega arith)) (omega arith)
    ]
    | no k ↦ let z : j ≡ 0 = omega arith in rw (z, token-zero) (omega arith)
  ]

-- ---- a par for each parameter of two parts
schema-in : (t : Task) (s : ℕ) → s < length t.schemas → In (schema_at t s) t.schemas
unfolding schema_at
schema-in t s l = in-get_or t.schemas s no_schema l

two-length : {a b : ℕ} {xs : List ℕ} → In a xs → In b xs → (a ≡ b → ⊥) → 1 < length xs
two-length (here e) (here f) n = absurd (n (e ∙ sym f))
two-length (here e) (there k) n = let z = some-length k in omega arith
two-length (there i) k n = let z = some-length i in omega arith

below-maximum : {x : ℕ} {xs : List ℕ} → In x xs → x ≤ maximum xs
unfolding maximum
below-maximum (here e) = omega arith
below-maximum (there i) = let z = below-maximum i in omega arith

last-suc : (d : ℕ) (xs : List ℕ) → last_or (map suc xs) (suc d) ≡ suc (last_or xs d)
unfolding last_or
last-suc d [] = refl
last-suc d (x ∷ xs) = last-suc x xs

-- a bound of a schema's shared parameters
shared-bound : (s : Schema) (x : ℕ) → x < s.params → shared s x ≡ true → x < shared_bound s
unfolding shared_bound up_to last_or
shared-bound s x l h =
    let i = in-filter (shared s) (in-up_from 0 s.params x (omega arith) (omega arith)) h in
    go (filter (shared s) (up_from 0 s.params)) i ((last-most (shared s) 0 s.params 0 (omega arith)).1 x i)
  where
    go : (xs : List ℕ) → In x xs → x ≤ last_or xs 0 → x < last_or (map suc xs) 0
    go [] i k = absurd (in-empty i)
    go (y ∷ ys) i k = let z = last-suc y ys in omega arith

-- found in two parts, hence below m
pub par-exists : (t : Task) (s x p q : ℕ) → s < length t.schemas → x < (schema_at t s).params →
    p < parts (schema_at t s) → q < parts (schema_at t s) → (p ≡ q → ⊥) →
    has (schema_at t s) x p ≡ true → has (schema_at t s) x q ≡ true → x < par_count t
unfolding par_count shared
par-exists t s x p q l lx lp lq n hp hq =
    let two = two-length (in-filter (has (schema_at t s) x) (in-up_to (parts (schema_at t s)) p lp) hp)
    (in-filter (has (schema_at t s) x) (in-up_to (parts (schema_at t s)) q lq) hq) n in
    let y = shared-bound (schema_at t s) x lx (lt-ltb 1 _ two) in
    let z = below-maximum (in_map shared_bound (schema-in t s l)) in
    omega arith
