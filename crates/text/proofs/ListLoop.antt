-- The turns of the loop that reads a list of numbers: the list at the start is the numbers read so far, and then the
-- list at the cursor. And a body with its line's end behind it.
use Prim.Native.Nat.{ℕ, ◌+◌, ◌≤◌, ◌<◌}
use mathlib.Core.Path.{◌≡◌, refl, sym, ◌∙◌, ap}
use mathlib.Core.Bool.{Bool, true, false}
use mathlib.Core.List.{List, [], ◌∷◌, ◌++◌, append_assoc}
use Rattle.std.specs.Prelude.{Option, None, Some}
use native.Mathlib.Omega.{arith}
use lib.ListN.{length, get_or, set, length-append, length-set, get_or-append}
use lib.Seq.{get_or-set_same, get_or-set_other, get_or-append_seam}
use lib.Dec.{eqb}
use borrow.Author.Tests.{eqb-true, ne_eqb, eqb-false}
use Rattle.text.specs.declared.cursor.Cursor.{Cursor}
use Rattle.text.specs.Lines.{comma, Taken, taken, and_then, after, number, numbers}
use Rattle.text.specs.ReadCode.{rest, Placed, NumberHere, WordHere, Onward, Listed, ListHere}
use Rattle.text.proofs.Taken.{no_none, after_read}
use Rattle.text.proofs.NumberLists.{goes_on, numbers-step}

-- ---- a list goes on behind a comma, and ends where none stands
pub goes-on : (n : ℕ) (bs more : List ℕ) → after (comma ∷ []) bs ≡ Some more →
    goes_on numbers n bs ≡ and_then (numbers more) (λ ns. taken (n ∷ ns.value) ns.rest)
unfolding goes_on
goes-on n bs more h = ap (goes_on numbers n) (after_read (comma ∷ []) bs more h)

pub stops : (n : ℕ) (bs : List ℕ) → after (comma ∷ []) bs ≡ None → goes_on numbers n bs ≡ taken (n ∷ []) bs
unfolding goes_on after
stops n [] h = refl
stops n (b ∷ bs) h = go (eqb comma b) refl h
  where
    go : (c : Bool) → eqb comma b ≡ c → ◌≡◌ {A = Option (List ℕ)} (elim c [ true ↦ Some bs | false ↦ None ]) None →
        goes_on numbers n (b ∷ bs) ≡ taken (n ∷ []) (b ∷ bs)
    go true e h = absurd (no_none (sym h))
    go false e h = ap (λ (c : Bool). ◌of_test c) (ne_eqb b 44 (λ q. eqb-false 44 b e (sym q)))
      where
        ◌of_test : Bool → Option (Taken (List ℕ))
        ◌of_test c = elim c [
          | true ↦ and_then (numbers bs) (λ ns. taken (n ∷ ns.value) ns.rest)
          | false ↦ taken (n ∷ []) (b ∷ bs)
        ]

-- ---- the loop
-- numbers in front of those that a reader finds
abbrev pub behind_these : List ℕ → Option (Taken (List ℕ)) → Option (Taken (List ℕ))
behind_these ns o = and_then o (λ m. taken (ns ++ m.value) m.rest)

pub record ListSoFar (text : List ℕ) (start here : Cursor) (count : ℕ) (kept : List ℕ) : Type 0 where
  pub read : List ℕ
  pub split : numbers (rest text start) ≡ behind_these read (numbers (rest text here))
  pub listed : Listed read count kept
  pub onward : Onward text start here
  pub few : count ≤ here.at
  pub placed : Placed text here

pub listed-none : (kept : List ℕ) → Listed [] 0 kept
listed-none kept = record { counted = refl; held = λ k l m. absurd (omega arith) }

pub listed_more : {ns : List ℕ} {count : ℕ} {kept : List ℕ} (n : ℕ) → Listed ns count kept →
    Listed (ns ++ (n ∷ [])) (count + 1) (set kept count n)
listed_more {ns} {count} {kept} n s = record {
  counted = let c = s.counted in omega (arith, length-append ns (n ∷ []));
  held = at;
}
  where
    at : (k : ℕ) → k < length (ns ++ (n ∷ [])) → k < length (set kept count n) →
        get_or (set kept count n) k 0 ≡ get_or (ns ++ (n ∷ [])) k 0
    at k l m = go (eqb k count) refl
      where
        last : length ns ≡ count
        last = s.counted

        below_last : (a b : ℕ) → (a ≡ b → ⊥) → a < b + 1 → a < b
        below_last a b h l = omega arith

        go : (b : Bool) → eqb k count ≡ b → get_or (set kept count n) k 0 ≡ get_or (ns ++ (n ∷ [])) k 0
        go true e =
            let q = eqb-true k count e in
            let z = length-set kept count n in
            ap (λ (x : ℕ). get_or (set kept count n) x 0) q ∙
            (get_or-set_same kept count n 0 (omega arith) ∙
            (sym (get_or-append_seam ns n [] 0) ∙ ap (λ (x : ℕ). get_or (ns ++ (n ∷ [])) x 0) (last ∙ sym q)))
        go false e =
            let z = length-set kept count n in
            let y = length-append ns (n ∷ []) in
            let ne = eqb-false k count e in
            let below : k < length ns = below_last k (length ns) (λ q. ne (q ∙ last)) (omega arith) in
            get_or-set_other kept count k n 0 ne ∙
            (s.held k below (omega arith) ∙ sym (get_or-append ns (n ∷ []) 0 k below))

pub list-begins : (text : List ℕ) (c : Cursor) (kept : List ℕ) → Placed text c → ListSoFar text c c 0 kept
unfolding and_then
list-begins text c kept p = record {
  read = [];
  split = same (numbers (rest text c));
  listed = listed-none kept;
  onward = record { on = omega arith; inside = p.inside; line = refl };
  few = omega arith;
  placed = p;
}
  where
    same : (o : Option (Taken (List ℕ))) → o ≡ behind_these [] o
    same None = refl
    same (Some m) = refl

module _ {text : List ℕ} {start here : Cursor} {count : ℕ} {kept : List ℕ}
    (s : ListSoFar text start here count kept) where
  pub no_number : number (rest text here) ≡ None → numbers (rest text start) ≡ None
  unfolding and_then
  no_number h =
      s.split ∙ ap (behind_these s.read)
      (numbers-step (rest text here) ∙
      ap (λ (o : Option (Taken ℕ)). and_then o (λ n. goes_on numbers n.value n.rest)) h)

  module _ {n : ℕ} {behind : Cursor} (h : NumberHere text here n behind) where
    step : numbers (rest text here) ≡ goes_on numbers n (rest text behind)
    unfolding and_then
    step =
        numbers-step (rest text here) ∙
        ap (λ (o : Option (Taken ℕ)). and_then o (λ n. goes_on numbers n.value n.rest)) h.is

    pub list-ends : after (comma ∷ []) (rest text behind) ≡ None →
        ListHere text start (numbers (rest text start)) (count + 1) (set kept count n) behind
    unfolding and_then
    list-ends e = record {
      ns = s.read ++ (n ∷ []);
      is = s.split ∙ ap (behind_these s.read) (step ∙ stops n (rest text behind) e);
      listed = listed_more n s.listed;
      onward =
          let a = s.onward.on in
          let b = h.moved.on in
          record { on = omega arith; inside = h.moved.inside; line = h.moved.line ∙ s.onward.line };
    }

    pub list-goes-on : {next : Cursor} → WordHere text behind (comma ∷ []) next →
        ListSoFar text start next (count + 1) (set kept count n)
    unfolding and_then
    list-goes-on {next} w =
        let a = s.onward.on in
        let b = h.moved.on in
        let f = w.far in
        let p = s.placed.line in
        let l₁ = h.moved.line in
        let l₂ = w.line in
        let few = s.few in
        record {
          read = s.read ++ (n ∷ []);
          split = s.split ∙ (ap (behind_these s.read)
              (step ∙ goes-on n (rest text behind) (rest text next) w.is) ∙
              regroup (numbers (rest text next)));
          listed = listed_more n s.listed;
          onward = record { on = omega arith; inside = w.inside; line = w.line ∙ (h.moved.line ∙ s.onward.line) };
          few = omega arith;
          placed = record { inside = w.inside; line = omega arith };
        }
      where
        regroup : (o : Option (Taken (List ℕ))) →
            behind_these s.read (and_then o (λ ns. taken (n ∷ ns.value) ns.rest)) ≡
            behind_these (s.read ++ (n ∷ [])) o
        regroup None = refl
        regroup (Some m) = ap (λ (xs : List ℕ). taken xs m.rest) (sym (append_assoc s.read (n ∷ []) m.value))
