-- The four ways in which one delete is dealt with: it is not there; it is an add that holds; an add takes its place; it
-- goes alone. In each the adds passed hold, and the end comes out the same.
use Prim.Native.Nat.{ℕ, ◌+◌, ◌-◌, ◌≤◌, ◌<◌}
use mathlib.Core.Path.{◌≡◌, refl, sym, ◌∙◌, ap, subst}
use mathlib.Core.Bool.{Bool, true, false, not}
use mathlib.Core.List.{List, [], ◌∷◌}
use mathlib.Core.Logic.{◌⊎◌, inl, inr}
use native.Mathlib.Omega.{arith}
use lib.ListN.{length}
use lib.Dec.{eqb}
use borrow.Author.Tests.{not-true, not-false}
use Rattle.words.specs.Lists.{all}
use Rattle.words.specs.Words.{words_at}
use Rattle.task.specs.Task.{Fact, Task}
use Rattle.task.specs.Run.{holds, insert, insert_all, remove_all, state_in, room_in}
use Rattle.task.specs.Records.{Known, Keeps}
use Rattle.task.specs.Spans.{span, UnderWay, AllHold, exchanged}
use Rattle.task.specs.declared.spans.Spans.{Spans}
use Rattle.task.specs.declared.exchange.New.{New}
use Rattle.task.specs.Exchange.{FirstNew, ExchangedOne}
use Rattle.words.proofs.Lists.{both-ft, In, here, in-eq}
use Rattle.task.proofs.States.{holds-in, in-holds, dec-in, Asc, asc-insert, in_insert, insert-new, insert-old}
use Rattle.task.proofs.Changes.{remove-nothing}
use Rattle.task.proofs.SpanLaws.{span_more, span-end, facts-asc, with-state}
use Rattle.task.proofs.SizeLaws.{span-absent, removed-asc}
use Rattle.task.proofs.ExchangeLaws.{
  removed-in,
  in-removed,
  one_in,
  same_end,
  in_span,
  span-in,
  Held,
  all_held,
  held_all,
  held_none,
  held-join,
  rest-comes,
}

-- what is known as a delete is dealt with: the adds before the next one hold
pub record Passed (t : Task) (g : ℕ → Fact) (spans : Spans) (numbers : List ℕ) (next : ℕ) (found : List ℕ) (n : ℕ) :
    Type 0 where
  pub way : UnderWay t g spans numbers found n
  pub from : spans.adds ≤ next
  pub within : next ≤ spans.deletes
  pub hold : AllHold t g spans.adds next found n

module _ {t : Task} {g : ℕ → Fact} {spans : Spans} {numbers : List ℕ} {next : ℕ} {found : List ℕ} {n : ℕ}
    (p : Passed t g spans numbers next found n) (k : ℕ) where
  abbrev add : ℕ
  add = spans.adds

  abbrev del : ℕ
  del = spans.deletes

  abbrev s : List Fact
  s = state_in t found n

  abbrev d : Fact
  d = g k

  asc : Asc s
  asc = facts-asc p.way

  same_or_not : (x : Fact) → (x ≡ d) ⊎ (x ≡ d → ⊥)
  same_or_not x = elim (dec-in (d ∷ []) x) [ inl j ↦ inl (one_in j) | inr j ↦ inr (λ e. j (here e)) ]

  pub not_there : holds s d ≡ false → ExchangedOne t g add del k found n found n next
  not_there e = record {
    from = p.from;
    within = p.within;
    state = p.way.state_is;
    hold = p.hold;
    same = same_end (span g add del) d s s asc asc
        (λ x j. inr (j, λ q. both-ft (in-holds (in-eq (sym q) j)) e)) (λ x j q. inr j);
  }

  module _ {fresh : New} (c : FirstNew t g numbers next del found n fresh) where
    abbrev new : ℕ
    new = fresh.atom

    to-new : Held g s add new
    to-new = held-join g s add next new (all_held g s add next p.hold)
        (all_held g s next new c.hold)

    from-add : add ≤ new
    from-add = let y = p.from in let z = c.from in omega arith

    none_of : {f : Fact} {number : ℕ} → Known t found n f number →
        all (λ a. not (eqb a number)) (words_at numbers add (new - add)) ≡ not (holds (span g add new) f)
    none_of known = span-absent p.way add new (let y = p.way.deletes in let z = c.within in omega arith) known

    -- the delete is an add that holds
    pub is-add : {number : ℕ} {r : Bool} → Known t found n d number →
        r ≡ all (λ a. not (eqb a number)) (words_at numbers add (new - add)) → r ≡ false →
        ExchangedOne t g add del k found n found n new
    is-add known e q =
        let one = not-false (holds (span g add new) d) (sym (e ∙ none_of known) ∙ q) in
        let (j, a, b, y) =
        span-in g add new d (holds-in (span g add new) d one) in
        let u : In d (span g add del) =
        in-eq y (in_span g add del j a (let z = c.within in omega arith)) in
        record {
          from = from-add;
          within = c.within;
          state = p.way.state_is;
          hold = held_all g s add new to-new;
          same = same_end (span g add del) d s s asc asc
              (λ x j. elim (same_or_not x) [ inl z ↦ inl (in-eq z u) | inr z ↦ inr (j, z) ]) (λ x j z. inr j);
        }

    -- the delete is none of the adds passed, which hold after it has gone
    others-hold : {number : ℕ} {r : Bool} → Known t found n d number →
        r ≡ all (λ a. not (eqb a number)) (words_at numbers add (new - add)) → r ≡ true →
        Held g (remove_all (d ∷ []) s) add new
    others-hold known e q j a b =
        let none = not-true (holds (span g add new) d) (sym (e ∙ none_of known) ∙ q) in
        in-removed (d ∷ []) s (g j) (to-new j a b) (λ z.
        both-ft (in-holds (in-eq (sym (one_in z)) (in_span g add new j a b))) none)

    left_in : (x : Fact) → In x (remove_all (d ∷ []) s) → In x s × (x ≡ d → ⊥)
    left_in x j = let (y, z) = removed-in (d ∷ []) s x j in (y, λ q. z (here q))

    pub goes-alone : {number : ℕ} {r : Bool} (out : List ℕ) (left : ℕ) → Known t found n d number →
        r ≡ all (λ a. not (eqb a number)) (words_at numbers add (new - add)) → r ≡ true →
        Keeps t out left (remove_all (d ∷ []) s) → ExchangedOne t g add del k found n out left new
    goes-alone out left known e q kept = record {
      from = from-add;
      within = c.within;
      state = kept.state;
      hold = held_all g (state_in t out left) add new
          (subst (λ (u : List Fact). Held g u add new) (sym kept.facts) (others-hold known e q));
      same = λ fs.
          ap (λ (u : List Fact). insert_all (span g add del) (remove_all fs u)) kept.facts ∙
          same_end (span g add del) d s (remove_all (d ∷ []) s) asc (removed-asc (d ∷ []) asc)
          (λ x j. inr (left_in x j)) (λ x j z. inr (in-removed (d ∷ []) s x j (λ y. z (one_in y)))) fs;
    }

    pub replaced-by : {number : ℕ} {r : Bool} (out : List ℕ) → Known t found n d number →
        r ≡ all (λ a. not (eqb a number)) (words_at numbers add (new - add)) → r ≡ true → new < del →
        Keeps t out n (insert (g new) (remove_all (d ∷ []) s)) →
        ExchangedOne t g add del k found n out n (new + 1)
    replaced-by out known e q y kept =
        let a = g new in
        let rest = remove_all (d ∷ []) s in
        let new-held : Held g (insert a rest) add (new + 1) =
        held-join g (insert a rest) add new (new + 1)
        (λ j u v. insert-old a rest (g j) (others-hold known e q j u v))
        (λ j u v. let z : new ≡ j = omega arith in
        subst (λ (x : ℕ). In (g x) (insert a rest)) z (insert-new a rest)) in
        let u : In a (span g add del) = in_span g add del new from-add y in
        let z = from-add in
        record {
          from = omega arith;
          within = omega arith;
          state = kept.state;
          hold = held_all g (state_in t out n) add (new + 1)
              (subst (λ (x : List Fact). Held g x add (new + 1)) (sym kept.facts) new-held);
          same = λ fs.
              ap (λ (x : List Fact). insert_all (span g add del) (remove_all fs x)) kept.facts ∙
              same_end (span g add del) d s (insert a rest) asc
              (asc-insert a (removed-asc (d ∷ []) asc))
              (λ x j. elim (in_insert a rest x j) [ inl v ↦ inl (in-eq v u) | inr v ↦ inr (left_in x v) ])
              (λ x j v. inr (insert-old a rest x (in-removed (d ∷ []) s x j (λ m. v (one_in m))))) fs;
        }

-- ---- all deletes, one after another
pub record ExchangeSo (t : Task) (g : ℕ → Fact) (spans : Spans) (numbers found : List ℕ) (n : ℕ) (state : List ℕ)
    (left next k : ℕ) : Type 0 where
  pub to_last : k ≤ spans.end
  pub size : length state ≡ length found
  pub passed : Passed t g spans numbers next state left
  pub same : insert_all (span g spans.adds spans.deletes)
      (remove_all (span g k spans.end) (state_in t state left)) ≡
      exchanged t g spans found n

pub exchange-start : {t : Task} {g : ℕ → Fact} {spans : Spans} {numbers state : List ℕ} {n : ℕ} →
    UnderWay t g spans numbers state n →
    ExchangeSo t g spans numbers state n state n spans.adds spans.deletes
exchange-start {t} {g} {spans} {state = state} {n} u = record {
  to_last = u.deletes;
  size = refl;
  passed = record {
    way = u;
    from = omega arith;
    within = u.adds;
    hold = held_all g (state_in t state n) spans.adds spans.adds
        (held_none g (state_in t state n) spans.adds);
  };
  same = refl;
}

module _ {t : Task} {g : ℕ → Fact} {spans : Spans} {numbers found : List ℕ} {n : ℕ} {state : List ℕ} {left next k : ℕ}
    (c : ExchangeSo t g spans numbers found n state left next k) where
  pub exchange-turn : {out : List ℕ} {left' next' : ℕ} → k < spans.end → length out ≡ length state →
      ExchangedOne t g spans.adds spans.deletes k state left out left' next' →
      ExchangeSo t g spans numbers found n out left' next' (k + 1)
  exchange-turn l z e = record {
    to_last = omega arith;
    size = z ∙ c.size;
    passed = record {
      way = with-state c.passed.way e.state;
      from = e.from;
      within = e.within;
      hold = e.hold;
    };
    same =
        e.same (span g (k + 1) spans.end) ∙
        (ap (λ (fs : List Fact). insert_all (span g spans.adds spans.deletes)
        (remove_all fs (state_in t state left)))
        (sym (span_more g k spans.end l)) ∙ c.same);
  }

  -- what is still to come in makes the end
  pub rest-ends : spans.end ≤ k →
      insert_all (span g next spans.deletes) (state_in t state left) ≡ exchanged t g spans found n
  rest-ends l =
      let s = state_in t state left in
      let adds = span g spans.adds spans.deletes in
      let p = c.passed in
      let a = p.from in
      rest-comes g s (facts-asc p.way) spans.adds spans.deletes (next - spans.adds) next (omega arith)
      p.within (all_held g s spans.adds next p.hold) ∙
      (ap (insert_all adds) (sym (remove-nothing s)) ∙
      (ap (λ (fs : List Fact). insert_all adds (remove_all fs s)) (sym (span-end g k spans.end l)) ∙ c.same))

  pub rest-room : spans.end ≤ k → length (exchanged t g spans found n) ≤ room_in found →
      length (insert_all (span g next spans.deletes) (state_in t state left)) ≤ room_in state
  unfolding room_in
  rest-room l m = let e = ap length (rest-ends l) in let z = c.size in omega arith

  pub exchange-end : {out : List ℕ} {m : ℕ} → spans.end ≤ k →
      Keeps t out m (insert_all (span g next spans.deletes) (state_in t state left)) →
      Keeps t out m (exchanged t g spans found n)
  exchange-end l kept = record { state = kept.state; facts = kept.facts ∙ rest-ends l }
