-- What the tests of a row come to: whether an atom fits its predicate, and the four words of its arguments.
use Prim.Native.Nat.{ℕ, zero, suc, ◌+◌, ◌*◌, ◌≤◌, ◌<◌}
use mathlib.Core.Path.{◌≡◌, refl, sym, ◌∙◌, ap, ap₂, subst}
use mathlib.Core.Bool.{Bool, true, false, ◌&&◌}
use mathlib.Core.List.{List, [], ◌∷◌}
use native.Mathlib.Omega.{arith}
use native.Mathlib.Decide.{dec_lt}
use lib.ListN.{length, get_or, take, set, length-set}
use lib.Seq.{ext_get_or, get_or-take, length-take-le, get_or-set_same, get_or-set_other}
use lib.Dec.{eqb, ltb, leb}
use borrow.Author.Tests.{ltb-true, leb-true, lt-ltb, le-ltb, eq-eqb, ne_eqb, eqb-true, eqb-false}
use Rattle.words.specs.Lists.{all, padded}
use Rattle.task.specs.Limits.{head_words, atom_size}
use Rattle.task.specs.Task.{args_fit}
use Rattle.task.specs.Table.{atom_words}
use Rattle.words.proofs.Lists.{no_ft, all_in, in-get_or}
use Rattle.words.proofs.Words.{and-false, each_first, past_end}
use Rattle.text.specs.ReadCode.{Listed, Fitting, PartsPut, Wrote, bare_atom}
use Rattle.text.proofs.WroteWords.{wrote-all, wrote-same}

-- the numbers that were kept are the list, where there was room for all
pub listed-take : {ns : List ℕ} {count : ℕ} {kept : List ℕ} → Listed ns count kept → count ≤ length kept →
    take count kept ≡ ns
listed-take {ns} {count} {kept} s l =
    let c = s.counted in
    let m = length-take-le count kept l in
    ext_get_or 0 (take count kept) ns (omega arith) (λ k q.
    get_or-take count kept k 0 (omega arith) ∙ s.held k (omega arith) (omega arith))

-- ---- refusal 5
module _ (w : List ℕ) (predicates bound p : ℕ) (kept : List ℕ) (count : ℕ) where
  not-told : {A : Type 0} → false ≡ true → A
  not-told h = absurd (no_ft h)

  pub unknown-predicate : predicates ≤ p → Fitting w predicates bound p kept count false
  unfolding args_fit
  unknown-predicate l = record {
    is = λ arities ns e a low four s.
        sym (ap (λ (b : Bool). b && (eqb (length ns) (get_or arities p 0) && all (λ a. ltb a bound) ns))
        (le-ltb p (length arities) (omega arith)));
    known = not-told;
    enough = not-told;
    low = not-told;
  }

  wrong-count : p < predicates → (arities ns : List ℕ) → (length ns ≡ get_or arities p 0 → ⊥) →
      false ≡ args_fit arities bound p ns
  unfolding args_fit
  wrong-count l arities ns n =
      sym (ap (λ (b : Bool). ltb p (length arities) && (b && all (λ a. ltb a bound) ns))
      (ne_eqb (length ns) (get_or arities p 0) n) ∙ and-false (ltb p (length arities)))

  pub too-many : p < predicates → length kept < count → Fitting w predicates bound p kept count false
  too-many l m = record {
    is = λ arities ns e a low four s. wrong-count l arities ns (λ q.
        let c = s.counted in
        let few = leb-true (get_or arities p 0) 4 (all_in (λ n. leb n 4) low (in-get_or arities p 0 (omega arith))) in
        omega arith);
    known = not-told;
    enough = not-told;
    low = not-told;
  }

  pub other-arity : p < predicates → (get_or w (head_words + p) 0 ≡ count → ⊥) →
      Fitting w predicates bound p kept count false
  other-arity l n = record {
    is = λ arities ns e a low four s. wrong-count l arities ns (λ q.
        n (a p (omega arith) ∙ (sym q ∙ s.counted)));
    known = not-told;
    enough = not-told;
    low = not-told;
  }

  pub right-count : p < predicates → count ≤ length kept → get_or w (head_words + p) 0 ≡ count → (told : Bool) →
      told ≡ all (λ a. ltb a bound) (take count kept) → Fitting w predicates bound p kept count told
  unfolding args_fit
  right-count l m n told t = record {
    is = λ arities ns e a low four s.
        let here : length ns ≡ get_or arities p 0 = s.counted ∙ (sym n ∙ a p (omega arith)) in
        let known = lt-ltb p (length arities) (omega arith) in
        let counted = eq-eqb (length ns) (get_or arities p 0) here in
        t ∙ (ap (all (λ a. ltb a bound)) (listed-take s m) ∙
        sym (ap₂ (λ (b c : Bool). b && (c && all (λ a. ltb a bound) ns)) known counted));
    known = λ h. l;
    enough = λ h. m;
    low = λ h k q. ltb-true (get_or kept k 0) bound (each_first (λ a. ltb a bound) kept count m (sym t ∙ h) k q);
  }

-- ---- the words of a row
pub four-words : (ns : List ℕ) → length ns ≤ 4 →
    padded 4 ns ≡ get_or ns 0 0 ∷ get_or ns 1 0 ∷ get_or ns 2 0 ∷ get_or ns 3 0 ∷ []
unfolding padded
four-words [] l = refl
four-words (a ∷ []) l = refl
four-words (a ∷ b ∷ []) l = refl
four-words (a ∷ b ∷ c ∷ []) l = refl
four-words (a ∷ b ∷ c ∷ d ∷ []) l = refl
four-words (a ∷ b ∷ c ∷ d ∷ e ∷ ns) l = absurd (omega arith)

pub row_words : (s r p : ℕ) (ns : List ℕ) → length ns ≤ 4 → (a b c d : ℕ) → a ≡ get_or ns 0 0 → b ≡ get_or ns 1 0 →
    c ≡ get_or ns 2 0 → d ≡ get_or ns 3 0 → s ∷ r ∷ p ∷ 0 ∷ a ∷ b ∷ c ∷ d ∷ [] ≡ atom_words s (bare_atom r p ns)
unfolding atom_words
row_words s r p ns l a b c d e f g h =
    rw (e, f, g, h) (ap {B = List ℕ} (λ (xs : List ℕ). s ∷ r ∷ p ∷ 0 ∷ xs) (sym (four-words ns l)))

-- the first of some numbers that were written, by the place where each stands
pub first-put : {w z : List ℕ} {at : ℕ} (n : ℕ) (xs : List ℕ) → n ≤ length xs →
    Wrote w at (length (take n xs)) (λ k. get_or (take n xs) k 0) z → Wrote w at n (λ k. get_or xs k 0) z
first-put n xs l h = wrote-same (λ k q. get_or-take n xs k 0 q) (wrote-all (length-take-le n xs l) h)

-- the first of some numbers are small where the numbers at their places are
pub first-small : (n : ℕ) (xs : List ℕ) {m : ℕ} → n ≤ length xs → ((k : ℕ) → k < n → get_or xs k 0 < m) → (k : ℕ) →
    k < length (take n xs) → get_or (take n xs) k 0 < m
first-small n xs l h k q =
    let z = length-take-le n xs l in
    let y = h k (omega arith) in
    omega (arith, get_or-take n xs k 0 (omega arith))

-- ---- parts
pub part-put : {w after : List ℕ} {first n : ℕ} {parts : List ℕ} → PartsPut w first n parts after →
    first + atom_size * n + 3 < length w →
    PartsPut w first (n + 1) parts (set after (first + atom_size * n + 3) (get_or parts n 0))
part-put {w} {after} {first} {n} {parts} h l =
    let at = first + atom_size * n + 3 in
    let x = get_or parts n 0 in
    let s = h.size in
    record {
      size = length-set after at x ∙ h.size;
      put = λ k m. go k m (eqb k n) refl;
      other = λ j m. get_or-set_other after at j x 0 (m n (omega arith)) ∙ h.other j (λ k q. m k (omega arith));
    }
  where
    go : (k : ℕ) → k < n + 1 → (b : Bool) → eqb k n ≡ b →
        get_or (set after (first + atom_size * n + 3) (get_or parts n 0)) (first + atom_size * k + 3) 0 ≡ get_or parts k 0
    go k m true q =
        let z = eqb-true k n q in
        let s = h.size in
        rw z (get_or-set_same after (first + atom_size * n + 3) (get_or parts n 0) 0 (omega arith))
    go k m false q =
        let z = eqb-false k n q in
        get_or-set_other after (first + atom_size * n + 3) (first + atom_size * k + 3) (get_or parts n 0) 0
        (λ r. z (omega arith)) ∙
        h.put k (omega arith)

pub parts_all : {w after : List ℕ} {first n k : ℕ} {parts : List ℕ} → n ≡ k → PartsPut w first n parts after →
    PartsPut w first k parts after
parts_all {w} {after} {first} {n} {k} {parts} e h = subst (λ (i : ℕ). PartsPut w first i parts after) e h

-- some numbers that are small, and 0 behind them
pub small-or-zero : (xs : List ℕ) → ((k : ℕ) → k < length xs → get_or xs k 0 < 65536) → (k : ℕ) → get_or xs k 0 < 65536
small-or-zero xs h k = elim (dec_lt k (length xs)) [
  | yes l ↦ h k l
  | no l ↦ let q = past_end xs k (omega arith) in omega arith
]

pub eight-words : {s r p z a b c d : ℕ} → s < 65536 → r < 65536 → p < 65536 → z < 65536 → a < 65536 → b < 65536 →
    c < 65536 → d < 65536 → (k : ℕ) → k < 8 → get_or (s ∷ r ∷ p ∷ z ∷ a ∷ b ∷ c ∷ d ∷ []) k 0 < 65536
eight-words {s} {r} {p} {z} {a} {b} {c} {d} hs hr hp hz ha hb hc hd = at
  where
    at : (k : ℕ) → k < 8 → get_or (s ∷ r ∷ p ∷ z ∷ a ∷ b ∷ c ∷ d ∷ []) k 0 < 65536
    at zero l = hs
    at (suc zero) l = hr
    at (suc (suc zero)) l = hp
    at (suc (suc (suc zero))) l = hz
    at (suc (suc (suc (suc zero)))) l = ha
    at (suc (suc (suc (suc (suc zero))))) l = hb
    at (suc (suc (suc (suc (suc (suc zero)))))) l = hc
    at (suc (suc (suc (suc (suc (suc (suc zero))))))) l = hd
    at (suc (suc (suc (suc (suc (suc (suc (suc k)))))))) l = absurd (omega arith)

pub seven-words : {a b c d e f g : ℕ} → a < 65536 → b < 65536 → c < 65536 → d < 65536 → e < 65536 → f < 65536 →
    g < 65536 → (k : ℕ) → k < 7 → get_or (a ∷ b ∷ c ∷ d ∷ e ∷ f ∷ g ∷ []) k 0 < 65536
seven-words {a} {b} {c} {d} {e} {f} {g} ha hb hc hd he hf hg = at
  where
    at : (k : ℕ) → k < 7 → get_or (a ∷ b ∷ c ∷ d ∷ e ∷ f ∷ g ∷ []) k 0 < 65536
    at zero l = ha
    at (suc zero) l = hb
    at (suc (suc zero)) l = hc
    at (suc (suc (suc zero))) l = hd
    at (suc (suc (suc (suc zero)))) l = he
    at (suc (suc (suc (suc (suc zero))))) l = hf
    at (suc (suc (suc (suc (suc (suc zero)))))) l = hg
    at (suc (suc (suc (suc (suc (suc (suc k))))))) l = absurd (omega arith)
