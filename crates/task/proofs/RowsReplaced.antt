-- A row replaced by another: the rows between the two places move by one, and the words keep the state without the one
-- fact and with the other. The list is that with one more at p of the list without element k.
use Prim.Native.Nat.{ℕ, zero, suc, ◌+◌, ◌-◌, ◌*◌, ◌≤◌, ◌<◌}
use mathlib.Core.Path.{◌≡◌, sym, ◌∙◌, ap, subst}
use mathlib.Core.Bool.{false}
use mathlib.Core.List.{List, [], ◌∷◌}
use native.Mathlib.Omega.{arith}
use native.Mathlib.Decide.{dec_lt}
use lib.ListN.{length, get_or}
use Rattle.words.specs.Lists.{padded}
use Rattle.task.specs.Task.{Fact, Task}
use Rattle.task.specs.Run.{holds, insert, remove_all, record_words, state_in}
use Rattle.task.specs.Records.{
  record_number,
  row_number,
  LowerBound,
  MovedDown,
  MovedUp,
  Written,
  Replaced,
  up,
  down,
  Known,
  Keeps,
}
use Rattle.words.proofs.Lists.{both-ft, Less, length-padded}
use Rattle.task.proofs.States.{key, in-holds}
use Rattle.task.proofs.AtomsStand.{no_fact}
use Rattle.task.proofs.Numbers.{small-padded, Slight, slight, number-before}
use Rattle.task.proofs.Rows.{Rows, Kept, fact-fits, number-row, kept-keeps}
use Rattle.task.proofs.RowsChanged.{
  without,
  placed,
  length_without,
  without-before,
  without_from,
  length-placed,
  placed-before,
  placed_at,
  placed-behind,
  remove-place,
  insert-place,
  state-removed,
  state-inserted,
}
use Rattle.task.proofs.RowsMoved.{record-digits, row-fact, row_in}
use Rattle.task.proofs.RowsFound.{known_kept, known-fits}

abbrev word : List Fact → ℕ → ℕ → ℕ
word s i j = get_or (record_words (get_or s i no_fact)) j 0

-- ---- words and rows
module _ (w : List ℕ) (s : List Fact) (r : Rows w s) (g : Fact) (c : Slight g) (number : ℕ)
    (e : record_number g ≡ number) (mid out : List ℕ) where
  at-digits : (p i j : ℕ) (u : List Fact) → Written mid (5 * p) number out → p ≡ i → p ≤ length u → j < 5 →
      get_or out (5 * i + j) 0 ≡ word (placed p g u) i j
  unfolding record_number record_words
  at-digits p i j u h q l m =
      subst (λ (x : ℕ). get_or out (5 * x + j) 0 ≡ word (placed p g u) x j) q
      (record-digits g.pred (padded 4 g.args) number (length-padded 4 g.args c.short)
      (small-padded 4 g.args c.small) e mid (5 * p) out h j m ∙
      ap (λ (f : Fact). get_or (record_words f) j 0) (sym (placed_at p g u no_fact l)))

  fact-word : (f f' : Fact) (j : ℕ) → f ≡ f' → get_or (record_words f) j 0 ≡ get_or (record_words f') j 0
  fact-word f f' j q = ap (λ (x : Fact). get_or (record_words x) j 0) q

  pub rows-up : (p k : ℕ) → p ≤ k → k < length s → MovedUp w (5 * p) (5 * k) mid → Written mid (5 * p) number out →
      Rows out (placed p g (without k s))
  rows-up p k l x m h i j a b =
      let n = length_without k s x in
      let n' = length-placed p g (without k s) (omega arith) in
      go i (omega arith) (dec_lt i p) (dec_lt p i)
    where
      go : (i : ℕ) → i < length s → Dec (i < p) → Dec (p < i) →
          get_or out (5 * i + j) 0 ≡ word (placed p g (without k s)) i j
      go i a (yes y) z =
          let n = length_without k s x in
          (h.other (5 * i + j)).0 (omega arith) ∙
          (m.before (5 * i + j) (omega arith) ∙ (r i j a b ∙
          fact-word (get_or s i no_fact) (get_or (placed p g (without k s)) i no_fact) j
          (sym (placed-before p g (without k s) i no_fact (omega arith) y ∙ without-before k s i no_fact (omega arith)))))
      go i a (no y) (no z) = let n = length_without k s x in
          at-digits p i j (without k s) h (omega arith) (omega arith) b
      go zero a (no y) (yes z) = absurd (omega arith)
      go (suc i) a (no y) (yes z) = elim (dec_lt i k) [
        | yes v ↦
            let n = length_without k s x in
            let q : 5 * suc i + j ≡ 5 * i + j + 5 = omega arith in
            (h.other (5 * suc i + j)).1 (omega arith) ∙
            (ap (λ (x : ℕ). get_or mid x 0) q ∙
            (m.moved (5 * i + j) (omega arith) (omega arith) ∙ (r i j (omega arith) b ∙
            fact-word (get_or s i no_fact) (get_or (placed p g (without k s)) (suc i) no_fact) j
            (sym (placed-behind p g (without k s) i no_fact (omega arith) (omega arith) ∙
            without-before k s i no_fact v)))))
        | no v ↦
            let n = length_without k s x in
            (h.other (5 * suc i + j)).1 (omega arith) ∙
            (m.behind (5 * suc i + j) (omega arith) ∙ (r (suc i) j a b ∙
            fact-word (get_or s (suc i) no_fact) (get_or (placed p g (without k s)) (suc i) no_fact) j
            (sym (placed-behind p g (without k s) i no_fact (omega arith) (omega arith) ∙
            without_from k s i no_fact (omega arith)))))
      ]

  pub rows-down : (p k : ℕ) → k ≤ p → p < length s → MovedDown w (5 * k) (5 * p) mid → Written mid (5 * p) number out →
      Rows out (placed p g (without k s))
  rows-down p k l x m h i j a b =
      let n = length_without k s (omega arith) in
      let n' = length-placed p g (without k s) (omega arith) in
      go i (omega arith) (dec_lt i p) (dec_lt p i)
    where
      go : (i : ℕ) → i < length s → Dec (i < p) → Dec (p < i) →
          get_or out (5 * i + j) 0 ≡ word (placed p g (without k s)) i j
      go i a (yes y) z = elim (dec_lt i k) [
        | yes v ↦
            let n = length_without k s (omega arith) in
            (h.other (5 * i + j)).0 (omega arith) ∙
            (m.before (5 * i + j) (omega arith) ∙ (r i j a b ∙
            fact-word (get_or s i no_fact) (get_or (placed p g (without k s)) i no_fact) j
            (sym (placed-before p g (without k s) i no_fact (omega arith) y ∙ without-before k s i no_fact v))))
        | no v ↦
            let n = length_without k s (omega arith) in
            let q : 5 * i + j + 5 ≡ 5 * suc i + j = omega arith in
            (h.other (5 * i + j)).0 (omega arith) ∙
            (m.moved (5 * i + j) (omega arith) (omega arith) ∙
            (ap (λ (x : ℕ). get_or w x 0) q ∙ (r (suc i) j (omega arith) b ∙
            fact-word (get_or s (suc i) no_fact) (get_or (placed p g (without k s)) i no_fact) j
            (sym (placed-before p g (without k s) i no_fact (omega arith) y ∙
            without_from k s i no_fact (omega arith))))))
      ]
      go i a (no y) (no z) = let n = length_without k s (omega arith) in
          at-digits p i j (without k s) h (omega arith) (omega arith) b
      go zero a (no y) (yes z) = absurd (omega arith)
      go (suc i) a (no y) (yes z) =
          let n = length_without k s (omega arith) in
          (h.other (5 * suc i + j)).1 (omega arith) ∙
          (m.behind (5 * suc i + j) (omega arith) ∙ (r (suc i) j a b ∙
          fact-word (get_or s (suc i) no_fact) (get_or (placed p g (without k s)) (suc i) no_fact) j
          (sym (placed-behind p g (without k s) i no_fact (omega arith) (omega arith) ∙
          without_from k s i no_fact (omega arith)))))

-- ---- a kept state
module _ {t : Task} {w : List ℕ} {n : ℕ} {f g : Fact} {gone number : ℕ} (d : Known t w n f gone)
    (d' : Known t w n g number)
    (x : holds (state_in t w n) g ≡ false) {k j : ℕ} (found : (k < n) × (row_number w k ≡ gone))
    (b : LowerBound w n number j) where
  abbrev s : List Fact
  s = state_in t w n

  kept : Kept t w n s
  kept = known_kept d

  before-new : (i : ℕ) → i < j → Less (key (get_or s i no_fact)) (key g)
  before-new i l =
      let m : i < n = (let v = b.within in omega arith) in
      let p = number-row t d.task w n s kept i m in
      let q = b.below i l in
      let e = d'.is in
      number-before t d.task (get_or s i no_fact) g (fact-fits t d.task w n s kept i m) (known-fits d') (omega arith)

  behind-new : (i : ℕ) → j ≤ i → i < n → Less (key g) (key (get_or s i no_fact))
  behind-new i l m =
      let p = number-row t d.task w n s kept i m in
      let q = b.from i l m in
      let e = d'.is in
      number-before t d.task g (get_or s i no_fact) (known-fits d') (fact-fits t d.task w n s kept i m)
      (strictly (record_number g) (record_number (get_or s i no_fact)) (omega arith) (λ u.
      both-ft (in-holds (row_in t d.task w n s kept g number (known-fits d') d'.is i m (omega arith))) x))
    where
      strictly : (a b : ℕ) → a ≤ b → (a ≡ b → ⊥) → a < b
      strictly a b l u = elim (dec_lt a b) [ yes v ↦ v | no v ↦ absurd (u (omega arith)) ]

  replaced : (p : ℕ) (out : List ℕ) → p < n → ((i : ℕ) → i < p → Less (key (get_or (without k s) i no_fact)) (key g)) →
      (p < length (without k s) → Less (key g) (key (get_or (without k s) p no_fact))) →
      Rows out (placed p g (without k s)) → length out ≡ length w → Keeps t out n (insert g (remove_all (f ∷ []) s))
  replaced p out l below from r z =
      let len = kept.count in
      let k' : k < length s = (let y = found.0 in omega arith) in
      let v = length_without k s k' in
      let e = row-fact t d.task w n s kept f gone (known-fits d) d.is k found.0 found.1 in
      let o₁ = remove-place f s kept.state.asc k k' e in
      let o₂ = insert-place g (without k s) p (omega arith) below from in
      let o : insert g (remove_all (f ∷ []) s) ≡ placed p g (without k s) = ap (insert g) o₁ ∙ o₂ in
      let u = length-placed p g (without k s) (omega arith) in
      kept-keeps t d.task out n (insert g (remove_all (f ∷ []) s)) (record {
        state = state-inserted g (known-fits d') (state-removed (f ∷ []) kept.state);
        rows = subst (Rows out) (sym o) r;
        count = ap length o ∙ (omega arith);
        room = let y = kept.room in omega arith;
      })

  -- the place of the new row is at or before the one that goes
  replaced-up : {mid out : List ℕ} → j ≤ k → MovedUp w (5 * j) (5 * k) mid → Written mid (5 * j) number out →
      length out ≡ length w →
      Keeps t out n (insert g (remove_all (f ∷ []) s))
  replaced-up {mid} {out} l m h z =
      let len = kept.count in
      let k' : k < length s = (let y = found.0 in omega arith) in
      let v = length_without k s k' in
      replaced j out (let y = found.0 in omega arith)
      (λ i a. subst (λ (q : Fact). Less (key q) (key g)) (sym (without-before k s i no_fact (omega arith)))
      (before-new i a))
      (λ a. from a (dec_lt j k))
      (rows-up w s kept.rows g (slight t d.task g (known-fits d')) number d'.is mid out j k l k' m h) z
    where
      from : j < length (without k s) → Dec (j < k) → Less (key g) (key (get_or (without k s) j no_fact))
      from a (yes y) =
          subst (λ (q : Fact). Less (key g) (key q)) (sym (without-before k s j no_fact y))
          (behind-new j (omega arith) (let u = found.0 in omega arith))
      from a (no y) =
          let v = length_without k s (let u = found.0 in let len = kept.count in omega arith) in
          let len = kept.count in
          subst (λ (q : Fact). Less (key g) (key q)) (sym (without_from k s j no_fact (omega arith)))
          (behind-new (suc j) (omega arith) (omega arith))

  -- the place of the new row is behind the one that goes
  replaced-down : {mid out : List ℕ} → k < j → MovedDown w (5 * k) (5 * (j - 1)) mid →
      Written mid (5 * (j - 1)) number out →
      length out ≡ length w → Keeps t out n (insert g (remove_all (f ∷ []) s))
  replaced-down {mid} {out} l m h z =
      let len = kept.count in
      let y = b.within in
      replaced (j - 1) out (omega arith)
      (λ i a. below i a (dec_lt i k))
      (λ a.
      let v = length_without k s (omega arith) in
      let e : suc (j - 1) ≡ j = omega arith in
      subst (λ (q : Fact). Less (key g) (key q))
      (sym (without_from k s (j - 1) no_fact (omega arith) ∙ ap (λ (q : ℕ). get_or s q no_fact) e))
      (behind-new j (omega arith) (omega arith)))
      (rows-down w s kept.rows g (slight t d.task g (known-fits d')) number d'.is mid out (j - 1) k
      (omega arith) (omega arith) m h) z
    where
      below : (i : ℕ) → i < j - 1 → Dec (i < k) → Less (key (get_or (without k s) i no_fact)) (key g)
      below i a (yes y) = subst (λ (q : Fact). Less (key q) (key g)) (sym (without-before k s i no_fact y))
          (before-new i (omega arith))
      below i a (no y) = subst (λ (q : Fact). Less (key q) (key g)) (sym (without_from k s i no_fact (omega arith)))
          (before-new (suc i) (omega arith))

  pub row-replaced : {out : List ℕ} → Replaced w k j number out → length out ≡ length w →
      Keeps t out n (insert g (remove_all (f ∷ []) s))
  row-replaced (up l m h) z = replaced-up l m h z
  row-replaced (down l m h) z = replaced-down l m h z
