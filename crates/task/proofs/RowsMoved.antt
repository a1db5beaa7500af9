-- Moved words keep the changed state: a row less after moving down, a row more after moving up and writing its digits.
-- And what a lower bound says of a fact: it is there exactly where the row found has its number.
use Prim.Native.Nat.{ℕ, zero, suc, ◌+◌, ◌-◌, ◌*◌, ◌/◌, ◌%◌, ◌≤◌, ◌<◌}
use mathlib.Core.Path.{◌≡◌, sym, ◌∙◌, ap, subst}
use mathlib.Core.Bool.{true}
use mathlib.Core.List.{List, [], ◌∷◌}
use native.Mathlib.Omega.{arith}
use native.Mathlib.Decide.{dec_lt}
use lib.ListN.{length, get_or}
use Rattle.words.specs.Lists.{padded}
use Rattle.task.specs.Task.{Fact, Task, well_formed}
use Rattle.task.specs.Run.{insert, remove_all, record_words}
use Rattle.task.specs.Records.{in_base, record_number, row_number, LowerBound, MovedDown, MovedUp, Written}
use Rattle.words.proofs.Lists.{In, in-eq, in-get_or, get_or-in, length-padded}
use Rattle.task.proofs.States.{Fits}
use Rattle.task.proofs.AtomsStand.{no_fact}
use Rattle.task.proofs.Numbers.{Small, small-padded, Slight, slight, number-fact, number-before}
use Rattle.task.proofs.Rows.{Rows, Kept, fact-fits, number-row}
use Rattle.task.proofs.RowsChanged.{
  without,
  placed,
  length_without,
  without-before,
  without_from,
  length-placed,
  placed-before,
  placed_at,
  placed-behind,
  remove-place,
  insert-place,
  state-removed,
  state-inserted,
}

-- ---- words and rows
rows-without : (w : List ℕ) (s : List Fact) (k : ℕ) (out : List ℕ) → Rows w s → k < length s →
    MovedDown w (5 * k) (5 * (length s - 1)) out → Rows out (without k s)
rows-without w s k out r l m i j a b = elim (dec_lt i k) [
  | yes x ↦
      m.before (5 * i + j) (omega arith) ∙
      (r i j (omega arith) b ∙ ap (λ (f : Fact). get_or (record_words f) j 0) (sym (without-before k s i no_fact x)))
  | no x ↦
      let n = length_without k s l in
      let e : 5 * i + j + 5 ≡ 5 * suc i + j = omega arith in
      m.moved (5 * i + j) (omega arith) (omega arith) ∙
      (ap (λ (x : ℕ). get_or w x 0) e ∙
      (r (suc i) j (omega arith) b ∙ ap (λ (f : Fact). get_or (record_words f) j 0)
      (sym (without_from k s i no_fact (omega arith)))))
]

-- the digits of a record's number are its words
digits : (p a b c d number : ℕ) → a < 1024 → b < 1024 → c < 1024 → d < 1024 →
    number ≡ (((p * 1024 + a) * 1024 + b) * 1024 + c) * 1024 + d →
    (number / 1099511627776 ≡ p) × (number / 1073741824 % 1024 ≡ a) × (number / 1048576 % 1024 ≡ b) ×
    (number / 1024 % 1024 ≡ c) × (number % 1024 ≡ d)
digits p a b c d number ha hb hc hd e = (omega arith, omega arith, omega arith, omega arith, omega arith)

pub record-digits : (p : ℕ) (ps : List ℕ) (number : ℕ) → length ps ≡ 4 → Small ps → in_base p ps ≡ number →
    (w : List ℕ) (at : ℕ) (out : List ℕ) → Written w at number out →
    (j : ℕ) → j < 5 → get_or out (at + j) 0 ≡ get_or (p ∷ ps) j 0
unfolding in_base
record-digits p [] number l s e w at out h j m = absurd (omega arith)
record-digits p (a ∷ []) number l s e w at out h j m = absurd (omega arith)
record-digits p (a ∷ b ∷ []) number l s e w at out h j m = absurd (omega arith)
record-digits p (a ∷ b ∷ c ∷ []) number l s e w at out h j m = absurd (omega arith)
record-digits p (a ∷ b ∷ c ∷ d ∷ x ∷ xs) number l s e w at out h j m = absurd (omega arith)
record-digits p (a ∷ b ∷ c ∷ d ∷ []) number l s e w at out h j m = go j m
  where
    ds : (number / 1099511627776 ≡ p) × (number / 1073741824 % 1024 ≡ a) × (number / 1048576 % 1024 ≡ b) ×
        (number / 1024 % 1024 ≡ c) × (number % 1024 ≡ d)
    ds = digits p a b c d number
        (s a (in-get_or (a ∷ b ∷ c ∷ d ∷ []) 0 0 (omega arith)))
        (s b (in-get_or (a ∷ b ∷ c ∷ d ∷ []) 1 0 (omega arith)))
        (s c (in-get_or (a ∷ b ∷ c ∷ d ∷ []) 2 0 (omega arith)))
        (s d (in-get_or (a ∷ b ∷ c ∷ d ∷ []) 3 0 (omega arith)))
        (sym e)

    go : (j : ℕ) → j < 5 → get_or out (at + j) 0 ≡ get_or (p ∷ a ∷ b ∷ c ∷ d ∷ []) j 0
    go zero m = let z : at + 0 ≡ at = omega arith in ap (λ (x : ℕ). get_or out x 0) z ∙ (h.digit₀ ∙ ds.0)
    go (suc zero) m = h.digit₁ ∙ ds.1
    go (suc (suc zero)) m = h.digit₂ ∙ ds.2
    go (suc (suc (suc zero))) m = h.digit₃ ∙ ds.3
    go (suc (suc (suc (suc zero)))) m = h.digit₄ ∙ ds.4
    go (suc (suc (suc (suc (suc j))))) m = absurd (omega arith)

rows-placed : (w : List ℕ) (s : List Fact) (k : ℕ) (f : Fact) (number : ℕ) (mid out : List ℕ) → Rows w s →
    k ≤ length s → Slight f →
    record_number f ≡ number → MovedUp w (5 * k) (5 * length s) mid → Written mid (5 * k) number out →
    Rows out (placed k f s)
unfolding record_number record_words
rows-placed w s k f number mid out r l c e m h i j a b = elim (dec_lt i k) [
  | yes x ↦
      (h.other (5 * i + j)).0 (omega arith) ∙
      (m.before (5 * i + j) (omega arith) ∙
      (r i j (omega arith) b ∙ ap (λ (f : Fact). get_or (record_words f) j 0) (sym (placed-before k f s i no_fact l x))))
  | no x ↦ elim (dec_lt k i) [
    | yes y ↦ behind i (omega arith) a
    | no y ↦ at_place i (omega arith)
  ]
]
  where
    at_place : (i : ℕ) → k ≡ i → get_or out (5 * i + j) 0 ≡ get_or (record_words (get_or (placed k f s) i no_fact)) j 0
    at_place i q = subst (λ (x : ℕ). get_or out (5 * x + j) 0 ≡ get_or (record_words (get_or (placed k f s) x no_fact)) j 0) q
        (record-digits f.pred (padded 4 f.args) number (length-padded 4 f.args c.short)
        (small-padded 4 f.args c.small) e mid (5 * k) out h j b ∙
        ap (λ (g : Fact). get_or (record_words g) j 0) (sym (placed_at k f s no_fact l)))

    behind : (i : ℕ) → k < i → i < length (placed k f s) →
        get_or out (5 * i + j) 0 ≡ get_or (record_words (get_or (placed k f s) i no_fact)) j 0
    behind zero y a = absurd (omega arith)
    behind (suc i) y a =
        let n = length-placed k f s l in
        let q : 5 * suc i + j ≡ 5 * i + j + 5 = omega arith in
        (h.other (5 * suc i + j)).1 (omega arith) ∙
        (ap (λ (x : ℕ). get_or mid x 0) q ∙
        (m.moved (5 * i + j) (omega arith) (omega arith) ∙
        (r i j (omega arith) b ∙ ap (λ (f : Fact). get_or (record_words f) j 0)
        (sym (placed-behind k f s i no_fact l (omega arith))))))

-- ---- a kept state, a fact of its task and its number
module _ (t : Task) (wf : well_formed t ≡ true) (w : List ℕ) (n : ℕ) (s : List Fact) (c : Kept t w n s)
    (f : Fact) (number : ℕ) (h : Fits t f) (e : record_number f ≡ number) where
  pub row-fact : (k : ℕ) → k < n → row_number w k ≡ number → get_or s k no_fact ≡ f
  row-fact k l q = number-fact t wf (get_or s k no_fact) f (fact-fits t wf w n s c k l) h
      (sym (number-row t wf w n s c k l) ∙ (q ∙ sym e))

  pub row_in : (k : ℕ) → k < n → row_number w k ≡ number → In f s
  row_in k l q = in-eq (sym (row-fact k l q)) (in-get_or s k no_fact (let z = c.count in omega arith))

  pub in_row : In f s → (k : ℕ) × (k < n) × (row_number w k ≡ number)
  in_row i =
      let (k, l, q) = get_or-in no_fact i in
      let m : k < n = (let z = c.count in omega arith) in
      (k, m, number-row t wf w n s c k m ∙ (ap record_number q ∙ e))

  pub taken_out : (k : ℕ) (out : List ℕ) → k < n → row_number w k ≡ number → MovedDown w (5 * k) (5 * (n - 1)) out →
      length out ≡ length w → Kept t out (n - 1) (remove_all (f ∷ []) s)
  taken_out k out l q m z =
      let len = c.count in
      let k' : k < length s = omega arith in
      let o = remove-place f s c.state.asc k k' (row-fact k l q) in
      let v = length_without k s k' in
      let m' : MovedDown w (5 * k) (5 * (length s - 1)) out =
      subst (λ (x : ℕ). MovedDown w (5 * k) (5 * (x - 1)) out) (sym len) m in
      record {
        state = state-removed (f ∷ []) c.state;
        rows = subst (Rows out) (sym o) (rows-without w s k out c.rows k' m');
        count = ap length o ∙ (omega arith);
        room = let y = c.room in omega arith;
      }

  pub put_in : (k : ℕ) (mid out : List ℕ) → LowerBound w n number k → (k < n → row_number w k ≡ number → ⊥) →
      MovedUp w (5 * k) (5 * n) mid → Written mid (5 * k) number out → length out ≡ length w → 5 * n + 5 ≤ length w →
      Kept t out (n + 1) (insert f s)
  put_in k mid out b x m d z y =
      let len = c.count in
      let k' : k ≤ length s = (let v = b.within in omega arith) in
      let o = insert-place f s k k'
      (λ i l.
      let i' : i < n = (let v = b.within in omega arith) in
      let p = number-row t wf w n s c i i' in
      let v = b.below i l in
      number-before t wf (get_or s i no_fact) f (fact-fits t wf w n s c i i') h (omega arith))
      (λ l.
      let l' : k < n = omega arith in
      let p = number-row t wf w n s c k l' in
      let v = b.from k (omega arith) l' in
      number-before t wf f (get_or s k no_fact) h (fact-fits t wf w n s c k l')
      (strictly (record_number f) (record_number (get_or s k no_fact)) (omega arith) (λ u. x l' (omega arith)))) in
      let v = length-placed k f s k' in
      let m' : MovedUp w (5 * k) (5 * length s) mid = subst (λ (x : ℕ). MovedUp w (5 * k) (5 * x) mid) (sym len) m in
      record {
        state = state-inserted f h c.state;
        rows = subst (Rows out) (sym o) (rows-placed w s k f number mid out c.rows k' (slight t wf f h) e m' d);
        count = ap length o ∙ (omega arith);
        room = omega arith;
      }
    where
      strictly : (a b : ℕ) → a ≤ b → (a ≡ b → ⊥) → a < b
      strictly a b l u = elim (dec_lt a b) [ yes v ↦ v | no v ↦ absurd (u (omega arith)) ]
