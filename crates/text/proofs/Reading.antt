-- Reading line after line, for any text: it ends with a result exactly when the bytes are those of lines that lead
-- from the draft to that result. `read_lines-line` is the turn of a loop, free of the count that bounds the reader.
use Prim.Native.Nat.{ℕ, zero, suc, ◌≤◌, ◌<◌}
use mathlib.Core.Path.{◌≡◌, refl, ◌∙◌, ap}
use mathlib.Core.Bool.{Bool, true, false}
use mathlib.Core.List.{List, [], ◌∷◌, ◌++◌}
use Rattle.std.specs.Prelude.{Option, None, Some}
use native.Mathlib.Omega.{arith}
use lib.ListN.{length, length-append}
use Rattle.words.specs.Lists.{concat_map}
use Rattle.text.specs.Lines.{Taken, Reader, taken}
use Rattle.text.specs.Reading.{Turn, go_on, finish, refuse, need, Reading, read, refused_at, at_end, turn_at, line_at}
use Rattle.text.specs.Reading.{read_within, read_lines}

-- ---- turns
module _ {D R : Type 0} where
  -- a test that reading went past was met
  pub need-went : (b : Bool) (k : ℕ) (t : Turn D R) (d : D) → need b k t ≡ go_on d → (b ≡ true) × (t ≡ go_on d)
  unfolding need
  need-went true k t d h = (refl, h)
  need-went false k t d h = absurd (let z : ◌≡◌ {A = ℕ} 0 1 = cc in omega arith)

  pub need-finished : (b : Bool) (k : ℕ) (t : Turn D R) (r : R) → need b k t ≡ finish r → (b ≡ true) × (t ≡ finish r)
  unfolding need
  need-finished true k t r h = (refl, h)
  need-finished false k t r h = absurd (let z : ◌≡◌ {A = ℕ} 0 1 = cc in omega arith)

  -- a test that is met lets reading go on
  pub need-met : {b : Bool} (k : ℕ) {t u : Turn D R} → b ≡ true → t ≡ u → need b k t ≡ u
  unfolding need
  need-met k {t} h e = ap (λ (b : Bool). need b k t) h ∙ e

pub refused-read : {R : Type 0} {k n : ℕ} {r : R} → refused_at k n ≡ read r → ⊥
refused-read h = let z : ◌≡◌ {A = ℕ} 0 1 = cc in omega arith

-- ---- lines that lead from a draft to a result, each one that may stand there
pub data Leads {L D R : Type 0} (takes : D → L → Turn D R) (May : D → L → Type 0) : D → List L → R → Type 0 where
  comes-last : {d : D} {l : L} {r : R} → May d l → takes d l ≡ finish r → Leads takes May d (l ∷ []) r
  goes-on : {d e : D} {l : L} {ls : List L} {r : R} → May d l → takes d l ≡ go_on e → Leads takes May e ls r →
      Leads takes May d (l ∷ ls) r

-- a reader of lines is exact: a line that may stand there is read, whatever follows it, and no other
pub record Exact {L D : Type 0} (line : D → Reader L) (May : D → L → Type 0) (text : L → List ℕ) : Type 0 where
  pub some_byte : (l : L) → 1 ≤ length (text l)
  pub written : (d : D) (l : L) → May d l → (rest : List ℕ) → line d (text l ++ rest) ≡ taken l rest
  pub may : (d : D) (bs : List ℕ) (m : Taken L) → line d bs ≡ Some m → May d m.value
  pub whole : (d : D) (bs : List ℕ) (m : Taken L) → line d bs ≡ Some m → bs ≡ text m.value ++ m.rest

pub record Read {L D R : Type 0} (takes : D → L → Turn D R) (May : D → L → Type 0) (text : L → List ℕ)
    (d : D) (bs : List ℕ) (r : R) : Type 0 where
  pub lines : List L
  pub lead : Leads takes May d lines r
  pub whole : bs ≡ concat_map text lines

module _ {L D R : Type 0} (line : D → Reader L) (takes : D → L → Turn D R) (May : D → L → Type 0)
    (text : L → List ℕ) (x : Exact line May text) where
  pub line-shorter : (d : D) (bs : List ℕ) (m : Taken L) → line d bs ≡ Some m → length m.rest < length bs
  line-shorter d bs m h =
      let e = ap length (x.whole d bs m h) in
      let s = x.some_byte m.value in
      omega (arith, length-append (text m.value) m.rest)

  -- ---- lines that lead to a result are read
  pub lead-read : {d : D} {ls : List L} {r : R} → Leads takes May d ls r → (f n : ℕ) → length (concat_map text ls) < f →
      read_within line takes f n d (concat_map text ls) ≡ read r
  unfolding read_within concat_map
  lead-read w zero n h = absurd (omega arith)
  lead-read (comes-last {d = d} {l = l} {r = r} m e) (suc f) n h =
      ap (λ (o : Option (Taken L)). line_at n (takes d) o (read_within line takes f (suc n))) (x.written d l m []) ∙
      ap (λ (t : Turn D R). turn_at n t [] (read_within line takes f (suc n))) e
  lead-read (goes-on {d = d} {e = e'} {l = l} {ls = ls} m e w) (suc f) n h =
      let rest = concat_map text ls in
      let s = x.some_byte l in
      let z = length-append (text l) rest in
      ap (λ (o : Option (Taken L)). line_at n (takes d) o (read_within line takes f (suc n))) (x.written d l m rest) ∙
      (ap (λ (t : Turn D R). turn_at n t rest (read_within line takes f (suc n))) e ∙ lead-read {d = e'} w f (suc n) (omega arith))

  pub lines-read : {d : D} {ls : List L} {r : R} → Leads takes May d ls r → (n : ℕ) →
      read_lines line takes n d (concat_map text ls) ≡ read r
  unfolding read_lines
  lines-read {ls = ls} w n = lead-read w (suc (length (concat_map text ls))) n (omega arith)

  -- ---- what is read with a result are lines that lead to it
  pub read-within : (f n : ℕ) (d : D) (bs : List ℕ) (r : R) → read_within line takes f n d bs ≡ read r →
      Read takes May text d bs r
  unfolding read_within line_at turn_at at_end concat_map
  read-within zero n d bs r h = absurd (refused-read h)
  read-within (suc f) n d bs r h = found (line d bs) refl (read-within f (suc n)) h
    where
      Later : Type 0
      Later = (e : D) (cs : List ℕ) (s : R) → read_within line takes f (suc n) e cs ≡ read s → Read takes May text e cs s

      ended : (m : Taken L) → line d bs ≡ Some m → (s : R) → takes d m.value ≡ finish s → (rest : List ℕ) →
          m.rest ≡ rest → at_end s (suc n) rest ≡ read r → Read takes May text d bs r
      ended m k s e [] q h = record {
        lines = m.value ∷ [];
        lead = comes-last (x.may d bs m k) (e ∙ (let z : s ≡ r = cc in ap finish z));
        whole = x.whole d bs m k ∙ ap (λ (y : List ℕ). text m.value ++ y) q;
      }
      ended m k s e (b ∷ rest) q h = absurd (refused-read h)

      turned : (m : Taken L) → line d bs ≡ Some m → (t : Turn D R) → takes d m.value ≡ t → Later →
          turn_at n t m.rest (read_within line takes f (suc n)) ≡ read r → Read takes May text d bs r
      turned m k (refuse j) e i h = absurd (refused-read h)
      turned m k (finish s) e i h = ended m k s e m.rest refl h
      turned m k (go_on c) e i h =
          let w = i c m.rest r h in
          record {
            lines = m.value ∷ w.lines;
            lead = goes-on (x.may d bs m k) e w.lead;
            whole = x.whole d bs m k ∙ ap (λ (y : List ℕ). text m.value ++ y) w.whole;
          }

      found : (o : Option (Taken L)) → line d bs ≡ o → Later →
          line_at n (takes d) o (read_within line takes f (suc n)) ≡ read r → Read takes May text d bs r
      found None k i h = absurd (refused-read h)
      found (Some m) k i h = turned m k (takes d m.value) refl i h

  pub read-lines : (n : ℕ) (d : D) (bs : List ℕ) (r : R) → read_lines line takes n d bs ≡ read r →
      Read takes May text d bs r
  unfolding read_lines
  read-lines n d bs r h = read-within (suc (length bs)) n d bs r h

  -- ---- without counting turns
  pub line_at-same : (n : ℕ) (t : L → Turn D R) (o : Option (Taken L)) (f g : D → List ℕ → Reading R) →
      ((m : Taken L) → o ≡ Some m → (e : D) → f e m.rest ≡ g e m.rest) → line_at n t o f ≡ line_at n t o g
  unfolding line_at turn_at
  line_at-same n t None f g h = refl
  line_at-same n t (Some m) f g h = go (t m.value)
    where
      go : (u : Turn D R) → turn_at n u m.rest f ≡ turn_at n u m.rest g
      go (refuse k) = refl
      go (finish r) = refl
      go (go_on e) = h m refl e

  pub read_within-same : (f g n : ℕ) (d : D) (bs : List ℕ) → length bs < f → length bs < g →
      read_within line takes f n d bs ≡ read_within line takes g n d bs
  unfolding read_within
  read_within-same zero g n d bs h k = absurd (omega arith)
  read_within-same (suc f) zero n d bs h k = absurd (omega arith)
  read_within-same (suc f) (suc g) n d bs h k =
      line_at-same n (takes d) (line d bs) (read_within line takes f (suc n)) (read_within line takes g (suc n))
      (λ m i e. let s = line-shorter d bs m i in read_within-same f g (suc n) e m.rest (omega arith) (omega arith))

  -- reading on is reading a line and reading on behind it
  pub read_lines-line : (n : ℕ) (d : D) (bs : List ℕ) →
      read_lines line takes n d bs ≡ line_at n (takes d) (line d bs) (read_lines line takes (suc n))
  unfolding read_lines read_within
  read_lines-line n d bs =
      line_at-same n (takes d) (line d bs) (read_within line takes (length bs) (suc n)) (read_lines line takes (suc n))
      (λ m i e. let s = line-shorter d bs m i in
      read_within-same (length bs) (suc (length m.rest)) (suc n) e m.rest (omega arith) (omega arith))
