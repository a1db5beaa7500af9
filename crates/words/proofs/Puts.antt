-- Words put into a lent buffer: a loop that stores word after word, and calls that each store a run of words, add up
-- to one `put`; and what is put at the front of a buffer lies over it. `Going` says of a buffer that is being written
-- what is still to come, that what was put before it and what is to come make the whole, and that the whole has room.
use Prim.Native.Nat.{ℕ, suc, ◌+◌, ◌≤◌, ◌<◌}
use mathlib.Core.Path.{◌≡◌, ◌∙◌, ap, ap₂, refl, sym, subst}
use mathlib.Core.List.{List, [], ◌∷◌, ◌++◌, map, append_assoc, append-nil}
use native.Mathlib.Omega.{arith}
use lib.ListN.{length, take, drop, set, get_or, replicate, length-append}
use lib.ListN.{length-drop, length-replicate}
use borrow.Rule.Slice.PartMut.{put_mid}
use lib.Seq.{drop-drop, length-take-le, take_at, sets-eq, length-sets, set_comm}
use Rattle.words.specs.Lists.{over, put, up_from}
use native.Mathlib.Numerals.{add-one}
use Rattle.words.specs.Words.{words_at}
use Rattle.words.proofs.Lists.{map-append, up_from-last}
use Rattle.words.specs.Putting.{Puts}
use Rattle.words.proofs.Words.{length-words_at}
use Rattle.words.proofs.Chains.{slice_words}

pub length-put : (w : List ℕ) (at : ℕ) (xs : List ℕ) → length (put w at xs) ≡ length w
length-put w at xs = length-sets w at xs

-- one run behind another is one run
pub put-append : (w : List ℕ) (at : ℕ) (xs ys : List ℕ) → put (put w at xs) (at + length xs) ys ≡ put w at (xs ++ ys)
put-append w at [] ys = let e : at + 0 ≡ at = omega arith in ap (λ (i : ℕ). put w i ys) e
put-append w at (x ∷ xs) ys =
    let e : at + suc (length xs) ≡ suc at + length xs = omega arith in
    ap (λ (i : ℕ). put (put w at (x ∷ xs)) i ys) e ∙ put-append (set w at x) (suc at) xs ys

-- the same, where the second place is given by another number
pub put_on : (w : List ℕ) (at : ℕ) (xs : List ℕ) (next : ℕ) (ys : List ℕ) → next ≡ at + length xs →
    put (put w at xs) next ys ≡ put w at (xs ++ ys)
put_on w at xs next ys e = ap (λ (i : ℕ). put (put w at xs) i ys) e ∙ put-append w at xs ys

-- one word more
pub put_word : (w : List ℕ) (at : ℕ) (xs : List ℕ) (next x : ℕ) → next ≡ at + length xs →
    set (put w at xs) next x ≡ put w at (xs ++ (x ∷ []))
put_word w at xs next x e = put_on w at xs next (x ∷ []) e

-- what is put at the front lies over the buffer
pub put-over : (xs w : List ℕ) → length xs ≤ length w → put w 0 xs ≡ over xs w
unfolding over
put-over xs w h =
    let e : 0 + length xs ≡ length xs = omega arith in
    sets-eq xs w 0 (omega arith) ∙ ap (λ (k : ℕ). xs ++ drop k w) e

-- words lie at the front of the buffer that they are written over
pub take-over : (xs lent : List ℕ) (n : ℕ) → length xs ≡ n → take n (over xs lent) ≡ xs
unfolding over
take-over xs lent n h = take_at xs _ n h

pub puts_none : (w : List ℕ) (at : ℕ) → Puts w at [] w at
puts_none w at = record { words = refl; place = omega arith }

-- the same, by equal lists and places
pub puts-is : {w : List ℕ} {at : ℕ} {xs out : List ℕ} {next : ℕ} → Puts w at xs out next → {out' : List ℕ} {next' : ℕ} →
    out' ≡ out → next' ≡ next → (ys : List ℕ) → ys ≡ xs → Puts w at ys out' next'
puts-is {w} {at} p e f ys g = record {
  words = e ∙ (p.words ∙ ap (put w at) (sym g));
  place = f ∙ (p.place ∙ ap (λ (l : List ℕ). at + length l) (sym g));
}

-- a stretch of the buffer written at once, by `copy_from_slice` or `fill`
pub puts_mid : (w : List ℕ) (at n m : ℕ) {xs ys : List ℕ} → at + n ≤ length w → m ≡ n → length xs ≡ n → ys ≡ xs →
    Puts w at xs (put_mid at m w ys) (at + n)
puts_mid w at n m {xs} {ys} l e f g = record {
  words =
      ap₂ (λ (vs us : List ℕ). take at w ++ (vs ++ us)) g
      (drop-drop m at w ∙ ap (λ (k : ℕ). drop k w) {x = at + m} {y = at + length xs} (omega arith)) ∙
      (sym (append_assoc (take at w) xs (drop (at + length xs) w)) ∙ sym (sets-eq xs w at (omega arith)));
  place = ap (λ (k : ℕ). at + k) (sym f);
}

pub puts_copied : (w t : List ℕ) (at from n m k : ℕ) {ys : List ℕ} → at + n ≤ length w → from + n ≤ length t → m ≡ n →
    k ≡ n → ys ≡ take k (drop from t) → Puts w at (words_at t from n) (put_mid at m w ys) (at + n)
puts_copied w t at from n m k l o e f g =
    puts_mid w at n m l e (length-words_at t from n) (g ∙ slice_words t from n k o f)

pub puts_filled : (w : List ℕ) (at n m x : ℕ) {ys : List ℕ} → at + n ≤ length w → m ≡ n →
    ys ≡ replicate (length (take m (drop at w))) x → Puts w at (replicate n x) (put_mid at m w ys) (at + n)
puts_filled w at n m x l e g =
    let d = length-drop at w in
    let t = length-take-le m (drop at w) (omega arith) in
    puts_mid w at n m l e (length-replicate n x) (g ∙ ap (λ (k : ℕ). replicate k x) (t ∙ e))

-- what is put behind a run makes it longer
pub puts_then : {w : List ℕ} {at : ℕ} {xs : List ℕ} {w₁ : List ℕ} {next : ℕ} {ys : List ℕ} {w₂ : List ℕ} {end : ℕ} →
    Puts w at xs w₁ next → Puts w₁ next ys w₂ end → (zs : List ℕ) → zs ≡ xs ++ ys → Puts w at zs w₂ end
puts_then {w} {at} {xs} {w₁} {next} {ys} {w₂} {end} a b zs e = record {
  words =
      b.words ∙ (ap (λ (l : List ℕ). put l next ys) a.words ∙
      (put_on w at xs next ys a.place ∙ ap (put w at) (sym e)));
  place =
      let l = length-append xs ys in
      let m = ap length e in
      let p = a.place in
      let q = b.place in
      omega arith;
}

pub puts_word : {w : List ℕ} {at : ℕ} {xs : List ℕ} {w₁ : List ℕ} {next : ℕ} → Puts w at xs w₁ next →
    (x : ℕ) (zs : List ℕ) → zs ≡ xs ++ (x ∷ []) → (end : ℕ) → end ≡ next + 1 → Puts w at zs (set w₁ next x) end
puts_word a x zs e end n = puts_then a (record { words = refl; place = n }) zs e

pub puts-length : {w : List ℕ} {at : ℕ} {xs : List ℕ} {w₁ : List ℕ} {next : ℕ} → Puts w at xs w₁ next →
    length w₁ ≡ length w
puts-length {w} {at} {xs} a = ap length a.words ∙ length-put w at xs

-- ---- runs one word longer
pub words_more : (w : List ℕ) (i k : ℕ) → words_at w i (k + 1) ≡ words_at w i k ++ (get_or w (i + k) 0 ∷ [])
unfolding words_at
words_more w i k =
    ap (λ (n : ℕ). map (λ k. get_or w k 0) (up_from i n)) (add-one k) ∙
    (ap (map (λ k. get_or w k 0)) (up_from-last i k) ∙ map-append (λ k. get_or w k 0) (up_from i k) ((i + k) ∷ []))

pub puts-append : {w v u : List ℕ} {at next end : ℕ} {xs ys : List ℕ} →
    Puts w at xs v next → Puts v next ys u end → Puts w at (xs ++ ys) u end
puts-append p q = puts_then p q _ refl

pub puts-same : {w v : List ℕ} {at next : ℕ} {xs ys : List ℕ} → xs ≡ ys → Puts w at xs v next → Puts w at ys v next
puts-same {w} {v} {at} {next} e p = subst (λ (bs : List ℕ). Puts w at bs v next) e p

-- a byte that is stored before others were
pub put-before : (w : List ℕ) (i x from : ℕ) (xs : List ℕ) → i < from →
    set (put w from xs) i x ≡ put (set w i x) from xs
put-before w i x from [] h = refl
put-before w i x from (y ∷ xs) h =
    put-before (set w from y) i x (suc from) xs (omega arith) ∙
    ap (λ (v : List ℕ). put v (suc from) xs) (set_comm w from i y x (λ e. let q = e in omega arith))

-- what comes first has room where the whole has
pub first-room : (at : ℕ) (ys zs : List ℕ) {n : ℕ} → at + length (ys ++ zs) ≤ n → at + length ys ≤ n
first-room at ys zs h = omega (arith, length-append ys zs)

pub record Going (w : List ℕ) (at : ℕ) (whole left v : List ℕ) (next : ℕ) : Type 0 where
  pub done : List ℕ
  pub parts : done ++ left ≡ whole
  pub puts : Puts w at done v next
  pub room : at + length whole ≤ length w

pub going_start : {w whole : List ℕ} {at : ℕ} → at + length whole ≤ length w → Going w at whole whole w at
going_start h = record { done = []; parts = refl; puts = record { words = refl; place = omega arith }; room = h }

module _ {w whole v : List ℕ} {at next : ℕ} where
  pub going-long : {left : List ℕ} → Going w at whole left v next → length v ≡ length w
  going-long g = puts-length g.puts

  pub going-left : {left more : List ℕ} → left ≡ more → Going w at whole left v next → Going w at whole more v next
  going-left e g = subst (λ (bs : List ℕ). Going w at whole bs v next) e g

  -- what comes next has room
  pub going-room : (ys zs : List ℕ) → Going w at whole (ys ++ zs) v next → next + length ys ≤ length v
  going-room ys zs g =
      let e = ap length g.parts in
      let l = length-append g.done (ys ++ zs) in
      let m = length-append ys zs in
      let p = g.puts.place in
      let n = going-long g in
      let r = g.room in
      omega arith

  pub going_on : {ys zs u : List ℕ} {end : ℕ} →
      Going w at whole (ys ++ zs) v next → Puts v next ys u end → Going w at whole zs u end
  going_on {ys} {zs} g p = record {
    done = g.done ++ ys;
    parts = append_assoc g.done ys zs ∙ g.parts;
    puts = puts-append g.puts p;
    room = g.room;
  }

  pub going_end : Going w at whole [] v next → Puts w at whole v next
  going_end g = puts-same (sym (append-nil g.done) ∙ g.parts) g.puts

  -- the last of it
  pub last-room : {ys : List ℕ} → Going w at whole ys v next → next + length ys ≤ length v
  last-room {ys} g = going-room ys [] (going-left (sym (append-nil ys)) g)

  pub going-last : {ys u : List ℕ} {end : ℕ} → Going w at whole ys v next → Puts v next ys u end → Puts w at whole u end
  going-last g p = puts-same g.parts (puts-append g.puts p)

  -- one byte more
  pub byte-room : (x : ℕ) (zs : List ℕ) → Going w at whole (x ∷ zs) v next → next < length v
  byte-room x zs g = let r = going-room (x ∷ []) zs g in omega arith
