-- Lines in general: a line of one of some keys is read back, whatever follows it, and what is read as a line was one.
-- Keys are told apart by the texts that they begin with, so a test over the keys, which computes, is enough.
use Prim.Native.Nat.{ℕ, ◌≤◌}
use Prim.Native.String.{String}
use mathlib.Core.Path.{◌≡◌, refl, ◌∙◌, ap, subst}
use mathlib.Core.Bool.{Bool, true, false, ◌&&◌}
use mathlib.Core.List.{List, [], ◌∷◌, ◌++◌, append_assoc}
use Rattle.std.specs.Prelude.{Option, None, Some}
use native.Mathlib.Omega.{arith}
use lib.ListN.{length, length-append}
use lib.Dec.{eqb}
use Rattle.words.specs.Lists.{all}
use Rattle.words.proofs.Lists.{no_ft, and_left, and_right, In, here, there, all_in}
use Rattle.text.specs.Lines.{bytes, equals, newline, line, Taken, Reader, taken, and_then, or_else, after, ended}
use Rattle.text.specs.Lines.{read_key, read_line}
use Rattle.text.proofs.Taken.{no_none, taken-value, taken-rest, both-took, after-written, after_read}

-- ---- a body and its byte 10
module _ {A L : Type 0} (says : A → L) where
  pub ended-written : {o : Option (Taken A)} {a : A} {r : List ℕ} → o ≡ taken a (newline ∷ r) →
      ended says o ≡ taken (says a) r
  unfolding ended
  ended-written h = ap (ended says) h

  pub record Ended (o : Option (Taken A)) (m : Taken L) : Type 0 where
    pub body : Taken A
    pub took : o ≡ Some body
    pub said : says body.value ≡ m.value
    pub rest : body.rest ≡ newline ∷ m.rest

  pub ended-read : (o : Option (Taken A)) (m : Taken L) → ended says o ≡ Some m → Ended o m
  unfolding ended
  ended-read o m h =
      let b = both-took o _ m h in
      let a = b.first in
      let c = both-took (after (newline ∷ []) a.rest) (λ rest. taken (says a.value) rest) m b.then in
      record {
        body = a;
        took = b.took;
        said = taken-value c.then;
        rest = after_read (newline ∷ []) a.rest c.first c.took ∙
            ap {B = List ℕ} (λ (x : List ℕ). newline ∷ x) (taken-rest c.then);
      }

-- ---- keys
-- a key and its =
abbrev pub keyed : String → List ℕ
keyed key = bytes key ++ (equals ∷ [])

pub line-append : (key : String) (body r : List ℕ) → line key body ++ r ≡ keyed key ++ (body ++ (newline ∷ r))
unfolding line
line-append key body r = regroup (bytes key) (equals ∷ []) body (newline ∷ []) r
  where
    regroup : (a b c d e : List ℕ) → (a ++ (b ++ (c ++ d))) ++ e ≡ (a ++ b) ++ (c ++ (d ++ e))
    regroup a b c d e = simp append_assoc

pub line-long : (key : String) (body : List ℕ) → 1 ≤ length (line key body)
unfolding line
line-long key body = omega (arith, length-append (bytes key) (equals ∷ (body ++ (newline ∷ []))))

-- whether two texts differ before either has ended
unfoldable pub clash : List ℕ → List ℕ → Bool
clash [] ys = false
clash (x ∷ xs) [] = false
clash (x ∷ xs) (y ∷ ys) = elim (eqb x y) [ true ↦ clash xs ys | false ↦ true ]

pub after-clash : (xs ys rest : List ℕ) → clash xs ys ≡ true → after xs (ys ++ rest) ≡ None
unfolding clash after
after-clash [] ys rest h = absurd (no_ft h)
after-clash (x ∷ xs) [] rest h = absurd (no_ft h)
after-clash (x ∷ xs) (y ∷ ys) rest h = go (eqb x y) (after-clash xs ys rest) h
  where
    go : (b : Bool) → (clash xs ys ≡ true → after xs (ys ++ rest) ≡ None) →
        elim b [ true ↦ clash xs ys | false ↦ true ] ≡ true →
        ◌≡◌ {A = Option (List ℕ)} (elim b [ true ↦ after xs (ys ++ rest) | false ↦ None ]) None
    go true i h = i h
    go false i h = refl

module _ {K : Type 0} (name : K → String) where
  -- no key of a list can be taken for another
  unfoldable pub apart : List K → Bool
  unfolding all clash bytes
  apart [] = true
  apart (k ∷ ks) = all (λ j. clash (keyed (name k)) (keyed (name j))) ks && apart ks

  module _ {L : Type 0} (body : K → Reader L) where
    pub read_line-written : {k : K} {ks : List K} → In k ks → apart ks ≡ true → (rest : List ℕ) (m : Taken L) →
        body k rest ≡ Some m → read_line name body ks (keyed (name k) ++ rest) ≡ Some m
    unfolding read_line read_key apart
    read_line-written {k = k} (here {y = j} {ys = ks} e) h rest m b =
        let took : read_key (name k) (body k) (keyed (name k) ++ rest) ≡ Some m =
        ap (λ (o : Option (List ℕ)). and_then o (body k)) (after-written (keyed (name k)) rest) ∙ b in
        let here-too : read_key (name j) (body j) (keyed (name k) ++ rest) ≡ Some m =
        subst (λ (i : K). read_key (name i) (body i) (keyed (name k) ++ rest) ≡ Some m) e took in
        ap (λ (o : Option (Taken L)). or_else o (read_line name body ks (keyed (name k) ++ rest))) here-too
    read_line-written {k = k} (there {y = j} {ys = ks} i) h rest m b =
        let tests = all (λ i. clash (keyed (name j)) (keyed (name i))) ks in
        let c : clash (keyed (name j)) (keyed (name k)) ≡ true =
        all_in (λ i. clash (keyed (name j)) (keyed (name i))) (and_left tests (apart ks) h) i in
        ap (λ (o : Option (List ℕ)). or_else (and_then o (body j)) (read_line name body ks (keyed (name k) ++ rest)))
        (after-clash (keyed (name j)) (keyed (name k)) rest c) ∙
        read_line-written i (and_right tests (apart ks) h) rest m b

    pub record KeyRead (ks : List K) (bs : List ℕ) (m : Taken L) : Type 0 where
      pub key : K
      pub listed : In key ks
      pub rest : List ℕ
      pub whole : bs ≡ keyed (name key) ++ rest
      pub body-took : body key rest ≡ Some m

    pub read_line-read : (ks : List K) (bs : List ℕ) (m : Taken L) → read_line name body ks bs ≡ Some m → KeyRead ks bs m
    unfolding read_line read_key
    read_line-read [] bs m h = absurd (no_none h)
    read_line-read (k ∷ ks) bs m h = go (read_key (name k) (body k) bs) refl (read_line-read ks bs m) h
      where
        taken-by : read_key (name k) (body k) bs ≡ Some m → KeyRead (k ∷ ks) bs m
        taken-by e =
            let b = both-took (after (keyed (name k)) bs) (body k) m e in
            record {
              key = k;
              listed = here refl;
              rest = b.first;
              whole = after_read (keyed (name k)) bs b.first b.took;
              body-took = b.then;
            }

        go : (o : Option (Taken L)) → read_key (name k) (body k) bs ≡ o →
            (read_line name body ks bs ≡ Some m → KeyRead ks bs m) →
            or_else o (read_line name body ks bs) ≡ Some m → KeyRead (k ∷ ks) bs m
        go None e i h =
            let r = i h in
            record {
              key = r.key;
              listed = there r.listed;
              rest = r.rest;
              whole = r.whole;
              body-took = r.body-took;
            }
        go (Some n) e i h = taken-by (e ∙ h)
