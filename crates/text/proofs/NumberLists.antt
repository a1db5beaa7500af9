-- Lists of numbers and entries: what is written is read, and what is read was written. A list is followed by byte 10,
-- which is no digit and no comma. `numbers-step` says it without counting turns, as a loop goes.
use Prim.Native.Nat.{ℕ, zero, suc, ◌≤◌, ◌<◌}
use mathlib.Core.Path.{◌≡◌, refl, sym, ◌∙◌, ap, ap₂}
use mathlib.Core.Bool.{Bool, true, false}
use mathlib.Core.List.{List, [], ◌∷◌, ◌++◌, append_assoc}
use Rattle.std.specs.Prelude.{Option, None, Some}
use native.Mathlib.Omega.{arith}
use lib.ListN.{length, length-append}
use lib.Dec.{eqb}
use borrow.Author.Tests.{eqb-true, ne_eqb}
use Rattle.words.proofs.Lists.{In, here, there, in-empty}
use Rattle.text.specs.Lines.{newline, comma, colon, digits, commaed, Entry, entry_bytes, Taken, taken, and_then}
use Rattle.text.specs.Lines.{after, is_digit, number, numbers_within, numbers, listing, entry}
use Rattle.text.proofs.Taken.{if-false, no_none, taken-value, taken-rest, both-took, and_then-same, after_read}
use Rattle.text.proofs.Digits.{Digits, no_digit, digit, at_other, digits_of, number-written, number_read}

-- a number and a rest make one list: a comma and more numbers, or the end of the list
unfoldable pub list_from : Option (Taken (List ℕ)) → ℕ → ℕ → List ℕ → Option (Taken (List ℕ))
list_from more n c cs = elim (eqb c comma) [
  | true ↦ and_then more (λ ns. taken (n ∷ ns.value) ns.rest)
  | false ↦ taken (n ∷ []) (c ∷ cs)
]

unfoldable pub goes_on : (List ℕ → Option (Taken (List ℕ))) → ℕ → List ℕ → Option (Taken (List ℕ))
unfolding list_from
goes_on more n [] = taken (n ∷ []) []
goes_on more n (c ∷ cs) = list_from (more cs) n c cs

pub numbers_within-suc : (f : ℕ) (bs : List ℕ) →
    numbers_within (suc f) bs ≡ and_then (number bs) (λ n. goes_on (numbers_within f) n.value n.rest)
unfolding numbers_within goes_on
numbers_within-suc f bs = go (number bs)
  where
    rests : (v : ℕ) (r : List ℕ) → ◌≡◌ {A = Option (Taken (List ℕ))} (elim r [
      | [] ↦ taken (v ∷ []) []
      | c ∷ cs ↦ elim (eqb c comma) [
        | true ↦ and_then (numbers_within f cs) (λ ns. taken (v ∷ ns.value) ns.rest)
        | false ↦ taken (v ∷ []) (c ∷ cs)
      ]
    ]) (goes_on (numbers_within f) v r)
    rests v [] = refl
    rests v (c ∷ cs) = refl

    go : (o : Option (Taken ℕ)) → and_then o (λ n. elim n.rest [
      | [] ↦ taken (n.value ∷ []) []
      | c ∷ cs ↦ elim (eqb c comma) [
        | true ↦ and_then (numbers_within f cs) (λ ns. taken (n.value ∷ ns.value) ns.rest)
        | false ↦ taken (n.value ∷ []) (c ∷ cs)
      ]
    ]) ≡ and_then o (λ n. goes_on (numbers_within f) n.value n.rest)
    go None = refl
    go (Some n) = rests n.value n.rest

-- ---- what is written is read
-- numbers of 5 digits at most
abbrev pub Small : List ℕ → Type 0
Small ns = (x : ℕ) → In x ns → x < 100000

pub numbers_within-written : (f n : ℕ) (ns : List ℕ) → Small (n ∷ ns) → length ns < f → (r : List ℕ) →
    numbers_within f (commaed (n ∷ ns) ++ (newline ∷ r)) ≡ taken (n ∷ ns) (newline ∷ r)
unfolding commaed and_then goes_on is_digit
numbers_within-written zero n ns h l r = absurd (omega arith)
numbers_within-written (suc f) n [] h l r =
    let w : number (digits n ++ (newline ∷ r)) ≡ taken n (newline ∷ r) =
    number-written n (h n (here refl)) (at_other {b = 10} {bs = r} refl) in
    rw (numbers_within-suc f (digits n ++ (newline ∷ r)), w) refl
numbers_within-written (suc f) n (m ∷ ns) h l r =
    let rest : List ℕ = commaed (m ∷ ns) ++ (newline ∷ r) in
    let e : commaed (n ∷ m ∷ ns) ++ (newline ∷ r) ≡ digits n ++ (comma ∷ rest) =
    append_assoc (digits n) (comma ∷ commaed (m ∷ ns)) (newline ∷ r) in
    let i : numbers_within f rest ≡ taken (m ∷ ns) (newline ∷ r) =
    numbers_within-written f m ns (λ x k. h x (there k)) (omega arith) r in
    let w : number (digits n ++ (comma ∷ rest)) ≡ taken n (comma ∷ rest) =
    number-written n (h n (here refl)) (at_other {b = 44} {bs = rest} refl) in
    rw (e, numbers_within-suc f (digits n ++ (comma ∷ rest)), w, i) refl

pub length-commaed : (n : ℕ) (ns : List ℕ) → length ns ≤ length (commaed (n ∷ ns))
unfolding commaed
length-commaed n [] = omega arith
length-commaed n (m ∷ ns) =
    let i = length-commaed m ns in
    omega (arith, length-append (digits n) (comma ∷ commaed (m ∷ ns)))

pub numbers-written : (n : ℕ) (ns : List ℕ) → Small (n ∷ ns) → (r : List ℕ) →
    numbers (commaed (n ∷ ns) ++ (newline ∷ r)) ≡ taken (n ∷ ns) (newline ∷ r)
unfolding numbers
numbers-written n ns h r =
    let z = length-append (commaed (n ∷ ns)) (newline ∷ r) in
    let y = length-commaed n ns in
    numbers_within-written (length (commaed (n ∷ ns) ++ (newline ∷ r))) n ns h (omega arith) r

-- a list that begins with a digit is not empty
pub listing-numbers : {ds : List ℕ} → Digits ds → 1 ≤ length ds → (r : List ℕ) → listing (ds ++ r) ≡ numbers (ds ++ r)
unfolding listing
listing-numbers no_digit h r = absurd (omega arith)
listing-numbers (digit {b = b} {bs = bs} l m d) h r =
    if-false (taken [] (b ∷ (bs ++ r))) (ne_eqb b 10 (λ e. omega arith))

pub listing-written : (ns : List ℕ) → Small ns → (r : List ℕ) →
    listing (commaed ns ++ (newline ∷ r)) ≡ taken ns (newline ∷ r)
unfolding listing commaed
listing-written [] h r = refl
listing-written (n ∷ ns) h r = first ns ∙ numbers-written n ns h r
  where
    begins : (more : List ℕ) → listing (digits n ++ more) ≡ numbers (digits n ++ more)
    begins more = let c = digits_of n (h n (here refl)) in listing-numbers c.are c.some-digit more

    first : (ms : List ℕ) → listing (commaed (n ∷ ms) ++ (newline ∷ r)) ≡ numbers (commaed (n ∷ ms) ++ (newline ∷ r))
    first [] = begins (newline ∷ r)
    first (m ∷ ms) =
        rw (append_assoc (digits n) (comma ∷ commaed (m ∷ ms)) (newline ∷ r))
        (begins (comma ∷ (commaed (m ∷ ms) ++ (newline ∷ r))))

abbrev pub SmallEntry : Entry → Type 0
SmallEntry e = (e.head < 100000) × Small e.list

pub entry-written : (e : Entry) → SmallEntry e → (r : List ℕ) →
    entry (entry_bytes e ++ (newline ∷ r)) ≡ taken e (newline ∷ r)
unfolding entry entry_bytes is_digit
entry-written e (h, s) r =
    let rest : List ℕ = commaed e.list ++ (newline ∷ r) in
    let made : ℕ → Taken (List ℕ) → Option (Taken Entry) =
    λ p xs. taken (record { head = p; list = xs.value }) xs.rest in
    let behind : Taken ℕ → Option (Taken Entry) =
    λ p. and_then (after (colon ∷ []) p.rest) (λ rest. and_then (listing rest) (made p.value)) in
    ap entry (append_assoc (digits e.head) (colon ∷ commaed e.list) (newline ∷ r)) ∙
    (ap (λ (o : Option (Taken ℕ)). and_then o behind)
    (number-written e.head h (at_other {b = 58} {bs = rest} refl)) ∙
    ap (λ (o : Option (Taken (List ℕ))). and_then o (made e.head)) (listing-written e.list s r))

-- ---- what is read was written
pub record ListRead (bs : List ℕ) (r : Taken (List ℕ)) : Type 0 where
  pub whole : bs ≡ commaed r.value ++ r.rest
  pub small : Small r.value

abbrev pub NumbersRead : List ℕ → Taken (List ℕ) → Type 0
NumbersRead bs r = ListRead bs r × (1 ≤ length r.value)

pub commaed-cons : (n : ℕ) (ns : List ℕ) → 1 ≤ length ns → commaed (n ∷ ns) ≡ digits n ++ (comma ∷ commaed ns)
unfolding commaed
commaed-cons n [] h = absurd (omega arith)
commaed-cons n (m ∷ ns) h = refl

pub small-cons : {n : ℕ} {ns : List ℕ} → n < 100000 → Small ns → Small (n ∷ ns)
small-cons h s x (here e) = rw e h
small-cons h s x (there i) = s x i

pub small-none : Small []
small-none x i = absurd (in-empty i)

-- the list of one number, and the list of a number and more
module _ (bs : List ℕ) (r : Taken (List ℕ)) (n : Taken ℕ) (e : number bs ≡ Some n) where
  pub one-read : taken (n.value ∷ []) n.rest ≡ Some r → NumbersRead bs r
  unfolding commaed
  one-read h =
      let c = number_read bs n e in
      let a = taken-value h in (
        record {
          whole = c.whole ∙ ap₂ (λ (x y : List ℕ). commaed x ++ y) a (taken-rest h);
          small = rw (← a) (small-cons c.small small-none);
        },
        rw (← a) (omega arith),
      )

  pub more-read : (cs : List ℕ) → n.rest ≡ comma ∷ cs → (ns : Taken (List ℕ)) → NumbersRead cs ns →
      taken (n.value ∷ ns.value) ns.rest ≡ Some r → NumbersRead bs r
  more-read cs q ns (more, k) h =
      let c = number_read bs n e in
      let a = taken-value h in
      let z : digits n.value ++ n.rest ≡ commaed (n.value ∷ ns.value) ++ ns.rest =
      rw (q, more.whole, commaed-cons n.value ns.value k)
      (sym (append_assoc (digits n.value) (comma ∷ commaed ns.value) ns.rest)) in (
        record {
          whole = c.whole ∙ (z ∙ ap₂ (λ (x y : List ℕ). commaed x ++ y) a (taken-rest h));
          small = rw (← a) (small-cons c.small more.small);
        },
        rw (← a) (omega arith),
      )

pub numbers_within-read : (f : ℕ) (bs : List ℕ) (r : Taken (List ℕ)) → numbers_within f bs ≡ Some r → NumbersRead bs r
unfolding goes_on numbers_within
numbers_within-read zero bs r h = absurd (no_none h)
numbers_within-read (suc f) bs r h =
    let on : Taken ℕ → Option (Taken (List ℕ)) = λ n. goes_on (numbers_within f) n.value n.rest in
    let b = both-took (number bs) on r (sym (numbers_within-suc f bs) ∙ h) in
    rests b.first b.took b.first.rest refl (numbers_within-read f) b.then
  where
    comma-next : (n : Taken ℕ) → number bs ≡ Some n → (c : ℕ) (cs : List ℕ) → n.rest ≡ c ∷ cs →
        ((cs : List ℕ) (r : Taken (List ℕ)) → numbers_within f cs ≡ Some r → NumbersRead cs r) → (b : Bool) →
        eqb c comma ≡ b → ◌≡◌ {A = Option (Taken (List ℕ))} (elim b [
          | true ↦ and_then (numbers_within f cs) (λ ns. taken (n.value ∷ ns.value) ns.rest)
          | false ↦ taken (n.value ∷ []) (c ∷ cs)
        ]) (Some r) → NumbersRead bs r
    comma-next n e c cs q i true k h =
        let b = both-took (numbers_within f cs) (λ ns. taken (n.value ∷ ns.value) ns.rest) r h in
        let q' : n.rest ≡ comma ∷ cs = q ∙ ap {B = List ℕ} (λ (x : ℕ). x ∷ cs) (eqb-true c 44 k) in
        more-read bs r n e cs q' b.first (i cs b.first b.took) b.then
    comma-next n e c cs q i false k h = one-read bs r n e (rw q h)

    rests : (n : Taken ℕ) → number bs ≡ Some n → (rest : List ℕ) → n.rest ≡ rest →
        ((cs : List ℕ) (r : Taken (List ℕ)) → numbers_within f cs ≡ Some r → NumbersRead cs r) →
        goes_on (numbers_within f) n.value rest ≡ Some r → NumbersRead bs r
    rests n e [] q i h = one-read bs r n e (rw q h)
    rests n e (c ∷ cs) q i h = comma-next n e c cs q i (eqb c comma) refl h

pub numbers-read : (bs : List ℕ) (r : Taken (List ℕ)) → numbers bs ≡ Some r → NumbersRead bs r
unfolding numbers
numbers-read bs r h = numbers_within-read (length bs) bs r h

pub listing-read : (bs : List ℕ) (r : Taken (List ℕ)) → listing bs ≡ Some r → ListRead bs r
unfolding listing commaed
listing-read [] r h = absurd (no_none h)
listing-read (b ∷ bs) r h = go (eqb b newline) h
  where
    go : (c : Bool) →
        ◌≡◌ {A = Option (Taken (List ℕ))} (elim c [ true ↦ taken [] (b ∷ bs) | false ↦ numbers (b ∷ bs) ]) (Some r) →
        ListRead (b ∷ bs) r
    go true h = record {
      whole = ap₂ (λ (x y : List ℕ). commaed x ++ y) (taken-value h) (taken-rest h);
      small = rw (← taken-value h) small-none;
    }
    go false h = (numbers-read (b ∷ bs) r h).0

pub record EntryRead (bs : List ℕ) (r : Taken Entry) : Type 0 where
  pub whole : bs ≡ entry_bytes r.value ++ r.rest
  pub small : SmallEntry r.value

pub entry_read : (bs : List ℕ) (r : Taken Entry) → entry bs ≡ Some r → EntryRead bs r
unfolding entry entry_bytes
entry_read bs r h =
    let b₁ = both-took (number bs) _ r h in
    let p = b₁.first in
    let b₂ = both-took (after (colon ∷ []) p.rest) _ r b₁.then in
    let b₃ = both-took (listing b₂.first) _ r b₂.then in
    let xs = b₃.first in
    let n = number_read bs p b₁.took in
    let l = listing-read b₂.first xs b₃.took in
    let rest = xs.rest in
    let c : p.rest ≡ colon ∷ (commaed xs.value ++ rest) =
    after_read (colon ∷ []) p.rest b₂.first b₂.took ∙ ap {B = List ℕ} (λ (x : List ℕ). colon ∷ x) l.whole in
    let w : bs ≡ (digits p.value ++ (colon ∷ commaed xs.value)) ++ rest =
    n.whole ∙ (ap (λ (x : List ℕ). digits p.value ++ x) c ∙
    sym (append_assoc (digits p.value) (colon ∷ commaed xs.value) rest)) in
    let v = taken-value b₃.then in
    record {
      whole = w ∙ ap₂ (λ (x : Entry) (y : List ℕ). entry_bytes x ++ y) v (taken-rest b₃.then);
      small = rw (← v) (n.small, l.small);
    }

-- ---- without counting turns
pub number-shorter : (bs : List ℕ) (n : Taken ℕ) → number bs ≡ Some n → length n.rest < length bs
number-shorter bs n h =
    let c = number_read bs n h in
    let e = ap length c.whole in
    let d = (digits_of n.value c.small).some-digit in
    omega (arith, length-append (digits n.value) n.rest)

pub goes_on-same : (f g : List ℕ → Option (Taken (List ℕ))) (n : ℕ) (bs : List ℕ) →
    ((c : ℕ) (cs : List ℕ) → bs ≡ c ∷ cs → f cs ≡ g cs) → goes_on f n bs ≡ goes_on g n bs
unfolding goes_on
goes_on-same f g n [] h = refl
goes_on-same f g n (c ∷ cs) h = ap (λ (o : Option (Taken (List ℕ))). list_from o n c cs) (h c cs refl)

-- a list is the same for readers that read the same of fewer bytes
pub list_same : (f g : List ℕ → Option (Taken (List ℕ))) (bs : List ℕ) →
    ((cs : List ℕ) → length cs < length bs → f cs ≡ g cs) →
    and_then (number bs) (λ n. goes_on f n.value n.rest) ≡ and_then (number bs) (λ n. goes_on g n.value n.rest)
list_same f g bs h =
    and_then-same (number bs) (λ n. goes_on f n.value n.rest) (λ n. goes_on g n.value n.rest)
    (λ n e. goes_on-same f g n.value n.rest (λ c cs q.
    let s = number-shorter bs n e in
    let l = ap length q in
    h cs (omega arith)))

pub numbers_within-none : (f : ℕ) → numbers_within f [] ≡ None
unfolding numbers_within
numbers_within-none zero = refl
numbers_within-none (suc f) = refl

pub numbers_within-same : (f g : ℕ) (bs : List ℕ) → length bs ≤ f → length bs ≤ g →
    numbers_within f bs ≡ numbers_within g bs
numbers_within-same zero g [] h k = numbers_within-none zero ∙ sym (numbers_within-none g)
numbers_within-same zero g (b ∷ bs) h k = absurd (omega arith)
numbers_within-same (suc f) zero [] h k = numbers_within-none (suc f) ∙ sym (numbers_within-none zero)
numbers_within-same (suc f) zero (b ∷ bs) h k = absurd (omega arith)
numbers_within-same (suc f) (suc g) bs h k =
    numbers_within-suc f bs ∙ (list_same (numbers_within f) (numbers_within g) bs
    (λ cs l. numbers_within-same f g cs (omega arith) (omega arith)) ∙ sym (numbers_within-suc g bs))

-- a list is a number, and then a comma and a list, or nothing more
pub numbers-step : (bs : List ℕ) → numbers bs ≡ and_then (number bs) (λ n. goes_on numbers n.value n.rest)
unfolding numbers
numbers-step bs =
    numbers_within-same (length bs) (suc (length bs)) bs (omega arith) (omega arith) ∙
    (numbers_within-suc (length bs) bs ∙ list_same (numbers_within (length bs)) numbers bs
    (λ cs l. numbers_within-same (length bs) (length cs) cs (omega arith) (omega arith)))
