-- A text's lines, once for all texts: given what a line of each key can say (`Says`), that its body is read as that
-- and that what a body reads it can say, the reader of its lines is exact.
use Prim.Native.Nat.{ℕ, ◌<◌}
use Prim.Native.String.{String}
use mathlib.Core.Path.{◌≡◌, refl, sym, ◌∙◌, ap, subst}
use mathlib.Core.Bool.{true}
use mathlib.Core.List.{List, ◌∷◌, ◌++◌}
use Rattle.std.specs.Prelude.{Option, Some}
use Rattle.words.proofs.Lists.{In}
use Rattle.text.specs.Lines.{newline, digits, Entry, entry_bytes, line, Taken, Reader, taken, is_digit, number}
use Rattle.text.specs.Lines.{entry, ended, read_line}
use Rattle.text.proofs.Digits.{at_other, number-written, number_read}
use Rattle.text.proofs.NumberLists.{SmallEntry, entry_read}
use Rattle.text.proofs.Reading.{Exact}
use Rattle.text.proofs.KeyedLines.{Ended, ended-read, keyed, line-append, line-long, apart, read_line-written}
use Rattle.text.proofs.KeyedLines.{read_line-read}

pub number-ends : (n : ℕ) → n < 100000 → (r : List ℕ) → number (digits n ++ (newline ∷ r)) ≡ taken n (newline ∷ r)
unfolding is_digit
number-ends n h r = number-written n h (at_other {b = 10} {bs = r} refl)

-- ---- bodies that were read
pub record BodyRead {K L : Type 0} (body_of : L → List ℕ) (Says : K → L → Type 0)
    (k : K) (bs : List ℕ) (m : Taken L) : Type 0 where
  pub says : Says k m.value
  pub whole : bs ≡ body_of m.value ++ (newline ∷ m.rest)

module _ {K L : Type 0} (body_of : L → List ℕ) (Says : K → L → Type 0) (k : K) (bs : List ℕ) (m : Taken L) where
  -- a body that was read and ended makes a line
  pub line_made : {A : Type 0} (make : A → L) {o : Option (Taken A)} (e : Ended make o m) →
      Says k (make e.body.value) →
      bs ≡ body_of (make e.body.value) ++ e.body.rest → BodyRead body_of Says k bs m
  line_made make e s w = record {
    says = subst (Says k) e.said s;
    whole = w ∙ (ap (λ (r : List ℕ). body_of (make e.body.value) ++ r) e.rest ∙
        ap (λ (l : L). body_of l ++ (newline ∷ m.rest)) e.said);
  }

  pub number-line : (make : ℕ → L) → ((n : ℕ) → n < 100000 → Says k (make n)) → ((n : ℕ) → digits n ≡ body_of (make n)) →
      ended make (number bs) ≡ Some m → BodyRead body_of Says k bs m
  number-line make says same h =
      let e = ended-read make (number bs) m h in
      let a = e.body.value in
      let n = number_read bs e.body e.took in
      line_made make e (says a n.small) (n.whole ∙ ap (λ (x : List ℕ). x ++ e.body.rest) (same a))

  pub entry-line : (make : Entry → L) → ((x : Entry) → SmallEntry x → Says k (make x)) →
      ((x : Entry) → entry_bytes x ≡ body_of (make x)) → ended make (entry bs) ≡ Some m → BodyRead body_of Says k bs m
  entry-line make says same h =
      let e = ended-read make (entry bs) m h in
      let a = e.body.value in
      let n = entry_read bs e.body e.took in
      line_made make e (says a n.small) (n.whole ∙ ap (λ (x : List ℕ). x ++ e.body.rest) (same a))

-- ---- an exact reader of lines
-- a line of a key that is allowed here
pub record Allows {K L D : Type 0} (Says : K → L → Type 0) (keys : D → List K) (d : D) (l : L) : Type 0 where
  pub key : K
  pub listed : In key (keys d)
  pub says : Says key l

pub record Bodies {K L : Type 0} (name : K → String) (body : K → Reader L)
    (body_of : L → List ℕ) (text : L → List ℕ) (Says : K → L → Type 0) : Type 0 where
  pub some_byte : (l : L) → (k : K) × (text l ≡ line (name k) (body_of l))
  pub line-is : (k : K) (l : L) → Says k l → text l ≡ line (name k) (body_of l)
  pub written : (k : K) (l : L) → Says k l → (r : List ℕ) → body k (body_of l ++ (newline ∷ r)) ≡ taken l r
  pub was_read : (k : K) (bs : List ℕ) (m : Taken L) → body k bs ≡ Some m → BodyRead body_of Says k bs m

module _ {K L D : Type 0} {name : K → String} {body : K → Reader L}
    {body_of : L → List ℕ} {text : L → List ℕ} {Says : K → L → Type 0} (b : Bodies name body body_of text Says)
    (keys : D → List K) (told-apart : (d : D) → apart name (keys d) ≡ true) where
  pub text-append : (k : K) (l : L) → Says k l → (r : List ℕ) →
      text l ++ r ≡ keyed (name k) ++ (body_of l ++ (newline ∷ r))
  text-append k l s r = ap (λ (x : List ℕ). x ++ r) (b.line-is k l s) ∙ line-append (name k) (body_of l) r

  pub lines-exact : Exact (λ d bs. read_line name body (keys d) bs) (Allows Says keys) text
  lines-exact = record {
    some_byte = λ l. let (k, e) = b.some_byte l in rw e (line-long (name k) (body_of l));
    written = λ d l a rest.
        ap (read_line name body (keys d)) (text-append a.key l a.says rest) ∙
        read_line-written name body a.listed (told-apart d) (body_of l ++ (newline ∷ rest))
        (record { value = l; rest = rest }) (b.written a.key l a.says rest);
    may = λ d bs m h.
        let c = read_line-read name body (keys d) bs m h in
        record { key = c.key; listed = c.listed; says = (b.was_read c.key c.rest m c.body-took).says };
    whole = λ d bs m h.
        let c = read_line-read name body (keys d) bs m h in
        let r = b.was_read c.key c.rest m c.body-took in
        c.whole ∙ (ap (λ (x : List ℕ). keyed (name c.key) ++ x) r.whole ∙
        sym (text-append c.key m.value r.says m.rest));
  }
