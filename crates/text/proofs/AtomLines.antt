-- The line of an atom by the words of the table, as code writes it: key, predicate, colon, arguments, byte 10; and how
-- long it can be.
use Rattle.task.specs.Limits.{atom_size, most_arity}
use Rattle.task.specs.Layout.{arity_in}
use Prim.Native.Nat.{ℕ, zero, suc, ◌+◌, ◌-◌, ◌*◌, ◌^◌, ◌≤◌, ◌<◌}
use mathlib.Core.Path.{◌≡◌, refl, sym, ◌∙◌, ap, ap₂}
use mathlib.Core.List.{List, [], ◌∷◌, ◌++◌, map, append_assoc}
use native.Mathlib.Nat.{mul-suc}
use native.Mathlib.Omega.{arith}
use lib.ListN.{length, get_or, length-append, length-map}
use Rattle.words.specs.Lists.{up_to, up_from}
use Rattle.words.specs.Words.{words_at}
use Rattle.words.proofs.Lists.{In, here, there, length-up_to}
use Rattle.text.specs.Lines.{bytes, equals, colon, newline, digits, commaed, entry_bytes, line}
use Rattle.text.specs.Text.{key_name}
use Rattle.text.specs.TableLines.{spaced, entry_at, atom_key, key_bytes, row_text, atom_text, atoms_text}
use Rattle.text.proofs.DigitSteps.{at-most-five}
use Rattle.text.proofs.Onwards.{onwards, onwards-all}

-- ---- keys
-- a role that is none of the first four counts as a goal's
pub key-other : (role : ℕ) → 4 ≤ role → key_bytes role ≡ key_bytes 4
unfolding key_bytes
key-other zero h = absurd (omega arith)
key-other (suc zero) h = absurd (omega arith)
key-other (suc (suc zero)) h = absurd (omega arith)
key-other (suc (suc (suc zero))) h = absurd (omega arith)
key-other (suc (suc (suc (suc r)))) h = refl

key-most : (role : ℕ) → length (key_bytes role) ≤ 5
unfolding key_bytes
key-most zero = omega arith
key-most (suc zero) = omega arith
key-most (suc (suc zero)) = omega arith
key-most (suc (suc (suc zero))) = omega arith
key-most (suc (suc (suc (suc r)))) = omega arith

-- ---- words in a row
spaced-from : (w : List ℕ) (i k n : ℕ) →
    map (λ j. get_or w (i + 1 * j) 0) (up_from k n) ≡ map (λ j. get_or w j 0) (up_from (i + k) n)
unfolding up_from
spaced-from w i k zero = refl
spaced-from w i k (suc n) =
    let e : i + 1 * k ≡ i + k = omega arith in
    let q : i + suc k ≡ suc (i + k) = omega arith in
    ap₂ (λ (x : ℕ) (xs : List ℕ). x ∷ xs) (ap (λ (j : ℕ). get_or w j 0) e)
    (spaced-from w i (suc k) n ∙ ap (λ (j : ℕ). map (λ j. get_or w j 0) (up_from j n)) q)

pub spaced-words : (w : List ℕ) (i n : ℕ) → spaced w i 1 n ≡ words_at w i n
unfolding spaced words_at up_to
spaced-words w i n =
    let e : i + 0 ≡ i = omega arith in
    spaced-from w i 0 n ∙ ap (λ (j : ℕ). map (λ j. get_or w j 0) (up_from j n)) e

pub length-spaced : (w : List ℕ) (from step n : ℕ) → length (spaced w from step n) ≡ n
unfolding spaced
length-spaced w from step n = length-map (up_to n) (λ k. get_or w (from + step * k) 0) ∙ length-up_to n

-- numbers of at most d digits
abbrev pub Within : ℕ → List ℕ → Type 0
Within d ns = (n : ℕ) → In n ns → length (digits n) ≤ d

-- of at most k such numbers each has its digits and a comma, but for the last
pub commaed-within : (d k : ℕ) (ns : List ℕ) → length ns ≤ k → Within d ns → length (commaed ns) ≤ suc d * k - 1
unfolding commaed
commaed-within d k [] l h = omega arith
commaed-within d zero (n ∷ ns) l h = absurd (omega arith)
commaed-within d (suc k) (n ∷ []) l h = let e = h n (here refl) in let m = mul-suc (suc d) k in omega arith
commaed-within d (suc zero) (n ∷ m ∷ ns) l h = absurd (omega arith)
commaed-within d (suc (suc k)) (n ∷ m ∷ ns) l h =
    let e = h n (here refl) in
    let r = commaed-within d (suc k) (m ∷ ns) (omega arith) (λ x i. h x (there i)) in
    let o = mul-suc (suc d) k in
    let p = mul-suc (suc d) (suc k) in
    omega (arith, length-append (digits n) (44 ∷ commaed (m ∷ ns)))

-- no number has more than five digits
commaed-most : (ns : List ℕ) → length (commaed ns) ≤ 6 * length ns
commaed-most ns = let m = commaed-within 5 (length ns) ns (omega arith) (λ n i. at-most-five n) in omega arith

pub spaced-most : (w : List ℕ) (from step n : ℕ) → length (commaed (spaced w from step n)) ≤ 6 * n
spaced-most w from step n =
    let l = length-spaced w from step n in
    let m = commaed-most (spaced w from step n) in
    omega arith

-- ---- the line
-- a number and a colon, n words and byte 10: the rest of an atom's line behind its key, or of a step's
pub entry-is : (head : ℕ) (w : List ℕ) (from n : ℕ) →
    entry_bytes (record { head = head; list = words_at w from n }) ++ (newline ∷ []) ≡
    (digits head ++ (colon ∷ [])) ++ (commaed (spaced w from 1 n) ++ (newline ∷ []))
unfolding entry_bytes
entry-is head w from n =
    append_assoc (digits head) (colon ∷ commaed (words_at w from n)) (newline ∷ []) ∙
    (ap (λ (ns : List ℕ). digits head ++ (colon ∷ (commaed ns ++ (newline ∷ [])))) (sym (spaced-words w from n)) ∙
    sym (append_assoc (digits head) (colon ∷ []) (commaed (spaced w from 1 n) ++ (newline ∷ []))))

pub row_text-is : (w : List ℕ) (b n : ℕ) →
    row_text w b n ≡ key_bytes (get_or w (b + 1) 0) ++
    (entry_bytes (record { head = get_or w (b + 2) 0; list = words_at w (b + 4) n }) ++ (newline ∷ []))
unfolding row_text key_bytes line entry_at
row_text-is w b n =
    sym (append_assoc (bytes (key_name (atom_key (get_or w (b + 1) 0)))) (equals ∷ [])
    (entry_bytes (entry_at w b n) ++ (newline ∷ [])))

pub row-fits : (w : List ℕ) (b n : ℕ) → n ≤ most_arity → length (row_text w b n) < 2 ^ 64
row-fits w b n h =
    let key = key_bytes (get_or w (b + 1) 0) in
    let pred = get_or w (b + 2) 0 in
    let args = commaed (spaced w (b + 4) 1 n) in
    let entry = (digits pred ++ (colon ∷ [])) ++ (args ++ (newline ∷ [])) in
    let whole : row_text w b n ≡ key ++ entry =
    row_text-is w b n ∙ ap (λ (bs : List ℕ). key ++ bs) (entry-is pred w (b + 4) n) in
    let long = ap length whole in
    let lengths = length-append key entry in
    let short = key-most (get_or w (b + 1) 0) in
    let parts = length-append (digits pred ++ (colon ∷ [])) (args ++ (newline ∷ [])) in
    let head = length-append (digits pred) (colon ∷ []) in
    let five = at-most-five pred in
    let end = length-append args (newline ∷ []) in
    let few = spaced-most w (b + 4) 1 n in
    omega arith

-- ---- the lines of atoms, from atom k on
-- an atom's line has as many arguments as its predicate's arity
pub atom-row : (w : List ℕ) (b n : ℕ) → n ≡ arity_in w (get_or w (b + 2) 0) → row_text w b n ≡ atom_text w b
unfolding atom_text
atom-row w b n e = ap (row_text w b) e

abbrev pub atom_line : List ℕ → ℕ → ℕ → List ℕ
atom_line w b k = atom_text w (b + atom_size * k)

pub atoms-onwards : (w : List ℕ) (b n : ℕ) → onwards (atom_line w b) 0 n ≡ atoms_text w b n
unfolding atoms_text
atoms-onwards w b n = onwards-all (atom_line w b) n
