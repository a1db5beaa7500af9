-- 'Text form', the lines: how a line is written, and how one is read off the front of the bytes that remain.
-- "Each line is a key, =, a body and byte 10"; a body is a number, a list of numbers, or an atom.
use Rattle.std.specs.Prelude.{ℕ, zero, suc, ◌+◌, ◌-◌, ◌*◌, ◌/◌, ◌%◌, Bool, true, false, not, ◌&&◌, List, [], ◌∷◌, ◌++◌, length, drop, eqb, ltb, leb}
use Prim.Native.Char.{code}
use Prim.Native.String.{String, [] as noText, ◌∷◌ as ◌then◌}
use Rattle.std.specs.Prelude.{Option, None, Some}

-- ---- bytes
-- the bytes of a quoted text
unfoldable pub bytes : String → List ℕ
bytes noText = []
bytes (c then cs) = code c ∷ bytes cs

abbrev pub equals : ℕ
equals = code "="

abbrev pub colon : ℕ
colon = code ":"

abbrev pub comma : ℕ
comma = code ","

abbrev pub digit_zero : ℕ
digit_zero = code "0"

abbrev pub digit_nine : ℕ
digit_nine = code "9"

-- "byte 10"
abbrev pub newline : ℕ
newline = 10

-- "Numbers have 1 to 5 digits"
abbrev pub most_digits : ℕ
most_digits = 5

-- ---- writing
-- "Numbers are in base ten": n % 10 is the last digit, and n / 10 has the digits before it
unfoldable pub digits_within : ℕ → ℕ → List ℕ
digits_within zero n = []
digits_within (suc most) n = elim (ltb n 10) [
  | true ↦ (digit_zero + n) ∷ []
  | false ↦ digits_within most (n / 10) ++ ((digit_zero + n % 10) ∷ [])
]

unfoldable pub digits : ℕ → List ℕ
unfolding digits_within
digits n = digits_within most_digits n

-- a list of numbers: "commas between"
unfoldable pub commaed : List ℕ → List ℕ
unfolding digits
commaed [] = []
commaed (n ∷ []) = digits n
commaed (n ∷ m ∷ ns) = digits n ++ (comma ∷ commaed (m ∷ ns))

-- "An atom is predicate, colon, arguments", and a step "schema, colon, objects"
pub record Entry : Type 0 where
  pub head : ℕ
  pub list : List ℕ

unfoldable pub entry_bytes : Entry → List ℕ
unfolding digits commaed
entry_bytes e = digits e.head ++ (colon ∷ commaed e.list)

-- "Each line is a key, =, a body and byte 10"
unfoldable pub line : String → List ℕ → List ℕ
unfolding bytes
line key body = bytes key ++ (equals ∷ (body ++ (newline ∷ [])))

-- ---- reading: each reader takes what it reads off the front, and leaves the rest
pub record Taken (A : Type 0) : Type 0 where
  pub value : A
  pub rest : List ℕ

abbrev pub Reader : Type 0 → Type 0
Reader A = List ℕ → Option (Taken A)

abbrev pub taken : {A : Type 0} → A → List ℕ → Option (Taken A)
taken a bs = Some (record { value = a; rest = bs })

unfoldable pub taken_if : {A : Type 0} → Bool → A → List ℕ → Option (Taken A)
taken_if true a bs = taken a bs
taken_if false a bs = None

unfoldable pub and_then : {A B : Type 0} → Option A → (A → Option B) → Option B
and_then None f = None
and_then (Some a) f = f a

unfoldable pub or_else : {A : Type 0} → Option A → Option A → Option A
or_else None b = b
or_else (Some a) b = Some a

-- what follows some bytes at the front
unfoldable pub after : List ℕ → List ℕ → Option (List ℕ)
after [] bs = Some bs
after (k ∷ ks) [] = None
after (k ∷ ks) (b ∷ bs) = elim (eqb k b) [ true ↦ after ks bs | false ↦ None ]

unfoldable pub is_digit : ℕ → Bool
is_digit b = leb digit_zero b && leb b digit_nine

-- the digits at the front
unfoldable pub leading_digits : List ℕ → List ℕ
unfolding is_digit
leading_digits [] = []
leading_digits (b ∷ bs) = elim (is_digit b) [ true ↦ b ∷ leading_digits bs | false ↦ [] ]

-- the number that digits say, behind those that say n
unfoldable pub value_from : ℕ → List ℕ → ℕ
value_from n [] = n
value_from n (b ∷ bs) = value_from (10 * n + (b - digit_zero)) bs

-- "no leading 0": `0` is a number, `00` and `01` are none
unfoldable pub no_leading_zero : List ℕ → Bool
no_leading_zero [] = true
no_leading_zero (b ∷ []) = true
no_leading_zero (b ∷ c ∷ bs) = not (eqb b digit_zero)

-- "1 to 5 digits, no leading 0"
unfoldable pub in_form : List ℕ → Bool
unfolding no_leading_zero
in_form ds = leb 1 (length ds) && (leb (length ds) most_digits && no_leading_zero ds)

unfoldable pub number : Reader ℕ
unfolding leading_digits in_form value_from taken_if
number bs = let ds = leading_digits bs in taken_if (in_form ds) (value_from 0 ds) (drop (length ds) bs)

-- one number or more, "commas between"; each takes a byte at least, so one turn for each byte is enough
unfoldable pub numbers_within : ℕ → Reader (List ℕ)
unfolding number and_then
numbers_within zero bs = None
numbers_within (suc turns) bs =
    and_then (number bs) (λ n.
    elim n.rest [
      | [] ↦ taken (n.value ∷ []) []
      | c ∷ cs ↦ elim (eqb c comma) [
        | true ↦ and_then (numbers_within turns cs) (λ ns. taken (n.value ∷ ns.value) ns.rest)
        | false ↦ taken (n.value ∷ []) (c ∷ cs)
      ]
    ])

unfoldable pub numbers : Reader (List ℕ)
unfolding numbers_within
numbers bs = numbers_within (length bs) bs

-- "Argument and part lists may be empty in form": then the line ends where the list would begin
unfoldable pub listing : Reader (List ℕ)
unfolding numbers
listing [] = None
listing (b ∷ bs) = elim (eqb b newline) [ true ↦ taken [] (b ∷ bs) | false ↦ numbers (b ∷ bs) ]

-- predicate or schema, colon, arguments or objects
unfoldable pub entry : Reader Entry
unfolding number after listing and_then
entry bs =
    and_then (number bs) (λ p.
    and_then (after (colon ∷ []) p.rest) (λ rest.
    and_then (listing rest) (λ xs.
    taken (record { head = p.value; list = xs.value }) xs.rest)))

-- a body, and the byte 10 behind it; what was read of the body is made into what the line says
unfoldable pub ended : {A L : Type 0} → (A → L) → Option (Taken A) → Option (Taken L)
unfolding after and_then
ended says body =
    and_then body (λ a.
    and_then (after (newline ∷ []) a.rest) (λ rest.
    taken (says a.value) rest))

-- a whole line of one key; `body` reads what stands behind its =
unfoldable pub read_key : {L : Type 0} → String → Reader L → Reader L
unfolding bytes after and_then
read_key key body bs = and_then (after (bytes key ++ (equals ∷ [])) bs) body

-- a whole line of one of these keys
unfoldable pub read_line : {K L : Type 0} → (K → String) → (K → Reader L) → List K → Reader L
unfolding read_key or_else
read_line name body [] bs = None
read_line name body (k ∷ ks) bs = or_else (read_key (name k) (body k) bs) (read_line name body ks bs)
