-- What the inner functions of the reader answer, by the readers of `Lines` at a cursor: a cursor at an offset `at` of a
-- text has `drop at text` before it.
use Rattle.std.specs.Prelude.{ℕ, suc, ◌+◌, ◌*◌, ◌≤◌, ◌<◌, max, ◌≡◌, Bool, true, cond, ◌&&◌, List, [], ◌∷◌, ◌++◌, length, get_or, drop, eqb, ltb, leb}
use Rattle.std.specs.Prelude.{Option, None, Some}
use Rattle.words.specs.Lists.{all, any, up_to, eq_list}
use Rattle.task.specs.Task.{Atom, args_fit}
use Rattle.words.specs.Words.{words_at}
use Rattle.text.specs.declared.cursor.Cursor.{Cursor}
use Rattle.text.specs.declared.keys.Key.{Key as Code}
use Rattle.text.specs.declared.keys.Key.TheVariants as code
use Rattle.text.specs.Lines.{bytes, equals, newline, leading_digits, Taken, taken, after, number, entry, ended}
use Rattle.text.specs.Text.{Key, task, objects, arity, schema, differ, pre, add, del, part, init, goal, end}
use Rattle.text.specs.Text.{key_name, Phase, at_task, at_objects, at_arity, between, in_differ, in_pre, in_add, in_del}
use Rattle.text.specs.Text.{in_init, in_goal, role_phase}
use Rattle.task.specs.Limits.{most_arity, head_words, atom_size}

-- what remains of a text at a cursor
abbrev pub rest : List ℕ → Cursor → List ℕ
rest text c = drop c.at text

-- "Lines count from 1"
abbrev pub start_cursor : Cursor
start_cursor = record { at = 0; line = 1 }

-- a cursor into a text; each line before its own took a byte at least
pub record Placed (text : List ℕ) (c : Cursor) : Type 0 where
  pub inside : c.at ≤ length text
  pub line : c.line ≤ c.at + 1

-- a cursor that was moved on in its line
pub record Moved (text : List ℕ) (c next : Cursor) : Type 0 where
  pub on : c.at < next.at
  pub inside : next.at ≤ length text
  pub line : next.line ≡ c.line

pub record DigitHere (text : List ℕ) (c : Cursor) (d : ℕ) (next : Cursor) : Type 0 where
  pub is : leading_digits (rest text c) ≡ (48 + d) ∷ leading_digits (rest text next)
  pub small : d < 10
  pub one : next.at ≡ c.at + 1
  pub moved : Moved text c next

abbrev pub DigitAt : List ℕ → Cursor → Option (ℕ × Cursor) → Type 0
DigitAt text c (Some (d, next)) = DigitHere text c d next
DigitAt text c None = leading_digits (rest text c) ≡ []

-- "Numbers have 1 to 5 digits": each is below
abbrev pub number_limit : ℕ
number_limit = 100000

pub record NumberHere (text : List ℕ) (c : Cursor) (n : ℕ) (next : Cursor) : Type 0 where
  pub is : number (rest text c) ≡ taken n (rest text next)
  pub small : n < number_limit
  pub moved : Moved text c next

abbrev pub NumberAt : List ℕ → Cursor → Option (ℕ × Cursor) → Type 0
NumberAt text c (Some (n, next)) = NumberHere text c n next
NumberAt text c None = number (rest text c) ≡ None

-- some bytes at a cursor, and the cursor behind them
pub record WordHere (text : List ℕ) (c : Cursor) (word : List ℕ) (next : Cursor) : Type 0 where
  pub is : after word (rest text c) ≡ Some (rest text next)
  pub far : next.at ≡ c.at + length word
  pub inside : next.at ≤ length text
  pub line : next.line ≡ c.line

abbrev pub WordAt : List ℕ → Cursor → List ℕ → Option Cursor → Type 0
WordAt text c word (Some next) = WordHere text c word next
WordAt text c word None = after word (rest text c) ≡ None

-- byte 10 at a cursor, and the cursor at the next line
pub record EndHere (text : List ℕ) (c next : Cursor) : Type 0 where
  pub is : after (newline ∷ []) (rest text c) ≡ Some (rest text next)
  pub on : c.at < next.at
  pub inside : next.at ≤ length text
  pub line : next.line ≡ c.line + 1

abbrev pub EndAt : List ℕ → Cursor → Option Cursor → Type 0
EndAt text c (Some next) = EndHere text c next
EndAt text c None = after (newline ∷ []) (rest text c) ≡ None

-- ---- bodies
-- a cursor at the same place or further on in its line
pub record Onward (text : List ℕ) (c next : Cursor) : Type 0 where
  pub on : c.at ≤ next.at
  pub inside : next.at ≤ length text
  pub line : next.line ≡ c.line

-- a cursor at the line behind another's
pub record NextLine (text : List ℕ) (c next : Cursor) : Type 0 where
  pub on : c.at < next.at
  pub inside : next.at ≤ length text
  pub line : next.line ≡ c.line + 1

-- numbers that were counted, and kept as far as the lent ones reach
pub record Listed (ns : List ℕ) (count : ℕ) (kept : List ℕ) : Type 0 where
  pub counted : length ns ≡ count
  pub held : (k : ℕ) → k < length ns → k < length kept → get_or kept k 0 ≡ get_or ns k 0

-- the list that a reader found
pub record ListHere (text : List ℕ) (c : Cursor) (found : Option (Taken (List ℕ))) (count : ℕ) (kept : List ℕ)
    (next : Cursor) : Type 0 where
  pub ns : List ℕ
  pub is : found ≡ taken ns (rest text next)
  pub listed : Listed ns count kept
  pub onward : Onward text c next

abbrev pub ListAt : List ℕ → Cursor → Option (Taken (List ℕ)) → List ℕ → Option (ℕ × Cursor) → Type 0
ListAt text c found kept (Some (count, next)) = ListHere text c found count kept next
ListAt text c found kept None = found ≡ None

-- the cursor behind a list lies in the text
abbrev pub ListPlaced : List ℕ → Option (ℕ × Cursor) → Type 0
ListPlaced text found = (count : ℕ) (next : Cursor) → found ≡ Some (count, next) → Placed text next

pub record EntryHere (text : List ℕ) (c : Cursor) (head count : ℕ) (kept : List ℕ) (next : Cursor) : Type 0 where
  pub ns : List ℕ
  pub is : entry (rest text c) ≡ taken (record { head = head; list = ns }) (rest text next)
  pub listed : Listed ns count kept
  pub onward : Onward text c next

abbrev pub EntryAt : List ℕ → Cursor → List ℕ → Option (ℕ × ℕ × Cursor) → Type 0
EntryAt text c kept (Some (head, count, next)) = EntryHere text c head count kept next
EntryAt text c kept None = entry (rest text c) ≡ None

-- ---- a body and its line's end
abbrev pub whole : {A : Type 0} → Option (Taken A) → Option (Taken A)
whole {A} o = ended {A = A} {L = A} (λ a. a) o

pub record NumberLine (text : List ℕ) (c : Cursor) (n : ℕ) (next : Cursor) : Type 0 where
  pub is : whole (number (rest text c)) ≡ taken n (rest text next)
  pub small : n < number_limit
  pub line : NextLine text c next

abbrev pub NumberLineAt : List ℕ → Cursor → Option (ℕ × Cursor) → Type 0
NumberLineAt text c (Some (n, next)) = NumberLine text c n next
NumberLineAt text c None = whole (number (rest text c)) ≡ None

-- a body that must be 1, and is: otherwise nothing stands behind it
pub record OneLine (text : List ℕ) (c next : Cursor) : Type 0 where
  pub is : whole (number (rest text c)) ≡ taken 1 (rest text next)
  pub line : NextLine text c next

abbrev pub OneLineAt : List ℕ → Cursor → Option Cursor → Type 0
OneLineAt text c (Some next) = OneLine text c next
OneLineAt text c None = (left : List ℕ) → whole (number (rest text c)) ≡ taken 1 left → ⊥

pub record ListLine (text : List ℕ) (c : Cursor) (found : Option (Taken (List ℕ))) (count : ℕ) (kept : List ℕ)
    (next : Cursor) : Type 0 where
  pub ns : List ℕ
  pub is : whole found ≡ taken ns (rest text next)
  pub listed : Listed ns count kept
  pub line : NextLine text c next

abbrev pub ListLineAt : List ℕ → Cursor → Option (Taken (List ℕ)) → List ℕ → Option (ℕ × Cursor) → Type 0
ListLineAt text c found kept (Some (count, next)) = ListLine text c found count kept next
ListLineAt text c found kept None = whole found ≡ None

pub record EntryLine (text : List ℕ) (c : Cursor) (head count : ℕ) (kept : List ℕ) (next : Cursor) : Type 0 where
  pub ns : List ℕ
  pub is : whole (entry (rest text c)) ≡ taken (record { head = head; list = ns }) (rest text next)
  pub listed : Listed ns count kept
  pub line : NextLine text c next

abbrev pub EntryLineAt : List ℕ → Cursor → List ℕ → Option (ℕ × ℕ × Cursor) → Type 0
EntryLineAt text c kept (Some (head, count, next)) = EntryLine text c head count kept next
EntryLineAt text c kept None = whole (entry (rest text c)) ≡ None

-- ---- keys
-- "Each line is a key, =": the bytes that a line begins with
abbrev pub key_bytes : Key → List ℕ
key_bytes k = bytes (key_name k) ++ (equals ∷ [])

-- keys that may stand at one place of the fixed order have numbers that follow one another
abbrev pub key_number : Key → ℕ
key_number task = 0
key_number objects = 1
key_number arity = 2
key_number differ = 3
key_number pre = 4
key_number add = 5
key_number del = 6
key_number part = 7
key_number schema = 8
key_number init = 9
key_number goal = 10
key_number end = 11

-- the key that the code's names, and its number
abbrev pub meant : Code → Key
meant code.Task = task
meant code.Objects = objects
meant code.Arity = arity
meant code.Differ = differ
meant code.Pre = pre
meant code.Add = add
meant code.Del = del
meant code.Part = part
meant code.Schema = schema
meant code.Init = init
meant code.Goal = goal
meant code.End = end

abbrev pub number_of : Code → ℕ
number_of k = key_number (meant k)

-- a place in the order is told by the first key that it allows, and has its number
abbrev pub first_key : Phase → Code
first_key at_task = code.Task
first_key at_objects = code.Objects
first_key at_arity = code.Arity
first_key in_differ = code.Differ
first_key in_pre = code.Pre
first_key in_add = code.Add
first_key in_del = code.Del
first_key between = code.Schema
first_key in_init = code.Init
first_key in_goal = code.Goal

abbrev pub phase_number : Phase → ℕ
phase_number p = number_of (first_key p)

-- the place behind an atom of a role
abbrev pub role_place : ℕ → Code
role_place r = first_key (role_phase r)

-- the last key that a place allows, by their numbers
unfoldable pub last_key : ℕ → ℕ
last_key phase =
    cond (ltb phase (phase_number in_differ)) phase
    (cond (ltb phase (phase_number between)) (key_number part) (key_number end))

-- whether the order allows a key at a place, by their numbers
abbrev pub may_stand : ℕ → ℕ → Bool
may_stand phase key = leb phase key && leb key (last_key phase)

pub record KeyHere (text : List ℕ) (c : Cursor) (key : Code) (body : Cursor) : Type 0 where
  pub is : after (key_bytes (meant key)) (rest text c) ≡ Some (rest text body)
  pub moved : Moved text c body

abbrev pub KeyAt : List ℕ → Cursor → Option (Code × Cursor) → Type 0
KeyAt text c (Some (key, body)) = KeyHere text c key body
KeyAt text c None = (k : Key) → after (key_bytes k) (rest text c) ≡ None

-- the same, of the keys of lines that stand once
pub record NoOnceKey (bs : List ℕ) : Type 0 where
  pub no-task : after (key_bytes task) bs ≡ None
  pub no-objects : after (key_bytes objects) bs ≡ None
  pub no-arity : after (key_bytes arity) bs ≡ None
  pub no_end : after (key_bytes end) bs ≡ None

abbrev pub OnceKeyAt : List ℕ → Cursor → Option (Code × Cursor) → Type 0
OnceKeyAt text c (Some (key, body)) = KeyHere text c key body
OnceKeyAt text c None = NoOnceKey (rest text c)

-- ---- words of a table
-- a list that stands in words from a place on
abbrev pub Standing : List ℕ → ℕ → List ℕ → Type 0
Standing w i xs = (k : ℕ) → k < length xs → get_or w (i + k) 0 ≡ get_or xs k 0

-- n words were written at a place, word k being f k; no other word was touched
pub record Wrote (w : List ℕ) (at n : ℕ) (f : ℕ → ℕ) (after : List ℕ) : Type 0 where
  pub size : length after ≡ length w
  pub put : (k : ℕ) → k < n → get_or after (at + k) 0 ≡ f k
  pub before : (j : ℕ) → j < at → get_or after j 0 ≡ get_or w j 0
  pub behind : (j : ℕ) → at + n ≤ j → get_or after j 0 ≡ get_or w j 0

-- one more than the highest number, 0 for none
unfoldable pub one_above : List ℕ → ℕ
one_above [] = 0
one_above (x ∷ xs) = max (suc x) (one_above xs)

-- "numbered without a gap", of the part numbers alone
unfoldable pub no_gap_in : List ℕ → Bool
unfolding one_above all any up_to
no_gap_in ps = all (λ p. any (λ q. eqb p q) ps) (up_to (one_above ps))

-- ---- rows of a table, each by the place where it begins
-- an atom that is in no part yet
abbrev pub bare_atom : ℕ → ℕ → List ℕ → Atom
bare_atom r p args = record { role = r; pred = p; part = 0; args = args }

-- whether an atom's predicate and arguments fit, told of the numbers that were kept of its arguments
pub record Fitting (w : List ℕ) (predicates bound predicate : ℕ) (kept : List ℕ) (count : ℕ) (told : Bool) :
    Type 0 where
  pub is : (arities ns : List ℕ) → length arities ≡ predicates → Standing w head_words arities →
      all (λ n. leb n most_arity) arities ≡ true → length kept ≡ most_arity → Listed ns count kept →
      told ≡ args_fit arities bound predicate ns
  pub known : told ≡ true → predicate < predicates
  pub enough : told ≡ true → count ≤ length kept
  pub low : told ≡ true → (k : ℕ) → k < count → get_or kept k 0 < bound

-- a row whose predicate has at most four arguments
pub record RowIn (w : List ℕ) (row : ℕ) : Type 0 where
  pub inside : row + atom_size ≤ length w
  pub known : head_words + get_or w (row + 2) 0 < length w
  pub few : get_or w (head_words + get_or w (row + 2) 0) 0 ≤ most_arity

unfoldable pub row_names : List ℕ → ℕ → ℕ → Bool
unfolding any words_at
row_names w row x = any (λ y. eqb x y) (words_at w (row + 4) (get_or w (head_words + get_or w (row + 2) 0) 0))

unfoldable pub row_same : List ℕ → ℕ → ℕ → Bool
unfolding eq_list words_at
row_same w a b =
    eq_list (words_at w (a + 1) 2) (words_at w (b + 1) 2) && eq_list (words_at w (a + 4) 4) (words_at w (b + 4) 4)

-- the part words of n rows were written, and no other word
pub record PartsPut (w : List ℕ) (first n : ℕ) (parts after : List ℕ) : Type 0 where
  pub size : length after ≡ length w
  pub put : (k : ℕ) → k < n → get_or after (first + atom_size * k + 3) 0 ≡ get_or parts k 0
  pub other : (j : ℕ) → ((k : ℕ) → k < n → j ≡ first + atom_size * k + 3 → ⊥) → get_or after j 0 ≡ get_or w j 0
