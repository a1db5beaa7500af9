-- Bodies as the code reads them, step after step: a list that may be empty, an atom, and a body with its line's end.
use Prim.Native.Nat.{ℕ, ◌≤◌}
use mathlib.Core.Path.{◌≡◌, refl, sym, ◌∙◌, ap, subst}
use mathlib.Core.Bool.{Bool, true, false}
use mathlib.Core.List.{List, [], ◌∷◌}
use Rattle.std.specs.Prelude.{Option, None, Some}
use native.Mathlib.Omega.{arith}
use lib.Dec.{eqb}
use borrow.Author.Tests.{ne_eqb, eqb-false}
use Rattle.text.specs.declared.cursor.Cursor.{Cursor}
use Rattle.text.specs.Lines.{newline, colon, Taken, taken, and_then, after, number, numbers, listing, Entry, entry}
use Rattle.text.specs.Lines.{ended}
use Rattle.text.specs.ReadCode.{whole, Placed, Moved, Onward, WordHere, ListAt, ListPlaced, NextLine, EndHere}
use Rattle.text.proofs.Taken.{no_none, after_read, if-false}

-- ---- a list that may be empty
pub listing-ends : (bs more : List ℕ) → after (newline ∷ []) bs ≡ Some more → listing bs ≡ taken [] bs
unfolding listing
listing-ends bs more h =
    let e = after_read (newline ∷ []) bs more h in
    ap listing e ∙ ap (taken []) (sym e)

pub listing_begins : (bs : List ℕ) → after (newline ∷ []) bs ≡ None → listing bs ≡ numbers bs
unfolding listing after numbers
listing_begins [] h = refl
listing_begins (b ∷ bs) h = go (eqb newline b) refl h
  where
    go : (c : Bool) → eqb newline b ≡ c → ◌≡◌ {A = Option (List ℕ)} (elim c [ true ↦ Some bs | false ↦ None ]) None →
        listing (b ∷ bs) ≡ numbers (b ∷ bs)
    go true e h = absurd (no_none (sym h))
    go false e h = if-false (taken [] (b ∷ bs)) (ne_eqb b 10 (λ q. eqb-false 10 b e (sym q)))

-- ---- an atom
module _ (bs : List ℕ) where
  pub no-head : number bs ≡ None → entry bs ≡ None
  unfolding entry
  no-head h = ap (λ (o : Option (Taken ℕ)). and_then o behind) h
    where
      behind : Taken ℕ → Option (Taken Entry)
      behind p = and_then (after (colon ∷ []) p.rest) (λ rest. and_then (listing rest) (λ xs.
          taken (record { head = p.value; list = xs.value }) xs.rest))

  module _ (n : ℕ) (more : List ℕ) (h : number bs ≡ taken n more) where
    abbrev made : Taken (List ℕ) → Option (Taken Entry)
    made xs = taken (record { head = n; list = xs.value }) xs.rest

    behind-head : entry bs ≡ and_then (after (colon ∷ []) more) (λ rest. and_then (listing rest) made)
    unfolding entry
    behind-head = ap (λ (o : Option (Taken ℕ)). and_then o behind) h
      where
        behind : Taken ℕ → Option (Taken Entry)
        behind p = and_then (after (colon ∷ []) p.rest) (λ rest. and_then (listing rest) (λ xs.
            taken (record { head = p.value; list = xs.value }) xs.rest))

    pub no-colon : after (colon ∷ []) more ≡ None → entry bs ≡ None
    unfolding and_then
    no-colon e = behind-head ∙ ap (λ (o : Option (List ℕ)). and_then o (λ rest. and_then (listing rest) made)) e

    module _ (args : List ℕ) (e : after (colon ∷ []) more ≡ Some args) where
      behind-colon : entry bs ≡ and_then (listing args) made
      unfolding and_then
      behind-colon = behind-head ∙ ap (λ (o : Option (List ℕ)). and_then o (λ rest. and_then (listing rest) made)) e

      pub no-list : listing args ≡ None → entry bs ≡ None
      unfolding and_then
      no-list k = behind-colon ∙ ap (λ (o : Option (Taken (List ℕ))). and_then o made) k

      pub entry-made : (ns left : List ℕ) → listing args ≡ taken ns left →
          entry bs ≡ taken (record { head = n; list = ns }) left
      unfolding and_then
      entry-made ns left k = behind-colon ∙ ap (λ (o : Option (Taken (List ℕ))). and_then o made) k

-- ---- a body and its line's end
module _ {A : Type 0} (o : Option (Taken A)) where
  pub no_body : o ≡ None → whole o ≡ None
  unfolding ended
  no_body h = ap whole h

  module _ (a : A) (more : List ℕ) (h : o ≡ taken a more) where
    behind-body : whole o ≡ and_then (after (newline ∷ []) more) (λ left. taken a left)
    unfolding ended
    behind-body = ap whole h

    pub no_end : after (newline ∷ []) more ≡ None → whole o ≡ None
    unfolding and_then
    no_end e = behind-body ∙ ap (λ (x : Option (List ℕ)). and_then x (λ left. taken a left)) e

    pub line-whole : (left : List ℕ) → after (newline ∷ []) more ≡ Some left → whole o ≡ taken a left
    unfolding and_then
    line-whole left e = behind-body ∙ ap (λ (x : Option (List ℕ)). and_then x (λ left. taken a left)) e

-- ---- cursors that were moved on are in the text
module _ {text : List ℕ} {c next : Cursor} (p : Placed text c) where
  pub moved-placed : Moved text c next → Placed text next
  moved-placed m =
      let a = p.line in
      let b = m.on in
      let l = m.line in
      record { inside = m.inside; line = omega arith }

  pub onward-placed : Onward text c next → Placed text next
  onward-placed m =
      let a = p.line in
      let b = m.on in
      let l = m.line in
      record { inside = m.inside; line = omega arith }

  pub word-placed : {word : List ℕ} → WordHere text c word next → Placed text next
  word-placed m =
      let a = p.line in
      let b = m.far in
      let l = m.line in
      record { inside = m.inside; line = omega arith }

pub list-placed : {text : List ℕ} {c : Cursor} → Placed text c → (body : Option (Taken (List ℕ))) (kept : List ℕ)
    {found : Option (ℕ × Cursor)} → ListAt text c body kept found → ListPlaced text found
list-placed {text} {c} p body kept h count next e = onward-placed p (subst (ListAt text c body kept) e h).onward

-- one at the next line too
pub next-placed : {text : List ℕ} {c next : Cursor} → Placed text c → NextLine text c next → Placed text next
next-placed p m = record { inside = m.inside; line = omega (arith, p.line, m.on, m.line) }

-- further on, and then at the next line
pub to-next : {text : List ℕ} {c d next : Cursor} → c.at ≤ d.at → d.line ≡ c.line → EndHere text d next →
    NextLine text c next
to-next a l e =
    let b = e.on in
    let m = e.line in
    record { on = omega arith; inside = e.inside; line = omega arith }

pub onward-both : {text : List ℕ} {c d e : Cursor} → c.at ≤ d.at → d.line ≡ c.line → Onward text d e →
    Onward text c e
onward-both a l o =
    let b = o.on in
    let m = o.line in
    record { on = omega arith; inside = o.inside; line = omega arith }
