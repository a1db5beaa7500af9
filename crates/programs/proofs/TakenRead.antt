-- What is read of an input whose bytes are known.
use Rattle.std.proofs.Common.{ℕ, ◌≡◌, List, [], ◌++◌, take, IfSome, Option, Some, None, refl, ◌∙◌, ap, subst, arith}
use Rattle.std.specs.Prelude.{option_map}
use Rattle.std.proofs.lemmas.List.{take-take}
use Rattle.programs.specs.Programs.{most_bytes, taken}

-- what is taken of what was taken is the same
pub taken-twice : (xs : List ℕ) → taken (taken xs) ≡ taken xs
unfolding taken
taken-twice xs = take-take most_bytes most_bytes xs (omega arith)

-- of no bytes none are taken
pub taken-none : taken [] ≡ []
unfolding taken most_bytes
taken-none = refl

-- a reader's known bytes up to the limit, read into an empty buffer that is cut there
taken-known : (known : Option (List ℕ)) (old bytes after : List ℕ) → old ≡ [] →
    IfSome (option_map (take most_bytes) known) (λ xs. bytes ≡ old ++ xs) → after ≡ take most_bytes bytes →
    IfSome known (λ xs. after ≡ taken xs)
unfolding taken
taken-known None old bytes after e h t = h
taken-known (Some xs) old bytes after e h t =
    t ∙ ap (take most_bytes) (h ∙ ap (λ ys. ys ++ take most_bytes xs) e) ∙ taken-twice xs

-- the same of a reader that lets so many bytes through of another
pub taken-read : (known within : Option (List ℕ)) (limit : ℕ) (old bytes after : List ℕ) → within ≡ known →
    limit ≡ most_bytes → old ≡ [] → IfSome (option_map (take limit) within) (λ xs. bytes ≡ old ++ xs) →
    after ≡ take most_bytes bytes → IfSome known (λ xs. after ≡ taken xs)
taken-read known within limit old bytes after k l e h t =
    let Read : ℕ → Option (List ℕ) → Type 0 = λ n o. IfSome (option_map (take n) o) (λ xs. bytes ≡ old ++ xs) in
    taken-known known old bytes after e (subst (Read most_bytes) k (subst (λ n. Read n within) l h)) t
