-- Checks down the table of refusals, whatever buffers are lent: one that passes leaves those behind it, one that
-- refuses is the answer and leaves all as found, and a result has passed them all.
use Rattle.task.specs.declared.Place.TheVariants as place
use Prim.Native.Nat.{ℕ}
use mathlib.Core.Path.{◌≡◌, refl, ap, sym, ◌∙◌}
use mathlib.Core.Bool.{Bool, true, false}
use mathlib.Core.List.{List, [], ◌∷◌, ◌++◌}
use Rattle.std.specs.Prelude.{Option, None, Some}
use native.Mathlib.Omega.{arith}
use Rattle.task.specs.declared.Place.{Place}
use Rattle.task.specs.Answers.{result, refused, Outcome, Check, passes, refuses, refuse_unless, in_order, refuse_at}
use Rattle.task.specs.Answers.{first_refusal, table_checks, Told}
use Rattle.task.specs.Table.{long_enough, is_table}

-- ---- an outcome that is known
module _ {Buffers : Type 0} {o p : Outcome Buffers} where
  pub told-by : o ≡ p → o.told ≡ p.told
  told-by e = ap (λ (o : Outcome Buffers). o.told) e

  pub left_by : o ≡ p → o.buffer ≡ p.buffer
  left_by e = ap (λ (o : Outcome Buffers). o.buffer) e

  -- an answer that tells and leaves what is known meets a contract that names the outcome
  pub both : o ≡ p → (p.told ≡ o.told) × (p.buffer ≡ o.buffer)
  both e = (sym (told-by e), sym (left_by e))

-- what an answer is known to be tells what the answer tells
pub tells : {Answer : Type 0} (told : Answer → Told) {r a : Answer} {t : Told} → told r ≡ t → r ≡ a → told a ≡ t
tells told h e = ap told (sym e) ∙ h

-- ---- the first refusal
pub first_passes : {b : Bool} (n : ℕ) (more : List Check) → b ≡ true →
    first_refusal (refuse_unless b n ∷ more) ≡ first_refusal more
unfolding first_refusal refuse_unless
first_passes n more h = ap (λ (b : Bool). first_refusal (refuse_unless b n ∷ more)) h

pub first-refuses : {b : Bool} (n : ℕ) (more : List Check) → b ≡ false →
    first_refusal (refuse_unless b n ∷ more) ≡ refuses n place.Nowhere
unfolding first_refusal refuse_unless
first-refuses n more h = ap (λ (b : Bool). first_refusal (refuse_unless b n ∷ more)) h

pub place-first-passes : {o : Option ℕ} (n : ℕ) (kind : ℕ → Place) (more : List Check) → o ≡ None →
    first_refusal (refuse_at n kind o ∷ more) ≡ first_refusal more
unfolding first_refusal refuse_at
place-first-passes n kind more h = ap (λ (o : Option ℕ). first_refusal (refuse_at n kind o ∷ more)) h

pub place-first-refuses : {o : Option ℕ} (n : ℕ) (kind : ℕ → Place) (more : List Check) {i : ℕ} → o ≡ Some i →
    first_refusal (refuse_at n kind o ∷ more) ≡ refuses n (kind i)
unfolding first_refusal refuse_at
place-first-refuses n kind more h = ap (λ (o : Option ℕ). first_refusal (refuse_at n kind o ∷ more)) h

pub none-refused : first_refusal [] ≡ passes
unfolding first_refusal
none-refused = refl

-- where none refuses, the first passes, and none behind it refuses
pub passed-first : (b : Bool) (n : ℕ) (more : List Check) → passes ≡ first_refusal (refuse_unless b n ∷ more) →
    (b ≡ true) × (passes ≡ first_refusal more)
unfolding first_refusal refuse_unless
passed-first true n more h = (refl, h)
passed-first false n more h = absurd (let z : passes ≡ refuses n place.Nowhere = h in cc)

pub passed-place : (o : Option ℕ) (n : ℕ) (kind : ℕ → Place) (more : List Check) →
    passes ≡ first_refusal (refuse_at n kind o ∷ more) → (o ≡ None) × (passes ≡ first_refusal more)
unfolding first_refusal refuse_at
passed-place None n kind more h = (refl, h)
passed-place (Some i) n kind more h = absurd (let z : passes ≡ refuses n (kind i) = h in cc)

-- checks that all pass leave those behind them, and the first refusal of others stands
pub first-passed : (checks more : List Check) → passes ≡ first_refusal checks →
    first_refusal (checks ++ more) ≡ first_refusal more
unfolding first_refusal
first-passed [] more h = refl
first-passed (passes ∷ checks) more h = first-passed checks more h
first-passed (refuses n at ∷ checks) more h = absurd (let z : passes ≡ refuses n at = h in cc)

pub first-refused : (checks more : List Check) {n : ℕ} {at : Place} → refuses n at ≡ first_refusal checks →
    first_refusal (checks ++ more) ≡ refuses n at
unfolding first_refusal
first-refused [] more {n} {at} h = absurd (let z : refuses n at ≡ passes = h in cc)
first-refused (passes ∷ checks) more h = first-refused checks more h
first-refused (refuses n at ∷ checks) more h = sym h

-- a table that passes is one
pub passed-table : (w : List ℕ) → passes ≡ first_refusal (table_checks w) → is_table w ≡ true
passed-table w h =
    let (long, more) = passed-first (long_enough w) 1 (refuse_unless (is_table w) 2 ∷ []) h in
    (passed-first (is_table w) 2 [] more).0

-- ---- checks in order
module _ {Buffers : Type 0} where
  -- a refusal that leaves all as found
  abbrev pub as_found : ℕ → Place → Buffers → Outcome Buffers
  as_found n at found = record { told = refused n at []; buffer = found }

  -- what is done by the first refusal
  abbrev done_by : Buffers → Outcome Buffers → Check → Outcome Buffers
  done_by found done c = elim c [
    | passes ↦ done
    | refuses n at ↦ as_found n at found
  ]

  -- checks with the same first refusal do the same
  pub same-refusal : (checks others : List Check) (found : Buffers) (done : Outcome Buffers) →
      first_refusal checks ≡ first_refusal others → in_order checks found done ≡ in_order others found done
  unfolding in_order
  same-refusal checks others found done h = ap (done_by found done) h

  pub refusal-stands : (checks : List Check) (found : Buffers) (done : Outcome Buffers) {n : ℕ} {at : Place} →
      first_refusal checks ≡ refuses n at → in_order checks found done ≡ as_found n at found
  unfolding in_order
  refusal-stands checks found done h = ap (done_by found done) h

  pub checks-refuse : (checks more : List Check) (found : Buffers) (done : Outcome Buffers) {n : ℕ} {at : Place} →
      refuses n at ≡ first_refusal checks → in_order (checks ++ more) found done ≡ as_found n at found
  checks-refuse checks more found done h =
      refusal-stands (checks ++ more) found done (first-refused checks more h)

  pub check-passes : {b : Bool} (n : ℕ) (more : List Check) (found : Buffers) (done : Outcome Buffers) → b ≡ true →
      in_order (refuse_unless b n ∷ more) found done ≡ in_order more found done
  check-passes {b} n more found done h =
      same-refusal (refuse_unless b n ∷ more) more found done (first_passes n more h)

  pub check-refuses : {b : Bool} (n : ℕ) (more : List Check) (found : Buffers) (done : Outcome Buffers) → b ≡ false →
      in_order (refuse_unless b n ∷ more) found done ≡ as_found n place.Nowhere found
  check-refuses {b} n more found done h =
      refusal-stands (refuse_unless b n ∷ more) found done (first-refuses n more h)

  -- the first bad place, of any kind
  pub place-passes : {o : Option ℕ} (n : ℕ) (kind : ℕ → Place) (more : List Check) (found : Buffers)
      (done : Outcome Buffers) → o ≡ None → in_order (refuse_at n kind o ∷ more) found done ≡ in_order more found done
  unfolding in_order refuse_at
  place-passes n kind more found done h = ap (λ (o : Option ℕ). in_order (refuse_at n kind o ∷ more) found done) h

  pub place-refuses : {o : Option ℕ} (n : ℕ) (kind : ℕ → Place) (more : List Check) (found : Buffers)
      (done : Outcome Buffers) {i : ℕ} → o ≡ Some i →
      in_order (refuse_at n kind o ∷ more) found done ≡ as_found n (kind i) found
  unfolding in_order refuse_at
  place-refuses n kind more found done h = ap (λ (o : Option ℕ). in_order (refuse_at n kind o ∷ more) found done) h

  pub check-passed : (b : Bool) (n : ℕ) (more : List Check) (found : Buffers) (done : Outcome Buffers) (vs : List ℕ) →
      (in_order (refuse_unless b n ∷ more) found done).told ≡ result vs →
      (b ≡ true) × ((in_order more found done).told ≡ result vs)
  unfolding in_order refuse_unless
  check-passed true n more found done vs h = (refl, h)
  check-passed false n more found done vs h = absurd (let z : ◌≡◌ {A = ℕ} 0 1 = cc in omega arith)
