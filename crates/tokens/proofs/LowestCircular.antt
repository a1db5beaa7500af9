-- Refusal 9 in plain terms: splitting answers it at schema s exactly when no order of the parts of s complies, and some
-- order complies for each schema before it. From what the order taken tells (`Refusals`), because an order is taken
-- exactly where one complies.
use Prim.Native.Nat.{ℕ, ◌<◌}
use mathlib.Core.Path.{◌≡◌, refl}
use mathlib.Core.List.{List}
use mathlib.Core.Logic.{◌↔◌}
use Rattle.std.specs.Prelude.{Option, None, Some}
use lib.ListN.{length}
use Rattle.task.specs.Task.{Task}
use Rattle.task.specs.Run.{schema_at}
use Rattle.arcs.specs.Order.{OrderOfParts, Complies, NoOrderComplies, order_of}
use Rattle.tokens.specs.Split.{order_at, or_empty, orders, circular, split}
use Rattle.arcs.proofs.OrderTaken.{order-taken}
use Rattle.arcs.proofs.Circular.{circular-exactly}
use Rattle.tokens.proofs.Refusals.{circular-split, split-circular}

-- "no order complies; lowest such schema"
pub record LowestCircular (t : Task) (s : ℕ) : Type 0 where
  pub known : s < length t.schemas
  pub none-complies : NoOrderComplies (schema_at t s)
  pub before : (q : ℕ) → q < s → (o : List ℕ) × OrderOfParts (schema_at t q) o × Complies (schema_at t q) o

-- where an order complies, one is taken
order-is-taken : (t : Task) (q : ℕ) (o : List ℕ) → OrderOfParts (schema_at t q) o → Complies (schema_at t q) o →
    order_of (schema_at t q) ≡ Some (orders t q)
unfolding orders or_empty order_at
order-is-taken t q o parts complies = go (order_of (schema_at t q)) refl
  where
    go : (r : Option (List ℕ)) → order_of (schema_at t q) ≡ r → r ≡ Some (or_empty r)
    go None e = absurd ((circular-exactly (schema_at t q)).0 e o parts complies)
    go (Some u) e = refl

pub nine-exactly : (t : Task) (s : ℕ) → (split t ≡ circular s) ↔ LowestCircular t s
nine-exactly t s = (forth, back)
  where
    forth : split t ≡ circular s → LowestCircular t s
    forth h =
        let c = split-circular t s h in
        record {
          known = c.known;
          none-complies = (circular-exactly (schema_at t s)).0 c.no-order;
          before = λ q l.
              let (parts, complies) = order-taken (schema_at t q) (orders t q) (c.before q l) in
              (orders t q, parts, complies);
        }

    back : LowestCircular t s → split t ≡ circular s
    back c = circular-split t s (record {
      known = c.known;
      no-order = (circular-exactly (schema_at t s)).1 c.none-complies;
      before = λ q l. let (o, parts, complies) = c.before q l in order-is-taken t q o parts complies;
    })
