-- Keys are ordered as their numbers are.
use mathlib.Core.Path.{◌≡◌, refl}
use Rattle.std.specs.Ordering.{partial_le}
use lib.Dec.{leb}
use Rattle.text.specs.contracts.keys.KeyPartialOrd.TheImpl.{partial_cmp-value}
use Rattle.text.specs.declared.keys.Key.{Key as Code}
use Rattle.text.specs.declared.keys.Key.TheVariants as code
use Rattle.text.specs.ReadCode.{number_of}

-- what holds of each of the keys holds of all
each_key : (P : Code → Type 0) → P code.Task → P code.Objects → P code.Arity → P code.Differ → P code.Pre →
    P code.Add → P code.Del → P code.Part → P code.Schema → P code.Init → P code.Goal → P code.End → (k : Code) → P k
each_key P a b c d e f g h i j k l code.Task = a
each_key P a b c d e f g h i j k l code.Objects = b
each_key P a b c d e f g h i j k l code.Arity = c
each_key P a b c d e f g h i j k l code.Differ = d
each_key P a b c d e f g h i j k l code.Pre = e
each_key P a b c d e f g h i j k l code.Add = f
each_key P a b c d e f g h i j k l code.Del = g
each_key P a b c d e f g h i j k l code.Part = h
each_key P a b c d e f g h i j k l code.Schema = i
each_key P a b c d e f g h i j k l code.Init = j
each_key P a b c d e f g h i j k l code.Goal = k
each_key P a b c d e f g h i j k l code.End = l

abbrev Ordered : Code → Code → Type 0
Ordered p k = partial_le partial_cmp-value.it p k ≡ leb (number_of p) (number_of k)

pub by-number : (p k : Code) → Ordered p k
by-number code.Task = each_key (Ordered code.Task) refl refl refl refl refl refl refl refl refl refl refl refl
by-number code.Objects = each_key (Ordered code.Objects) refl refl refl refl refl refl refl refl refl refl refl refl
by-number code.Arity = each_key (Ordered code.Arity) refl refl refl refl refl refl refl refl refl refl refl refl
by-number code.Differ = each_key (Ordered code.Differ) refl refl refl refl refl refl refl refl refl refl refl refl
by-number code.Pre = each_key (Ordered code.Pre) refl refl refl refl refl refl refl refl refl refl refl refl
by-number code.Add = each_key (Ordered code.Add) refl refl refl refl refl refl refl refl refl refl refl refl
by-number code.Del = each_key (Ordered code.Del) refl refl refl refl refl refl refl refl refl refl refl refl
by-number code.Part = each_key (Ordered code.Part) refl refl refl refl refl refl refl refl refl refl refl refl
by-number code.Schema = each_key (Ordered code.Schema) refl refl refl refl refl refl refl refl refl refl refl refl
by-number code.Init = each_key (Ordered code.Init) refl refl refl refl refl refl refl refl refl refl refl refl
by-number code.Goal = each_key (Ordered code.Goal) refl refl refl refl refl refl refl refl refl refl refl refl
by-number code.End = each_key (Ordered code.End) refl refl refl refl refl refl refl refl refl refl refl refl
