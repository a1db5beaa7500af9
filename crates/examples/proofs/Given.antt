-- Document 01 gathers E1 to E9 in one list; the definitions give each of its results. Each is computed.
use mathlib.Core.Path.{refl}
use Rattle.examples.specs.Examples.{examples, Given}

pub examples-given : Given examples
unfolding examples Given
examples-given = (refl, (refl, (refl, (refl, (refl, (refl, (refl, (refl, (refl, (refl, (refl, tt)))))))))))
