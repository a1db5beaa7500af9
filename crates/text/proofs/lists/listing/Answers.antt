-- Where byte 10 stands here the list is empty, and the cursor stays (`listing-ends`); else it is the list that
-- `numbers` reads (`listing_begins`).
use Rattle.std.proofs.Common.{arith, refl}
use Rattle.text.proofs.WholeLines.{listing-ends, listing_begins}
use Rattle.text.proofs.ListLoop.{listed-none}
use Rattle.text.proofs.lists.listing.Goals as goal

pub returns-in-Some : goal.returns-in-Some
returns-in-Some c = record {
  ns = _;
  is = listing-ends _ _ c.in-Some.ensures.is;
  listed = listed-none _;
  onward = record { on = omega arith; inside = c.requires.inside; line = refl };
}

pub returns-in-None : goal.returns-in-None
returns-in-None c = rw (listing_begins _ c.in-None.ensures) c.numbers.ensures
