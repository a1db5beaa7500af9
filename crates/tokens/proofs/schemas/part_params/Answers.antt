use Rattle.std.proofs.Common.{◌≡◌, ℕ, ◌+◌, [], ◌∷◌, ◌++◌, map, length, refl, sym, ap, ◌∙◌, arith}
use Rattle.std.proofs.Math.ListN.{length-set}
use Rattle.words.specs.Lists.{up_from, up_to}
use Rattle.words.specs.Sets.{members, word_bits}
use Rattle.words.proofs.Puts.{puts_word}
use Rattle.tokens.specs.Writing.{set_size}
use Rattle.tokens.proofs.SchemaRuns.{map_more}
use Rattle.tokens.proofs.schemas.part_params.Goals as goal

pub loop-j-init : goal.loop-j-init
unfolding up_to up_from
loop-j-init c = (refl, record { words = refl; place = refl })

pub loop-j-preserved : goal.loop-j-preserved
loop-j-preserved c =
    let a = c.args in
    let h = c.loop-j in
    let size = set_size a.kept.now a.s in
    let e : c.size.result ≡ size h.j =
    c.size.ensures.value ∙ ap (λ (set : ℕ). length (members set word_bits)) c.own_at.ensures in (
      length-set h.out (a.at + h.j) c.size.result ∙ h.invariant.0,
      puts_word h.invariant.1 c.size.result (map size (up_to (h.j + 1)))
          (map_more size h.j ∙ ap (λ (n : ℕ). map size (up_to h.j) ++ (n ∷ [])) (sym e)) (a.at + (h.j + 1))
          (omega arith),
    )
