-- `words::unpack_each` meets its contract. Assumes nothing.
use Rattle.std.proofs.Common.{◌≡◌, ◌∙◌, Bool, true, false, rules, refl, ap}
use Rattle.std.specs.Int.{from_bool}
use Rattle.ring.specs.Letters.{digit}
use Rattle.tables.proofs.Filled.{filled-start, filled_more, filled_whole}
use Rattle.words.specs.Inner.Words.{bit_at}
use Rattle.words.proofs.unpack_each.Goals as goal

byte_digit : (b : Bool) → from_bool b ≡ digit b
byte_digit true = refl
byte_digit false = refl

pub loop-p-init : goal.loop-p-init
loop-p-init c = (search rules, filled-start _ _ _ refl, refl)

pub loop-p-preserved : goal.loop-p-preserved
loop-p-preserved c = (search rules, filled_more _ _ _ _ c.loop-p.invariant.1 _ c.loop-p-test.true (c.from.ensures ∙ ap from_bool c.value_at.ensures ∙ byte_digit _), search rules)

pub returns : goal.returns
returns c = let inv = c.loop-p.invariant in
    filled_whole (bit_at c.args.words.now) _ _ _ inv.1 inv.0 c.loop-p-test.false
