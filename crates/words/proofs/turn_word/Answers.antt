-- `words::turn_word` meets its contract. Assumes nothing.
use native.Mathlib.Omega.{arith}
use Rattle.words.proofs.Bits.{width_small}
use Rattle.words.proofs.Turned.{word_turned}
use Rattle.words.proofs.turn_word.Goals as goal

pub exchange-requires : goal.exchange-requires
exchange-requires c = width_small _ _ c.requires c.pow2.ensures

pub returns : goal.returns
returns c = word_turned _ _ _ _ _ c.requires c.pow2.ensures c.low_letter.ensures (omega (arith, c.ranges.f))
    c.exchange.ensures
