-- `polynomials::look_up` meets its contract. Assumes nothing.
use mathlib.Core.Path.{refl}
use Prim.Native.Nat.{◌+◌, ◌*◌, ◌/◌}
use borrow.Author.Rules.{rules}
use lib.ListN.{length}
use Rattle.ring.specs.Letters.{point_where}
use Rattle.tables.proofs.Filled.{filled-start, filled_more, filled_read}
use Rattle.words.specs.Inner.Words.{bit_at}
use Rattle.words.proofs.Words.{words_end}
use Rattle.polynomials.proofs.LookUp.{looked_up}
use Rattle.polynomials.proofs.look_up.Goals as goal

pub loop-w-init : goal.loop-w-init
loop-w-init c = (search rules, filled-start _ _ _ refl, refl, c.requires.2, c.requires.3)

pub loop-w-preserved : goal.loop-w-preserved
loop-w-preserved c = (
  search rules,
  filled_more _ _ _ _ c.loop-w.invariant.1 _
      c.loop-w-test.true
      (looked_up c.args.f.now c.args.parts.now _ _ _ _ (filled_read _ _ _ _ c.loop-w.invariant.1 c.loop-w-test.true) c.look_up_word.ensures),
  search rules,
  search rules,
  search rules,
)

pub returns : goal.returns
returns c = let f = c.args.f.now in
    let parts = c.args.parts.now in
    words_end (λ p. bit_at f (64 * (p / 64) + point_where 6 (λ j. bit_at parts (j * (64 * length f) + p)))) _ _ _ c.loop-w.invariant.1
    c.loop-w.invariant.0 c.loop-w-test.false
