-- `order::list_where` meets its contract. Assumes nothing.
use mathlib.Core.Path.{◌≡◌, refl, sym, ap, ◌∙◌}
use Prim.Native.Nat.{ℕ}
use native.Mathlib.Omega.{arith}
use borrow.Author.Rules.{rules}
use Rattle.ring.specs.Letters.{digit}
use Rattle.order.proofs.Listing.{from_bool_digit, digit_most, listing_start, listing_more, listing_end}
use Rattle.order.proofs.list_where.Goals as goal

pub loop-mask-init : goal.loop-mask-init
loop-mask-init g c = (omega arith, refl, λ f t. listing_start f _ _ _ _ c.requires.room.1)

pub loop-mask-preserved : goal.loop-mask-preserved
loop-mask-preserved g c = let one : c.from-at.result ≡ digit c.has.result = c.from-at.ensures ∙ from_bool_digit _ in (
  omega (arith, digit_most c.has.result),
  search rules,
  λ f t. let told = t _ _ (omega arith) (rw c.from-m.ensures at c.has.ensures) in
      listing_more (c.loop-mask.invariant.2 f t) c.loop-mask-test.true c.from-m.ensures refl
      (one ∙ ap digit told ∙ ap (λ (m : ℕ). digit (f m)) (sym c.from-m.ensures)),
)

pub returns : goal.returns
returns g c = λ f t. listing_end (c.loop-mask.invariant.2 f t) (omega arith)
