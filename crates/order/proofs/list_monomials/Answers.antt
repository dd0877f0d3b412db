-- `order::list_monomials` meets its contract. Assumes nothing.
use mathlib.Core.Path.{◌≡◌, refl, ap, ◌∙◌}
use Prim.Native.Nat.{ℕ, ◌/◌, ◌^◌, ◌≤◌, ◌<◌}
use native.Mathlib.Omega.{arith}
use borrow.Author.Rules.{rules}
use lib.Bits.{bit_and}
use lib.Dec.{eqb}
use lib.ListN.{length, get_or}
use lib.Pow.{pow_mono}
use Rattle.ring.specs.Letters.{bit}
use Rattle.ring.proofs.Bool.{bit-digit}
use Rattle.words.specs.Inner.Words.{bit_at}
use Rattle.words.proofs.Packing.{bit-code}
use Rattle.order.proofs.Order.{length-order}
use Rattle.order.proofs.Listing.{listed-monomials, listed_word, mask_place, mask_in_words}
use Rattle.order.proofs.list_monomials.Goals as goal

pub list_where-requires-clause-room : goal.list_where-requires-clause-room
list_where-requires-clause-room c = (omega arith, omega (arith, ap length c.requires.3, length-order c.args.n, c.requires.4))

pub list_where-requires-clause-few : goal.list_where-requires-clause-few
list_where-requires-clause-few c = λ p l. let most : 2 ^ c.args.n ≤ 1024 = pow_mono c.requires.0 in
    omega (arith, mask_place _ p c.requires.3 l refl)

pub list_where-requires-clause-askable : goal.list_where-requires-clause-askable
list_where-requires-clause-askable c = λ p l. let most : 2 ^ c.args.n ≤ 64 = pow_mono c.if-n-le6.true in
    let small : get_or c.args.masks.now p 0 < 64 = omega (arith, mask_place _ p c.requires.3 l refl) in
    search rules

pub returns-then-n-le6 : goal.returns-then-n-le6
returns-then-n-le6 c = listed_word _ _ _ c.if-n-le6.true (listed-monomials _ _ _ c.requires.3
    (c.list_where.ensures (bit (get_or c.args.words.now 0 0)) (λ p b l told.
    let word = get_or c.args.words.now 0 0 in
    let m = get_or c.args.masks.now p 0 in
    let is : b ≡ eqb (bit_and (word / 2 ^ m) 1) 1 = search rules in
    is ∙ ap (λ (x : ℕ). eqb x 1) (bit-code word m) ∙ bit-digit (bit word m))))

pub list_where-requires-2-clause-room : goal.list_where-requires-2-clause-room
list_where-requires-2-clause-room c = (omega arith, omega (arith, ap length c.requires.3, length-order c.args.n, c.requires.4))

pub list_where-requires-2-clause-few : goal.list_where-requires-2-clause-few
list_where-requires-2-clause-few c = λ p l. let most : 2 ^ c.args.n ≤ 1024 = pow_mono c.requires.0 in
    omega (arith, mask_place _ p c.requires.3 l refl)

pub list_where-requires-2-clause-askable : goal.list_where-requires-2-clause-askable
list_where-requires-2-clause-askable c = λ p l. let within = mask_in_words _ p c.requires.3 l refl c.requires.2 in search rules

pub returns : goal.returns
returns c = listed-monomials _ _ _ c.requires.3 (c.list_where-2.ensures (bit_at c.args.words.now) (λ p b l told. search rules))
