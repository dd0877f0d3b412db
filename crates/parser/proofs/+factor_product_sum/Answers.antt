-- What each answer cites is a law of `Readers`; `search` finds its premises in what is known there. Assumes nothing.
use Rattle.std.proofs.Common.{◌≡◌, sym, ◌∙◌, ◌<◌, ◌≤◌, get_or, length, rules, arith}
use mathlib.Core.Logic.{◌⊎◌}
use lib.Bits.{bit_and, bit_xor}
use Rattle.parser.specs.Inner.Blocks.{ones}
use Rattle.parser.specs.Inner.Codes.{meant}
use Rattle.parser.proofs.Readers.{sum_loop, product_loop}
use Rattle.parser.proofs.Readers as readers
use Rattle.parser.proofs.+factor_product_sum.Goals as goal

pub factor-returns-in_err-c : goal.factor-returns-in_err-c
factor-returns-in_err-c t c =
    let ended : length c.args.s.now ≤ c.args.at = search rules in
    rw c.from_residual.ensures (readers.at_end _ _ ended)

pub factor-returns-in_err-n-in-33 : goal.factor-returns-in_err-n-in-33
factor-returns-in_err-n-in-33 t c =
    let here : c.args.at < length c.args.s.now = search rules in
    let sign : get_or c.args.s.now c.args.at 0 ≡ 33 = search rules in
    rw c.from_residual-in_err-n-in-33.ensures (readers.not_missing _ _ here sign c.in_err-n-in-33.ensures)

pub factor-returns-in_err-n-in-40 : goal.factor-returns-in_err-n-in-40
factor-returns-in_err-n-in-40 t c =
    let here : c.args.at < length c.args.s.now = search rules in
    let sign : get_or c.args.s.now c.args.at 0 ≡ 40 = search rules in
    rw c.from_residual-in_err-n-in-40.ensures (readers.open_missing _ _ here sign c.in_err-n-in-40.ensures)

pub factor-returns-in_err-get-in-40 : goal.factor-returns-in_err-get-in-40
factor-returns-in_err-get-in-40 t c =
    let pre = c.requires in
    let here : c.args.at < length c.args.s.now = search rules in
    let sign : get_or c.args.s.now c.args.at 0 ≡ 40 = search rules in
    let ended : length c.args.s.now ≤ c.in_ok-n-in-40.n = search rules in
    rw c.from_residual-in_err-get-in-40.ensures
    (readers.close_at_end _ _ here _ _ _ pre.2 pre.3 sign c.in_ok-n-in-40.ensures ended)

pub factor-returns-in-48 : goal.factor-returns-in-48
factor-returns-in-48 t c =
    let pre = c.requires in
    let here : c.args.at < length c.args.s.now = search rules in
    let sign : get_or c.args.s.now c.args.at 0 ≡ 48 = search rules in
    readers.reads_zero _ _ here _ _ _ pre.2 pre.3 sign (c.put_block.ensures (λ i. 0) (λ i v l given. search rules))

pub factor-returns-in-49 : goal.factor-returns-in-49
factor-returns-in-49 t c =
    let pre = c.requires in
    let here : c.args.at < length c.args.s.now = search rules in
    let sign : get_or c.args.s.now c.args.at 0 ≡ 49 = search rules in
    readers.reads_one _ _ here _ _ _ pre.2 pre.3 sign (c.put_block-in-49.ensures (λ i. ones) (λ i v l given. search rules))

pub factor-returns-in_ok-n-in-33 : goal.factor-returns-in_ok-n-in-33
factor-returns-in_ok-n-in-33 t c =
    let pre = c.requires in
    let here : c.args.at < length c.args.s.now = search rules in
    let sign : get_or c.args.s.now c.args.at 0 ≡ 33 = search rules in
    readers.reads-not _ _ here _ _ _ pre.2 pre.3 sign _ c.in_ok-n-in-33.ensures
    (c.put_block-in-33.ensures (λ i. bit_xor (get_or c.factor.new.stack i 0) ones) (λ i v l given. search rules))

pub factor-returns-then-branch-eq41 : goal.factor-returns-then-branch-eq41
factor-returns-then-branch-eq41 t c =
    let pre = c.requires in
    let here : c.args.at < length c.args.s.now = search rules in
    let sign : get_or c.args.s.now c.args.at 0 ≡ 40 = search rules in
    let there : c.in_ok-n-in-40.n < length c.args.s.now = search rules in
    let close : get_or c.args.s.now c.in_ok-n-in-40.n 0 ≡ 41 = search rules in
    readers.reads_brackets _ _ here _ _ _ pre.2 pre.3 sign c.in_ok-n-in-40.ensures there close

pub factor-returns-else-branch-eq41 : goal.factor-returns-else-branch-eq41
factor-returns-else-branch-eq41 t c =
    let pre = c.requires in
    let here : c.args.at < length c.args.s.now = search rules in
    let sign : get_or c.args.s.now c.args.at 0 ≡ 40 = search rules in
    let there : c.in_ok-n-in-40.n < length c.args.s.now = search rules in
    let last : get_or c.args.s.now c.in_ok-n-in-40.n 0 ≡ c.in_ok-get-in-40.field-0.now = search rules in
    readers.close_missing _ _ here _ _ _ pre.2 pre.3 sign c.in_ok-n-in-40.ensures there (λ e. c.if-branch-eq41.false (sym last ∙ e))

pub factor-returns-in_default : goal.factor-returns-in_default
factor-returns-in_default t c =
    let here : c.args.at < length c.args.s.now = search rules in
    let is : c.in_ok-c.field-0.now ≡ get_or c.args.s.now c.args.at 0 = search rules in
    let unsigned : readers.NoSign c.in_ok-c.field-0.now = search rules in
    let low : 6 ≤ c.in_ok-c.field-0.now = search rules in
    let high : c.in_ok-c.field-0.now < 8 = search rules in
    readers.between_missing _ _ here (rw is at unsigned) (rw is at low) (rw is at high)

pub factor-returns-in_default-2 : goal.factor-returns-in_default-2
factor-returns-in_default-2 t c =
    let here : c.args.at < length c.args.s.now = search rules in
    let is : c.in_ok-c.field-0.now ≡ get_or c.args.s.now c.args.at 0 = search rules in
    let unsigned : readers.NoSign c.in_ok-c.field-0.now = search rules in
    let low : 16 ≤ c.in_ok-c.field-0.now = search rules in
    readers.other_missing _ _ here (rw is at unsigned) (rw is at low)

pub factor-returns-in-0-to-5 : goal.factor-returns-in-0-to-5
factor-returns-in-0-to-5 t c =
    let here : c.args.at < length c.args.s.now = search rules in
    let is : c.in_ok-c.field-0.now ≡ get_or c.args.s.now c.args.at 0 = search rules in
    let pre = c.requires in
    let unsigned : readers.NoSign c.in_ok-c.field-0.now = search rules in
    let which : (get_or c.args.s.now c.args.at 0 < 6) ⊎ ((8 ≤ get_or c.args.s.now c.args.at 0) × (get_or c.args.s.now c.args.at 0 < 16)) =
    grind arith in
    readers.reads-letter _ _ here _ _ _ pre.2 pre.3 (rw is at unsigned) (rw is at c.put_symbol.ensures) which

pub product-returns-in_err-n : goal.product-returns-in_err-n
product-returns-in_err-n t c = rw c.from_residual.ensures (readers.begin_missing product_loop _ _ c.in_err-n.ensures)

pub product-loop-n-init : goal.product-loop-n-init
product-loop-n-init t c = readers.begin product_loop _ _ _ _ _ c.in_ok-n.ensures

pub product-returns-in_err-n-2 : goal.product-returns-in_err-n-2
product-returns-in_err-n-2 t c =
    rw c.from_residual-in_err-n-2.ensures
    (readers.more_missing product_loop _ _ _ _ _ c.loop-n.invariant c.loop-n-test.true (readers.times_taken _ c.if-s-n-eq42.true) c.in_err-n-2.ensures)

pub product-loop-n-preserved : goal.product-loop-n-preserved
product-loop-n-preserved t c =
    let pre = c.requires in
    readers.more product_loop _ _ _ _ _ c.in_ok-n.ensures c.loop-n.invariant c.loop-n-test.true pre.2 pre.3 c.in_ok-n-2.ensures _
    (readers.times_taken _ c.if-s-n-eq42.true) (c.join.ensures bit_and (λ a b v given. search rules))

pub product-returns-else-s-n-eq42 : goal.product-returns-else-s-n-eq42
product-returns-else-s-n-eq42 t c =
    readers.other_sign product_loop _ _ _ _ _ c.in_ok-n.ensures c.loop-n.invariant c.loop-n-test.true
    (readers.times_left _ c.if-s-n-eq42.false)

pub product-returns-after-loop-n : goal.product-returns-after-loop-n
product-returns-after-loop-n t c =
    readers.ended product_loop _ _ _ _ _ c.in_ok-n.ensures c.loop-n.invariant c.loop-n-test.false

pub sum-returns-in_err-n : goal.sum-returns-in_err-n
sum-returns-in_err-n t c = rw c.from_residual.ensures (readers.begin_missing sum_loop _ _ c.in_err-n.ensures)

pub sum-loop-n-init : goal.sum-loop-n-init
sum-loop-n-init t c = readers.begin sum_loop _ _ _ _ _ c.in_ok-n.ensures

pub sum-returns-in_err-next : goal.sum-returns-in_err-next
sum-returns-in_err-next t c =
    rw c.from_residual-in_err-next.ensures
    (readers.more_missing sum_loop _ _ _ _ _ c.loop-n.invariant c.loop-n-test.true
    (readers.sum_test _ _ (meant (get_or c.args.s.now c.loop-n.n 0)) c.joins_sum.ensures c.if-joins_sum.true) c.in_err-next.ensures)

pub sum-loop-n-preserved : goal.sum-loop-n-preserved
sum-loop-n-preserved t c =
    let pre = c.requires in
    readers.more sum_loop _ _ _ _ _ c.in_ok-n.ensures c.loop-n.invariant c.loop-n-test.true pre.2 pre.3 c.in_ok-next.ensures _
    (readers.sum_test _ _ (meant (get_or c.args.s.now c.loop-n.n 0)) c.joins_sum.ensures c.if-joins_sum.true) c.join_sum.ensures

pub sum-returns-else-joins_sum : goal.sum-returns-else-joins_sum
sum-returns-else-joins_sum t c =
    readers.other_sign sum_loop _ _ _ _ _ c.in_ok-n.ensures c.loop-n.invariant c.loop-n-test.true
    (readers.sum_test _ _ (meant (get_or c.args.s.now c.loop-n.n 0)) c.joins_sum.ensures c.if-joins_sum.false)

pub sum-returns-after-loop-n : goal.sum-returns-after-loop-n
sum-returns-after-loop-n t c =
    readers.ended sum_loop _ _ _ _ _ c.in_ok-n.ensures c.loop-n.invariant c.loop-n-test.false
