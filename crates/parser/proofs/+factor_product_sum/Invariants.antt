-- The measure is three for each symbol that is left, and the reader's place in the descent.
use Rattle.std.proofs.Common.{length, ◌+◌, ◌-◌, ◌*◌}
use Rattle.parser.proofs.Readers.{Going, sum_loop, product_loop}
use Rattle.parser.proofs.+factor_product_sum.Given as goal

abbrev pub decreases-factor : goal.decreases-factor
decreases-factor l = 3 * (length l.s.now - l.at)

abbrev pub decreases-product : goal.decreases-product
decreases-product l = 3 * (length l.s.now - l.at) + 1

abbrev pub decreases-sum : goal.decreases-sum
decreases-sum l = 3 * (length l.s.now - l.at) + 2

abbrev pub invariant-product-loop-n : goal.invariant-product-loop-n
invariant-product-loop-n l = Going product_loop l.u l.k l.s l.at (length l.initial.stack) l.n l.stack

abbrev pub decreases-product-loop-n : goal.decreases-product-loop-n
decreases-product-loop-n l = length l.s - l.n

abbrev pub invariant-sum-loop-n : goal.invariant-sum-loop-n
invariant-sum-loop-n l = Going sum_loop l.u l.k l.s l.at (length l.initial.stack) l.n l.stack

abbrev pub decreases-sum-loop-n : goal.decreases-sum-loop-n
decreases-sum-loop-n l = length l.s - l.n
