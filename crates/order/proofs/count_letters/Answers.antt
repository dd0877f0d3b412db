-- `order::count_letters` meets its contract: the letters of both halves, out of the table. Assumes nothing.
use mathlib.Core.Path.{◌≡◌}
use Prim.Native.Nat.{◌+◌, ◌≤◌}
use native.Mathlib.Omega.{arith}
use Rattle.order.specs.Order.{letters}
use Rattle.order.proofs.Letters.{letters_looked_up}
use Rattle.order.proofs.count_letters.Goals as goal

pub overflow_add-result : goal.overflow_add-result
overflow_add-result c = let sum : (c.from.result + c.from-2.result ≡ letters c.args.m)
    × (c.from.result + c.from-2.result ≤ 10) = let asked = c.requires in
    letters_looked_up _ asked.0 _ asked.1 c.from.ensures c.from-2.ensures in
    omega (arith, (sum).1)

pub returns : goal.returns
returns c = let sum : (c.from.result + c.from-2.result ≡ letters c.args.m)
    × (c.from.result + c.from-2.result ≤ 10) = let asked = c.requires in
    letters_looked_up _ asked.0 _ asked.1 c.from.ensures c.from-2.ensures in
    sum
