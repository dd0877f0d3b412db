-- A record of three bytes, or none. Assumes nothing.
use mathlib.Core.Path.{◌≡◌}
use Prim.Native.Nat.{◌/◌, ◌%◌}
use native.Mathlib.Omega.{arith}
use lib.ListN.{get_or}
use Rattle.writer.proofs.Parts.{fact_room_lem, fact_put, fact_none}
use Rattle.writer.proofs.put_if_present.Goals as goal

pub put-requires : goal.put-requires
put-requires c =
    let one : get_or c.args.fact.now c.args.m 0 ≡ 1 = rw c.from.ensures at c.if-fact-from-eq1.true in
    (omega arith, fact_room_lem _ _ _ _ one c.requires.1)

pub returns-then-fact-from-eq1 : goal.returns-then-fact-from-eq1
returns-then-fact-from-eq1 c =
    let one : get_or c.args.fact.now c.args.m 0 ≡ 1 = rw c.from.ensures at c.if-fact-from-eq1.true in
    let low : get_or c.to_le_bytes.result 0 0 ≡ c.args.m % 256 = rw c.to_le_bytes.ensures (omega arith) in
    let high : get_or c.to_le_bytes.result 1 0 ≡ c.args.m / 256 % 256 = rw c.to_le_bytes.ensures (omega arith) in
    fact_put _ _ one (omega arith) low high c.put.ensures

pub returns : goal.returns
returns c = fact_none _ _ (rw c.from.ensures at c.if-fact-from-eq1.false) _ _ c.requires.1
