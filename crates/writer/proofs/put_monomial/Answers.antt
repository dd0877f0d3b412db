-- A monomial of the condition, or of an answer. Assumes nothing.
use mathlib.Core.Path.{◌≡◌, refl}
use mathlib.Core.List.{List, [], ◌∷◌}
use Prim.Native.Nat.{ℕ, ◌+◌, ◌-◌, ◌*◌, ◌/◌, ◌%◌}
use native.Mathlib.Omega.{arith}
use lib.ListN.{length, get_or}
use Rattle.tables.proofs.Put.{put_same}
use Rattle.writer.proofs.Parts.{condition_room, answer_room_lem, condition_put, answer_bytes}
use Rattle.writer.proofs.put_monomial.Goals as goal

pub put-requires : goal.put-requires
put-requires c = (omega arith, condition_room _ _ _ c.if-i-eq0.true c.requires)

pub returns-then-i-eq0 : goal.returns-then-i-eq0
returns-then-i-eq0 c =
    let m = c.args.code % 1024 in
    let low : get_or c.to_le_bytes.result 0 0 ≡ m % 256 = rw c.to_le_bytes.ensures (omega arith) in
    let high : get_or c.to_le_bytes.result 1 0 ≡ m / 256 = rw c.to_le_bytes.ensures (omega arith) in
    condition_put _ c.if-i-eq0.true (rw (low, high) at c.put.ensures)

pub put-requires-2 : goal.put-requires-2
put-requires-2 c =
    let room = answer_room_lem _ _ _ c.if-i-eq0.false c.requires in
    let four : length c.to_le_bytes-2.result ≡ 4 = rw c.to_le_bytes-2.ensures refl in
    (omega arith, omega (arith, room, four))

pub returns : goal.returns
returns c =
    let x : ℕ = 3 + 256 * c.from.result + 65536 * c.from-2.result in
    let is : x ≡ 3 + 256 * (c.args.code / 1024 - 1) + 65536 * (c.args.code % 1024) = rw (c.from.ensures, c.from-2.ensures) refl in
    let each : ◌≡◌ {A = List ℕ} c.to_le_bytes-2.result (x % 256 ∷ x / 256 % 256 ∷ x / 65536 % 256 ∷ x / 16777216 % 256 ∷ []) = c.to_le_bytes-2.ensures in
    answer_bytes c.args.code (omega arith) c.if-i-eq0.false is (put_same c.put-2.ensures each)
