-- A monomial of the condition, or of an answer. Assumes nothing.
use Rattle.printing.proofs.Records.{condition_room, answer_room_lem, condition_line, answer_line}
use Rattle.printing.proofs.put_monomial.Goals as goal

pub put_line-requires : goal.put_line-requires
put_line-requires c = search condition_room

pub returns-then-i-eq0 : goal.returns-then-i-eq0
returns-then-i-eq0 c = search condition_line

pub put_line-requires-else-i-eq0 : goal.put_line-requires-else-i-eq0
put_line-requires-else-i-eq0 c = search answer_room_lem

pub returns-else-i-eq0 : goal.returns-else-i-eq0
returns-else-i-eq0 c = search answer_line
