-- One part more is printed. Assumes nothing.
use Rattle.std.proofs.Common.{ap, ◌≡◌, ◌+◌, length, rules, arith, length-drop, length-take-le}
use Rattle.tables.proofs.Put.{put_length}
use Rattle.tables.proofs.Slices.{rest_of}
use Rattle.sheet_lines.proofs.Feeding.{counted_yes, counted_no, feeds_some}
use Rattle.sheet.proofs.Running.{piece_starts, piece_more, piece_ends}
use Rattle.sheet.proofs.print_piece.Goals as goal

pub loop-rest-init : goal.loop-rest-init
loop-rest-init g c = piece_starts _ _ _

pub loop-rest-smaller : goal.loop-rest-smaller
loop-rest-smaller g c =
    let rest = c.loop-rest.rest.now in
    let some = counted_no _ _ c.is_empty.ensures c.loop-rest-test.true in
    let used = feeds_some _ _ _ _ _ _ c.feed-fed.ensures (omega arith) (omega arith) in
    omega (arith, used, ap length (rest_of c.feed-fed.result.used rest), length-drop c.feed-fed.result.used rest)

pub loop-rest-preserved : goal.loop-rest-preserved
loop-rest-preserved g c =
    let put = c.feed-fed.ensures.took.prints in
    let size = length-take-le c.feed-fed.result.next c.feed-fed.new.out (omega (arith, put.inside, put_length put)) in
    piece_more _ _ _ _ _ _ _ _ _ _ c.feed-fed.result c.loop-rest.invariant c.feed-fed.ensures (omega (arith, size, c.in_ok-written.ensures))

pub returns : goal.returns
returns g c =
    let all : c.in_ok-read.read ≡ c.args.before.read + length c.args.piece.now = search rules in
    piece_ends _ _ _ _ _ _ _ c.loop-rest.invariant (counted_yes _ _ c.is_empty.ensures c.loop-rest-test.false) all
