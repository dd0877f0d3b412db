-- `elimination::put_placed` meets its contract. Assumes nothing.
use Rattle.std.proofs.Common.{length, arith, rules}
use Rattle.std.proofs.lemmas.List.{length_push}
use Rattle.std.proofs.lemmas.Iterator.Adapters.{YieldsList-from_rev_slice}
use Rattle.std.proofs.lemmas.Iterator.Consumers.{YieldsList-turn}
use Rattle.words.proofs.Parts.{from_back}
use Rattle.elimination.proofs.OneWord.{put_start, put_next, letter_placed}
use Rattle.elimination.proofs.put_placed.Goals as goal

pub loop-x-init : goal.loop-x-init
loop-x-init c = (search rules, search rules, put_start c.args.answers.now c.args.order.now _ _ (omega arith) (omega (arith, c.ranges.a)))

pub offset_bounds-answers-x : goal.offset_bounds-answers-x
offset_bounds-answers-x c =
    let t = from_back c.args.order.now (length c.loop-x.yielded) c.in-Some.x.now (YieldsList-turn (YieldsList-from_rev_slice c.args.order.now cc) c.loop-x.yielded _ c.loop-x.yielded_by _ _ c.in-Some.x c.in-Some.is c.next.ensures.steps) in
    omega (arith, letter_placed c.args.order.now _ _ c.requires.0 t, c.requires.1)

pub bounds-answers-x : goal.bounds-answers-x
bounds-answers-x c =
    let t = from_back c.args.order.now (length c.loop-x.yielded) c.in-Some.x.now (YieldsList-turn (YieldsList-from_rev_slice c.args.order.now cc) c.loop-x.yielded _ c.loop-x.yielded_by _ _ c.in-Some.x c.in-Some.is c.next.ensures.steps) in
    letter_placed c.args.order.now _ _ c.requires.0 t

pub replace_word-put-requires : goal.replace_word-put-requires
replace_word-put-requires c =
    let t = from_back c.args.order.now (length c.loop-x.yielded) c.in-Some.x.now (YieldsList-turn (YieldsList-from_rev_slice c.args.order.now cc) c.loop-x.yielded _ c.loop-x.yielded_by _ _ c.in-Some.x c.in-Some.is c.next.ensures.steps) in
    omega (arith, letter_placed c.args.order.now _ _ c.requires.0 t, c.requires.1)

pub loop-x-preserved : goal.loop-x-preserved
loop-x-preserved c =
    let t = from_back c.args.order.now (length c.loop-x.yielded) c.in-Some.x.now (YieldsList-turn (YieldsList-from_rev_slice c.args.order.now cc) c.loop-x.yielded _ c.loop-x.yielded_by _ _ c.in-Some.x c.in-Some.is c.next.ensures.steps) in
    (search rules, search rules, rw (length_push c.loop-x.yielded c.in-Some.x) (put_next c.args.answers.now c.args.order.now c.args.a _ _ _ _ c.requires.0 c.requires.1 t c.loop-x.invariant.2 c.replace_word-put.ensures))
