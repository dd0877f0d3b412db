-- `words::pack_word` meets its contract. Assumes nothing.
use Rattle.std.proofs.Common.{◌<◌, ◌^◌, ◌-◌, ◌∙◌, length, arith, rules, refl}
use Rattle.std.proofs.lemmas.List.{length-reverse, length_push}
use Rattle.std.proofs.lemmas.Iterator.Adapters.{YieldsList-from_rev_slice}
use Rattle.std.proofs.lemmas.Iterator.Consumers.{YieldsList-turn, YieldsList-end}
use Rattle.ring.specs.Letters.{point_where}
use Rattle.words.proofs.Parts.{from_back}
use Rattle.words.proofs.Packing.{pack_bound, pack_more, pack_end}
use Rattle.words.proofs.pack_word.Goals as goal

pub loop-byte-init : goal.loop-byte-init
unfolding point_where
loop-byte-init c = (search rules, search rules, refl)

pub overflow_mul-word : goal.overflow_mul-word
overflow_mul-word c =
    let t = from_back c.args.t.now (length c.loop-byte.yielded) c.in-Some.byte.now (YieldsList-turn (YieldsList-from_rev_slice c.args.t.now cc) c.loop-byte.yielded _ c.loop-byte.yielded_by _ _ c.in-Some.byte c.in-Some.is c.next.ensures.steps) in
    let small : c.loop-byte.word < 2 ^ 63 = pack_bound (length c.loop-byte.yielded) _ _ c.loop-byte.invariant.2 (omega (arith, t.0, c.requires.0)) in
    omega arith

pub overflow_add-word : goal.overflow_add-word
overflow_add-word c =
    let t = from_back c.args.t.now (length c.loop-byte.yielded) c.in-Some.byte.now (YieldsList-turn (YieldsList-from_rev_slice c.args.t.now cc) c.loop-byte.yielded _ c.loop-byte.yielded_by _ _ c.in-Some.byte c.in-Some.is c.next.ensures.steps) in
    let small : c.loop-byte.word < 2 ^ 63 = pack_bound (length c.loop-byte.yielded) _ _ c.loop-byte.invariant.2 (omega (arith, t.0, c.requires.0)) in
    omega (arith, t.1, c.requires.1 (length c.args.t.now - 1 - length c.loop-byte.yielded))

pub loop-byte-preserved : goal.loop-byte-preserved
loop-byte-preserved c =
    let t = from_back c.args.t.now (length c.loop-byte.yielded) c.in-Some.byte.now (YieldsList-turn (YieldsList-from_rev_slice c.args.t.now cc) c.loop-byte.yielded _ c.loop-byte.yielded_by _ _ c.in-Some.byte c.in-Some.is c.next.ensures.steps) in
    (search rules, search rules, rw (length_push c.loop-byte.yielded c.in-Some.byte) (pack_more c.args.t.now _ _ _ c.loop-byte.invariant.2 t.0 c.requires.1 (c.from.ensures ∙ t.1)))

pub returns : goal.returns
returns c =
    let t = YieldsList-end (YieldsList-from_rev_slice c.args.t.now cc) c.loop-byte.yielded _ c.loop-byte.yielded_by _ _ c.in-None.is c.next.ensures.steps in
    pack_end c.args.t.now _ _ c.loop-byte.invariant.2 (t.1 ∙ length-reverse c.args.t.now) c.requires.0
