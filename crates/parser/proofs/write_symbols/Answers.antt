-- The bytes that are no spaces, then their symbols. Assumes nothing.
use mathlib.Core.Path.{sym}
use borrow.Author.Rules.{rules}
use lib.Seq.{length-take-le}
use Rattle.parser.proofs.Decoding.{symbols-written}
use Rattle.parser.proofs.write_symbols.Goals as goal

pub slice_bounds-decode_all-end-2 : goal.slice_bounds-decode_all-end-2
slice_bounds-decode_all-end-2 c = search (rules, length-take-le)

pub returns : goal.returns
returns c = symbols-written _ _ _ _ _ c.drop_spaces-n.ensures.1
    c.decode_all.ensures
    (sym (length-take-le _ _ c.drop_spaces-n.ensures.0))
