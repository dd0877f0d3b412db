-- Within the bounds the mask is one of the ten-letter order, so that its place is small. Assumes nothing.
use native.Mathlib.Omega.{arith}
use Rattle.entry.proofs.Places.{rank_small}
use Rattle.records.proofs.OneRecord.{holds_monomial, bounds_yes, table_beyond, mask_beyond, whole_length, length_small, place_is}
use Rattle.records.proofs.Bounds.place_in.Goals as goal
use Rattle.records.proofs.Bounds.place_in.Goals.{else-monomial-self-via-then-monomial-self+else-monomial-self-2, else-monomial-self-via-else-monomial-self}

pub rank_of-requires : goal.rank_of-requires
rank_of-requires c = (c.args.self.now.counts_are, omega (arith, length_small c.args.self.now.letters))

pub overflow_add-result : goal.overflow_add-result
overflow_add-result c = omega (arith, c.monomial_in-monomial.ensures.small, rank_small c.monomial_in-monomial.result.mask, length_small c.args.self.now.letters, c.rank_of.ensures)

pub overflow_add-result-then-monomial-self-2 : goal.overflow_add-result-then-monomial-self-2
overflow_add-result-then-monomial-self-2 c = omega (arith, c.monomial_in-monomial.ensures.small, rank_small c.monomial_in-monomial.result.mask, length_small c.args.self.now.letters, c.rank_of.ensures)

pub returns-then-monomial-self-2 : goal.returns-then-monomial-self-2
returns-then-monomial-self-2 c =
    let is = c.monomial_in-monomial.ensures.is in
    (bounds_yes _ c.requires.0 _ _ c.requires.1 is.0 is.1 (whole_length c.args.self.now.letters) c.if-monomial-self.true c.if-monomial-self-2.true, place_is _ (holds_monomial _ c.requires.0 c.requires.1) is.0 is.1 c.rank_of.ensures)

pub returns-else-monomial-self : goal.returns-else-monomial-self
returns-else-monomial-self c =
    let is = c.monomial_in-monomial.ensures.is in
    elim c.else-monomial-self.branch [
      | else-monomial-self-via-then-monomial-self+else-monomial-self-2 w ↦ mask_beyond _ c.requires.0 _ _ c.requires.1 is.0 is.1 (whole_length c.args.self.now.letters) w.if-monomial-self.true w.if-monomial-self-2.false
      | else-monomial-self-via-else-monomial-self w ↦ table_beyond _ c.requires.0 _ _ c.requires.1 is.0 is.1 (whole_length c.args.self.now.letters) w.if-monomial-self.false
    ]
