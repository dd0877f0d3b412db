-- The condition's monomials, and by the verdict those of the answers. Assumes nothing.
use native.Mathlib.Omega.{arith}
use borrow.Author.Rules.{rules}
use Rattle.words.proofs.Words.{size_words}
use Rattle.writer.proofs.Monomials.{first_room, answers_room}
use Rattle.writer.proofs.Entries.{state_byte, lists_solved, lists_none}
use Rattle.writer.proofs.list_with.Goals as goal

pub list_monomials-told-requires : goal.list_monomials-told-requires
list_monomials-told-requires c =
    (c.args.ordered.letters.n_fits, omega arith, c.requires.0.words, c.requires.0.ordered, first_room _ _ _ c.requires.1)

pub solve_values-requires : goal.solve_values-requires
solve_values-requires c = (rw c.args.ordered.letters.n_is (size_words _ _ _ c.requires.0.values_are), c.requires.2)

pub list_answers-requires : goal.list_answers-requires
list_answers-requires c = (search rules, c.requires.0.ordered, answers_room _ _ _ _ c.requires.1 c.list_monomials-told.ensures, c.requires.3)

-- a state is a byte
pub overflow_cast-result : goal.overflow_cast-result
overflow_cast-result c = omega (
  arith,
  state_byte c.args.ordered _ c.args.coefficients.now c.requires.0.values_are _ _ c.solve_values.ensures c.requires.0.givens c.in-None.is,
)

pub returns-in-Solved : goal.returns-in-Solved
returns-in-Solved c fact e =
    lists_solved c.args.ordered _ c.args.coefficients.now e _ _ c.solve_values.ensures c.list_monomials-told.ensures c.in-Solved.is c.list_answers.ensures

pub returns-in-None : goal.returns-in-None
returns-in-None c fact e =
    lists_none c.args.ordered _ c.args.coefficients.now e _ _ c.solve_values.ensures c.list_monomials-told.ensures c.in-None.is
