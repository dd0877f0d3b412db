-- Each arm of the match covers some bytes, and a computed test over these says what their symbols are. Assumes nothing.
use mathlib.Core.Logic.{⊎_elim}
use mathlib.Core.Path.{refl}
use Prim.Native.Nat.{◌+◌, ◌-◌}
use borrow.Author.Rules.{rules}
use Rattle.ring.specs.Polynomial.{every_below}
use Rattle.grammar.specs.Symbols.{foreign, symbol, is_unknown, is_given, is_single}
use Rattle.parser.specs.Inner.Codes.{code}
use Rattle.parser.proofs.Decoding.{by_test, foreign_test}
use Rattle.parser.proofs.decode.Goals as goal

-- the givens, then the unknowns
pub returns-in-97-to-104 : goal.returns-in-97-to-104
unfolding every_below symbol is_unknown is_given is_single
returns-in-97-to-104 c = by_test (λ byte. 8 + (byte - 97)) 97 8 refl _ (search rules) (search rules)

pub returns-in-117-to-122 : goal.returns-in-117-to-122
unfolding every_below symbol is_unknown is_given is_single
returns-in-117-to-122 c = by_test (λ byte. byte - 117) 117 6 refl _ (search rules) (search rules)

-- what lies between the signs
pub returns-in_default : goal.returns-in_default
unfolding every_below symbol is_unknown is_given is_single
returns-in_default c = foreign_test 0 40 33 refl c.args.byte (search rules) (search rules) (search rules)

pub returns-in_default-2 : goal.returns-in_default-2
unfolding every_below symbol is_unknown is_given is_single
returns-in_default-2 c = by_test (λ byte. code foreign) 44 4 refl c.args.byte (search rules) (search rules)

pub returns-in_default-3 : goal.returns-in_default-3
unfolding every_below symbol is_unknown is_given is_single
returns-in_default-3 c = by_test (λ byte. code foreign) 50 47 refl c.args.byte (search rules) (search rules)

pub returns-in_default-4 : goal.returns-in_default-4
unfolding every_below symbol is_unknown is_given is_single
returns-in_default-4 c = by_test (λ byte. code foreign) 105 12 refl c.args.byte
    (search rules) (search rules)

pub returns-in_default-5 : goal.returns-in_default-5
unfolding every_below symbol is_unknown is_given is_single
returns-in_default-5 c = foreign_test 123 133 124 refl c.args.byte (search rules) (search rules) (search rules)

-- the single signs
pub returns-in-48 : goal.returns-in-48
unfolding every_below symbol is_unknown is_given is_single
returns-in-48 c = ⊎_elim (λ e. rw e) (λ e. rw e) c.in-48.is

pub returns-in-48-2 : goal.returns-in-48-2
unfolding every_below symbol is_unknown is_given is_single
returns-in-48-2 c = by_test (λ byte. byte) 40 4 refl _ (search rules) (search rules)

pub returns-in-48-3 : goal.returns-in-48-3
unfolding every_below symbol is_unknown is_given is_single
returns-in-48-3 c = by_test (λ byte. byte) 48 2 refl _ (search rules) (search rules)
