-- `polynomials::choose` meets its contract. Assumes nothing.
use Rattle.std.proofs.Common.{◌≡◌, length, get_or}
use Rattle.tables.proofs.Filled.{filled}
use Rattle.polynomials.specs.Inner.LookUp.{chosen}
use Rattle.polynomials.proofs.choose.Given as goal

abbrev pub invariant-loop-p : goal.invariant-loop-p
invariant-loop-p l =
    (l.clear ≡ filled l.p (λ p. chosen l.b (get_or l.initial.clear p 0) (get_or l.set p 0)) l.initial.clear)
    × (length l.clear ≡ length l.initial.clear)
