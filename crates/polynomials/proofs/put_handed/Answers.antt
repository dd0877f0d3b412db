-- `polynomials::put_handed` meets its contract: each word is looked up where the parts lead. Assumes nothing.
use mathlib.Core.Path.{sym, ap, ◌∙◌}
use Prim.Native.Nat.{ℕ, ◌*◌}
use borrow.Author.Rules.{rules}
use Rattle.words.proofs.Words.{size_words}
use Rattle.words.proofs.Letters.{count_small}
use Rattle.polynomials.proofs.LookUp.{handed_put}
use Rattle.polynomials.proofs.Work.{length_parts}
use Rattle.polynomials.proofs.put_handed.Goals as goal

pub look_up-requires : goal.look_up-requires
look_up-requires c = (length_parts _ _ _ _ c.take_parts.ensures ∙ ap (λ (k : ℕ). 6 * k) (sym c.requires.5), count_small _ _ c.requires.5 c.requires.2, search rules, search rules)

pub returns : goal.returns
returns c = let size = c.requires.5 in (
  handed_put _ _ _ c.args.handed.now _ _ _ c.requires.0 c.requires.1 size c.take_parts.ensures c.look_up.ensures,
  size_words _ _ _ c.look_up.ensures ∙ size,
  c.take_parts.ensures,
)
