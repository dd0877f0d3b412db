-- A whole text: what its readers say of question 7, and the words that they leave.
-- Assumes nothing.
use mathlib.Core.Path.{◌≡◌, ap, ◌∙◌}
use mathlib.Core.Bool.{true, false, false≢true}
use mathlib.Core.List.{List, []}
use Prim.Native.Nat.{ℕ, ◌<◌}
use native.Mathlib.Omega.{arith}
use borrow.Author.Tests.{eqb-true, eqb-false}
use lib.Dec.{eqb}
use lib.ListN.{length, drop, take, drop_of_length-le}
use lib.Seq.{drop-cons}
use Rattle.std.specs.Option.{option_eq}
use Rattle.std.specs.declared.option.Option.{Option}
use Rattle.std.specs.declared.option.Option.TheVariants.{Some, None}
use Rattle.grammar.specs.Meaning.{at_point}
use Rattle.grammar.specs.Reader.{sum, reads, is_whole}
use Rattle.words.specs.Inner.Words.{words_of}
use Rattle.parser.specs.Inner.Codes.{meanings}
use Rattle.parser.specs.Inner.Blocks.{IsUpTo, IsMissing, Agrees, whole_words}

module _ (U : ℕ) (s words : List ℕ) where
  pub missing_whole : IsMissing sum s 0 → (false ≡ is_whole (reads sum (meanings s))) × (words ≡ whole_words U (reads sum (meanings s)) words)
  unfolding whole_words
  missing_whole h = (rw h.none, rw h.none)

  module _ (k size : ℕ) (stack : List ℕ) (n : ℕ) (g : IsUpTo sum U k s 0 size stack n) where
    pub read_whole : k ≡ length words → n ≡ length s → (new : List ℕ) → new ≡ take k stack
        → (true ≡ is_whole (reads sum (meanings s))) × (new ≡ whole_words U (reads sum (meanings s)) words)
    unfolding whole_words
    read_whole ek e new en =
        let q : drop n s ≡ [] = drop_of_length-le s {i = n} (omega arith) in
        let v : new ≡ words_of (length words) (at_point U g.tree) = en ∙ g.values ∙ ap (λ (x : ℕ). words_of x (at_point U g.tree)) ek in
        (rw (g.read, q), rw (g.read, q) v)

    pub read_partly : (n ≡ length s → ⊥)
        → (false ≡ is_whole (reads sum (meanings s))) × (words ≡ whole_words U (reads sum (meanings s)) words)
    unfolding whole_words
    read_partly e =
        let h : n < length s = omega (arith, g.inside) in
        (rw (g.read, drop-cons s n 0 h), rw (g.read, drop-cons s n 0 h))

  -- whatever the reader found: is it the whole?
  module _ (k size : ℕ) (stack : List ℕ) where
    pub whole_found : (r : Option ℕ) → Agrees sum U k s 0 size stack r → k ≡ length words → option_eq eqb r (Some (length s)) ≡ true
        → (new : List ℕ) → new ≡ take k stack → (true ≡ is_whole (reads sum (meanings s))) × (new ≡ whole_words U (reads sum (meanings s)) words)
    whole_found None g ek e new en = absurd (false≢true e)
    whole_found (Some n) g ek e new en = read_whole k size stack n g ek (eqb-true n (length s) e) new en

    pub whole_unfound : (r : Option ℕ) → Agrees sum U k s 0 size stack r → option_eq eqb r (Some (length s)) ≡ false
        → (false ≡ is_whole (reads sum (meanings s))) × (words ≡ whole_words U (reads sum (meanings s)) words)
    whole_unfound None g e = missing_whole g
    whole_unfound (Some n) g e = read_partly k size stack n g (eqb-false n (length s) e)
