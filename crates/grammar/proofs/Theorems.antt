-- Demand 2 for texts. The reader accepts exactly the texts that have a derivation, and a text has at most one tree. The value of the normal
-- form is the tree's value at every state and choice; texts over the same letters share one normal form exactly when their values agree.
-- Assumes nothing.
use mathlib.Core.Path.{◌≡◌, refl, ap, ◌∙◌, sym, subst}
use mathlib.Core.Bool.{true, false≢true}
use mathlib.Core.Logic.{◌↔◌}
use mathlib.Core.List.{List, [], ◌∷◌}
use Prim.Native.Nat.{ℕ, ◌+◌, ◌^◌, ◌<◌}
use Rattle.ring.specs.declared.State.{State}
use Rattle.ring.specs.declared.Choice.{Choice}
use Rattle.ring.specs.Letters.{point}
use Rattle.ring.specs.Polynomial.{value}
use Rattle.ring.specs.Table.{present, table}
use Rattle.ring.proofs.Points.{parts}
use Rattle.ring.proofs.Value.{value_cong}
use Rattle.ring.proofs.Table.{present-tabulate, is-table, same_table}
use Rattle.grammar.specs.Symbols.{Symbol, symbols}
use Rattle.grammar.specs.Grammar.{Tree, Sum}
use Rattle.grammar.specs.Meaning.{value_at, normal_form, Declared}
use Rattle.grammar.specs.Reader.{Reading, nothing, found, sum, reads, is_whole, tree_read, grammar_reads, tree_of}
use Rattle.grammar.specs.Text.{IsRead, Agree, text_value, text_table}
use Rattle.grammar.proofs.Complete.{complete}
use Rattle.grammar.proofs.Sound.{sound}
use Rattle.grammar.proofs.Points.{at_point_lem, value_normal}
use Rattle.grammar.proofs.Declared.{symbols_fit, tree_declared}

-- 'a text has at most one tree'
pub one_tree : {l : List Symbol} {s t : Tree} → Sum l s → Sum l t → s ≡ t
one_tree {l} {s} {t} d e = cc (complete d, complete e)

-- a text that the reader accepts has a derivation, of the tree that is read
pub reads_derived : (text : List ℕ) → grammar_reads text ≡ true → Sum (symbols text) (tree_of text)
unfolding grammar_reads tree_of
reads_derived text h = sound (go (reads sum (symbols text)) h)
  where
    go : (r : Reading) → is_whole r ≡ true → r ≡ found (tree_read r) []
    go nothing e = absurd (false≢true e)
    go (found t []) e = refl
    go (found t (c ∷ rest)) e = absurd (false≢true e)

-- a text that has a derivation is accepted, and its tree is read
pub derived_reads : (text : List ℕ) {t : Tree} → Sum (symbols text) t → (grammar_reads text ≡ true) × (tree_of text ≡ t)
unfolding grammar_reads tree_of
derived_reads text {t} d = (ap is_whole (complete d), ap tree_read (complete d))

-- the reader accepts exactly the texts that have a derivation
pub reads_exactly : (text : List ℕ) → (grammar_reads text ≡ true) ↔ ((t : Tree) × Sum (symbols text) t)
reads_exactly text = (λ h. (tree_of text, reads_derived text h), λ d. (derived_reads text d.1).0)

-- what is read from a text is told by its derivation alone: its value is that of the derived tree ..
pub value_derived : (text : List ℕ) {t : Tree} → Sum (symbols text) t → (state : State) (choice : Choice)
    → text_value text state choice ≡ value_at t state choice
unfolding text_value
value_derived text d state choice = ap (λ (s : Tree). value_at s state choice) (derived_reads text d).1

-- .. and the table that it is read into is that of the derived tree's normal form
pub table_derived : (U G : ℕ) (text : List ℕ) {t : Tree} → Sum (symbols text) t → text_table U G text ≡ table (U + G) (normal_form U G t)
unfolding text_table
table_derived U G text d = ap (λ (s : Tree). table (U + G) (normal_form U G s)) (derived_reads text d).1

-- the value of the normal form of a tree is the tree's value, at every state and choice
pub value-normal_form : (U G : ℕ) (t : Tree) → Declared U G t → (state : State) (choice : Choice) → choice.0 < 2 ^ U
    → value (U + G) (normal_form U G t) (point U state choice) ≡ value_at t state choice
value-normal_form U G t d state choice h = value_normal U G t (point U state choice) d ∙ at_point_lem U G state choice h t d

pub text_declared : (U G : ℕ) (text : List ℕ) → IsRead U G text → Declared U G (tree_of text)
text_declared U G text a = tree_declared U G (reads_derived text a.reads) (symbols_fit U G text a.declared)

-- the value of the table that a text is read into is the text's value
pub value_text : (U G : ℕ) (text : List ℕ) → IsRead U G text → (state : State) (choice : Choice) → choice.0 < 2 ^ U
    → value (U + G) (present (text_table U G text)) (point U state choice) ≡ text_value text state choice
unfolding text_table text_value table
value_text U G text a state choice h =
    value_cong (U + G) _ _ (point U state choice) (λ m l. present-tabulate (2 ^ (U + G)) (normal_form U G (tree_of text)) m l)
    ∙ value-normal_form U G (tree_of text) (text_declared U G text a) state choice h

-- 'texts over the same letters share one normal form exactly when their values agree'
module _ (U G : ℕ) (a b : List ℕ) (ra : IsRead U G a) (rb : IsRead U G b) where
  same_agree : text_table U G a ≡ text_table U G b → Agree U G a b
  same_agree e state choice hs hc =
      sym (value_text U G a ra state choice hc)
      ∙ ap (λ (t : List ℕ). value (U + G) (present t) (point U state choice)) e
      ∙ value_text U G b rb state choice hc

  agree_at : Agree U G a b → (p : ℕ) → p < 2 ^ (U + G)
      → value (U + G) (present (text_table U G a)) p ≡ value (U + G) (present (text_table U G b)) p
  agree_at h p l =
      let q = parts U G p l in
      subst (λ (x : ℕ). value (U + G) (present (text_table U G a)) x ≡ value (U + G) (present (text_table U G b)) x) q.whole
      (value_text U G a ra q.state q.choice q.choice_fits
      ∙ h q.state q.choice q.state_fits q.choice_fits
      ∙ sym (value_text U G b rb q.state q.choice q.choice_fits))

  agree_same : Agree U G a b → text_table U G a ≡ text_table U G b
  unfolding text_table table
  agree_same h =
      same_table (U + G) (text_table U G a) (text_table U G b) (is-table (U + G) (normal_form U G (tree_of a)))
      (is-table (U + G) (normal_form U G (tree_of b)))
      (agree_at h)

  pub same_normal_form : (text_table U G a ≡ text_table U G b) ↔ Agree U G a b
  same_normal_form = (same_agree, agree_same)
