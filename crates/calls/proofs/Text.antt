-- Demand 2 for accepted texts: the table is one, its values are the text's, and when two texts share one normal form.
-- That the reader accepts exactly the texts with a derivation, and that a text has at most one tree, stands in `grammar`.
-- Assumes nothing.
use mathlib.Core.Path.{◌≡◌}
use mathlib.Core.Bool.{true}
use mathlib.Core.Logic.{◌↔◌}
use mathlib.Core.List.{List}
use Prim.Native.Nat.{ℕ, ◌+◌, ◌^◌, ◌<◌}
use Rattle.ring.specs.declared.State.{State}
use Rattle.ring.specs.declared.Choice.{Choice}
use Rattle.ring.specs.Letters.{point}
use Rattle.ring.specs.Polynomial.{value}
use Rattle.ring.specs.Table.{IsTable, present, table}
use Rattle.ring.proofs.Table.{is-table}
use Rattle.tables.specs.Questions.{letters_fit}
use Rattle.grammar.specs.Symbols.{symbols, all_signs, all_declared}
use Rattle.grammar.specs.Grammar.{Tree, Sum}
use Rattle.grammar.specs.Reader.{tree_of}
use Rattle.grammar.specs.Text.{IsRead, Agree, text_value, text_table}
use Rattle.grammar.proofs.Theorems as grammar
use Rattle.calls.specs.Questions.{has_text_length}
use Rattle.calls.specs.Text.{Accepted}

-- the table that a text is read into is one
pub text_is_table : (U G : ℕ) (text : List ℕ) → IsTable (U + G) (text_table U G text)
unfolding text_table table
text_is_table U G text = is-table (U + G) _

pub is_read : (U G : ℕ) (text : List ℕ) → Accepted U G text → IsRead U G text
is_read U G text a = record { declared = a.declared; reads = a.grammar }

-- an accepted text has a derivation, and only of its own tree
pub accepted_tree : (U G : ℕ) (text : List ℕ) → Accepted U G text
    → Sum (symbols text) (tree_of text) × ((t : Tree) → Sum (symbols text) t → t ≡ tree_of text)
accepted_tree U G text a =
    let d = grammar.reads_derived text a.grammar in
    (d, λ t e. grammar.one_tree e d)

-- so a text is accepted exactly if it passes questions 1, 3, 5 and 6 and has a derivation
pub accepted_exactly : (U G : ℕ) (text : List ℕ)
    → Accepted U G text
    ↔ ((letters_fit U G ≡ true) × (has_text_length text ≡ true) × (all_signs text ≡ true) × (all_declared U G text ≡ true) × (t : Tree)
    × Sum (symbols text) t)
accepted_exactly U G text = (
  λ a. (a.letters, a.bytes, a.signs, a.declared, tree_of text, grammar.reads_derived text a.grammar),
  λ d. record { letters = d.0; bytes = d.1; signs = d.2; declared = d.3; grammar = (grammar.derived_reads text d.5).0 },
)

-- the value of the table that an accepted text is read into is the text's, at every state and choice
pub value_text : (U G : ℕ) (text : List ℕ) → Accepted U G text → (state : State) (choice : Choice) → choice.0 < 2 ^ U
    → value (U + G) (present (text_table U G text)) (point U state choice) ≡ text_value text state choice
value_text U G text a = grammar.value_text U G text (is_read U G text a)

-- accepted texts over the same letters share one normal form exactly when their values agree at every state and choice
pub same_normal_form : (U G : ℕ) (a b : List ℕ) → Accepted U G a → Accepted U G b → (text_table U G a ≡ text_table U G b) ↔ Agree U G a b
same_normal_form U G a b p q = grammar.same_normal_form U G a b (is_read U G a p) (is_read U G b q)
