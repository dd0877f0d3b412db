-- What is read from a text: the value that it has and the table that it is read into.
-- Assumes nothing.
use Rattle.std.specs.Prelude.{◌≡◌, Bool, true, List, ℕ, ◌+◌, ◌^◌, ◌<◌}
use Rattle.ring.specs.declared.State.{State}
use Rattle.ring.specs.declared.Choice.{Choice}
use Rattle.ring.specs.Table.{table}
use Rattle.grammar.specs.Symbols.{all_declared}
use Rattle.grammar.specs.Meaning.{value_at, normal_form}
use Rattle.grammar.specs.Reader.{grammar_reads, tree_of}

-- a text over declared letters that the grammar reads
pub record IsRead (U G : ℕ) (text : List ℕ) : Type 0 where
  pub declared : all_declared U G text ≡ true
  pub reads : grammar_reads text ≡ true

-- the value of a text at a state and a choice
unfoldable pub text_value : List ℕ → State → Choice → Bool
text_value text state choice = value_at (tree_of text) state choice

-- 'the condition is the table that it is read into': the table of the text's normal form over U unknowns and G givens
unfoldable pub text_table : ℕ → ℕ → List ℕ → List ℕ
text_table U G text = table (U + G) (normal_form U G (tree_of text))

-- two texts have the same value at every state and choice
abbrev pub Agree : ℕ → ℕ → List ℕ → List ℕ → Type 0
Agree U G a b =
    (state : State) (choice : Choice) → state.0 < 2 ^ G → choice.0 < 2 ^ U → text_value a state choice ≡ text_value b state choice
