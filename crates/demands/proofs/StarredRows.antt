-- The starred rows, from the text to the entry's answers: each text is read into the row's table by computation, and what the entry holds
-- then follows from the row of `solution` and from reading back.
-- Assumes nothing.
use mathlib.Core.Path.{◌≡◌, refl, sym, ap, ◌∙◌}
use mathlib.Core.List.{List, [], ◌∷◌, append-nil}
use Prim.Native.Nat.{ℕ}
use lib.ListN.{length}
use Rattle.ring.specs.Letters.{bit}
use Rattle.ring.specs.Polynomial.{count, odd, constant, letter, sum, product}
use Rattle.ring.specs.Table.{tabulate, table}
use Rattle.tables.specs.Questions.{first_no, letters_fit, has_room, room_questions, bit_questions, buffer_questions}
use Rattle.solution.specs.BenchTable.{Row, starred_rows, RowHolds, AllHold as RowsHold, ◌also◌ as ◌and◌}
use Rattle.solution.specs.Condition.{Condition, condition_of}
use Rattle.solution.proofs.Rows.{starred_rows_hold}
use Rattle.solution.proofs.Order.{default_each}
use Rattle.solution.proofs.UnderFact.{no_fact-is}
use Rattle.grammar.specs.Symbols.{symbol, symbols, is_unknown, is_given, is_single, is_sign, is_declared, every, all_signs, all_declared}
use Rattle.grammar.specs.Meaning.{normal_form}
use Rattle.grammar.specs.Reader.{reads, read_with, and_then, grammar_reads, tree_of}
use Rattle.grammar.specs.Text.{text_table}
use Rattle.calls.specs.Questions.{has_text_length, text_questions}
use Rattle.calls.proofs.Text.{text_is_table}
use Rattle.calls.proofs.Questions.{done_exactly}
use Rattle.entry.specs.Questions.{route_fits}
use Rattle.entry.specs.Entry.{entry, Archivable}
use Rattle.entry.specs.Held.{records, held_verdict}
use Rattle.entry.proofs.Theorems.{reads_back}
use Rattle.demands.specs.StarredRows.{starred_texts, TextHolds, AllHold, end, ◌also◌}

-- the text is read, and into the row's table
pub record Reads (text : List ℕ) (r : Row) : Type 0 where
  pub read : first_no (text_questions r.condition.U r.condition.G text (length r.condition.table)) ≡ 0
  pub table : condition_of r.condition.U r.condition.G (text_table r.condition.U r.condition.G text) ≡ r.condition

-- then its entry holds the row's verdict
archived : (text : List ℕ) (r : Row) → Reads text r → RowHolds r → TextHolds text r
unfolding route_fits
archived text r reads holds =
    let c : Condition = r.condition in
    let accepted = ((done_exactly c.U c.G text (length c.table)).0 reads.read).0 in
    let fits : Archivable 1 (condition_of c.U c.G (text_table c.U c.G text)) =
    record {
      letters = accepted.letters;
      of_route = refl;
      of_order = default_each c.U;
      of_table = text_is_table c.U c.G text;
      of_fact = no_fact-is c.U c.G;
    } in
    let back = reads_back 1 c [] (rw reads.table at fits) in
    record {
      read = reads.read;
      table = reads.table;
      archived = ap (λ (l : List ℕ). held_verdict (records l)) (sym (append-nil (entry 1 c))) ∙ back.verdict ∙ holds.boole;
      own = holds.own;
    }

data AllRead : List (List ℕ) → List Row → Type 0 where
  done : AllRead [] []
  ◌then◌ : {text : List ℕ} {r : Row} {texts : List (List ℕ)} {rows : List Row} → Reads text r → AllRead texts rows
      → AllRead (text ∷ texts) (r ∷ rows)

infixr 20 ◌then◌
all_archived : {texts : List (List ℕ)} {rows : List Row} → AllRead texts rows → RowsHold rows → AllHold texts rows
all_archived done h = end
all_archived (r then rs) (h and hs) = archived _ _ r h also all_archived rs hs

texts_read : AllRead starred_texts starred_rows
unfolding starred_texts starred_rows text_questions buffer_questions room_questions bit_questions first_no letters_fit has_text_length has_room all_signs all_declared every is_sign is_declared is_unknown is_given is_single grammar_reads symbols symbol reads read_with and_then text_table table tabulate normal_form tree_of constant letter sum product odd count bit
texts_read =
    record { read = refl; table = refl }
    then record { read = refl; table = refl }
    then record { read = refl; table = refl }
    then record { read = refl; table = refl }
    then record { read = refl; table = refl }
    then record { read = refl; table = refl }
    then record { read = refl; table = refl }
    then record { read = refl; table = refl }
    then record { read = refl; table = refl }
    then record { read = refl; table = refl }
    then record { read = refl; table = refl }
    then done

-- every starred row, from its text to its entry
pub starred_rows_lem : AllHold starred_texts starred_rows
starred_rows_lem = all_archived texts_read starred_rows_hold
