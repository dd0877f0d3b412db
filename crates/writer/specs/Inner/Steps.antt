-- What the writer's inner functions list and put, and what they ask.
-- Assumes nothing.
use Rattle.std.specs.Prelude.{◌≡◌, true, cond, Option, None, Some, List, [], ◌∷◌, ◌++◌, map, ℕ, zero, suc, ◌+◌, ◌-◌, ◌*◌, ◌^◌, ◌≤◌, length, take, drop}
use Rattle.ring.specs.Polynomial.{value}
use Rattle.ring.specs.Table.{IsTable, present, table}
use Rattle.tables.specs.declared.Question.TheVariants.{Letters, Route, Output, Order}
use Rattle.tables.specs.Questions.{Asked, asks, letters_fit, reads, buffer_questions}
use Rattle.tables.specs.Answered.{Reply, Answered, call, ◌into◌}
use Rattle.words.specs.Inner.Words.{bit_at}
use Rattle.order.specs.Order.{order, monomials}
use Rattle.order.specs.Inner.Listing.{tagged}
use Rattle.solution.specs.Fact.{has_no_unknown}
use Rattle.solution.specs.Condition.{Condition}
use Rattle.solution.specs.Order.{order_fits}
use Rattle.facts.specs.Inner.Kept.{kept_words}
use Rattle.solver.specs.declared.ordered.OrderedLetters.{OrderedLetters}
use Rattle.solver.specs.Inner.Methods.{posed, value_words}
use Rattle.entry.specs.Record.{Record, start_record, end_record, none_record, fact_record, is_default, bytes}
use Rattle.entry.specs.Inner.Codes.{listed_record}
use Rattle.entry.specs.Entry.{order_records, fact_records, archived_records, entry}
use Rattle.entry.specs.Questions.{route_fits}
use Rattle.calls.specs.Questions.{fact_questions, output_fits}
use Rattle.writer.specs.declared.Listing.{Listing}

-- ---- listing
-- the words of answer j, of k words each
unfoldable pub answer_part : ℕ → ℕ → List ℕ → List ℕ
answer_part k j answers = take k (drop (j * k) answers)

-- the monomials of the first j answers, as numbers, from the words of their values in n letters
unfoldable pub answer_codes : ℕ → ℕ → List ℕ → List ℕ
answer_codes zero n answers = []
answer_codes (suc j) n answers =
    answer_codes j n answers ++ tagged (1024 * (j + 1)) (monomials n (value n (bit_at (answer_part (2 ^ (n - 6)) j answers))))

-- how many monomials were listed
abbrev pub count_of : Listing → ℕ
count_of found = found.all

-- how many of them are the condition's
abbrev pub told_of : Listing → ℕ
told_of found = found.of_condition

-- 'or one kind 5'
abbrev pub none_records : Option ℕ → List Record
none_records None = []
none_records (Some state) = none_record state ∷ []

abbrev pub none_of : Listing → List Record
none_of found = none_records found.none

-- its bytes
abbrev pub none_size : Option ℕ → ℕ
none_size None = 0
none_size (Some state) = 2

-- the bytes of the monomials and of 'none': three for a monomial of the condition, four for one of an answer, two for 'none'
abbrev pub size_of : Listing → ℕ
size_of found = 3 * found.of_condition + 4 * (found.all - found.of_condition) + none_size found.none

-- 'A kind 6 record .. follows kind 1', of an order in six bytes, unless it is 0, 1, 2 and so on
unfoldable pub archived_order : ℕ → List ℕ → List Record
archived_order U order = cond (is_default U order) [] ((6 ∷ order) ∷ [])

-- 'Kind 7 .. holds a monomial of g', of the fact's table in n letters
unfoldable pub archived_fact : ℕ → List ℕ → List Record
archived_fact n fact = map fact_record (monomials n (present fact))

-- what is put for a mask: its record, if the fact has it
unfoldable pub fact_part : List ℕ → ℕ → List ℕ
fact_part fact m = cond (present fact m) (fact_record m) []

-- what stands between the start and the condition: the order, unless it is 0, 1, 2 and so on, and the fact, in n letters
abbrev pub archived_heads : ℕ → ℕ → List ℕ → List ℕ → List Record
archived_heads U n order fact = archived_order U order ++ archived_fact n fact

-- the records of an entry that was listed; `heads` stand between its start and its condition
unfoldable pub entry_from : ℕ → ℕ → ℕ → List Record → Listing → List ℕ → List Record
entry_from route U G heads found codes =
    start_record route U G ∷ (heads ++ (map listed_record (take (count_of found) codes) ++ (none_of found ++ (end_record route ∷ []))))

-- what listing the entry of a condition says
pub record Lists (c : Condition) (found : Listing) (codes : List ℕ) : Type 0 where
  pub told : told_of found ≤ count_of found
  pub count : count_of found ≤ length codes
  pub records : (route : ℕ) → entry_from route c.U c.G (order_records c ++ fact_records c) found codes ≡ archived_records route c
  pub size : (route : ℕ) → 6 + (length (bytes (order_records c ++ fact_records c)) + size_of found) ≡ length (entry route c)

-- the condition with these coefficients
abbrev pub packed : OrderedLetters → List ℕ → List ℕ → Condition
packed o fact coefficients = posed o fact (table (o.letters.unknowns + o.letters.givens) (bit_at coefficients))

-- a condition's coefficients and, under some fact, the values of f*(1 + g) in words, and the written order
pub record Listable (o : OrderedLetters) (coefficients values masks : List ℕ) : Type 0 where
  pub givens : o.letters.givens ≤ 8
  pub words : length coefficients ≡ 2 ^ (o.letters.n - 6)
  pub fact : List ℕ
  pub values_are : values ≡ value_words (packed o fact coefficients)
  pub ordered : masks ≡ order o.letters.n

-- the values of 1 + g, of some fact g in n letters
pub record AreKept (n : ℕ) (kept : List ℕ) : Type 0 where
  pub fact : List ℕ
  pub are : kept ≡ kept_words n fact

-- a condition and a fact that pass questions 1, 17, 8 and 22
pub record Ready (o : OrderedLetters) (fact t : List ℕ) : Type 0 where
  pub givens : o.letters.givens ≤ 8
  pub of_fact : IsTable o.letters.n fact
  pub fact_letters : has_no_unknown o.letters.unknowns (o.letters.unknowns + o.letters.givens) (present fact) ≡ true
  pub is-table : IsTable o.letters.n t

-- a listing whose entry has the bytes `made`; 'The bound on an entry is now 27,709 bytes'
pub record Sized (heads : List Record) (found : Listing) (codes made : List ℕ) : Type 0 where
  pub told : told_of found ≤ count_of found
  pub count : count_of found ≤ length codes
  pub size : 6 + (length (bytes heads) + size_of found) ≡ length made
  pub small : length made ≤ 27709

-- ---- asking
-- 1, 2, 17, 4 and 8
unfoldable pub condition_questions : ℕ → ℕ → ℕ → List ℕ → List ℕ → List ℕ → List Asked
condition_questions route U G order fact condition =
    asks Letters (letters_fit U G)
    ∷ asks Route (route_fits route)
    ∷ asks Order (order_fits U order)
    ∷ buffer_questions (reads (2 ^ (U + G)) fact ∷ reads (2 ^ (U + G)) condition ∷ [])

-- 14, of what was made, and the output behind it
unfoldable pub hand_out : List ℕ → List ℕ → Answered Reply
hand_out made out = call (asks Output (output_fits made (length out)) ∷ []) (length made ∷ []) (made into out ∷ [])

-- 22 and 23 before it
unfoldable pub hand_out_under : ℕ → ℕ → List ℕ → List ℕ → List ℕ → Answered Reply
hand_out_under U G fact made out =
    call (fact_questions U G fact ++ (asks Output (output_fits made (length out)) ∷ [])) (length made ∷ []) (made into out ∷ [])
