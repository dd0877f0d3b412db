-- Calls that say how long their result is (document 02, C-17): 'The product of two tables shall also hand back the number of monomials
-- present in it, and sums and substitutions likewise, and every caller up to the solver carries it'.
-- Assumes nothing.
use Rattle.std.specs.Prelude.{List, [], ◌∷◌, ℕ, Result, Ok, Err}
use Rattle.ring.specs.Table.{present, held}
use Rattle.ring.specs.Length.{monomial_count, total_count}
use Rattle.tables.specs.declared.Question.{Question}
use Rattle.tables.specs.Questions.{Asked, number}
use Rattle.tables.specs.Answered.{Reply, accepted, refused, Answered, call, ◌into◌}

-- this paper's number and values for an answer that is one number: how many monomials a call has made, the value of a table, or the length of
-- an entry that was written
abbrev pub value_said : Result ℕ Question → Reply
value_said (Ok value) = accepted (value ∷ [])
value_said (Err question) = refused (number question) []

-- a call that puts these questions, fills a condition buffer with a table over n letters and gives the number of its monomials
abbrev pub counted_call : ℕ → List Asked → List ℕ → List ℕ → Answered Reply
counted_call n questions made out = call questions (monomial_count n (present made) ∷ []) (made into out ∷ [])

-- one that fills an answer buffer: 'each kind of answer .. reports the total over its unknowns'
abbrev pub answers_call : ℕ → ℕ → List Asked → List ℕ → List ℕ → Answered Reply
answers_call U n questions made answers = call questions (total_count U n (held n made) ∷ []) (made into answers ∷ [])
