-- The shorter of two answer tables (document 02, C-17; `shorter`): 'A further call is lent Boole's and Löwenheim's answer tables and hands
-- back the shorter of them, as the lent table itself, cut to U times 2^n bytes; Boole's if the totals tie.' n = U + G.
-- Assumes nothing.
use Rattle.std.specs.Prelude.{Bool, cond, ◌&&◌, List, [], ◌∷◌, ℕ, ◌+◌, ◌*◌, ◌^◌, eqb, ltb, take, Result, Ok, Err}
use Rattle.ring.specs.Letters.{digit}
use Rattle.ring.specs.Table.{held}
use Rattle.ring.specs.Length.{total_count}
use Rattle.tables.specs.declared.Question.{Question}
use Rattle.tables.specs.Questions.{number, first_no}
use Rattle.tables.specs.Answered.{Reply, accepted, refused, Answered, call}
use Rattle.calls.specs.declared.Formula.{Formula}
use Rattle.calls.specs.declared.Formula.TheVariants as formulas
use Rattle.calls.specs.Questions.{shorter_questions}

-- 'a companion call on the same buffers gives the number of the first no, or 0'
unfoldable pub shorter_refusal : ℕ → ℕ → List ℕ → List ℕ → ℕ
shorter_refusal U G boole lowenheim = first_no (shorter_questions U G boole lowenheim)

-- is Löwenheim's table the shorter? 'Boole's if the totals tie'
unfoldable pub lowenheim_shorter : ℕ → ℕ → List ℕ → List ℕ → Bool
lowenheim_shorter U G boole lowenheim =
    ltb (total_count U (U + G) (held (U + G) lowenheim)) (total_count U (U + G) (held (U + G) boole))

-- which of the two lent tables the part is taken from: Löwenheim's if no question is answered no and it is the shorter
unfoldable pub takes_lowenheim : ℕ → ℕ → List ℕ → List ℕ → Bool
takes_lowenheim U G boole lowenheim = eqb (shorter_refusal U G boole lowenheim) 0 && lowenheim_shorter U G boole lowenheim

-- 'cut to U times 2^n bytes', and where a question is answered no 'the part handed back has no bytes'
unfoldable pub part_length : ℕ → ℕ → List ℕ → List ℕ → ℕ
part_length U G boole lowenheim = cond (eqb (shorter_refusal U G boole lowenheim) 0) (U * 2 ^ (U + G)) 0

-- what is handed back: a part of one of the two lent tables, from its start
unfoldable pub shorter_part : ℕ → ℕ → List ℕ → List ℕ → List ℕ
shorter_part U G boole lowenheim =
    take (part_length U G boole lowenheim) (cond (takes_lowenheim U G boole lowenheim) lowenheim boole)

-- ---- for callers outside the language, who cannot be handed a part: which table it is
-- this paper's number and value for whose table it is: 0 for Boole's, 1 for Löwenheim's
abbrev pub shorter_said : Result Formula Question → Reply
shorter_said (Ok formulas.Boole) = accepted (0 ∷ [])
shorter_said (Ok formulas.Lowenheim) = accepted (1 ∷ [])
shorter_said (Err question) = refused (number question) []

abbrev pub which_shorter_call : ℕ → ℕ → List ℕ → List ℕ → Answered Reply
which_shorter_call U G boole lowenheim =
    call (shorter_questions U G boole lowenheim) (digit (lowenheim_shorter U G boole lowenheim) ∷ []) []
