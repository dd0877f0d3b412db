-- Boole's elimination and Löwenheim's formula (document 01, the sections of these names), on polynomials in n = U + G letters.
-- Elimination goes through a list of unknowns, the order; document 01's is 0, 1, 2, ..
-- Assumes nothing.
use Rattle.std.specs.Prelude.{Bool, true, false, not, cond, List, [], ◌∷◌, ℕ, zero, suc, ◌+◌, ◌^◌, eqb}
use Rattle.ring.specs.declared.State.{State}
use Rattle.ring.specs.Letters.{point}
use Rattle.ring.specs.Polynomial.{Polynomial, value, constant, letter, sum, product, restrict, substitute, every_below}
use Rattle.ring.specs.Table.{answer_table, for_unknowns}
use Rattle.solution.specs.Substitution.{Substitution, own_letters, put_in}
use Rattle.solution.specs.Condition.{Condition, width, polynomial}

-- 'let r be f with x = 1 and s be f with x = 0. The next condition is r*s'
unfoldable pub next_condition : ℕ → Polynomial → ℕ → Polynomial
next_condition n f x = product n (restrict f x true) (restrict f x false)

-- what remains when the unknowns of the order have gone, the first of the list first
unfoldable pub remains : ℕ → Polynomial → List ℕ → Polynomial
remains n f [] = f
remains n f (x ∷ order) = remains n (next_condition n f x) order

-- 'x*(r + s + 1) + s'
unfoldable pub answer_from : ℕ → ℕ → Polynomial → Polynomial → Polynomial
answer_from n x r s = sum (product n (letter x) (sum (sum r s) (constant true))) s

-- Boole's answers: 'the answer for x is x*(r + s + 1) + s, with the answers already found for later unknowns put into r and s,
-- x itself remaining as parameter'. A letter that does not go stands for itself
unfoldable pub boole_answers : ℕ → Polynomial → List ℕ → Substitution
boole_answers n f [] = letter
boole_answers n f (x ∷ order) =
    let later : Substitution = boole_answers n (next_condition n f x) order in
    let r : Polynomial = substitute n n (restrict f x true) later in
    let s : Polynomial = substitute n n (restrict f x false) later in
    λ j. cond (eqb j x) (answer_from n x r s) (later j)

-- 'The particular solution is this answer with 0 put for all parameters'
unfoldable pub particular : ℕ → ℕ → List ℕ → Polynomial → Substitution
particular U G order f j = put_in U G (own_letters U G) (boole_answers (U + G) f order j) (λ i. constant false)

-- 'From a condition f and U handed polynomials b, the answer for unknown x is x + f*(x + b of x)'
unfoldable pub lowenheim : ℕ → Polynomial → Substitution → Substitution
lowenheim n f b x = sum (letter x) (product n f (sum (letter x) (b x)))

-- 'The engine's own Löwenheim answer uses its particular solution'
unfoldable pub own_lowenheim : ℕ → ℕ → List ℕ → Polynomial → Substitution
own_lowenheim U G order f = lowenheim (U + G) f (particular U G order f)

-- the smallest number below k that passes the test, k if none does
unfoldable pub smallest_below : ℕ → (ℕ → Bool) → ℕ
smallest_below zero test = 0
smallest_below (suc k) test = cond (test 0) 0 (suc (smallest_below k (λ i. test (suc i))))

-- does every choice give f the value 1 in the state?
unfoldable pub blocked : ℕ → ℕ → Polynomial → State → Bool
blocked U G f state = every_below (2 ^ U) (λ c. value (U + G) f (point U state (record { 0 = c })))

-- 'the smallest state in which every choice gives the original condition the value 1'
unfoldable pub smallest_blocked : ℕ → ℕ → Polynomial → State
smallest_blocked U G f = record { 0 = smallest_below (2 ^ G) (λ s. blocked U G f (record { 0 = s })) }

-- has f no monomial?
unfoldable pub is_zero : ℕ → Polynomial → Bool
is_zero n f = every_below (2 ^ n) (λ m. not (f m))

-- 21: 'does the handed substitution make the condition zero' (document 02, C-15)? With it put for the unknowns, all at once, f has no
-- monomial. 'Handed polynomials may mention unknowns'
unfoldable pub handed_solves : ℕ → ℕ → Polynomial → Substitution → Bool
handed_solves U G f b = is_zero (U + G) (substitute (U + G) (U + G) f (for_unknowns U b))

-- 'When every unknown has gone, a polynomial in the givens remains': is it 0?
unfoldable pub solvable : ℕ → Polynomial → List ℕ → Bool
solvable n f order = is_zero n (remains n f order)

-- the answer tables of a condition: Boole's ..
unfoldable pub boole_table : Condition → List ℕ
boole_table c = answer_table c.U (width c) (boole_answers (width c) (polynomial c) c.order)

-- .. its particular solution ..
unfoldable pub particular_table : Condition → List ℕ
particular_table c = answer_table c.U (width c) (particular c.U c.G c.order (polynomial c))

-- .. and the engine's own Löwenheim answers
unfoldable pub lowenheim_table : Condition → List ℕ
lowenheim_table c = answer_table c.U (width c) (own_lowenheim c.U c.G c.order (polynomial c))

-- what is said of a condition: the answers, as a table or as polynomials, or 'none' and the state
pub data Verdict (A : Type 0) : Type 0 where
  solved : A → Verdict A
  none : State → Verdict A

-- the verdict on a condition: 'If it is not 0, the answer is 'none' with the smallest state ..'; 'If it is 0, go back'
unfoldable pub solve : Condition → Verdict (List ℕ)
solve c =
    cond (solvable (width c) (polynomial c) c.order)
    (solved (boole_table c))
    (none (smallest_blocked c.U c.G (polynomial c)))
