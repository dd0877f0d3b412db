-- The first no of a list of questions: what it means that there is none, and lists that are asked one behind another.
-- Assumes nothing.
use mathlib.Core.Path.{◌≡◌, refl, sym, ◌∙◌}
use mathlib.Core.Bool.{Bool, true, false, not, ◌&&◌}
use mathlib.Core.List.{List, [], ◌∷◌, ◌++◌}
use Prim.Native.Nat.{ℕ, zero, suc, ◌<◌}
use native.Mathlib.Omega.{arith}
use lib.Dec.{eqb}
use borrow.Author.Tests.{eq-eqb}
use Rattle.ring.proofs.Bool.{and_left, and_right, never}
use Rattle.tables.specs.declared.Question.{Question}
use Rattle.tables.specs.declared.Question.TheVariants.{Letters, Route, TextLength, Room, Signs, Declared, Grammar, Bits, Solution}
use Rattle.tables.specs.declared.Question.TheVariants.{Records, Kinds, Numbers, Afresh, Output, Rising, Range, Order, Name, Marked, Mask, Handed, FactGivens, FactState}
use Rattle.tables.specs.Questions.{Asked, asks_giving, number, first_no}
use Rattle.tables.specs.Inner.Asking.{also}

-- every number is above 0, which stands for 'no no', and is a byte
pub number_within : (question : Question) → (0 < number question) × (number question < 256)
number_within Letters = (omega arith, omega arith)
number_within Route = (omega arith, omega arith)
number_within TextLength = (omega arith, omega arith)
number_within Room = (omega arith, omega arith)
number_within Signs = (omega arith, omega arith)
number_within Declared = (omega arith, omega arith)
number_within Grammar = (omega arith, omega arith)
number_within Bits = (omega arith, omega arith)
number_within Solution = (omega arith, omega arith)
number_within Records = (omega arith, omega arith)
number_within Kinds = (omega arith, omega arith)
number_within Numbers = (omega arith, omega arith)
number_within Afresh = (omega arith, omega arith)
number_within Output = (omega arith, omega arith)
number_within Rising = (omega arith, omega arith)
number_within Range = (omega arith, omega arith)
number_within Order = (omega arith, omega arith)
number_within Name = (omega arith, omega arith)
number_within Marked = (omega arith, omega arith)
number_within Mask = (omega arith, omega arith)
number_within Handed = (omega arith, omega arith)
number_within FactGivens = (omega arith, omega arith)
number_within FactState = (omega arith, omega arith)

pub number_some : (question : Question) → number question ≡ 0 → ⊥
number_some question e = omega (arith, (number_within question).0)

-- ---- the question in front
-- it is answered no
pub no_to : (question : Question) (answer : Bool) (given : List ℕ) (rest : List Asked) → answer ≡ false
    → first_no (asks_giving question answer given ∷ rest) ≡ number question
unfolding first_no
no_to question answer given rest e = rw e

-- it is answered yes
pub yes_counts : (question : Question) (answer : Bool) (given : List ℕ) (rest : List Asked) → answer ≡ true
    → first_no (asks_giving question answer given ∷ rest) ≡ first_no rest
unfolding first_no
yes_counts question answer given rest e = rw e

-- where there is no no, it is answered yes, and there is none among those behind it
pub yes_to : (question : Question) (answer : Bool) (given : List ℕ) (rest : List Asked)
    → first_no (asks_giving question answer given ∷ rest) ≡ 0
    → (answer ≡ true) × (first_no rest ≡ 0)
unfolding first_no
yes_to question true given rest e = (refl, e)
yes_to question false given rest e = absurd (number_some question e)

-- ---- all of them
-- each question is answered yes
abbrev pub EachYes : List Asked → Type 0
EachYes [] = Unit
EachYes (asks_giving question answer given ∷ rest) = (answer ≡ true) × EachYes rest

pub each_yes : (questions : List Asked) → first_no questions ≡ 0 → EachYes questions
unfolding first_no
each_yes [] e = tt
each_yes (asks_giving question true given ∷ rest) e = (refl, each_yes rest e)
each_yes (asks_giving question false given ∷ rest) e = absurd (number_some question e)

pub none_no : (questions : List Asked) → EachYes questions → first_no questions ≡ 0
unfolding first_no
none_no [] yes_all = refl
none_no (asks_giving question answer given ∷ rest) yes_all = rw yes_all.0 (none_no rest yes_all.1)

-- ---- lists that are asked one behind another
-- a no counts before further questions
pub also_kept : (found : ℕ) (questions : List Asked) → (found ≡ 0 → ⊥) → found ≡ also found questions
unfolding also
also_kept zero questions n = absurd (n refl)
also_kept (suc found) questions n = refl

pub first_also : (questions further : List Asked) → first_no (questions ++ further) ≡ also (first_no questions) further
unfolding first_no also
first_also [] further = refl
first_also (asks_giving question true given ∷ rest) further = first_also rest further
first_also (asks_giving question false given ∷ rest) further = also_kept (number question) further (number_some question)

pub first_counts : (questions further : List Asked) → (first_no questions ≡ 0 → ⊥) → first_no (questions ++ further) ≡ first_no questions
first_counts questions further n = first_also questions further ∙ sym (also_kept (first_no questions) further n)

-- where the questions before are all answered yes, those behind them count
pub then_further : (questions further : List Asked) → first_no questions ≡ 0 → first_no (questions ++ further) ≡ first_no further
unfolding also
then_further questions further z = first_also questions further ∙ rw z

pub asked_before : (questions further : List Asked) → first_no (questions ++ further) ≡ 0 → first_no questions ≡ 0
unfolding also
asked_before questions further e = go (first_no questions) (sym (first_also questions further) ∙ e)
  where
    go : (found : ℕ) → also found further ≡ 0 → found ≡ 0
    go zero f = refl
    go (suc found) f = f

pub asked_behind : (questions further : List Asked) → first_no (questions ++ further) ≡ 0 → first_no further ≡ 0
asked_behind questions further e = sym (then_further questions further (asked_before questions further e)) ∙ e

-- ---- where no question has a number, that is not the first no
abbrev pub none_has : ℕ → List Asked → Bool
none_has k [] = true
none_has k (asks_giving question answer given ∷ rest) = not (eqb (number question) k) && none_has k rest

pub first_other : (k : ℕ) (questions : List Asked) → none_has k questions ≡ true → first_no questions ≡ k → first_no questions ≡ 0
unfolding first_no
first_other k [] n e = refl
first_other k (asks_giving question true given ∷ rest) n e =
    first_other k rest (and_right (not (eqb (number question) k)) (none_has k rest) n) e
first_other k (asks_giving question false given ∷ rest) n e =
    never (and_left (not (eqb (number question) k)) (none_has k rest) n) (rw (eq-eqb (number question) k e))

-- ---- the first no is a byte
pub first_small : (questions : List Asked) → first_no questions < 256
unfolding first_no
first_small [] = omega arith
first_small (asks_giving question true given ∷ rest) = first_small rest
first_small (asks_giving question false given ∷ rest) = (number_within question).1
