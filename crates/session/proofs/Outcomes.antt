-- What a step answers that puts questions: done exactly if there is no first no, and refused by a question exactly if that is the first no. So
-- its number is that of the first no.
-- Assumes nothing.
use mathlib.Core.Path.{◌≡◌, refl, sym, ap}
use mathlib.Core.Bool.{true, false}
use mathlib.Core.List.{List, [], ◌∷◌, ◌++◌}
use mathlib.Core.Logic.{◌↔◌}
use Rattle.std.specs.Prelude.{Result, Ok, Err}
use Rattle.tables.specs.declared.Question.{Question}
use Rattle.tables.specs.Questions.{Asked, asks_giving, number, first_no}
use Rattle.tables.specs.Inner.Passed.{NoneNo, IsFirstNo}
use Rattle.tables.proofs.FirstNo.{number_some}
use Rattle.tables.proofs.Numbered.{number_injective}
use Rattle.session.specs.declared.Session.{Session}
use Rattle.session.specs.Session.{outcome_of, stepped}
use Rattle.session.specs.Inner.Passed.{IsStep}

-- every question is answered yes
outcome_yes : (questions : List Asked) → NoneNo questions → outcome_of questions ≡ Ok tt
unfolding outcome_of first_no
outcome_yes [] z = refl
outcome_yes (asks_giving question true given ∷ rest) z = outcome_yes rest z
outcome_yes (asks_giving question false given ∷ rest) z = absurd (number_some question z)

yes_outcome : (questions : List Asked) → outcome_of questions ≡ Ok tt → NoneNo questions
unfolding outcome_of first_no
yes_outcome [] e = refl
yes_outcome (asks_giving question true given ∷ rest) e = yes_outcome rest e
yes_outcome (asks_giving question false given ∷ rest) e = cc

pub step_done_exactly : (questions : List Asked) → (outcome_of questions ≡ Ok tt) ↔ (first_no questions ≡ 0)
step_done_exactly questions = (yes_outcome questions, outcome_yes questions)

-- one is answered no
outcome_no : (questions : List Asked) (question : Question) → IsFirstNo questions question → outcome_of questions ≡ Err question
unfolding outcome_of first_no
outcome_no [] question e = absurd (number_some question e)
outcome_no (asks_giving other true given ∷ rest) question e = outcome_no rest question e
outcome_no (asks_giving other false given ∷ rest) question e = ap Err (number_injective other question (sym e))

no_outcome : (questions : List Asked) (question : Question) → outcome_of questions ≡ Err question → IsFirstNo questions question
unfolding outcome_of first_no
no_outcome [] question e = cc
no_outcome (asks_giving other true given ∷ rest) question e = no_outcome rest question e
no_outcome (asks_giving other false given ∷ rest) question e = let same : other ≡ question = cc in sym (ap number same)

pub step_refused_exactly : (questions : List Asked) (question : Question)
    → (outcome_of questions ≡ Err question) ↔ (number question ≡ first_no questions)
step_refused_exactly questions question = (no_outcome questions question, outcome_no questions question)

-- questions in front that are all answered yes play no part
pub outcome_behind : (questions further : List Asked) → NoneNo questions → outcome_of (questions ++ further) ≡ outcome_of further
unfolding outcome_of first_no
outcome_behind [] further z = refl
outcome_behind (asks_giving question true given ∷ rest) further z = outcome_behind rest further z
outcome_behind (asks_giving question false given ∷ rest) further z = absurd (number_some question z)

-- the step as the code makes it
pub step_asked : (questions : List Asked) (after before now : Session) (r : Result Unit Question) → IsStep questions after before r now
    → record { session = now; outcome = r } ≡ stepped (outcome_of questions) after before
unfolding stepped
step_asked questions after before now (Ok tt) h = rw (outcome_yes questions h.0, h.1)
step_asked questions after before now (Err question) h = rw (outcome_no questions question h.0, h.1)
