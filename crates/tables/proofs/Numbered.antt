-- A number has one question, and a reply one answer.
-- Assumes nothing.
use mathlib.Core.Path.{◌≡◌, refl, sym, ap, ◌∙◌}
use mathlib.Core.List.{[], ◌∷◌}
use Prim.Native.Nat.{ℕ}
use lib.ListN.{get_or}
use Rattle.tables.specs.declared.Question.{Question}
use Rattle.tables.specs.declared.Question.TheVariants.{Letters, Route, TextLength, Room, Signs, Declared, Grammar, Bits, Solution}
use Rattle.tables.specs.declared.Question.TheVariants.{Records, Kinds, Numbers, Afresh, Output, Rising, Range, Order, Name, Marked, Mask, Handed, FactGivens, FactState}
use Rattle.tables.specs.Questions.{number}

-- ---- a number has one question
unfoldable question_of : ℕ → Question
question_of n =
    get_or
    (Letters ∷ Letters ∷ Route ∷ TextLength ∷ Room ∷ Signs ∷ Declared ∷ Grammar ∷ Bits ∷ Solution ∷ Records ∷ Kinds ∷ Numbers ∷ Afresh
    ∷ Output ∷ Rising ∷ Range ∷ Order ∷ Name ∷ Marked ∷ Mask ∷ Handed ∷ FactGivens ∷ FactState ∷ [])
    n Letters

question_of-number : (question : Question) → question_of (number question) ≡ question
unfolding question_of
question_of-number Letters = refl
question_of-number Route = refl
question_of-number TextLength = refl
question_of-number Room = refl
question_of-number Signs = refl
question_of-number Declared = refl
question_of-number Grammar = refl
question_of-number Bits = refl
question_of-number Solution = refl
question_of-number Records = refl
question_of-number Kinds = refl
question_of-number Numbers = refl
question_of-number Afresh = refl
question_of-number Output = refl
question_of-number Rising = refl
question_of-number Range = refl
question_of-number Order = refl
question_of-number Name = refl
question_of-number Marked = refl
question_of-number Mask = refl
question_of-number Handed = refl
question_of-number FactGivens = refl
question_of-number FactState = refl

pub number_injective : (a b : Question) → number a ≡ number b → a ≡ b
number_injective a b e = sym (question_of-number a) ∙ ap question_of e ∙ question_of-number b
