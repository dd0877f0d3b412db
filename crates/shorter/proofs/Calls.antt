-- What the questions tell of the two tables, and what the comparison of the parts that count says of the whole.
-- Assumes nothing.
use mathlib.Core.Path.{◌≡◌, refl}
use mathlib.Core.Bool.{Bool, true, false, cond}
use mathlib.Core.List.{List, []}
use Prim.Native.Nat.{ℕ, ◌+◌, ◌*◌, ◌^◌}
use lib.Dec.{eqb}
use lib.ListN.{length, take}
use borrow.Author.Tests.{eq-eqb, ne_eqb}
use Rattle.std.specs.Prelude.{Ok}
use Rattle.tables.specs.declared.Letters.{Letters}
use Rattle.tables.specs.declared.Question.{Question}
use Rattle.tables.specs.Questions.{first_no, letters_fit, has_room, holds_bits, room_questions, bit_questions, buffer_questions}
use Rattle.tables.specs.Inner.Passed.{IsFirstNo}
use Rattle.tables.specs.Answered.{answered}
use Rattle.tables.proofs.Answered.{gives_nothing, call_done_none}
use Rattle.tables.proofs.FirstNo.{number_some}
use Rattle.tables.proofs.Questions.{room_enough}
use Rattle.calls.specs.declared.Formula.{Formula}
use Rattle.calls.specs.declared.Formula.TheVariants.{Boole, Lowenheim}
use Rattle.calls.specs.Questions.{shorter_questions}
use Rattle.calls.specs.Shorter.{shorter_refusal, lowenheim_shorter, takes_lowenheim, part_length, shorter_part, shorter_said, which_shorter_call}
use Rattle.shorter.proofs.Counting.{part_total}
use Rattle.shorter.specs.Inner.Passed.{PassedShorter, IsShorter}

module _ (u g : ℕ) (boole lowenheim : List ℕ) where
  -- the no to each question gives its number alone
  pub plain : gives_nothing (shorter_questions u g boole lowenheim) ≡ true
  unfolding shorter_questions buffer_questions room_questions bit_questions
  plain = refl

  -- a question is answered no: no bytes, and those of Boole's
  pub record Part (part : List ℕ) (from : Bool) : Type 0 where
    pub contents : part ≡ shorter_part u g boole lowenheim
    pub place : takes_lowenheim u g boole lowenheim ≡ from

  pub part_none : (question : Question) → IsFirstNo (shorter_questions u g boole lowenheim) question → Part [] false
  unfolding shorter_refusal shorter_part part_length takes_lowenheim
  part_none question e =
      let some : eqb (first_no (shorter_questions u g boole lowenheim)) 0 ≡ false = ne_eqb _ _ (rw (← e) (number_some question)) in
      record { contents = rw some; place = rw some }

  -- ---- what a yes to each question tells, as the code has the answers
  pub passed : (l : Letters) → l.unknowns ≡ u → l.givens ≡ g → letters_fit u g ≡ true
      → has_room (l.unknowns * l.table_len) (length boole) ≡ true → has_room (l.unknowns * l.table_len) (length lowenheim) ≡ true
      → holds_bits (l.unknowns * l.table_len) boole ≡ true → holds_bits (l.unknowns * l.table_len) lowenheim ≡ true
      → PassedShorter u g boole lowenheim (take (l.unknowns * l.table_len) boole) (take (l.unknowns * l.table_len) lowenheim)
  unfolding shorter_questions buffer_questions room_questions bit_questions first_no
  passed l eu eg fit boole_room lowenheim_room boole_bits lowenheim_bits =
      let all : l.unknowns * l.table_len ≡ u * 2 ^ (u + g) = rw (l.table_len_is, l.n_is, eu, eg) in
      record {
        none_no = rw (fit, ← all, boole_room, lowenheim_room, boole_bits, lowenheim_bits);
        boole_room = room_enough _ _ (rw all at boole_room);
        lowenheim_room = room_enough _ _ (rw all at lowenheim_room);
        boole_is = rw all;
        lowenheim_is = rw all;
      }

  module _ (b l : List ℕ) (p : PassedShorter u g boole lowenheim b l) where
    -- which is the shorter
    shorter_is : (f : Formula) → IsShorter b l f → f ≡ cond (lowenheim_shorter u g boole lowenheim) Lowenheim Boole
    unfolding lowenheim_shorter
    shorter_is f e =
        rw (
          ← part_total u (u + g) lowenheim l p.lowenheim_room p.lowenheim_is refl,
          ← part_total u (u + g) boole b p.boole_room p.boole_is refl,
        )
        e

    -- the answer of `which_shorter`
    pub which_said : (f : Formula) → IsShorter b l f → answered (shorter_said (Ok f)) [] ≡ which_shorter_call u g boole lowenheim
    which_said f e = rw (shorter_is f e) (go (lowenheim_shorter u g boole lowenheim) refl)
      where
        go : (b : Bool) → lowenheim_shorter u g boole lowenheim ≡ b
            → answered (shorter_said (Ok (cond b Lowenheim Boole))) [] ≡ which_shorter_call u g boole lowenheim
        go true e = rw e (call_done_none _ _ p.none_no)
        go false e = rw e (call_done_none _ _ p.none_no)

    -- the part that is handed back, and the table that it lies in
    pub part_taken : (from : Bool) → IsShorter b l (cond from Lowenheim Boole) → Part (cond from l b) from
    unfolding shorter_refusal shorter_part part_length takes_lowenheim
    part_taken from e =
        let none = eq-eqb _ _ p.none_no in
        let which : lowenheim_shorter u g boole lowenheim ≡ from = same from (lowenheim_shorter u g boole lowenheim) (shorter_is _ e) in
        record { contents = rw (none, which) (cut from); place = rw (none, which) }
      where
        same : (a b : Bool) → ◌≡◌ {A = Formula} (cond a Lowenheim Boole) (cond b Lowenheim Boole) → b ≡ a
        same true true e = refl
        same true false e = cc
        same false true e = cc
        same false false e = refl

        cut : (from : Bool) → cond from l b ≡ take (u * 2 ^ (u + g)) (cond from lowenheim boole)
        cut true = p.lowenheim_is
        cut false = p.boole_is
