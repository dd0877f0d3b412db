-- What the calls' contracts say of whole buffers, from what the inner functions give on the parts that they are lent.
-- Assumes nothing.
use mathlib.Core.Path.{◌≡◌, refl, sym, ap, ap₂, ◌∙◌}
use mathlib.Core.Bool.{true}
use mathlib.Core.List.{List, [], ◌∷◌}
use Prim.Native.Nat.{ℕ, ◌+◌, ◌*◌, ◌^◌, ◌<◌, ◌≤◌}
use native.Mathlib.Nat.{lt_of_lt_of_le}
use lib.Dec.{ltb}
use lib.Pow.{pow_mono}
use borrow.Author.Tests.{ltb-true}
use lib.ListN.{length, take}
use Rattle.ring.specs.declared.State.{State}
use Rattle.ring.specs.declared.Choice.{Choice}
use Rattle.ring.specs.Letters.{digit, point}
use Rattle.ring.specs.Polynomial.{◌⊕◌, value, sum, product, substitute}
use Rattle.ring.specs.Derivative.{derivative}
use Rattle.ring.specs.Table.{IsTable, present, table, held, for_unknowns}
use Rattle.ring.specs.Length.{monomial_count}
use Rattle.ring.proofs.Points.{point_lt}
use Rattle.ring.proofs.Value.{value_cong, product_cong}
use Rattle.ring.proofs.Substitute.{substitute_cong, for_unknowns_cong}
use Rattle.ring.proofs.Derivative.{derivative_cong}
use Rattle.ring.proofs.Table.{table_cong, present-take, held-take, length-table}
use Rattle.ring.proofs.Bool.{and_left, and_right}
use Rattle.tables.specs.declared.Letters.{Letters}
use Rattle.tables.specs.Questions.{first_no, letters_fit, has_room, holds_bits, room_questions, bit_questions, buffer_questions, in_range}
use Rattle.tables.proofs.Questions.{room_enough, room_length_lem, held_bits}
use Rattle.tables.proofs.Passed.{letters-n, letters-table_len}
use Rattle.tables.proofs.Answered.{gives_nothing}
use Rattle.calls.specs.Questions.{value_questions, pair_questions, substitute_questions, mask_declared, derivative_questions}
use Rattle.calls.specs.Operations.{value_at, sum_table, product_table, substitute_table, derivative_table}
use Rattle.tables.specs.Inner.Passed.{AreLetters}
use Rattle.operations.specs.Inner.Passed.{PassedValue, PassedPair, PassedSubstitute, PassedDerivative}

-- ---- the letters that the questions have passed are those of the call
module _ (u g : ℕ) (l : Letters) (are : AreLetters u g l) where
  -- what is made of the parts that count is what is made of the whole
  pub sum_whole : (a b : List ℕ) → table l.n (sum (present (take l.table_len a)) (present (take l.table_len b))) ≡ sum_table u g a b
  unfolding sum_table sum
  sum_whole a b =
      rw (letters-n u g l are, letters-table_len u g l are)
      (table_cong (u + g) _ _ (λ m l. ap₂ ◌⊕◌ (present-take (2 ^ (u + g)) a m l) (present-take (2 ^ (u + g)) b m l)))

  pub product_whole : (a b : List ℕ)
      → table l.n (product l.n (present (take l.table_len a)) (present (take l.table_len b))) ≡ product_table u g a b
  unfolding product_table
  product_whole a b =
      rw (letters-n u g l are, letters-table_len u g l are)
      (table_cong (u + g) _ _ (λ m _. product_cong (u + g) _ _ _ _ (present-take (2 ^ (u + g)) a) (present-take (2 ^ (u + g)) b) m))

  pub substitute_whole : (a b : List ℕ)
      → table l.n
      (substitute l.n l.n (present (take l.table_len a)) (for_unknowns l.unknowns (held l.n (take (l.unknowns * l.table_len) b))))
      ≡ substitute_table u g a b
  unfolding substitute_table
  substitute_whole a b =
      rw (letters-n u g l are, letters-table_len u g l are, are.unknowns)
      (table_cong (u + g) _ _ (λ m _. substitute_cong (u + g) (u + g) _ _ _ _ (present-take (2 ^ (u + g)) a)
      (λ j _ i l. for_unknowns_cong (u + g) u _ _ (λ j' h i' l'. held-take (u + g) u b j' i' h l') j i l) m))

  pub derivative_whole : (s : ℕ) (t : List ℕ) → table l.n (derivative l.n s (present (take l.table_len t))) ≡ derivative_table u g t s
  unfolding derivative_table
  derivative_whole s t =
      rw (letters-n u g l are, letters-table_len u g l are) (table_cong (u + g) _ _ (derivative_cong (u + g) s _ _ (present-take (2 ^ (u + g)) t)))

  -- the number of monomials of the table that is made
  pub counted_whole : (r : ℕ) (front made : List ℕ) → front ≡ made → r ≡ monomial_count l.n (present front)
      → ◌≡◌ {A = List ℕ} (r ∷ []) (monomial_count (u + g) (present made) ∷ [])
  counted_whole r front made e er =
      ap (λ (x : ℕ). x ∷ []) (er ∙ ap₂ (λ (n : ℕ) (t : List ℕ). monomial_count n (present t)) (letters-n u g l are) e)

  -- each answer has 2 ^ n bytes
  pub length-sum : (a b : List ℕ) → l.table_len ≡ length (sum_table u g a b)
  unfolding sum_table
  length-sum a b = letters-table_len u g l are ∙ sym (length-table (u + g) _)

  pub length-product : (a b : List ℕ) → l.table_len ≡ length (product_table u g a b)
  unfolding product_table
  length-product a b = letters-table_len u g l are ∙ sym (length-table (u + g) _)

  pub length-substitute : (a b : List ℕ) → l.table_len ≡ length (substitute_table u g a b)
  unfolding substitute_table
  length-substitute a b = letters-table_len u g l are ∙ sym (length-table (u + g) _)

  pub length-derivative : (s : ℕ) (t : List ℕ) → l.table_len ≡ length (derivative_table u g t s)
  unfolding derivative_table
  length-derivative s t = letters-table_len u g l are ∙ sym (length-table (u + g) _)

  -- ---- what a yes to each question tells, as the code has the answers
  part : (t : List ℕ) → has_room l.table_len (length t) ≡ true → holds_bits l.table_len t ≡ true → IsTable l.n (take l.table_len t)
  part t room bits = record { size = room_length_lem l.table_len t room ∙ l.table_len_is; bits = held_bits l.table_len t bits }

  pub passed_value : letters_fit u g ≡ true → (t : List ℕ) (state : State) (choice : Choice) → has_room l.table_len (length t) ≡ true
      → holds_bits l.table_len t ≡ true → in_range u g state choice ≡ true → PassedValue u g t state choice l
  unfolding value_questions buffer_questions room_questions bit_questions first_no in_range
  passed_value fit t state choice room bits range = record {
    none_no = rw (fit, ← letters-table_len u g l are, room, bits, range);
    letters = are;
    room = room_enough l.table_len _ room;
    state_fits = ltb-true _ _ (and_left (ltb state.0 (2 ^ g)) _ range);
    choice_fits = ltb-true _ _ (and_right (ltb state.0 (2 ^ g)) _ range);
  }

  pub passed_pair : letters_fit u g ≡ true → (a b : List ℕ) (room : ℕ) → has_room l.table_len (length a) ≡ true
      → has_room l.table_len (length b) ≡ true → has_room l.table_len room ≡ true → holds_bits l.table_len a ≡ true
      → holds_bits l.table_len b ≡ true → PassedPair u g a b room l
  unfolding pair_questions buffer_questions room_questions bit_questions first_no
  passed_pair fit a b room first_room second_room made_room first second = record {
    none_no = rw (fit, ← letters-table_len u g l are, first_room, second_room, made_room, first, second);
    letters = are;
    first_room = room_enough l.table_len _ first_room;
    second_room = room_enough l.table_len _ second_room;
    made_room = room_enough l.table_len _ made_room;
    first = part a first_room first;
    second = part b second_room second;
  }

  pub passed_substitute : letters_fit u g ≡ true → (condition handed : List ℕ) (room : ℕ) → has_room l.table_len (length condition) ≡ true
      → has_room (l.unknowns * l.table_len) (length handed) ≡ true → has_room l.table_len room ≡ true
      → holds_bits l.table_len condition ≡ true → holds_bits (l.unknowns * l.table_len) handed ≡ true
      → PassedSubstitute u g condition handed room l
  unfolding substitute_questions buffer_questions room_questions bit_questions first_no
  passed_substitute fit condition handed room condition_room handed_room made_room table bits =
      let all_room : has_room (u * l.table_len) (length handed) ≡ true = rw are.unknowns at handed_room in
      let all_bits : holds_bits (u * l.table_len) handed ≡ true = rw are.unknowns at bits in
      record {
        none_no = rw (fit, ← letters-table_len u g l are, condition_room, all_room, made_room, table, all_bits);
        letters = are;
        condition_room = room_enough l.table_len _ condition_room;
        handed_room = room_enough (l.unknowns * l.table_len) _ handed_room;
        made_room = room_enough l.table_len _ made_room;
        table = part condition condition_room table;
        bits = held_bits (l.unknowns * l.table_len) handed bits;
      }

  pub passed_derivative : letters_fit u g ≡ true → (t : List ℕ) (s room : ℕ) → has_room l.table_len (length t) ≡ true
      → has_room l.table_len room ≡ true → holds_bits l.table_len t ≡ true → ltb s l.table_len ≡ true → PassedDerivative u g t s room l
  unfolding derivative_questions mask_declared buffer_questions room_questions bit_questions first_no
  passed_derivative fit t s room lent_room made_room table declared = record {
    none_no = rw (fit, ← letters-table_len u g l are, lent_room, made_room, table, declared);
    letters = are;
    lent_room = room_enough l.table_len _ lent_room;
    made_room = room_enough l.table_len _ made_room;
    table = part t lent_room table;
    declared = rw l.table_len_is at (ltb-true s l.table_len declared);
  }

  -- the value of the part that counts is the value of the whole, at the point that the code forms
  pub value_whole : (e p : ℕ) (t : List ℕ) (state : State) (choice : Choice) → e ≡ 2 ^ u → p ≡ state.0 * e + choice.0
      → digit (value l.n (present (take l.table_len t)) p) ≡ value_at u g t state choice
  unfolding value_at point
  value_whole e p t state choice ee ep =
      rw (letters-n u g l are, letters-table_len u g l are, ep, ee)
      (ap digit (value_cong (u + g) _ _ (state.0 * 2 ^ u + choice.0) (present-take (2 ^ (u + g)) t)))

  -- the point is small enough for the code to form
  pub point_small : (e : ℕ) (state : State) (choice : Choice) → state.0 < 2 ^ g → choice.0 < 2 ^ u → e ≡ 2 ^ u
      → state.0 * e + choice.0 < 1024
  unfolding point
  point_small e state choice state_fits choice_fits ee =
      let small : u + g ≤ 10 = rw (letters-n u g l are) at l.n_fits in
      rw ee (lt_of_lt_of_le (point_lt u g state choice state_fits choice_fits) (pow_mono small))

-- the no to each question of these calls gives its number alone
pub value_plain : (u g : ℕ) (t : List ℕ) (state : State) (choice : Choice) → gives_nothing (value_questions u g t state choice) ≡ true
unfolding value_questions buffer_questions room_questions bit_questions
value_plain u g t state choice = refl

pub pair_plain : (u g : ℕ) (a b : List ℕ) (size : ℕ) → gives_nothing (pair_questions u g a b size) ≡ true
unfolding pair_questions buffer_questions room_questions bit_questions
pair_plain u g a b size = refl

pub substitute_plain : (u g : ℕ) (condition handed : List ℕ) (size : ℕ)
    → gives_nothing (substitute_questions u g condition handed size) ≡ true
unfolding substitute_questions buffer_questions room_questions bit_questions
substitute_plain u g condition handed size = refl

pub derivative_plain : (u g : ℕ) (t : List ℕ) (s size : ℕ) → gives_nothing (derivative_questions u g t s size) ≡ true
unfolding derivative_questions buffer_questions room_questions bit_questions
derivative_plain u g t s size = refl
