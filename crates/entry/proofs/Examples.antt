-- Records of each kind and their bytes, both ways, by computation. The mask 258 is two bytes that differ, the low byte 2 and the high byte 1.
-- Assumes nothing.
use mathlib.Core.Path.{◌≡◌, refl}
use mathlib.Core.List.{List, [], ◌∷◌}
use Prim.Native.Nat.{ℕ}
use Rattle.entry.specs.Record.{Record, fields, size, widths, kind, low_first, from_low_first, body_of, value_in, value_of, start_record}
use Rattle.entry.specs.Record.{condition_record, answer_record, end_record, none_record, unknown_field, mask_field, state_field}
use Rattle.entry.specs.Record.{givens_field, order_record, fact_record, table_in, among, bytes}
use mathlib.Core.Bool.{true, false}
use Rattle.ring.specs.Lists.{listed, has}
use Rattle.solution.specs.Condition.{default_order}
use Rattle.solution.specs.Order.{order_bytes}
use Rattle.entry.specs.Held.{next, until_end, first_records, records, order_in}
use Rattle.entry.specs.Questions.{may_follow}

-- the start of route 7 with 2 unknowns and 8 givens, the order 1, 0, the monomial 260 of the fact, 1 and 258 of the condition, 258 for
-- unknown 1, 'none' in state 3, the end
unfoldable pub each_kind : List Record
each_kind =
    start_record 7 2 8
    ∷ order_record (1 ∷ 0 ∷ [])
    ∷ fact_record 260
    ∷ condition_record 1
    ∷ condition_record 258
    ∷ answer_record 1 258
    ∷ none_record 3
    ∷ end_record 7
    ∷ []

unfoldable pub each_kind_bytes : List ℕ
each_kind_bytes =
    1 ∷ 7 ∷ 2 ∷ 8
    ∷ 6 ∷ 1 ∷ 0 ∷ 255 ∷ 255 ∷ 255 ∷ 255
    ∷ 7 ∷ 4 ∷ 1
    ∷ 2 ∷ 1 ∷ 0
    ∷ 2 ∷ 2 ∷ 1
    ∷ 3 ∷ 1 ∷ 2 ∷ 1
    ∷ 5 ∷ 3
    ∷ 4 ∷ 7
    ∷ []

pub kinds_written : bytes each_kind ≡ each_kind_bytes
unfolding each_kind each_kind_bytes order_bytes listed bytes fields body_of low_first
kinds_written = refl

pub kinds_read : records each_kind_bytes ≡ each_kind
unfolding each_kind each_kind_bytes order_bytes listed records first_records next until_end size fields widths kind body_of low_first
kinds_read = refl

-- what some of them say
pub says_givens : value_of givens_field (1 ∷ 7 ∷ 2 ∷ 8 ∷ []) ≡ 8
unfolding value_of value_in fields kind from_low_first
says_givens = refl

pub says_unknown : value_of unknown_field (3 ∷ 1 ∷ 2 ∷ 1 ∷ []) ≡ 1
unfolding value_of value_in fields kind from_low_first
says_unknown = refl

pub says_mask : value_of mask_field (3 ∷ 1 ∷ 2 ∷ 1 ∷ []) ≡ 258
unfolding value_of value_in fields kind from_low_first
says_mask = refl

pub says_state : value_of state_field (5 ∷ 3 ∷ []) ≡ 3
unfolding value_of value_in fields kind from_low_first
says_state = refl

pub says-order : order_in each_kind ≡ 1 ∷ 0 ∷ 255 ∷ 255 ∷ 255 ∷ 255 ∷ []
unfolding each_kind order_in order_bytes listed kind fields body_of low_first
says-order = refl

-- 'It is left out for the order 0, 1, 2 and so on'
pub says_default : order_in (start_record 7 2 8 ∷ condition_record 1 ∷ []) ≡ 0 ∷ 1 ∷ 255 ∷ 255 ∷ 255 ∷ 255 ∷ []
unfolding order_in order_bytes default_order listed kind fields body_of low_first value_of value_in from_low_first
says_default = refl

-- the table that a monomial belongs to: the fact, the condition, the answer for unknown 1
pub says-table : (table_in (7 ∷ 4 ∷ 1 ∷ []) ≡ 0) × (table_in (2 ∷ 2 ∷ 1 ∷ []) ≡ 1) × (table_in (3 ∷ 1 ∷ 2 ∷ 1 ∷ []) ≡ 3)
unfolding among value_of value_in fields kind from_low_first
says-table = (refl, refl, refl)

-- 'these follow kind 6 or kind 1', and each other, and nothing else
pub fact_follows : (may_follow 1 7 ≡ true) × (may_follow 6 7 ≡ true) × (may_follow 7 7 ≡ true)
    × (may_follow 2 7 ≡ false) × (may_follow 3 7 ≡ false) × (may_follow 5 7 ≡ false) × (may_follow 7 6 ≡ false)
unfolding may_follow has
fact_follows = (refl, refl, refl, refl, refl, refl, refl)
