-- The records of an entry (document 01, 'The archive entry'; document 02, C-11 and C-16): 'Each record is one byte of kind, then a body whose length
-- the kind fixes.' A record is its bytes. What stands in the body of each kind is said once, in `layout`; lengths, bytes and what a record
-- says follow from it.
-- Assumes nothing.
use Rattle.std.specs.Prelude.{Bool, true, false, ◌&&◌, ◌||◌, not, cond, List, [], ◌∷◌, ◌++◌, ℕ, zero, suc, ◌+◌, ◌*◌, ◌/◌, ◌%◌, ◌^◌, ◌<◌, eqb, ltb, get_or, take, drop}
use Rattle.solution.specs.Order.{order_bytes, default_bytes}

-- 'one byte of kind, then a body'
abbrev pub Record : Type 0
Record = List ℕ

-- what stands in bodies: the route, U, G, an unknown's number, a monomial's mask, a state, a place of the order
pub data Field : Type 0 where
  route_field : Field
  unknowns_field : Field
  givens_field : Field
  unknown_field : Field
  mask_field : Field
  state_field : Field
  order_field : Field

-- the body of each kind, kind 1 first
abbrev pub layout : List (List Field)
layout =
    -- 'kind 1, three bytes: route, U, G'
    (route_field ∷ unknowns_field ∷ givens_field ∷ [])
    -- 'kind 2, two bytes: a monomial of the condition'
    ∷ (mask_field ∷ [])
    -- 'kind 3, three bytes: unknown number, then a monomial of its answer'
    ∷ (unknown_field ∷ mask_field ∷ [])
    -- 'kind 4, one byte: the route again, end of entry'
    ∷ (route_field ∷ [])
    -- 'kind 5, one byte: 'none', the state'
    ∷ (state_field ∷ [])
    -- 'A kind 6 record, six bytes, ..: the unknown numbers in order, then 255 in unused places'
    ∷ (order_field ∷ order_field ∷ order_field ∷ order_field ∷ order_field ∷ order_field ∷ [])
    -- 'Kind 7, two bytes, holds a monomial of g'
    ∷ (mask_field ∷ [])
    ∷ []

-- the fields of kind k: none where there is no such kind
unfoldable pub fields : ℕ → List Field
fields zero = []
fields (suc k) = get_or layout k []

-- 'Masks are two bytes'; every other field is one
abbrev pub width : Field → ℕ
width route_field = 1
width unknowns_field = 1
width givens_field = 1
width unknown_field = 1
width mask_field = 2
width state_field = 1
width order_field = 1

-- the number of bytes of fields
unfoldable pub widths : List Field → ℕ
widths [] = 0
widths (f ∷ fs) = width f + widths fs

-- the number of bytes of a record with these fields: 'one byte of kind, then a body'; 0 where there is no such kind
abbrev pub size_with : List Field → ℕ
size_with [] = 0
size_with (f ∷ fs) = suc (widths (f ∷ fs))

unfoldable pub size : ℕ → ℕ
size k = size_with (fields k)

-- 'one byte of kind': that of the record which the bytes begin with, 0 where there are none
unfoldable pub kind : List ℕ → ℕ
kind bs = get_or bs 0 0

-- a number in so many bytes, 'low byte first'
unfoldable pub low_first : ℕ → ℕ → List ℕ
low_first zero v = []
low_first (suc zero) v = v ∷ []
low_first (suc (suc w)) v = v % 256 ∷ low_first (suc w) (v / 256)

-- and back
unfoldable pub from_low_first : List ℕ → ℕ
from_low_first [] = 0
from_low_first (b ∷ bs) = b + 256 * from_low_first bs

-- ---- making records
-- the body with these values, field by field
unfoldable pub body_of : List Field → List ℕ → List ℕ
body_of [] vs = []
body_of (f ∷ fs) [] = []
body_of (f ∷ fs) (v ∷ vs) = low_first (width f) v ++ body_of fs vs

-- the record of kind k with these values
abbrev pub record_of : ℕ → List ℕ → Record
record_of k vs = k ∷ body_of (fields k) vs

abbrev pub start_record : ℕ → ℕ → ℕ → Record
start_record route U G = record_of 1 (route ∷ U ∷ G ∷ [])

abbrev pub condition_record : ℕ → Record
condition_record m = record_of 2 (m ∷ [])

abbrev pub answer_record : ℕ → ℕ → Record
answer_record j m = record_of 3 (j ∷ m ∷ [])

abbrev pub end_record : ℕ → Record
end_record route = record_of 4 (route ∷ [])

abbrev pub none_record : ℕ → Record
none_record state = record_of 5 (state ∷ [])

abbrev pub order_record : List ℕ → Record
order_record order = record_of 6 (order_bytes order)

abbrev pub fact_record : ℕ → Record
fact_record m = record_of 7 (m ∷ [])

-- the bytes of records one after another
unfoldable pub bytes : List Record → List ℕ
bytes [] = []
bytes (r ∷ rs) = r ++ bytes rs

-- ---- what a record says
-- are the two fields one?
abbrev pub place : Field → ℕ
place route_field = 0
place unknowns_field = 1
place givens_field = 2
place unknown_field = 3
place mask_field = 4
place state_field = 5
place order_field = 6

abbrev pub same_field : Field → Field → Bool
same_field f g = eqb (place f) (place g)

-- is the field among these?
unfoldable pub among : Field → List Field → Bool
among f [] = false
among f (g ∷ fs) = same_field f g || among f fs

-- the value of the field in a body with these fields, 0 where it is not among them
unfoldable pub value_in : Field → List Field → List ℕ → ℕ
value_in f [] bs = 0
value_in f (g ∷ fs) bs = cond (same_field f g) (from_low_first (take (width g) bs)) (value_in f fs (drop (width g) bs))

-- the value of the field in a record
unfoldable pub value_of : Field → Record → ℕ
value_of f r = value_in f (fields (kind r)) (drop 1 r)

abbrev pub is_answer : Record → Bool
is_answer r = eqb (kind r) 3

abbrev pub is_end : Record → Bool
is_end r = eqb (kind r) 4

abbrev pub is_none : Record → Bool
is_none r = eqb (kind r) 5

abbrev pub is_order : Record → Bool
is_order r = eqb (kind r) 6

abbrev pub is_fact : Record → Bool
is_fact r = eqb (kind r) 7

-- it holds a monomial
abbrev pub is_monomial : Record → Bool
is_monomial r = among mask_field (fields (kind r))

-- the table that its monomial belongs to: 0 the fact, 1 the condition, j + 2 the answer for unknown j
abbrev pub table_in : Record → ℕ
table_in r = cond (is_fact r) 0 (suc (cond (among unknown_field (fields (kind r))) (suc (value_of unknown_field r)) 0))

-- 12, of one field: 'Are masks below 2^n, unknowns below U, the state below 2^G'
abbrev pub field_fits : ℕ → ℕ → Field → ℕ → Bool
field_fits U G route_field v = true
field_fits U G unknowns_field v = true
field_fits U G givens_field v = true
field_fits U G unknown_field v = ltb v U
field_fits U G mask_field v = ltb v (2 ^ (U + G))
field_fits U G state_field v = ltb v (2 ^ G)
field_fits U G order_field v = true

-- of every field of a body
unfoldable pub body_fits : ℕ → ℕ → List Field → List ℕ → Bool
body_fits U G [] bs = true
body_fits U G (f ∷ fs) bs = field_fits U G f (from_low_first (take (width f) bs)) && body_fits U G fs (drop (width f) bs)

-- the bytes are the same
unfoldable pub same_bytes : List ℕ → List ℕ → Bool
same_bytes [] [] = true
same_bytes [] (y ∷ ys) = false
same_bytes (x ∷ xs) [] = false
same_bytes (x ∷ xs) (y ∷ ys) = eqb x y && same_bytes xs ys

-- are these the bytes of the order 0, 1, 2 and so on?
unfoldable pub is_default : ℕ → List ℕ → Bool
is_default U bs = same_bytes bs (default_bytes U)

-- 12, of kind 6: it 'is left out for the order 0, 1, 2 and so on, and must be, so question 12 refuses it there, and asks nothing else of
-- kind 6'
unfoldable pub is_needed : ℕ → Record → Bool
is_needed U r = not (is_order r && is_default U (drop 1 r))

-- 12, of a record
unfoldable pub in_bounds : ℕ → ℕ → Record → Bool
in_bounds U G r = body_fits U G (fields (kind r)) (drop 1 r) && is_needed U r

-- each is a byte
abbrev pub AreBytes : List ℕ → Type 0
AreBytes bs = (i : ℕ) → get_or bs i 0 < 256
