-- The sample of document 01, 'Programs', in bytes: the two lines' texts and the records that are printed for them, ten in all. And further
-- entries: one with nine letters, in which a mask has two bytes that differ, one with an order, and two with a fact.
-- Assumes nothing.
use Rattle.std.specs.Prelude.{List, [], ◌∷◌, ℕ}

-- `u+v`, of the line `7 2 0 u+v`
unfoldable pub first_text : List ℕ
first_text = 117 ∷ 43 ∷ 118 ∷ []

-- its entry: 01070200, 020100, 020200, 03000200, 03010200, 0407 (start; monomials; answers u = v and v = v; end)
unfoldable pub first_entry : List ℕ
first_entry =
    1 ∷ 7 ∷ 2 ∷ 0
    ∷ 2 ∷ 1 ∷ 0
    ∷ 2 ∷ 2 ∷ 0
    ∷ 3 ∷ 0 ∷ 2 ∷ 0
    ∷ 3 ∷ 1 ∷ 2 ∷ 0
    ∷ 4 ∷ 7
    ∷ []

-- `a`, of the line `8 1 1 a`
unfoldable pub second_text : List ℕ
second_text = 97 ∷ []

-- its entry: 01080101, 020200, 0501, 0408 (start, monomial a, 'none' at state 1, end)
unfoldable pub second_entry : List ℕ
second_entry =
    1 ∷ 8 ∷ 1 ∷ 1
    ∷ 2 ∷ 2 ∷ 0
    ∷ 5 ∷ 1
    ∷ 4 ∷ 8
    ∷ []

-- `h`, of a line `9 1 8 h`
unfoldable pub wide_text : List ℕ
wide_text = 104 ∷ []

-- its entry: 01090108, 020001, 0580, 0409 (start, monomial h with the mask 256, 'none' at state 128, end)
unfoldable pub wide_entry : List ℕ
wide_entry =
    1 ∷ 9 ∷ 1 ∷ 8
    ∷ 2 ∷ 0 ∷ 1
    ∷ 5 ∷ 128
    ∷ 4 ∷ 9
    ∷ []

-- `u*v`
unfoldable pub ordered_text : List ℕ
ordered_text = 117 ∷ 42 ∷ 118 ∷ []

-- v first, then u, and 255 in unused places
unfoldable pub v_first : List ℕ
v_first = 1 ∷ 0 ∷ 255 ∷ 255 ∷ 255 ∷ 255 ∷ []

-- the entry for route 10, v first: 010a0200, 060100ffffffff, 020300, 03000100, 03010200, 03010300, 040a (start, order, monomial,
-- answers u = u and v = v + u*v, end)
unfoldable pub ordered_entry : List ℕ
ordered_entry =
    1 ∷ 10 ∷ 2 ∷ 0
    ∷ 6 ∷ 1 ∷ 0 ∷ 255 ∷ 255 ∷ 255 ∷ 255
    ∷ 2 ∷ 3 ∷ 0
    ∷ 3 ∷ 0 ∷ 1 ∷ 0
    ∷ 3 ∷ 1 ∷ 2 ∷ 0
    ∷ 3 ∷ 1 ∷ 3 ∷ 0
    ∷ 4 ∷ 10
    ∷ []

-- `a*u+b*u+b`, and the fact `a*b` (document 02, C-16)
unfoldable pub exclusive_text : List ℕ
exclusive_text = 97 ∷ 42 ∷ 117 ∷ 43 ∷ 98 ∷ 42 ∷ 117 ∷ 43 ∷ 98 ∷ []

unfoldable pub exclusive_fact : List ℕ
exclusive_fact = 97 ∷ 42 ∷ 98 ∷ []

-- the entry for route 11: 010b0102, 070600, 020400, 020300, 020500, 03000100, 03000400, 03000300, 03000500, 03000600, 040b (start, fact a*b,
-- monomials b, u*a, u*b, 'u = b + u + a*b + a*u + b*u', end)
unfoldable pub exclusive_entry : List ℕ
exclusive_entry =
    1 ∷ 11 ∷ 1 ∷ 2
    ∷ 7 ∷ 6 ∷ 0
    ∷ 2 ∷ 4 ∷ 0
    ∷ 2 ∷ 3 ∷ 0
    ∷ 2 ∷ 5 ∷ 0
    ∷ 3 ∷ 0 ∷ 1 ∷ 0
    ∷ 3 ∷ 0 ∷ 4 ∷ 0
    ∷ 3 ∷ 0 ∷ 3 ∷ 0
    ∷ 3 ∷ 0 ∷ 5 ∷ 0
    ∷ 3 ∷ 0 ∷ 6 ∷ 0
    ∷ 4 ∷ 11
    ∷ []

-- `1` under the fact `1+a`, which leaves state 1, v first: 010c0201, 060100ffffffff, 070000, 070400, 020000, 0501, 040c (start, order, fact,
-- monomial, 'none' at state 1, end)
unfoldable pub no_choice_text : List ℕ
no_choice_text = 49 ∷ []

unfoldable pub no_choice_fact : List ℕ
no_choice_fact = 49 ∷ 43 ∷ 97 ∷ []

unfoldable pub no_choice_entry : List ℕ
no_choice_entry =
    1 ∷ 12 ∷ 2 ∷ 1
    ∷ 6 ∷ 1 ∷ 0 ∷ 255 ∷ 255 ∷ 255 ∷ 255
    ∷ 7 ∷ 0 ∷ 0
    ∷ 7 ∷ 4 ∷ 0
    ∷ 2 ∷ 0 ∷ 0
    ∷ 5 ∷ 1
    ∷ 4 ∷ 12
    ∷ []
