-- The monomials of an entry, each as one number: 1,024 for each table in front of its own, the fact's left out, and the mask.
-- What is listed so is written as bytes, and printed in hexadecimal.
-- Assumes nothing.
use Rattle.std.specs.Prelude.{ℕ, zero, suc, ◌/◌, ◌%◌}
use Rattle.entry.specs.Record.{Record, condition_record, answer_record, fact_record}

-- the record of a monomial of table i: 0 the fact, 1 the condition, j + 2 the answer for unknown j
abbrev pub monomial_record : ℕ → ℕ → Record
monomial_record zero m = fact_record m
monomial_record (suc zero) m = condition_record m
monomial_record (suc (suc j)) m = answer_record j m

-- the record of the number 1024 * i + m, where m is the mask, of table i + 1
unfoldable pub listed_record : ℕ → Record
listed_record code = monomial_record (suc (code / 1024)) (code % 1024)
