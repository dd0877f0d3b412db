-- The entries of document 01's sample, one with an order and two with a fact, from their texts to their bytes, by computation; and that of
-- nine letters by the law of one given.
-- Assumes nothing.
use mathlib.Core.Path.{◌≡◌, refl, ap, ◌∙◌}
use mathlib.Core.List.{List}
use Prim.Native.Nat.{ℕ}
use lib.ListN.{take}
use native.Mathlib.Omega.{arith}
use Rattle.ring.specs.Letters.{bit, point}
use Rattle.ring.specs.Polynomial.{count, odd, within, value, constant, letter, sum, product, restrict, monomial, substitute, every_below}
use Rattle.ring.specs.Table.{present, tabulate, table, held, answer_table}
use Rattle.ring.specs.Lists.{listed}
use Rattle.grammar.specs.Symbols.{symbol, symbols, is_unknown, is_given, is_single}
use Rattle.grammar.specs.Grammar.{one_product, one_factor, given_factor}
use Rattle.grammar.specs.Meaning.{normal_form}
use Rattle.grammar.specs.Reader.{reads, read_with, and_then, tree_of}
use Rattle.grammar.specs.Text.{text_table}
use Rattle.grammar.proofs.Theorems.{table_derived}
use Rattle.order.specs.Order.{letters, keep, below, groups, order, monomials}
use Rattle.solution.specs.Fact.{where_zero, no_fact}
use Rattle.solution.specs.Condition.{table_where_zero, under_fact, ordered, condition_of, default_order}
use Rattle.solution.specs.Order.{order_bytes}
use Rattle.solution.specs.Elimination.{next_condition, remains, answer_from, boole_answers, smallest_below, blocked, smallest_blocked, is_zero}
use Rattle.solution.specs.Elimination.{solvable, boole_table, solve}
use Rattle.entry.specs.Record.{fields, low_first, body_of, same_bytes, is_default, bytes}
use Rattle.entry.specs.Entry.{order_records, fact_records, condition_records, answer_records, verdict_records, entry_records, entry}
use Rattle.demands.specs.Sample.{first_text, first_entry, second_text, second_entry, wide_text, wide_entry, ordered_text, v_first}
use Rattle.demands.specs.Sample.{ordered_entry, exclusive_text, exclusive_fact, exclusive_entry, no_choice_text, no_choice_fact}
use Rattle.demands.specs.Sample.{no_choice_entry}
use Rattle.demands.proofs.OneGiven.{one_given, given_entry}

pub first_entry_lem : entry 7 (condition_of 2 0 (text_table 2 0 first_text)) ≡ first_entry
unfolding first_text first_entry order_records fact_records table_where_zero where_zero no_fact order_bytes is_default same_bytes text_table table tabulate normal_form tree_of symbols symbol is_unknown is_given is_single reads read_with and_then entry entry_records condition_records answer_records verdict_records bytes fields body_of low_first monomials order groups below keep letters solve boole_table solvable is_zero every_below remains next_condition product restrict odd count present held bit default_order listed answer_table boole_answers answer_from sum letter constant substitute monomial smallest_blocked smallest_below blocked point value within
first_entry_lem = refl

pub second_entry_lem : entry 8 (condition_of 1 1 (text_table 1 1 second_text)) ≡ second_entry
unfolding second_text second_entry order_records fact_records table_where_zero where_zero no_fact order_bytes is_default same_bytes text_table table tabulate normal_form tree_of symbols symbol is_unknown is_given is_single reads read_with and_then entry entry_records condition_records answer_records verdict_records bytes fields body_of low_first monomials order groups below keep letters solve boole_table solvable is_zero every_below remains next_condition product restrict odd count present held bit default_order listed answer_table boole_answers answer_from sum letter constant substitute monomial smallest_blocked smallest_below blocked point value within
second_entry_lem = refl

wide_table : text_table 1 8 wide_text ≡ one_given 1 8 7
unfolding wide_text symbols symbol is_unknown is_given is_single normal_form
wide_table = table_derived 1 8 wide_text (one_product (one_factor given_factor))

pub wide_entry_lem : entry 9 (condition_of 1 8 (text_table 1 8 wide_text)) ≡ wide_entry
unfolding wide_entry bytes fields body_of low_first
wide_entry_lem = ap (λ (t : List ℕ). entry 9 (condition_of 1 8 t)) wide_table ∙ given_entry 1 8 7 (omega arith) 9

pub ordered_entry_lem : entry 10 (ordered 2 0 (take 2 v_first) (text_table 2 0 ordered_text)) ≡ ordered_entry
unfolding ordered_text v_first ordered_entry order_records fact_records table_where_zero where_zero no_fact order_bytes is_default same_bytes text_table table tabulate normal_form tree_of symbols symbol is_unknown is_given is_single reads read_with and_then entry entry_records condition_records answer_records verdict_records bytes fields body_of low_first monomials order groups below keep letters solve boole_table solvable is_zero every_below remains next_condition product restrict odd count present held bit default_order listed answer_table boole_answers answer_from sum letter constant substitute monomial smallest_blocked smallest_below blocked point value within
ordered_entry_lem = refl

-- 'With g = a*b that row becomes u = b + u + a*b + a*u + b*u': from the two texts to the bytes, in which kind 2 holds f
pub exclusive_entry_lem : entry 11 (under_fact 1 2 (default_order 1) (text_table 1 2 exclusive_fact) (text_table 1 2 exclusive_text)) ≡ exclusive_entry
unfolding exclusive_text exclusive_fact exclusive_entry order_records fact_records table_where_zero where_zero no_fact order_bytes is_default same_bytes text_table table tabulate normal_form tree_of symbols symbol is_unknown is_given is_single reads read_with and_then entry entry_records condition_records answer_records verdict_records bytes fields body_of low_first monomials order groups below keep letters solve boole_table solvable is_zero every_below remains next_condition product restrict odd count present held bit default_order listed answer_table boole_answers answer_from sum letter constant substitute monomial smallest_blocked smallest_below blocked point value within
exclusive_entry_lem = refl

-- 'the state named is the smallest of these'
pub no_choice_entry_lem : entry 12 (under_fact 2 1 (take 2 v_first) (text_table 2 1 no_choice_fact) (text_table 2 1 no_choice_text)) ≡ no_choice_entry
unfolding v_first no_choice_text no_choice_fact no_choice_entry order_records fact_records table_where_zero where_zero no_fact order_bytes is_default same_bytes text_table table tabulate normal_form tree_of symbols symbol is_unknown is_given is_single reads read_with and_then entry entry_records condition_records answer_records verdict_records bytes fields body_of low_first monomials order groups below keep letters solve boole_table solvable is_zero every_below remains next_condition product restrict odd count present held bit default_order listed answer_table boole_answers answer_from sum letter constant substitute monomial smallest_blocked smallest_below blocked point value within
no_choice_entry_lem = refl
