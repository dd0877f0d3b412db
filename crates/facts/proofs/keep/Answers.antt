-- `facts::keep` meets its contract: the fact 0 passes both questions; of any other, 22 is answered by its bytes and 23 by a point that counts.
-- Assumes nothing.
use mathlib.Core.Path.{◌≡◌, sym, ◌∙◌}
use Rattle.std.proofs.lemmas.Result.{err_from_is_err_and}
use Rattle.words.proofs.Letters.{count_small}
use Rattle.words.proofs.Words.{size_words}
use Rattle.facts.specs.Inner.Kept.{kept_words}
use Rattle.facts.proofs.Kept.{all_kept, complement_kept}
use Rattle.facts.proofs.Asked.{zero_fact, letters_no, states_yes, states_no}
use Rattle.facts.proofs.keep.Goals as goal

pub returns-then-is_zero : goal.returns-then-is_zero
returns-then-is_zero c =
    let zero = sym (c.is_zero.ensures _ c.requires.0.size) ∙ c.if-is_zero.true in
    record {
      value = zero_fact _ _ _ c.args.fact.now c.args.letters.n_is zero;
      kept_after = all_kept _ _ c.args.fact.now _ c.requires.1 zero c.keep_all.ensures;
    }

pub returns-in_err-require-clause-value : goal.returns-in_err-require-clause-value
returns-in_err-require-clause-value c =
    let no = err_from_is_err_and c.from_residual.result c.from_residual.ensures.1 in
    rw (no.1, no.2, c.in_err-require.ensures.0)
    (letters_no _ _ _ c.args.fact.now c.args.letters.n_is (c.has_no_unknown.ensures _ c.requires.0.size) c.in_err-require.ensures.1)

pub first_one-requires : goal.first_one-requires
first_one-requires c =
    let kept : c.complement.new.d ≡ kept_words c.args.letters.n c.args.fact.now =
    complement_kept _ c.args.fact.now _ _ c.take_values.ensures c.complement.ensures in
    count_small _ _ (size_words _ _ _ kept) c.args.letters.n_fits

pub returns-in_err-require-2-clause-value : goal.returns-in_err-require-2-clause-value
returns-in_err-require-2-clause-value c =
    let no = err_from_is_err_and c.from_residual-in_err-require-2.result c.from_residual-in_err-require-2.ensures.1 in
    let kept : c.complement.new.d ≡ kept_words c.args.letters.n c.args.fact.now =
    complement_kept _ c.args.fact.now _ _ c.take_values.ensures c.complement.ensures in
    rw (no.1, no.2, c.in_err-require-2.ensures.0)
    (states_no _ _ _ c.args.fact.now c.args.letters.n_is _ _ _ (c.has_no_unknown.ensures _ c.requires.0.size) c.in_ok-require.ensures kept
    c.first_one.ensures c.args.letters.table_len_is c.in_err-require-2.ensures.1)

pub returns : goal.returns
returns c =
    let kept : c.complement.new.d ≡ kept_words c.args.letters.n c.args.fact.now =
    complement_kept _ c.args.fact.now _ _ c.take_values.ensures c.complement.ensures in
    record {
      value = states_yes _ _ _ c.args.fact.now c.args.letters.n_is _ _ _ (c.has_no_unknown.ensures _ c.requires.0.size) c.in_ok-require.ensures
          kept c.first_one.ensures c.args.letters.table_len_is c.in_ok-require-2.ensures;
      kept_after = kept;
    }
