-- `session::Session::try_add` meets its contract: the session's own questions, then 4 and 8, and the table joined.
-- Assumes nothing.
use mathlib.Core.Path.{refl, sym, ◌∙◌}
use Rattle.std.proofs.lemmas.Result.{err_from_is_err_and}
use Rattle.tables.proofs.Questions.{room_enough, held_bits}
use Rattle.calls.specs.Questions.{add_questions}
use Rattle.session.specs.Session.{added}
use Rattle.tables.proofs.Passed.{letters-n, letters-table_len}
use Rattle.session.proofs.Asked.{own_no, room_no, bits_no, add_yes}
use Rattle.session.proofs.Session.try_add.Goals as goal

pub returns-in_err-letters : goal.returns-in_err-letters
unfolding add_questions
returns-in_err-letters c =
    let no = err_from_is_err_and c.from_residual.result c.from_residual.ensures.1 in
    rw (no.1, no.2) (own_no _ _ _ c.in_err-letters.ensures, refl)

pub returns-in_err-require : goal.returns-in_err-require
returns-in_err-require c =
    let no = err_from_is_err_and c.from_residual-in_err-require.result c.from_residual-in_err-require.ensures.1 in
    rw (no.1, no.2, c.in_err-require.ensures.0)
    (room_no _ _ _ c.in_ok-letters.ensures (sym c.has_room.ensures ∙ c.in_err-require.ensures.1), refl)

pub returns-in_err-require-2 : goal.returns-in_err-require-2
returns-in_err-require-2 c =
    let no = err_from_is_err_and c.from_residual-in_err-require-2.result c.from_residual-in_err-require-2.ensures.1 in
    rw (no.1, no.2, c.in_err-require-2.ensures.0) (
      bits_no _ _ _ c.in_ok-letters.ensures (sym c.has_room.ensures ∙ c.in_ok-require.ensures)
          (sym c.holds_bits.ensures ∙ c.in_err-require-2.ensures.1),
      refl,
    )

pub joined_table-self-requires : goal.joined_table-self-requires
joined_table-self-requires c = (
  room_enough _ _ (sym c.has_room.ensures ∙ c.in_ok-require.ensures),
  c.in_ok-letters.ensures.bits,
  held_bits _ _ (sym c.holds_bits.ensures ∙ c.in_ok-require-2.ensures),
)

pub returns : goal.returns
unfolding added
returns c =
    let own = c.in_ok-letters.ensures in (
      add_yes _ _ _ own (sym c.has_room.ensures ∙ c.in_ok-require.ensures) (sym c.holds_bits.ensures ∙ c.in_ok-require-2.ensures),
      rw (c.joined_table-self.ensures, letters-n c.args.self.now.unknowns c.args.self.now.givens c.in_ok-letters.letters own.letters, letters-table_len c.args.self.now.unknowns c.args.self.now.givens c.in_ok-letters.letters own.letters),
    )
