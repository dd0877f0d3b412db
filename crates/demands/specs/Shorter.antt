-- How long answers are, and the shorter of two (document 02, C-17), over the calls: `boole` and `lowenheim` are given an order and lent a fact, a
-- condition and an answer buffer each, `shorter` is lent two answer tables, `write_entry` an output. Lent buffers may be longer than needed and
-- hold any bytes.
-- Assumes nothing.
use Rattle.std.specs.Prelude.{◌≡◌, List, [], ◌∷◌, ℕ, ◌+◌, ◌*◌, ◌^◌, ◌≤◌, ◌<◌, length, take}
use Rattle.ring.specs.Table.{present, held}
use Rattle.ring.specs.Length.{total_count}
use Rattle.tables.specs.Answered.{accepted, first_buffer}
use Rattle.solution.specs.General.{General, InstancesOfEachOther}
use Rattle.solution.specs.UnderFact.{GeneralWhere}
use Rattle.entry.specs.Held.{records, answer_count}
use Rattle.calls.specs.Solving.{boole_call, lowenheim_call}
use Rattle.calls.specs.Shorter.{shorter_refusal, shorter_part}
use Rattle.demands.specs.Handed.{lent_polynomial}
use Rattle.demands.specs.OverTheCalls.{entry_written}

-- the monomials of an answer table, 'the total over its unknowns'
abbrev pub total_in : ℕ → ℕ → List ℕ → ℕ
total_in U G t = total_count U (U + G) (held (U + G) t)

-- what holds of any two tables of which no question is answered no
pub record ShorterOfTwo (U G : ℕ) (boole lowenheim : List ℕ) : Type 0 where
  -- 'cut to U times 2^n bytes'
  pub size : length (shorter_part U G boole lowenheim) ≡ U * 2 ^ (U + G)
  -- 'the shorter of them' ..
  pub lowenheims : total_in U G lowenheim < total_in U G boole → shorter_part U G boole lowenheim ≡ take (U * 2 ^ (U + G)) lowenheim
  -- .. 'Boole's if the totals tie' ..
  pub booles : total_in U G boole ≤ total_in U G lowenheim → shorter_part U G boole lowenheim ≡ take (U * 2 ^ (U + G)) boole
  -- .. so that neither has fewer monomials
  pub at_most_boole : total_in U G (shorter_part U G boole lowenheim) ≤ total_in U G boole
  pub at_most_lowenheim : total_in U G (shorter_part U G boole lowenheim) ≤ total_in U G lowenheim

-- the answer buffer after `boole`, and after `lowenheim`
abbrev pub booles_table : ℕ → ℕ → List ℕ → List ℕ → List ℕ → List ℕ → List ℕ
booles_table U G order fact condition answers = first_buffer (boole_call U G order fact condition answers)

abbrev pub lowenheims_table : ℕ → ℕ → List ℕ → List ℕ → List ℕ → List ℕ → List ℕ
lowenheims_table U G order fact condition answers = first_buffer (lowenheim_call U G order fact condition answers)

-- what is handed back where both tables are the engine's own answers for one condition, fact and order
abbrev pub shorter_own : ℕ → ℕ → List ℕ → List ℕ → List ℕ → List ℕ → List ℕ → List ℕ
shorter_own U G order fact condition answers answers₂ =
    shorter_part U G (booles_table U G order fact condition answers) (lowenheims_table U G order fact condition answers₂)

-- what holds where both calls find a solution
pub record ShorterOfOwn (U G : ℕ) (order fact condition answers answers₂ : List ℕ) : Type 0 where
  -- no question is answered no
  pub not_refused : shorter_refusal U G (booles_table U G order fact condition answers) (lowenheims_table U G order fact condition answers₂) ≡ 0
  -- the totals that are compared are those that the two calls gave
  pub boole_gave : (boole_call U G order fact condition answers).gives ≡ accepted (total_in U G (booles_table U G order fact condition answers) ∷ [])
  pub lowenheim_gave : (lowenheim_call U G order fact condition answers₂).gives
      ≡ accepted (total_in U G (lowenheims_table U G order fact condition answers₂) ∷ [])
  -- whichever it is, it is a general solution ..
  pub general : General U G (lent_polynomial U G fact condition) (held (U + G) (shorter_own U G order fact condition answers answers₂))
  -- .. which makes the condition zero wherever the fact is zero ..
  pub general_where : GeneralWhere U G (present condition) (present fact) (held (U + G) (shorter_own U G order fact condition answers answers₂))
  -- .. and it and either table are instances of each other
  pub each_other_boole : InstancesOfEachOther U G (held (U + G) (booles_table U G order fact condition answers))
      (held (U + G) (shorter_own U G order fact condition answers answers₂))
  pub each_other_lowenheim : InstancesOfEachOther U G (held (U + G) (lowenheims_table U G order fact condition answers₂))
      (held (U + G) (shorter_own U G order fact condition answers answers₂))

-- the total that `boole` gives is the number of kind 3 records in the entry that `write_entry` writes
pub record LengthArchived (route U G : ℕ) (order fact condition answers out : List ℕ) : Type 0 where
  pub kind_3 : (boole_call U G order fact condition answers).gives
      ≡ accepted (answer_count (records (entry_written route U G order fact condition out)) ∷ [])
