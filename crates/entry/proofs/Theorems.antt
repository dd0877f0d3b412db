-- The headlines: what an entry says of its condition is right; what is written reads back; what is accepted has only that one form; what
-- passes the audit is what the writer makes; and no entry is longer than document 01 says. Each holds for any bytes behind the entry.
-- `calls` says them of the questions as each call puts them.
-- Assumes nothing.
use mathlib.Core.Path.{◌≡◌, refl, sym, ap, ◌∙◌}
use mathlib.Core.Bool.{Bool, true, false, cond}
use mathlib.Core.List.{List, [], ◌++◌}
use mathlib.Core.Logic.{◌↔◌}
use Prim.Native.Nat.{ℕ, ◌≤◌}
use lib.ListN.{length, take}
use borrow.Author.Tests.{eqb-true, eq-eqb}
use Rattle.ring.specs.Table.{present}
use Rattle.ring.proofs.Table.{held-answer_table}
use Rattle.ring.proofs.Bool.{never}
use Rattle.tables.specs.Questions.{letters_fit}
use Rattle.tables.proofs.Questions.{letters_small, unknowns_small, givens_small}
use Rattle.solution.specs.Fact.{has_no_unknown}
use Rattle.solution.specs.Condition.{Condition, width, polynomial, default_order, IsOrder}
use Rattle.solution.specs.Order.{order_bytes}
use Rattle.solution.specs.Elimination.{Verdict, solved, none, solve, solvable, boole_answers, boole_table, smallest_blocked}
use Rattle.solution.specs.General.{RightVerdict}
use Rattle.solution.proofs.Order.{each_order, bytes_fit}
use Rattle.solution.proofs.Verdict.{AreBooles, right_solved, right_none}
use Rattle.entry.specs.Record.{Record, is_order, AreBytes, bytes}
use Rattle.entry.specs.Entry.{entry_records, archived_records, entry, Archivable}
use Rattle.entry.specs.Held.{records, second, route_of, unknowns_of, givens_of, order_in, answers_in, says, held_condition, held_verdict}
use Rattle.entry.specs.Questions.{same_verdict, answers_hold}
use Rattle.entry.proofs.Records.{records_made}
use Rattle.entry.proofs.Back.{records-entry}
use Rattle.entry.proofs.Verdicts.{solve_fits}
use Rattle.entry.proofs.EntryPasses.{entry-has_end, entry_kinds, entry_numbers}
use Rattle.entry.proofs.Held.{entry_route, entry_unknowns, entry_givens, verdict_back, answers_held, solved_unless}
use Rattle.entry.proofs.Held.{none_unless}
use Rattle.entry.proofs.SameBytes.{bytes_same, same_bytes_lem}
use Rattle.entry.proofs.OrderRecord.{no_record_exactly, order_back, condition_back}
use Rattle.entry.proofs.Canonical.{records_end, canonical}
use Rattle.entry.proofs.Bytes.{records-bytes}
use Rattle.entry.proofs.Bound.{entry_most}
use Rattle.entry.proofs.Passes.{Passes}

-- demand 3, of an entry, whatever stands behind it: what its kind 3 and kind 5 records say of the condition is right
pub entry_right : (route : ℕ) (c : Condition) (behind : List ℕ) → IsOrder c.U c.order
    → RightVerdict c (says (records (entry route c ++ behind)))
unfolding says solve boole_table AreBooles
entry_right route c behind is = rw (records-entry route c behind) (go (solvable (width c) (polynomial c) c.order) refl)
  where
    go : (b : Bool) → solvable (width c) (polynomial c) c.order ≡ b
        → RightVerdict c (says
        (entry_records route c (cond b (solved (boole_table c)) (none (smallest_blocked c.U c.G (polynomial c))))))
    go true e =
        rw (solved_unless (answers_in (entry_records route c (solved (boole_table c)))) route c (boole_table c))
        (right_solved c is e (answers_in (entry_records route c (solved (boole_table c))))
        (λ j m h l. answers_held route c (boole_table c) j m h l
        ∙ held-answer_table c.U (width c) (boole_answers (width c) (polynomial c) c.order) j m h l))
    go false e =
        rw (none_unless (answers_in (entry_records route c (none (smallest_blocked c.U c.G (polynomial c))))) route c
        (smallest_blocked c.U c.G (polynomial c)))
        (right_none c is e)

-- what reading finds in records that were written
pub record ReadsBack (route : ℕ) (c : Condition) (rs : List Record) : Type 0 where
  pub passes : Passes rs
  pub of_route : route_of rs ≡ route
  pub of_unknowns : unknowns_of rs ≡ c.U
  pub of_givens : givens_of rs ≡ c.G
  pub of_order : order_in rs ≡ order_bytes c.order
  pub condition : held_condition rs ≡ c
  pub verdict : held_verdict rs ≡ solve c
  pub used : length (bytes rs) ≡ length (entry route c)

-- the order of a condition that has an entry
pub archived_order_lem : (route : ℕ) (c : Condition) → Archivable route c → IsOrder c.U c.order
archived_order_lem route c a = each_order c.U c.order a.of_order

written : (route : ℕ) (c : Condition) → Archivable route c → ReadsBack route c (archived_records route c)
unfolding entry
written route c a =
    let u : unknowns_of (archived_records route c) ≡ c.U = entry_unknowns route c (solve c) in
    let g : givens_of (archived_records route c) ≡ c.G = entry_givens route c (solve c) in
    let r : route_of (archived_records route c) ≡ route = entry_route route c (solve c) in
    let o : order_in (archived_records route c) ≡ order_bytes c.order = order_back route c (solve c) in
    let few : c.U ≤ 6 = unknowns_small c.U c.G a.letters in
    let h : held_condition (archived_records route c) ≡ c = condition_back route c (solve c) few a.of_order a.of_fact.is-table a.of_table in
    record {
      passes = record {
        whole = entry-has_end route c (solve c);
        kinds = entry_kinds route c (solve c);
        letters = rw (u, g) a.letters;
        route = rw r a.of_route;
        numbers = entry_numbers c (letters_small c.U c.G a.letters) route (solve c) (solve_fits c (archived_order_lem route c a));
        order = rw (u, o) (bytes_fit c.U c.order few a.of_order);
        fact_letters = rw (h, u, g) a.of_fact.givens;
        fact_states = rw (h, u, g) a.of_fact.states;
      };
      of_route = r;
      of_unknowns = u;
      of_givens = g;
      of_order = o;
      condition = h;
      verdict = verdict_back route c (solve c) (solve_fits c (archived_order_lem route c a));
      used = refl;
    }

-- demand 2: a written entry, with any bytes behind it, reads back: the route, U, G, the order, the fact, the condition, solved or 'none'
-- and the state, the answers, and the length used
pub reads_back : (route : ℕ) (c : Condition) (behind : List ℕ) → Archivable route c → ReadsBack route c (records (entry route c ++ behind))
reads_back route c behind a = rw (records-entry route c behind) (written route c a)

-- the entry without a kind 6 is the one for the order 0, 1, 2 and so on
pub no_order_exactly : (route : ℕ) (c : Condition) → Archivable route c
    → (is_order (second (archived_records route c)) ≡ false) ↔ (c.order ≡ default_order c.U)
no_order_exactly route c a = no_record_exactly route c (solve c) (unknowns_small c.U c.G a.letters) a.of_order

-- one entry is of one route and one condition, with one fact and one order
pub one_form : (route : ℕ) (c : Condition) (other-route : ℕ) (d : Condition) → Archivable route c → Archivable other-route d
    → entry route c ≡ entry other-route d → (route ≡ other-route) × (c ≡ d)
one_form route c other-route d a b e =
    let x : ReadsBack route c (records (entry route c ++ [])) = reads_back route c [] a in
    let y : ReadsBack other-route d (records (entry route c ++ [])) = rw e (reads_back other-route d [] b) in
    (sym x.of_route ∙ y.of_route, sym x.condition ∙ y.condition)

-- bytes that pass questions 10, 11, 1, 2, 12, 17, 22 and 23 are, as far as they are used, the bytes of the entry of what they hold
pub accepted_canonical : (bs : List ℕ) → AreBytes bs → Passes (records bs)
    → take (length (bytes (records bs))) bs
    ≡ bytes (entry_records (route_of (records bs)) (held_condition (records bs)) (held_verdict (records bs)))
accepted_canonical bs are p =
    sym (records-bytes bs)
    ∙ ap bytes (canonical (records bs) (records_made bs are) p.kinds (records_end bs)
    (letters_small (unknowns_of (records bs)) (givens_of (records bs)) p.letters) p.numbers p.order)

-- ---- the audit
pub verdict_same : (v w : Verdict (List ℕ)) → same_verdict v w ≡ true → v ≡ w
verdict_same (solved a) (solved b) e = ap solved (bytes_same a b e)
verdict_same (solved a) (none state) e = never e refl
verdict_same (none state) (solved b) e = never e refl
verdict_same (none state) (none other) e = let q : state.0 ≡ other.0 = eqb-true _ _ e in ap (λ (i : ℕ). none (record { 0 = i })) q

pub same_verdict_lem : (v : Verdict (List ℕ)) → same_verdict v v ≡ true
same_verdict_lem (solved a) = same_bytes_lem a
same_verdict_lem (none state) = eq-eqb state.0 state.0 refl

-- demand 2: 'Bytes that pass the audit are exactly those that the writer makes'. If each of 10, 11, 1, 2, 12, 17, 22, 23, 13 is answered yes, the
-- bytes, as far as they are used, are the entry of the route and condition that reading them gives ..
pub audited_entry : (bs : List ℕ) → AreBytes bs → Passes (records bs) → answers_hold (records bs) ≡ true
    → take (length (bytes (records bs))) bs ≡ entry (route_of (records bs)) (held_condition (records bs))
unfolding answers_hold entry
audited_entry bs are p h =
    accepted_canonical bs are p
    ∙ ap (λ (v : Verdict (List ℕ)). bytes (entry_records (route_of (records bs)) (held_condition (records bs)) v))
    (verdict_same (held_verdict (records bs)) (solve (held_condition (records bs))) h)

-- .. and every entry that the writer makes passes, whatever stands behind it
pub entry_holds : (route : ℕ) (c : Condition) (behind : List ℕ) → Archivable route c
    → answers_hold (records (entry route c ++ behind)) ≡ true
unfolding answers_hold
entry_holds route c behind a =
    let r : ReadsBack route c (records (entry route c ++ behind)) = reads_back route c behind a in
    rw (r.verdict, r.condition) (same_verdict_lem (solve c))

-- 'The bound on an entry is now 27,709 bytes'
pub entry_bound : (route : ℕ) (c : Condition) → letters_fit c.U c.G ≡ true
    → has_no_unknown c.U (width c) (present c.fact) ≡ true → length (entry route c) ≤ 27709
unfolding entry
entry_bound route c letters givens =
    entry_most route c (solve c) (unknowns_small c.U c.G letters) (givens_small c.U c.G letters)
    (letters_small c.U c.G letters) givens
