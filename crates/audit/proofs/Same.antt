-- Question 13 as the code asks it: the values of the answers in words, an unknown at a time, and what an entry says against the verdict
-- solved afresh. Answers that have the same values are the same, since the passage from coefficients to values leads back.
-- Assumes nothing.
use mathlib.Core.Path.{◌≡◌, sym, ap, ap₂, ◌∙◌}
use mathlib.Core.Bool.{Bool, true, false}
use mathlib.Core.List.{List}
use mathlib.Core.Logic.{◌⊎◌, inl, inr}
use Prim.Native.Nat.{ℕ, ◌+◌, ◌-◌, ◌*◌, ◌^◌, ◌≤◌, ◌<◌}
use native.Mathlib.Omega.{arith}
use lib.Arith.{digits_lt}
use lib.Dec.{eqb}
use lib.ListN.{length, get_or, take, drop}
use borrow.Author.Tests.{eqb-true, eqb-false}
use Rattle.ring.specs.declared.State.{State}
use Rattle.ring.specs.Letters.{digit}
use Rattle.ring.specs.Polynomial.{Polynomial, value}
use Rattle.ring.specs.Table.{IsTable, present, table, held, answer_table}
use Rattle.ring.proofs.Bool.{bool_cases, never}
use Rattle.ring.proofs.Lists.{listed-tabulate}
use Rattle.ring.proofs.Table.{is-table, same_is_table, get_d_tabulate, present-tabulate, present-table, held-answer_table, answer_table_cong}
use Rattle.ring.proofs.Table.{answers_length}
use Rattle.ring.proofs.Value.{value_cong, involution}
use Rattle.words.specs.Inner.Words.{words_of, bit_at, answer_words}
use Rattle.words.proofs.Letters.{room}
use Rattle.words.proofs.Parts.{part_fits}
use Rattle.words.proofs.Words.{words_cong, at_words}
use Rattle.solution.specs.Condition.{Condition, polynomial, under_fact}
use Rattle.solution.specs.Fact.{no_fact}
use Rattle.solution.proofs.UnderFact.{no_fact_lem}
use Rattle.calls.proofs.Questions.{passes_exactly}
use Rattle.elimination.proofs.Slots.{part_listed, answer_part_lem}
use Rattle.entry.specs.Record.{Record, same_bytes}
use Rattle.entry.specs.Questions.{same_verdict, answers_hold}
use Rattle.entry.proofs.SameBytes.{bytes_same, same_bytes_lem}
use Rattle.facts.specs.Inner.Kept.{where_words}
use Rattle.records.specs.Inner.Filling.{Passed}
use Rattle.solver.proofs.OnWords.{solved_by_values, none_by_values}
use Rattle.audit.specs.Inner.Answers.{AreAnswers}
use Rattle.tables.specs.declared.Letters.{Letters}
use Rattle.tables.specs.Inner.Passed.{NoneNo, AreLetters}
use Rattle.tables.proofs.FirstNo.{asked_behind}
use Rattle.solution.specs.Order.{order_fits}
use Rattle.solution.specs.Elimination.{Verdict as Said, solved, none, boole_answers, boole_table, solve}
use Rattle.entry.specs.Held.{records, unknowns_of, givens_of, order_in, condition_in, answers_in, unless_none, held_condition, held_verdict}
use Rattle.entry.proofs.Canonical.{unless_cases}
use Rattle.calls.specs.declared.Verdict.{Verdict}
use Rattle.calls.specs.declared.Verdict.TheVariants.{Solved, None}
use Rattle.calls.specs.Questions.{fact_questions, record_questions, entry_questions}
use Rattle.records.specs.declared.Survey.{Survey}
use Rattle.records.specs.Inner.Headings.{said}
use Rattle.records.specs.Inner.Gathering.{IsSurvey}
use Rattle.solver.specs.Inner.Methods.{value_words, boole_words, verdict, solve_words}

-- ---- the values of one unknown's answer, held and solved afresh
-- part j of the answers held is the table of what they hold for unknown j
module _ (u n : ℕ) (hs : List ℕ) (is : AreAnswers u n hs) where
  held-digit : (x : ℕ) → x < u * 2 ^ n → get_or hs x 0 ≡ digit (present hs x)
  unfolding answer_table
  held-digit x l = rw is.are (get_d_tabulate (u * 2 ^ n) _ x l ∙ ap digit (sym (present-tabulate (u * 2 ^ n) _ x l)))

  pub held-length : length hs ≡ u * 2 ^ n
  held-length = answers_length u n is.polynomials hs is.are

  module _ (j k : ℕ) (ek : k ≡ 2 ^ n) (l : j < u) where
    pub part_table : take (j * k + k - j * k) (drop (j * k) hs) ≡ table n (held n hs j)
    unfolding table held
    part_table =
        part_listed j k hs (part_fits u (2 ^ n) j k (length hs) ek l held-length)
        ∙ rw ek (listed-tabulate (2 ^ n) _ (λ m. present hs (j * 2 ^ n + m)) (λ m h. held-digit (j * 2 ^ n + m) (digits_lt l h)))

    pub part_is_table : IsTable n (take (j * k + k - j * k) (drop (j * k) hs))
    unfolding table
    part_is_table = same_is_table n _ (table n (held n hs j)) part_table (is-table n (held n hs j))

    pub part_values : (own : List ℕ) → own ≡ words_of (2 ^ (n - 6)) (value n (present (take (j * k + k - j * k) (drop (j * k) hs))))
        → own ≡ words_of (2 ^ (n - 6)) (value n (held n hs j))
    part_values own e =
        e ∙ rw part_table (words_cong (2 ^ (n - 6)) _ _ (λ p h. value_cong n _ _ p (λ m q. present-table n (held n hs j) m q)))

-- the values that agree have the same coefficients
same_coefficients : (n : ℕ) (f g : Polynomial) → words_of (2 ^ (n - 6)) (value n f) ≡ words_of (2 ^ (n - 6)) (value n g) → (m : ℕ) → m < 2 ^ n
    → f m ≡ g m
same_coefficients n f g e m l =
    sym (involution n f m l) ∙ value_cong n (value n f) (value n g) m at ∙ involution n g m l
  where
    at : (p : ℕ) → p < 2 ^ n → value n f p ≡ value n g p
    at p h =
        let inside : p < 64 * 2 ^ (n - 6) = (omega (arith, room n)) in
        sym (at_words (2 ^ (n - 6)) (value n f) p inside) ∙ ap (λ (ws : List ℕ). bit_at ws p) e ∙ at_words (2 ^ (n - 6)) (value n g) p inside

-- the answers for the unknowns below j are those whose values stand in `fresh`
abbrev pub Agreed : ℕ → ℕ → List ℕ → List ℕ → ℕ → Type 0
Agreed u n hs fresh j =
    (b : ℕ → Polynomial) → fresh ≡ answer_words u (2 ^ (n - 6)) (λ j. value n (b j)) → (i m : ℕ) → i < j → m < 2 ^ n → held n hs i m ≡ b i m

pub agreed_start : (u n : ℕ) (hs fresh : List ℕ) → Agreed u n hs fresh 0
agreed_start u n hs fresh b e i m l h = absurd (omega arith)

module _ (u n : ℕ) (hs fresh : List ℕ) (is : AreAnswers u n hs) (j : ℕ) (inv : Agreed u n hs fresh j) where
  pub agreed_end : u ≤ j → (b : ℕ → Polynomial) → fresh ≡ answer_words u (2 ^ (n - 6)) (λ j. value n (b j))
      → true ≡ same_bytes hs (answer_table u n b)
  agreed_end h b e =
      let own : hs ≡ answer_table u n (held n hs) = is.are
      ∙ answer_table_cong u n _ _ (λ i m p q. sym (rw is.are (held-answer_table u n is.polynomials i m p q))) in
      let all : hs ≡ answer_table u n b = own ∙ answer_table_cong u n _ _ (λ i m p q. inv b e i m (omega arith) q) in
      sym (rw (← all) (same_bytes_lem hs))

  module _ (l : j < u) {k w : ℕ} (ek : k ≡ 2 ^ n) (ew : w ≡ 2 ^ (n - 6)) (own : List ℕ)
      (eo : own ≡ words_of (2 ^ (n - 6)) (value n (present (take (j * k + k - j * k) (drop (j * k) hs))))) where
    own_is : own ≡ words_of (2 ^ (n - 6)) (value n (held n hs j))
    own_is = part_values u n hs is j k ek l own eo

    fresh_is : (b : ℕ → Polynomial) → fresh ≡ answer_words u (2 ^ (n - 6)) (λ j. value n (b j))
        → take (j * w + w - j * w) (drop (j * w) fresh) ≡ words_of (2 ^ (n - 6)) (value n (b j))
    fresh_is b e = rw ew (answer_part_lem u (2 ^ (n - 6)) j (λ j. value n (b j)) fresh e l)

    pub agreed_next : same_bytes own (take (j * w + w - j * w) (drop (j * w) fresh)) ≡ true → Agreed u n hs fresh (j + 1)
    agreed_next s b e i m h q = go (bool_cases (eqb i j))
      where
        go : (eqb i j ≡ true) ⊎ (eqb i j ≡ false) → held n hs i m ≡ b i m
        go (inl p) =
            let f : i ≡ j = eqb-true i j p in rw f
            (same_coefficients n (held n hs j) (b j) (sym own_is ∙ bytes_same own _ s ∙ fresh_is b e) m q)
        go (inr p) = inv b e i m (omega (arith, eqb-false i j p)) q

    pub agreed_differ : same_bytes own (take (j * w + w - j * w) (drop (j * w) fresh)) ≡ false → (b : ℕ → Polynomial)
        → fresh ≡ answer_words u (2 ^ (n - 6)) (λ j. value n (b j)) → false ≡ same_bytes hs (answer_table u n b)
    agreed_differ s b e = go (bool_cases (same_bytes hs (answer_table u n b)))
      where
        go : (same_bytes hs (answer_table u n b) ≡ true) ⊎ (same_bytes hs (answer_table u n b) ≡ false)
            → false ≡ same_bytes hs (answer_table u n b)
        go (inr f) = sym f
        go (inl f) =
            let t : hs ≡ answer_table u n b = bytes_same hs _ f in
            let c : own ≡ take (j * w + w - j * w) (drop (j * w) fresh) = own_is
            ∙ words_cong (2 ^ (n - 6)) _ _ (λ p h. value_cong n _ _ p (λ m q. rw t (held-answer_table u n b j m l q)))
            ∙ sym (fresh_is b e) in
            never (rw (← c) (same_bytes_lem own)) s

-- ---- what an entry says
said_none : {A : Type 0} (v : Said A) (state : State) → said v ≡ None state → v ≡ none state
said_none (solved a) state e = let z : ◌≡◌ {A = ℕ} 0 1 = (cc) in absurd (omega arith)
said_none (none s) state e = let f : s ≡ state = (cc) in ap none f

said_solved : {A : Type 0} (a : A) (rs : List Record) → said (unless_none a rs) ≡ Solved → unless_none a rs ≡ solved a
said_solved a rs e = go (unless_cases a rs)
  where
    go : (unless_none a rs ≡ solved a) ⊎ ((state : State) × (unless_none a rs ≡ none state)) → unless_none a rs ≡ solved a
    go (inl f) = f
    go (inr f) =
        let g : None f.0 ≡ Solved = sym (ap said f.1) ∙ e in
        let z : ◌≡◌ {A = ℕ} 0 1 = (cc) in
        absurd (omega arith)

-- ---- question 13, of an entry whose condition t was read, and solved afresh by its order under its fact
module _ (rs : List Record) (l : Letters) (are : AreLetters (unknowns_of rs) (givens_of rs) l) (t : List ℕ)
    (et : t ≡ (held_condition rs).table) where
  pub condition_table : IsTable l.n t
  unfolding held_condition table
  condition_table = rw (et, l.n_is, are.unknowns, are.givens) (is-table _ (condition_in rs))

  module _ (order : List ℕ) (eo : order ≡ order_in rs) where
    abbrev afresh : Condition
    afresh = under_fact l.unknowns l.givens (take l.unknowns order) (held_condition rs).fact t

    read_back : under_fact l.unknowns l.givens (take l.unknowns order) (held_condition rs).fact t ≡ held_condition rs
    unfolding held_condition
    read_back = rw (are.unknowns, are.givens, eo, et)

    pub values_taken : {values : List ℕ} → values ≡ where_words l.n t (held_condition rs).fact
        → values ≡ value_words (under_fact l.unknowns l.givens (take l.unknowns order) (held_condition rs).fact t)
    values_taken e = rw l.n_is at e

    module _ (v : Verdict) (fresh : List ℕ)
        (e : verdict v fresh ≡ solve_words (under_fact l.unknowns l.givens (take l.unknowns order) (held_condition rs).fact t)) where
      holds_is : (hv : Said (List ℕ)) → held_verdict rs ≡ hv → (sv : Said (List ℕ)) → solve afresh ≡ sv → same_verdict hv sv ≡ answers_hold rs
      unfolding answers_hold
      holds_is hv eh sv es = ap₂ same_verdict (sym eh) (sym es ∙ ap solve read_back)

      found_none : (state : State) → v ≡ None state → solve afresh ≡ none state
      found_none state f = none_by_values afresh state (rw f at e)

      found_solved : v ≡ Solved → (solve afresh ≡ solved (boole_table afresh)) × (fresh ≡ boole_words afresh)
      found_solved f = solved_by_values afresh fresh (rw f at e)

      pub both_none : {told found : State} → said (held_verdict rs) ≡ None told → v ≡ None found → eqb told.0 found.0 ≡ answers_hold rs
      both_none et ef = holds_is _ (said_none (held_verdict rs) _ et) _ (found_none _ ef)

      pub none_solved : {told : State} → said (held_verdict rs) ≡ None told → v ≡ Solved → false ≡ answers_hold rs
      none_solved et ef = holds_is _ (said_none (held_verdict rs) _ et) _ (found_solved ef).0

      module _ (es : said (held_verdict rs) ≡ Solved) where
        told : held_verdict rs ≡ solved (answer_table (unknowns_of rs) (unknowns_of rs + givens_of rs) (answers_in rs))
        unfolding held_verdict
        told = said_solved _ rs es

        pub solved_none : {found : State} → v ≡ None found → false ≡ answers_hold rs
        solved_none ef = holds_is _ told _ (found_none _ ef)

        pub both_solved : v ≡ Solved → {hs : List ℕ} → hs ≡ answer_table l.unknowns l.n (answers_in rs) → {b : Bool}
            → ((p : ℕ → Polynomial) → fresh ≡ answer_words l.unknowns (2 ^ (l.n - 6)) (λ j. value l.n (p j))
            → b ≡ same_bytes hs (answer_table l.unknowns l.n p))
            → b ≡ answers_hold rs
        unfolding boole_table
        both_solved ef {hs} eh {b} same =
            let w = found_solved ef in
            let held : hs ≡ answer_table (unknowns_of rs) (unknowns_of rs + givens_of rs) (answers_in rs) =
            eh ∙ rw (l.n_is, are.unknowns, are.givens) in
            let by : b ≡ same_bytes hs (answer_table l.unknowns (l.unknowns + l.givens)
            (boole_answers (l.unknowns + l.givens) (polynomial afresh) (take l.unknowns order))) =
            (rw l.n_is at same) _ w.1 in
            by ∙ holds_is (solved hs) (told ∙ ap solved (sym held)) _ w.0

-- questions 17, 22 and 23 were asked before
module _ (bs : List ℕ) {survey : Survey} (is : IsSurvey (records bs) survey) where
  pub order_passes : order_fits survey.letters.unknowns survey.order ≡ true
  order_passes = rw (is.letters.unknowns, is.order) ((passes_exactly (records bs)).0 is.none_no).order

  pub facts_pass : NoneNo (fact_questions survey.letters.unknowns survey.letters.givens (held_condition (records bs)).fact)
  unfolding entry_questions
  facts_pass = rw (is.letters.unknowns, is.letters.givens) (asked_behind (record_questions (records bs)) _ is.none_no)

-- without a fact every point counts
pub all_count : (bs : List ℕ) {l : Letters} → Passed bs l → (t values : List ℕ) → IsTable l.n t
    → (held_condition (records bs)).fact ≡ no_fact (unknowns_of (records bs) + givens_of (records bs))
    → values ≡ words_of (2 ^ (l.n - 6)) (value l.n (present t)) → values ≡ where_words l.n t (held_condition (records bs)).fact
all_count bs {l} p t values is e ev =
    let n : unknowns_of (records bs) + givens_of (records bs) ≡ l.n = sym (l.n_is ∙ ap₂ ◌+◌ p.letters.unknowns p.letters.givens) in
    ev ∙ rw (e, n, no_fact_lem l.n t is)
