-- Rounds that repeat: each table of theirs may be raised so often by as much as all of them raised.
use Rattle.prl_base.proofs.Standard.{◌≡◌, ◌+◌, ◌-◌, ◌*◌, ◌<◌, ◌≤◌, ◌^◌, ◌⊎◌, ℕ, zero, suc, List, [], ◌∷◌, length, Some, inl, inr, refl, sym, ◌∙◌, ap, subst, arith, slice_get, slice_index, slice_get_within, ext_get_or, mul-le-mul_right}
use Rattle.prl_plan.specs.Vocabulary.{IsWellFormed, task_at}
use Rattle.prl_plan.specs.declared.graphs.TaskGraph.{TaskGraph}
use Rattle.prl_dates.specs.Vocabulary.{Lane, link_at, AreBests, dates_of, AreLanes, Leaves, Meets, AreRound, AreRounds, AreSettled, AreWithin, MayRepeat, RepeatsAlong, gain_of}
use Rattle.prl_dates.proofs.BestRounds.{next_bests}
use Rattle.prl_dates.proofs.TableRounds.{round_of_tables}
use Rattle.prl_dates.proofs.RoundSteps.{lane_more, next_within}

-- products with sums and differences
times_zero : (g : ℕ) → 0 * g ≡ 0
times_zero g = (let e : 0 * g ≡ 0 = omega arith in e)

times_suc : (n g : ℕ) → (n + 1) * g ≡ n * g + g
times_suc n g = (let e : n + 1 ≡ suc n = omega arith in ap (λ (x : ℕ). x * g) e) ∙ (let e : suc n * g ≡ n * g + g = omega arith in e)

times_more : (n a b : ℕ) → n * a ≤ n * b + n * (a - b)
times_more zero a b = omega arith
times_more (suc n) a b =
    let r = times_more n a b in
    let x : suc n * a ≡ n * a + a = omega arith in
    let y : suc n * b ≡ n * b + b = omega arith in
    let z : suc n * (a - b) ≡ n * (a - b) + (a - b) = omega arith in
    omega (arith, r, x, y, z)

-- a table raised so often by what another one rose
abbrev pub raised : ℕ → List ℕ → List ℕ → List ℕ → List ℕ
raised times [] now table = table
raised times (p ∷ past) [] table = table
raised times (p ∷ past) (n ∷ now) [] = []
raised times (p ∷ past) (n ∷ now) (t ∷ table) = (t + times * (n - p)) ∷ raised times past now table

pub raised_long : (times : ℕ) (past now table : List ℕ) → length (raised times past now table) ≡ length table
raised_long times [] now table = refl
raised_long times (p ∷ past) [] table = refl
raised_long times (p ∷ past) (n ∷ now) [] = refl
raised_long times (p ∷ past) (n ∷ now) (t ∷ table) = ap (λ (x : ℕ). suc x) (raised_long times past now table)

pub raised_at : (times : ℕ) (past now table : List ℕ) → length past ≡ length table → length now ≡ length table → (q : ℕ) →
    slice_index (raised times past now table) q ≡ slice_index table q + times * gain_of past now q
raised_at times [] [] [] a b q = (let e : 0 ≡ 0 + times * (0 - 0) = omega arith in e)
raised_at times [] now (t ∷ table) a b q = absurd (omega (arith, a))
raised_at times (p ∷ past) now [] a b q = absurd (omega (arith, a))
raised_at times [] (n ∷ now) [] a b q = absurd (omega (arith, b))
raised_at times (p ∷ past) [] (t ∷ table) a b q = absurd (omega (arith, b))
raised_at times (p ∷ past) (n ∷ now) (t ∷ table) a b zero = refl
raised_at times (p ∷ past) (n ∷ now) (t ∷ table) a b (suc q) = raised_at times past now table (omega (arith, a)) (omega (arith, b)) q

module _ (graph : TaskGraph) (lanes : List Lane) where
  -- rounds after rounds
  pub rounds_up : (count : ℕ) (old new : List ℕ) → AreRounds graph lanes count old new → (length new ≡ length old) × ((q : ℕ) → slice_index old q ≤ slice_index new q)
  rounds_up zero old new same = (ap (λ (xs : List ℕ). length xs) same, λ q. (let e = ap (λ (xs : List ℕ). slice_index xs q) same in omega (arith, e)))
  rounds_up (suc count) old new rounds =
      let before = rounds_up count old rounds.0 rounds.1 in
      (rounds.2.long ∙ before.0, λ q. (let a = before.1 q in let b = rounds.2.up q in omega (arith, a, b)))

  pub rounds_both : (first second : ℕ) (old mid new : List ℕ) → AreRounds graph lanes first old mid → AreRounds graph lanes second mid new → AreRounds graph lanes (first + second) old new
  rounds_both first zero old mid new before same =
      subst (λ (n : ℕ). AreRounds graph lanes n old new) (let e : first ≡ first + 0 = omega arith in e) (subst (λ (xs : List ℕ). AreRounds graph lanes first old xs) (sym same) before)
  rounds_both first (suc second) old mid new before rounds =
      subst (λ (n : ℕ). AreRounds graph lanes n old new) (let e : suc (first + second) ≡ first + suc second = omega arith in e)
      (rounds.0, rounds_both first second old mid rounds.0 before rounds.1, rounds.2)

  pub rounds_more : (count : ℕ) (old mid new : List ℕ) → AreRounds graph lanes count old mid → AreRound graph lanes (length lanes) mid new → AreRounds graph lanes (count + 1) old new
  rounds_more count old mid new before round =
      subst (λ (n : ℕ). AreRounds graph lanes n old new) (let e : suc count ≡ count + 1 = omega arith in e) (mid, before, round)

  pub rounds_next : (since count : ℕ) (old mid new : List ℕ) → since ≤ count → AreRounds graph lanes (count - since) old mid → AreRound graph lanes (length lanes) mid new →
      AreRounds graph lanes (count + 1 - since) old new
  rounds_next since count old mid new before rounds round =
      subst (λ (n : ℕ). AreRounds graph lanes n old new) (let e : count - since + 1 ≡ count + 1 - since = omega (arith, before) in e) (rounds_more (count - since) old mid new rounds round)

  -- fewer repetitions may follow where more may
  pub fewer_along : (lane : Lane) (wcet : ℕ) (past now : List ℕ) (few many k : ℕ) → few ≤ many → RepeatsAlong lane wcet past now many k → RepeatsAlong lane wcet past now few k
  fewer_along lane wcet past now few many k less (inl same) = inl same
  fewer_along lane wcet past now few many k less (inr room) =
      inr (let m = mul-le-mul_right (gain_of past now (link_at lane k).from - gain_of past now (lane.first + k)) less in omega (arith, room, m))

  pub fewer : (count : ℕ) (past now : List ℕ) (few many : ℕ) → few ≤ many → MayRepeat graph lanes count past now many → MayRepeat graph lanes count past now few
  fewer count past now few many less may l lane below stands k inside = fewer_along lane (task_at graph lane.to.0).wcet past now few many k less (may l lane below stands k inside)

  -- one lane more
  pub may_more : (l : ℕ) (lane : Lane) → slice_get lanes l ≡ Some lane → (past now : List ℕ) (few many : ℕ) → few ≤ many → MayRepeat graph lanes l past now many →
      ((k : ℕ) → k < length lane.links → RepeatsAlong lane (task_at graph lane.to.0).wcet past now few k) → MayRepeat graph lanes (l + 1) past now few
  may_more l lane stands past now few many less may here =
      lane_more (λ (x : Lane). (k : ℕ) → k < length x.links → RepeatsAlong x (task_at graph x.to.0).wcet past now few k) lanes l lane stands
      (λ j other below at. fewer l past now few many less may j other below at) here

  module _ (past now : List ℕ) (same : length past ≡ length now) (times : ℕ) (may : MayRepeat graph lanes (length lanes) past now times) where
    -- a round between the two tables, with all dates raised so often
    module _ (old new : List ℕ) (round : AreRound graph lanes (length lanes) old new) (above : (q : ℕ) → slice_index past q ≤ slice_index old q)
        (below : (q : ℕ) → slice_index new q ≤ slice_index now q) (long : length new ≡ length now) where
      old_at : (q : ℕ) → slice_index (raised times past now old) q ≡ slice_index old q + times * gain_of past now q
      old_at = raised_at times past now old (omega (arith, same, long, round.long)) (omega (arith, long, round.long))

      new_at : (q : ℕ) → slice_index (raised times past now new) q ≡ slice_index new q + times * gain_of past now q
      new_at = raised_at times past now new (omega (arith, same, long)) (omega (arith, long))

      asks_along : (lane : Lane) (wcet k : ℕ) → RepeatsAlong lane wcet past now times k → Leaves lane wcet old new k → Leaves lane wcet (raised times past now old) (raised times past now new) k
      asks_along lane wcet k (inl alike) leaves =
          let t : times * gain_of past now (link_at lane k).from ≡ times * gain_of past now (lane.first + k) = ap (λ (x : ℕ). times * x) alike in
          omega (arith, old_at (link_at lane k).from, new_at (lane.first + k), t, leaves)
      asks_along lane wcet k (inr room) leaves =
          let t = times_more times (gain_of past now (link_at lane k).from) (gain_of past now (lane.first + k)) in
          omega (arith, old_at (link_at lane k).from, new_at (lane.first + k), t, room, round.up (link_at lane k).from, below (link_at lane k).from, above (lane.first + k), round.up (lane.first + k))

      meets_along : (lane : Lane) (wcet k : ℕ) → RepeatsAlong lane wcet past now times k → Meets lane wcet old new k →
          (slice_index new (lane.first + k) ≡ slice_index old (lane.first + k)) ⊎ Meets lane wcet (raised times past now old) (raised times past now new) k
      meets_along lane wcet k (inl alike) meets =
          let t : times * gain_of past now (link_at lane k).from ≡ times * gain_of past now (lane.first + k) = ap (λ (x : ℕ). times * x) alike in
          inr (omega (arith, old_at (link_at lane k).from, new_at (lane.first + k), t, meets))
      meets_along lane wcet k (inr room) meets =
          inl (omega (arith, room, meets, round.up (link_at lane k).from, below (link_at lane k).from, above (lane.first + k), round.up (lane.first + k)))

      only : (q : ℕ) → (slice_index (raised times past now new) q ≡ slice_index (raised times past now old) q)
          ⊎ ((l : ℕ) × (lane : Lane) × (slice_get lanes l ≡ Some lane) × (k : ℕ) × (k < length lane.links) × (q ≡ lane.first + k)
          × Meets lane (task_at graph lane.to.0).wcet (raised times past now old) (raised times past now new) k)
      only q =
          elim (round.only q) [
            | inl still ↦ inl (omega (arith, old_at q, new_at q, still))
            | inr by ↦
                elim (meets_along by.1 (task_at graph by.1.to.0).wcet by.3 (may by.0 by.1 (slice_get_within lanes by.0 by.1 by.2) by.2 by.3 by.4) by.6) [
                  | inl still ↦
                      (let s : slice_index new q ≡ slice_index old q = subst (λ (x : ℕ). slice_index new x ≡ slice_index old x) (sym by.5) still in
                      inl (omega (arith, old_at q, new_at q, s)))
                  | inr meets ↦ inr (by.0, by.1, by.2, by.3, by.4, by.5, meets)
                ]
          ]

      pub round_raised : AreRound graph lanes (length lanes) (raised times past now old) (raised times past now new)
      round_raised = record {
        long = raised_long times past now new ∙ round.long ∙ sym (raised_long times past now old);
        up = λ q. omega (arith, old_at q, new_at q, round.up q);
        asks = λ l lane less stands k inside. asks_along lane (task_at graph lane.to.0).wcet k (may l lane less stands k inside) (round.asks l lane less stands k inside);
        only = only;
      }

    -- so are rounds between the two
    pub rounds_raised : (count : ℕ) (mid : List ℕ) → AreRounds graph lanes count past mid → ((q : ℕ) → slice_index mid q ≤ slice_index now q) →
        AreRounds graph lanes count (raised times past now past) (raised times past now mid)
    rounds_raised zero mid is below = ap (λ (xs : List ℕ). raised times past now xs) is
    rounds_raised (suc count) mid rounds below =
        let before : List ℕ = rounds.0 in
        let up = rounds_up count past before rounds.1 in (
          raised times past now before,
          rounds_raised count before rounds.1 (λ q. (let a = rounds.2.up q in let b = below q in omega (arith, a, b))),
          round_raised before mid rounds.2 up.1 below (rounds.2.long ∙ up.0 ∙ same),
        )

    -- what was settled stays so
    pub settled_raised : ((q : ℕ) → slice_index past q ≤ slice_index now q) → (risen : List ℕ) → AreSettled graph lanes risen now → AreSettled graph lanes risen (raised times past now now)
    settled_raised up risen settled = record {
      below = λ x q at. omega (arith, settled.below x q at, raised_long times past now now);
      others = λ l k lane stands inside.
          elim (settled.others l k lane stands inside) [
            | inl at ↦ inl at
            | inr leaves ↦ inr (along lane (task_at graph lane.to.0).wcet k (may l lane (slice_get_within lanes l lane stands) stands k inside) leaves)
          ];
    }
      where
        at_now : (q : ℕ) → slice_index (raised times past now now) q ≡ slice_index now q + times * gain_of past now q
        at_now = raised_at times past now now same refl

        along : (lane : Lane) (wcet k : ℕ) → RepeatsAlong lane wcet past now times k → Leaves lane wcet now now k → Leaves lane wcet (raised times past now now) (raised times past now now) k
        along lane wcet k (inl alike) leaves =
            let t : times * gain_of past now (link_at lane k).from ≡ times * gain_of past now (lane.first + k) = ap (λ (x : ℕ). times * x) alike in
            omega (arith, at_now (link_at lane k).from, at_now (lane.first + k), t, leaves)
        along lane wcet k (inr room) leaves =
            let t = times_more times (gain_of past now (link_at lane k).from) (gain_of past now (lane.first + k)) in
            omega (arith, at_now (link_at lane k).from, at_now (lane.first + k), t, room, up (lane.first + k))

  -- raised once more before, or raised after
  raised_next : (past now : List ℕ) → length past ≡ length now → ((q : ℕ) → slice_index past q ≤ slice_index now q) → (times : ℕ) → raised times past now now ≡ raised (times + 1) past now past
  raised_next past now same up times =
      ext_get_or 0 (raised times past now now) (raised (times + 1) past now past) (raised_long times past now now ∙ sym same ∙ sym (raised_long (times + 1) past now past))
      (λ q below.
      (let a = raised_at times past now now same refl q in
      let b = raised_at (times + 1) past now past refl (sym same) q in
      let s = times_suc times (gain_of past now q) in
      omega (arith, a, b, s, up q)))

  raised_none : (past now : List ℕ) → length past ≡ length now → raised 0 past now now ≡ now
  raised_none past now same =
      ext_get_or 0 (raised 0 past now now) now (raised_long 0 past now now)
      (λ q below.
      (let a = raised_at 0 past now now same refl q in
      let z = times_zero (gain_of past now q) in
      omega (arith, a, z)))

  -- so many repetitions
  pub repeated : (past now : List ℕ) (count : ℕ) → AreRounds graph lanes count past now → (times : ℕ) → MayRepeat graph lanes (length lanes) past now times →
      AreRounds graph lanes (times * count) now (raised times past now now)
  repeated past now count rounds times may = go times (omega arith)
    where
      up : (length now ≡ length past) × ((q : ℕ) → slice_index past q ≤ slice_index now q)
      up = rounds_up count past now rounds

      go : (n : ℕ) → n ≤ times → AreRounds graph lanes (n * count) now (raised n past now now)
      go zero less = subst (λ (n : ℕ). AreRounds graph lanes n now (raised 0 past now now)) (let e : 0 ≡ 0 * count = omega arith in e) (raised_none past now (sym up.0))
      go (suc n) less =
          let one : AreRounds graph lanes count (raised (n + 1) past now past) (raised (n + 1) past now now) =
          rounds_raised past now (sym up.0) (n + 1) (fewer (length lanes) past now (n + 1) times (omega (arith, less)) may) count now rounds (λ q. omega arith) in
          let next : AreRounds graph lanes count (raised n past now now) (raised (n + 1) past now now) =
          subst (λ (xs : List ℕ). AreRounds graph lanes count xs (raised (n + 1) past now now)) (sym (raised_next past now (sym up.0) up.1 n)) one in
          let more = go n (omega (arith, less)) in
          let all : AreRounds graph lanes (n * count + count) now (raised (n + 1) past now now) = rounds_both (n * count) count now (raised n past now now) (raised (n + 1) past now now) more next in
          subst (λ (x : ℕ). AreRounds graph lanes x now (raised (suc n) past now now)) (let e : n * count + count ≡ suc n * count = omega arith in e)
          (subst (λ (x : ℕ). AreRounds graph lanes (n * count + count) now (raised x past now now)) (let e : n + 1 ≡ suc n = omega arith in e) all)

  -- a table that has these dates is the raised one
  pub raised_is : (past now later : List ℕ) (times : ℕ) → length past ≡ length now → length later ≡ length now →
      ((q : ℕ) → slice_index later q ≡ slice_index now q + times * gain_of past now q) → later ≡ raised times past now now
  raised_is past now later times same long each =
      ext_get_or 0 later (raised times past now now) (long ∙ sym (raised_long times past now now)) (λ q below. each q ∙ sym (raised_at times past now now same refl q))

  -- bests over longer chains, round by round
  module _ (good : IsWellFormed graph) (are : AreLanes graph lanes) where
    pub bests_after : (count done : ℕ) (old new : List ℕ) → AreBests graph done (dates_of graph old) → AreRounds graph lanes count old new → AreBests graph (done + count) (dates_of graph new)
    bests_after zero done old new bests same =
        subst (λ (n : ℕ). AreBests graph n (dates_of graph new)) (let e : done ≡ done + 0 = omega arith in e) (subst (λ (xs : List ℕ). AreBests graph done (dates_of graph xs)) (sym same) bests)
    bests_after (suc count) done old new bests rounds =
        let before : AreBests graph (done + count) (dates_of graph rounds.0) = bests_after count done old rounds.0 bests rounds.1 in
        subst (λ (n : ℕ). AreBests graph n (dates_of graph new)) (let e : done + count + 1 ≡ done + suc count = omega arith in e)
        (next_bests graph good (done + count) (dates_of graph rounds.0) (dates_of graph new) before (round_of_tables graph good lanes are rounds.0 new rounds.2 before.rises))

    pub within_after : (count done : ℕ) (old new : List ℕ) → AreWithin old ((done + 1) * 2 ^ 31) → AreRounds graph lanes count old new → AreWithin new ((done + count + 1) * 2 ^ 31)
    within_after zero done old new within same q = (let e = ap (λ (xs : List ℕ). slice_index xs q) same in let w = within q in omega (arith, e, w))
    within_after (suc count) done old new within rounds q =
        (let before = within_after count done old rounds.0 within rounds.1 in
        let w = next_within graph good lanes are.each rounds.0 new rounds.2 ((done + count + 1) * 2 ^ 31) before q in
        omega (arith, w))

    pub bests_more : (done : ℕ) (old new : List ℕ) → AreBests graph done (dates_of graph old) → AreRound graph lanes (length lanes) old new → AreBests graph (done + 1) (dates_of graph new)
    bests_more done old new bests round = next_bests graph good done (dates_of graph old) (dates_of graph new) bests (round_of_tables graph good lanes are old new round bests.rises)

    pub within_more : (done : ℕ) (old new : List ℕ) → AreWithin old ((done + 1) * 2 ^ 31) → AreRound graph lanes (length lanes) old new → AreWithin new ((done + 1 + 1) * 2 ^ 31)
    within_more done old new within round q = (let w = next_within graph good lanes are.each old new round ((done + 1) * 2 ^ 31) within q in omega (arith, w))
