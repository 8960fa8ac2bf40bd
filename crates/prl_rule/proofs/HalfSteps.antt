-- Loads and stores of halves keep the rule.
use Rattle.std.proofs.Common.{◌≡◌, ℕ, zero, suc, ◌+◌, ◌/◌, ◌%◌, ◌^◌, ◌<◌, ◌≤◌, List, [], ◌∷◌, ◌++◌, length, get_or, set, take, refl, sym, ap, ◌∙◌, subst, inr, arith, length-set, append-nil, get_or-set_other, get_or-set_same, Bool, true, cond, eqb, eq-eqb, ne_eqb, Some}
use Rattle.std.proofs.Math.Nat.{mod-lt}
use mathlib.Core.Option.{some}
use mathlib.Core.Logic.{dite}
use native.Mathlib.Decide.{ℕ_discrete}
use lib.ListN.{get_elem?}
use Rattle.prl_base.specs.Values.{type_of, FitsValue}
use Rattle.prl_base.specs.declared.numbers.EdgeNo.{EdgeNo}
use Rattle.prl_base.specs.declared.values.Value.{Value}
use Rattle.prl_plan.specs.Vocabulary.{low, high, completes, operands_before, RunConstants, ExecState, action_at, IsJob, ReadsAt, WritesAt, IsTagged}
use Rattle.prl_plan.specs.declared.events.Action.{Action}
use Rattle.prl_plan.specs.declared.events.Event.{Event}
use Rattle.prl_plan.specs.declared.events.Action.TheVariants as actions
use Rattle.prl_plan.specs.declared.events.Event.TheVariants as events
use Rattle.prl_rule.specs.Vocabulary.{Constants, TaskPart, View, bits_of, low_half, high_half, value_of_halves, RunValues, half_with, half_of, word_of, done_word, slot_word, stop_word, Witness, Shows}
use Rattle.prl_rule.specs.Vocabulary.{AgreesTask, IsStop, AgreesWith, reached, with_part, taken, values_with, half_taken, half_missed, half_loaded, half_stored, PlanLaws}
use Rattle.prl_rule.specs.declared.views.Gate.TheVariants as gates
use Rattle.prl_rule.proofs.Exact.{unpacked, whole_again}
use Rattle.prl_rule.proofs.ValueSteps.{grows_by_none, grows_by_one, values_move}
use Rattle.prl_rule.proofs.Reading.{before_high, write_no_read, write_no_high, same_read, not_raised}
use Rattle.prl_rule.proofs.Keeps.{keeps_state, view_with, next_of, moves_keep}
use Rattle.prl_rule.proofs.Catching.{shows_elsewhere}

pub half_small : (v : RunValues) (slot m : ℕ) → half_of v slot m < 2 ^ 32
half_small v slot m = go (v.stored (slot / 2) m) (slot % 2)
  where
    go : (value : Value) (h : ℕ) → half_with value h < 2 ^ 32
    go value zero = mod-lt (bits_of value) (omega arith)
    go value (suc h) = mod-lt (bits_of value / 2 ^ 32) (omega arith)

-- the tag and the half of a word
pub word_tag : (v : RunValues) (h tag : ℕ) → word_of v h tag / 2 ^ 32 ≡ tag
word_tag v h zero = refl
word_tag v h (suc m) = (unpacked (suc m) (half_of v h m) (half_small v h m)).0

pub word_half : (v : RunValues) (h m : ℕ) → word_of v h (suc m) % 2 ^ 32 ≡ half_of v h m
word_half v h m = (unpacked (suc m) (half_of v h m) (half_small v h m)).1

-- the low half of a cell, and a high half
pub half_of_low : (v : RunValues) (cell m : ℕ) → half_of v (low cell) m ≡ low_half (v.stored cell m)
half_of_low v cell m =
    let same : low cell / 2 ≡ cell = omega arith in let even : low cell % 2 ≡ 0 = omega arith in
    (λ h. half_with (v.stored (same h) m) (even h))

pub half_of_high : (v : RunValues) (slot m : ℕ) → slot % 2 ≡ 1 → half_of v slot m ≡ high_half (v.stored (slot / 2) m)
half_of_high v slot m odd = ap (half_with (v.stored (slot / 2) m)) odd

module _ (k : Constants) (c : RunConstants) (v : RunValues) where
  -- the words after a store in a half
  half_shows : (raised : ℕ → Bool) (s : ExecState) (words places : List ℕ) (h m : ℕ) → length s.tags ≡ c.slots → h < c.slots → FitsValue (v.stored (h / 2) m) → Shows c v raised s words →
      Shows c v raised (record { now = s.now; ended = s.ended; places = places; tags = set s.tags h (m + 1) }) (set words (slot_word c h) (word_of v h (m + 1)))
  half_shows raised s words places h m long inside fits a = record {
    wide = length-set words (slot_word c h) (word_of v h (m + 1)) ∙ a.wide;
    now = get_or-set_other words (slot_word c h) 0 (word_of v h (m + 1)) 0 (λ e. absurd (omega (arith, e))) ∙ a.now;
    done = λ i t. get_or-set_other words (slot_word c h) (done_word i) (word_of v h (m + 1)) 0 (λ e. absurd (omega (arith, e, t))) ∙ a.done i t;
    slot = λ j t. let wide = a.wide in dite (ℕ_discrete j h)
        (λ e. let here : get_or (set words (slot_word c h) (word_of v h (m + 1))) (slot_word c h) 0 ≡ word_of v h (m + 1) = get_or-set_same words (slot_word c h) (word_of v h (m + 1)) 0 (omega (arith, wide, inside)) in
        let there : get_or (set s.tags h (m + 1)) h 0 ≡ m + 1 = get_or-set_same s.tags h (m + 1) 0 (omega (arith, long, inside)) in
        let P : ℕ → Type 0 = λ z. get_or (set words (slot_word c h) (word_of v h (m + 1))) (slot_word c z) 0 ≡ word_of v z (get_or (set s.tags h (m + 1)) z 0) in
        subst P (sym e) (here ∙ ap (word_of v h) (sym there)))
        (λ ne. get_or-set_other words (slot_word c h) (slot_word c j) (word_of v h (m + 1)) 0 (λ e. ne (omega (arith, e))) ∙ (a.slot j t ∙ ap (word_of v j) (sym (get_or-set_other s.tags h j (m + 1) 0 ne))));
    fits = λ j n t tag. dite (ℕ_discrete j h)
        (λ e. let there : get_or (set s.tags h (m + 1)) j 0 ≡ m + 1 = ap (λ (z : ℕ). get_or (set s.tags h (m + 1)) z 0) e ∙ get_or-set_same s.tags h (m + 1) 0 (omega (arith, long, inside)) in
        let same : m ≡ n = omega (arith, there, tag) in
        let P : ℕ × ℕ → Type 0 = λ z. FitsValue (v.stored (z.0 / 2) z.1) in subst P (λ x. (sym e x, same x)) fits)
        (λ ne. a.fits j n t (sym (get_or-set_other s.tags h j (m + 1) 0 ne) ∙ tag));
    stop = subst (λ (z : ℕ). IsStop c.tasks raised z) (sym (get_or-set_other words (slot_word c h) (stop_word c) (word_of v h (m + 1)) 0 (λ e. absurd (omega (arith, e, inside))))) a.stop;
  }

  pub store_half_keeps : PlanLaws → (w : Witness) (es : List Event) (words : List ℕ) (views : List View) (id i : ℕ) (e : EdgeNo) (m h : ℕ) (u : View) (p : TaskPart) → AgreesWith k c v w es words views →
      get_elem? views id ≡ some u → get_elem? u.tasks i ≡ some (Some p) → p.stand.is_open ≡ true → action_at c i p.stand.ended p.stand.place ≡ actions.Write e m (record { 0 = h }) →
      FitsValue (v.stored (h / 2) m) →
      AgreesWith k c v w (es ++ events.Act (record { 0 = i }) ∷ []) (set words (slot_word c h) (word_of v h (m + 1))) (set views id (with_part i (half_stored c v i p) u))
  store_half_keeps laws w es words views id i e m h u p a at has opened is fits =
      let part : AgreesTask c v w.raised (reached c es) i p = ((a.each_view id u at).task i p has).2 in
      let job : IsJob c i p.stand.ended = record { task = part.stand.task; job = part.stand.job opened } in
      let writes : WritesAt c i p.stand.ended p.stand.place m h = record { job = job; action = (e, is) } in
      let inside : h < c.slots = a.facts.write_cell i p.stand.ended p.stand.place m h writes in
      let tags : IsTagged c (reached c es) = laws.tagged c a.facts es a.free in
      let long : length (reached c es).tags ≡ c.slots = tags.tags in
      let stands : get_or (reached c es).tags h 0 ≤ m = tags.ahead i p.stand.ended p.stand.place m h writes (inr (part.stand.ended, (let q = part.stand.place in omega (arith, q)))) in
      let grows : (j : ℕ) → get_or (reached c es).tags j 0 ≤ get_or (set (reached c es).tags h (m + 1)) j 0 =
      λ j. dite (ℕ_discrete j h)
      (λ same. let new : get_or (set (reached c es).tags h (m + 1)) h 0 ≡ m + 1 = get_or-set_same (reached c es).tags h (m + 1) 0 (omega (arith, long, inside)) in
      subst (λ (z : ℕ). get_or (reached c es).tags z 0 ≤ get_or (set (reached c es).tags h (m + 1)) z 0) (sym same) (omega (arith, new, stands)))
      (λ ne. let old = get_or-set_other (reached c es).tags h j (m + 1) 0 ne in omega (arith, old)) in
      let calm : p.stop.raised ≡ true → ⊥ = λ r. let o = part.stop.overrun r in
      write_no_read e m (record { 0 = h }) o.port o.edge o.instance (record { 0 = p.kept.slot }) (sym is ∙ o.reads) in
      moves_keep k c v laws w es words (set words (slot_word c h) (word_of v h (m + 1))) views id i u p p.kept
      (values_with v i p.stand (taken v (action_at c i p.stand.ended p.stand.place) p.kept.low 0) p.values) p.loads
      (actions.Write e m (record { 0 = h })) (set (reached c es).tags h (m + 1)) a at has opened is refl tt grows
      (half_shows w.raised (reached c es) words (set (reached c es).places i (get_or (reached c es).places i 0 + 1)) h m long inside fits a.shows)
      (not_raised p.stop.raised calm)
      (record {
        tag = (let o = part.kept.tag in let g = grows p.kept.slot in omega (arith, o, g));
        half_read = λ port e' m' cell o reads. absurd (write_no_high c a.facts i p.stand.ended job p.stand.place e m (record { 0 = h }) is port e' m' cell reads);
      })
      (values_move c v a.values i p.stand p.values (taken v (action_at c i p.stand.ended p.stand.place) p.kept.low 0) part.values job
      (subst (λ (x : Action). p.values.operands ++ taken v x p.kept.low 0 ≡ take (operands_before (c.actions i p.stand.ended) (p.stand.place + 1)) (v.operands i p.stand.ended)) (sym is)
      (grows_by_none c i p.stand (v.operands i p.stand.ended) p.values.operands part.values.operands (ap (λ (x : Action). completes x) is))))

  -- which tag the loaded word has is which tag the state has
  pub loaded_tag : (w : Witness) (es : List Event) (words : List ℕ) (views : List View) (h : ℕ) → AgreesWith k c v w es words views → h < c.slots →
      get_or words (slot_word c h) 0 / 2 ^ 32 ≡ get_or (reached c es).tags h 0
  loaded_tag w es words views h a inside =
      ap (λ (z : ℕ). z / 2 ^ 32) (a.shows.slot h inside) ∙ word_tag v h (get_or (reached c es).tags h 0)

  pub found_loaded : (w : Witness) (es : List Event) (words : List ℕ) (views : List View) (h : ℕ) → AgreesWith k c v w es words views → h < c.slots →
      get_or words (slot_word c h) 0 ≡ word_of v h (get_or words (slot_word c h) 0 / 2 ^ 32)
  found_loaded w es words views h a inside = a.shows.slot h inside ∙ ap (word_of v h) (sym (loaded_tag w es words views h a inside))

  -- with the wanted tag it is that half of that instance, and the instance has 64 bits
  pub half_of_loaded : (w : Witness) (es : List Event) (words : List ℕ) (views : List View) (h m : ℕ) → AgreesWith k c v w es words views → h < c.slots →
      get_or words (slot_word c h) 0 / 2 ^ 32 ≡ m + 1 → get_or words (slot_word c h) 0 % 2 ^ 32 ≡ half_of v h m
  half_of_loaded w es words views h m a inside tag =
      ap (λ (z : ℕ). z % 2 ^ 32) (found_loaded w es words views h a inside ∙ ap (word_of v h) (tag ∙ (let e : m + 1 ≡ suc m = omega arith in e))) ∙ word_half v h m

  pub fits_loaded : (w : Witness) (es : List Event) (words : List ℕ) (views : List View) (h m : ℕ) → AgreesWith k c v w es words views → h < c.slots →
      get_or words (slot_word c h) 0 / 2 ^ 32 ≡ m + 1 → FitsValue (v.stored (h / 2) m)
  fits_loaded w es words views h m a inside tag = a.shows.fits h m inside (sym (loaded_tag w es words views h a inside) ∙ tag)

  -- on a gated board no later tag is found
  pub no_later_loaded : PlanLaws → (w : Witness) (es : List Event) (words : List ℕ) (views : List View) (id i port : ℕ) (e : EdgeNo) (m h : ℕ) (u : View) (p : TaskPart) → AgreesWith k c v w es words views →
      k.gate ≡ gates.Gated → get_elem? views id ≡ some u → get_elem? u.tasks i ≡ some (Some p) → p.stand.is_open ≡ true → action_at c i p.stand.ended p.stand.place ≡ actions.Read port e m (record { 0 = h }) →
      get_or words (slot_word c h) 0 / 2 ^ 32 ≤ m + 1
  no_later_loaded laws w es words views id i port e m h u p a gate at has opened is =
      let part : AgreesTask c v w.raised (reached c es) i p = ((a.each_view id u at).task i p has).2 in
      let next = next_of k c v (reached c es) i p.stand (actions.Read port e m (record { 0 = h })) part.stand opened is in
      let reads : ReadsAt c i (get_or (reached c es).ended i 0) (get_or (reached c es).places i 0) m h =
      record { job = record { task = next.has.task; job = next.has.job }; action = (port, e, next.is) } in
      omega (arith, laws.held c a.facts es (a.gated gate) i _ _ m h reads next.has, loaded_tag w es words views h a (a.facts.read_cell i _ _ m h reads))

  -- a part that has raised finds a later tag again
  raised_later : (w : Witness) (es : List Event) (words : List ℕ) (views : List View) (id i port : ℕ) (e : EdgeNo) (m h : ℕ) (u : View) (p : TaskPart) → AgreesWith k c v w es words views →
      get_elem? views id ≡ some u → get_elem? u.tasks i ≡ some (Some p) → action_at c i p.stand.ended p.stand.place ≡ actions.Read port e m (record { 0 = h }) → h < c.slots → p.stop.raised ≡ true →
      m + 1 < get_or words (slot_word c h) 0 / 2 ^ 32
  raised_later w es words views id i port e m h u p a at has is inside r =
      let part : AgreesTask c v w.raised (reached c es) i p = ((a.each_view id u at).task i p has).2 in
      let o = part.stop.overrun r in
      let same = same_read port e m h o.port o.edge o.instance p.kept.slot (sym is ∙ o.reads) in
      let kept : p.kept.word / 2 ^ 32 ≤ get_or (reached c es).tags h 0 = subst (λ (z : ℕ). p.kept.word / 2 ^ 32 ≤ get_or (reached c es).tags z 0) (sym same.1) part.kept.tag in
      let later = o.later in let one : m ≡ o.instance = same.0 in
      omega (arith, later, one, kept, loaded_tag w es words views h a inside)

  -- with the wanted tag, a high half completes the instance
  pub value_loaded : (w : Witness) (es : List Event) (words : List ℕ) (views : List View) (i port : ℕ) (e : EdgeNo) (m h : ℕ) (p : TaskPart) → AgreesWith k c v w es words views →
      AgreesTask c v w.raised (reached c es) i p → p.stand.is_open ≡ true → action_at c i p.stand.ended p.stand.place ≡ actions.Read port e m (record { 0 = h }) → h < c.slots →
      get_or words (slot_word c h) 0 / 2 ^ 32 ≡ m + 1 → h % 2 ≡ 1 →
      value_of_halves (v.types e.0) p.kept.low (get_or words (slot_word c h) 0 % 2 ^ 32) ≡ v.stored (h / 2) m
  value_loaded w es words views i port e m h p a part opened is inside tag odd =
      let job : IsJob c i p.stand.ended = record { task = part.stand.task; job = part.stand.job opened } in
      let cell : h ≡ high (h / 2) = omega (arith, odd) in
      let at_high : action_at c i p.stand.ended p.stand.place ≡ actions.Read port e m (record { 0 = high (h / 2) }) = is ∙ ap (λ (x : ℕ). actions.Read port e m (record { 0 = x })) cell in
      let low_is : p.kept.low ≡ low_half (v.stored (h / 2) m) = part.kept.half_read port e m (h / 2) opened at_high ∙ half_of_low v (h / 2) m in
      let high_is : get_or words (slot_word c h) 0 % 2 ^ 32 ≡ high_half (v.stored (h / 2) m) = half_of_loaded w es words views h m a inside tag ∙ half_of_high v h m odd in
      let type_is : v.types e.0 ≡ type_of (v.stored (h / 2) m) = sym (a.values.typed i p.stand.ended p.stand.place port e m (record { 0 = h }) job is) in
      (λ x. value_of_halves (type_is x) (low_is x) (high_is x)) ∙ whole_again (v.stored (h / 2) m) (fits_loaded w es words views h m a inside tag)

  -- the operand that a read with the wanted tag completes
  operand_grows : (w : Witness) (es : List Event) (words : List ℕ) (views : List View) (i port : ℕ) (e : EdgeNo) (m h : ℕ) (p : TaskPart) → AgreesWith k c v w es words views →
      AgreesTask c v w.raised (reached c es) i p → p.stand.is_open ≡ true → action_at c i p.stand.ended p.stand.place ≡ actions.Read port e m (record { 0 = h }) → h < c.slots →
      get_or words (slot_word c h) 0 / 2 ^ 32 ≡ m + 1 →
      p.values.operands ++ taken v (actions.Read port e m (record { 0 = h })) p.kept.low (get_or words (slot_word c h) 0 % 2 ^ 32)
      ≡ take (operands_before (c.actions i p.stand.ended) (p.stand.place + 1)) (v.operands i p.stand.ended)
  operand_grows w es words views i port e m h p a part opened is inside tag =
      let job : IsJob c i p.stand.ended = record { task = part.stand.task; job = part.stand.job opened } in
      let P : Bool → Type 0 = λ b. p.values.operands ++ cond b (value_of_halves (v.types e.0) p.kept.low (get_or words (slot_word c h) 0 % 2 ^ 32) ∷ []) []
      ≡ take (operands_before (c.actions i p.stand.ended) (p.stand.place + 1)) (v.operands i p.stand.ended) in
      dite (ℕ_discrete (h % 2) 1)
      (λ odd. subst P (sym (eq-eqb (h % 2) 1 odd))
      (ap (λ (x : Value). p.values.operands ++ x ∷ []) (value_loaded w es words views i port e m h p a part opened is inside tag odd)
      ∙ grows_by_one c i p.stand (v.operands i p.stand.ended) p.values.operands (v.stored (h / 2) m) part.values.operands (ap (λ (x : Action). completes x) is ∙ odd)
      (a.values.operand i p.stand.ended p.stand.place port e m (record { 0 = h }) job is odd)))
      (λ even. subst P (sym (ne_eqb (h % 2) 1 even))
      (grows_by_none c i p.stand (v.operands i p.stand.ended) p.values.operands part.values.operands
      (ap (λ (x : Action). completes x) is ∙ (let less = mod-lt h {m = 2} (omega arith) in omega (arith, even, less)))))

  pub load_half_keeps : PlanLaws → (w : Witness) (es : List Event) (words : List ℕ) (views : List View) (id i port : ℕ) (e : EdgeNo) (m h : ℕ) (u : View) (p : TaskPart) → AgreesWith k c v w es words views →
      get_elem? views id ≡ some u → get_elem? u.tasks i ≡ some (Some p) → p.stand.is_open ≡ true → action_at c i p.stand.ended p.stand.place ≡ actions.Read port e m (record { 0 = h }) →
      AgreesWith k c v w (es ++ (cond (eqb (get_or words (slot_word c h) 0 / 2 ^ 32) (m + 1)) (events.Act (record { 0 = i }) ∷ []) [])) words
      (set views id (with_part i (half_loaded c v i h (m + 1) (get_or words (slot_word c h) 0) p) u))
  load_half_keeps laws w es words views id i port e m h u p a at has opened is =
      let mine = a.each_view id u at in
      let part : AgreesTask c v w.raised (reached c es) i p = (mine.task i p has).2 in
      let job : IsJob c i p.stand.ended = record { task = part.stand.task; job = part.stand.job opened } in
      let reads : ReadsAt c i p.stand.ended p.stand.place m h = record { job = job; action = (port, e, is) } in
      let inside : h < c.slots = a.facts.read_cell i p.stand.ended p.stand.place m h reads in
      let tag = loaded_tag w es words views h a inside in
      let P : Bool → Type 0 = λ b. AgreesWith k c v w (es ++ (cond b (events.Act (record { 0 = i }) ∷ []) [])) words
      (set views id (with_part i (cond b (half_taken c v i h (get_or words (slot_word c h) 0) p) (half_missed h (get_or words (slot_word c h) 0) p)) u)) in
      dite (ℕ_discrete (get_or words (slot_word c h) 0 / 2 ^ 32) (m + 1))
      (λ f. subst P (sym (eq-eqb (get_or words (slot_word c h) 0 / 2 ^ 32) (m + 1) f))
      (let calm : p.stop.raised ≡ true → ⊥ = λ r. let l = raised_later w es words views id i port e m h u p a at has is inside r in omega (arith, l, f) in
      moves_keep k c v laws w es words words views id i u p (record { word = get_or words (slot_word c h) 0; slot = h; low = get_or words (slot_word c h) 0 % 2 ^ 32 })
      (values_with v i p.stand (taken v (action_at c i p.stand.ended p.stand.place) p.kept.low (get_or words (slot_word c h) 0 % 2 ^ 32)) p.values) (p.loads + 1)
      (actions.Read port e m (record { 0 = h })) (reached c es).tags a at has opened is refl (sym tag ∙ f) (λ j. omega arith)
      (shows_elsewhere k c v w.raised (reached c es) words (set (reached c es).places i (get_or (reached c es).places i 0 + 1)) a.shows)
      (not_raised p.stop.raised calm)
      (record {
        tag = omega (arith, tag);
        half_read = λ port' e' m' cell o next.
            let same = same_read port e m h port' e' m' (low cell) (sym is ∙ before_high c a.facts i p.stand.ended job p.stand.place port' e' m' cell next) in
            half_of_loaded w es words views h m a inside f ∙ (λ t. half_of v (same.1 t) (same.0 t));
      })
      (values_move c v a.values i p.stand p.values (taken v (action_at c i p.stand.ended p.stand.place) p.kept.low (get_or words (slot_word c h) 0 % 2 ^ 32)) part.values job
      (subst (λ (x : Action). p.values.operands ++ taken v x p.kept.low (get_or words (slot_word c h) 0 % 2 ^ 32)
      ≡ take (operands_before (c.actions i p.stand.ended) (p.stand.place + 1)) (v.operands i p.stand.ended)) (sym is)
      (operand_grows w es words views i port e m h p a part opened is inside f)))))
      (λ ne. subst P (sym (ne_eqb (get_or words (slot_word c h) 0 / 2 ^ 32) (m + 1) ne))
      (subst (λ (fs : List Event). AgreesWith k c v w fs words (set views id (with_part i (half_missed h (get_or words (slot_word c h) 0) p) u))) (sym (append-nil es))
      (keeps_state k c v w w es words words views id (with_part i (half_missed h (get_or words (slot_word c h) 0) p) u) a a.calm a.shows
      (view_with k c v w w (reached c es) (reached c es) id i u p (half_missed h (get_or words (slot_word c h) 0) p) mine has (λ j. refl) refl (λ j r q x. x) (λ r x. x)
      (record {
        stand = part.stand;
        kept = record { tag = omega (arith, tag); half_read = part.kept.half_read };
        values = part.values;
        stop = record {
          same = part.stop.same;
          overrun = λ r. record { opened = opened; port = port; edge = e; instance = m; reads = is; later = raised_later w es words views id i port e m h u p a at has is inside r };
          told = part.stop.told;
        };
      }))
      (λ j x q y. y))))
