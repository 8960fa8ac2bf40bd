-- The behaviours of a program are the solutions of the flat program of its expansion.
use Rattle.prl_base.proofs.Standard.{◌≡◌, ◌+◌, ℕ, List, [], ◌∷◌, ◌++◌, map, length, Option, refl, sym, ap, ◌∙◌, subst, AllByRecursion, range_with_len, length-map}
use Rattle.prl_ast.specs.Trees.{ProgramTree}
use Rattle.prl_base.specs.declared.values.Ty.{Ty}
use Rattle.prl_body.specs.declared.bodies.CheckedBody.{CheckedBody}
use Rattle.prl_flow.specs.Vocabulary.{FlatProgram, Rows, Rule, mark_rule, flows_rules, app_rule, apps_rules, flat_rules, Timed, State, IsTimed, Holds, IsSolution, flow_at, registers_at}
use Rattle.prl_flow.specs.declared.programs.App.{App}
use Rattle.prl_names.proofs.Right.{named}
use Rattle.prl_types.specs.Typing.{IsTyped}
use Rattle.prl_causal.specs.Vocabulary.{flows_in, imports_in, inputs_of, program_rules, sensed_rules, entered_rules, Behaviour, Satisfies, behaviour_of, state_in}
use Rattle.prl_causal.proofs.Marks.{program-map}
use Rattle.prl_causal.proofs.Shapes.{one_behaviour}
use Rattle.prl_causal.proofs.States.{made, own, flow_places, import_places}
use Rattle.prl_expand.specs.Vocabulary.{IsOneToOne, Expansion, IsExpansion, Numbered, all_numbered, entered_apps, flat_of, sensors_from}
use Rattle.prl_expand.proofs.FlatRules.{sensors_count, Tells, numbered_rules, zipped_rules, entered_tells, definitions_sensors}
use Rattle.prl_expand.proofs.Lists.{head_same, tail_same, to_mapped, of_mapped, all_both, all_first, all_second}
use Rattle.prl_expand.proofs.Numbers.{entered_numbered, numbers_of}
use Rattle.prl_expand.proofs.Sound.{IsSound, sound_from}

-- flows in order of their numbers
flows_rules_are : (k : ℕ) (fs : List Numbered) → numbers_of fs ≡ range_with_len k (length fs) → flows_rules k (map (λ (f : Numbered). f.1) fs) ≡ numbered_rules fs
flows_rules_are k [] e = refl
flows_rules_are k (f ∷ fs) e =
    let here : f.0 ≡ k = head_same f.0 k (numbers_of fs) (range_with_len (k + 1) (length fs)) e in
    rw (flows_rules_are (k + 1) fs (tail_same f.0 k (numbers_of fs) (range_with_len (k + 1) (length fs)) e), here) refl

apps_rules_are : (k : ℕ) (us : List App) → apps_rules k us ≡ zipped_rules (range_with_len k (length us)) us
apps_rules_are k [] = refl
apps_rules_are k (a ∷ us) = ap (λ rs. app_rule k a ∷ rs) (apps_rules_are (k + 1) us)

module _ (p : ProgramTree) (asked : Option (List ℕ)) (main : ℕ) (tys : List Ty) (e : Expansion) (typed : IsTyped p asked main tys) (expansion : IsExpansion p main e) where
  sound : IsSound p
  sound = sound_from p (named p asked main typed.names).nodes typed.arity

  abbrev numbered : List Numbered
  numbered = all_numbered p tys main e

  abbrev flat : FlatProgram
  flat = flat_of p tys main e

  sources_count : length (sensors_from 0 (inputs_of e)) ≡ length (inputs_of e)
  sources_count = sensors_count 0 (inputs_of e)

  numbers_are : numbers_of numbered ≡ flows_in e
  numbers_are = entered_numbered p tys sound [] main (sensors_from 0 (inputs_of e)) e expansion.text sources_count

  flow_count : length flat.flows ≡ length (flows_in e)
  flow_count = length-map numbered (λ (f : Numbered). f.1) ∙ sym (length-map numbered (λ (f : Numbered). f.0)) ∙ ap length numbers_are

  numbered_count : length numbered ≡ length (flows_in e)
  numbered_count = sym (length-map numbered (λ (f : Numbered). f.0)) ∙ ap length numbers_are

  tells : (P : Rule ℕ ℕ → Type 0) → Tells P numbered (imports_in e) (entered_apps p main e) (sensed_rules 0 (inputs_of e) ++ entered_rules p main e)
  tells P =
      entered_tells P p tys sound [] main (sensors_from 0 (inputs_of e)) (sensed_rules 0 (inputs_of e)) e expansion.text sources_count (definitions_sensors 0 (inputs_of e))

  app_count : length (imports_in e) ≡ length (entered_apps p main e)
  app_count = (tells (λ r. Unit {0})).count

  flat_are : flat_rules flat ≡ numbered_rules numbered ++ zipped_rules (imports_in e) (entered_apps p main e)
  flat_are =
      let apps : range_with_len 0 (length (entered_apps p main e)) ≡ imports_in e = ap (range_with_len 0) (sym app_count) ∙ sym expansion.imports in
      rw (flows_rules_are 0 numbered (numbers_are ∙ expansion.flows ∙ ap (range_with_len 0) (sym numbered_count)), apps_rules_are 0 (entered_apps p main e), apps) refl

  module _ (bodies : List CheckedBody) (rows : Rows) (until : ℕ) where
    abbrev Held : State → Rule ℕ ℕ → Type 0
    Held s r = Holds bodies rows until (mark_rule (flow_at s) (registers_at s) r)

    -- the rules of the program hold of a state exactly where those of the flat program do
    to_flat : (s : State) → AllByRecursion (Holds bodies rows until) (program_rules p main (behaviour_of s e))
        → AllByRecursion (Holds bodies rows until) (map (mark_rule (flow_at s) (registers_at s)) (flat_rules flat))
    to_flat s h =
        let marked = subst (λ rs. AllByRecursion (Holds bodies rows until) rs) (program-map (flow_at s) (registers_at s) (λ k. tt {0}) p main e) h in
        let rules = of_mapped (Holds bodies rows until) (mark_rule (flow_at s) (registers_at s)) (program_rules p main e) marked in
        to_mapped (Holds bodies rows until) (mark_rule (flow_at s) (registers_at s)) (flat_rules flat)
        (subst (λ rs. AllByRecursion (Held s) rs) (sym flat_are)
        (all_both (Held s) (numbered_rules numbered) (zipped_rules (imports_in e) (entered_apps p main e)) ((tells (Held s)).flows rules) ((tells (Held s)).apps rules)))

    from_flat : (s : State) → AllByRecursion (Holds bodies rows until) (map (mark_rule (flow_at s) (registers_at s)) (flat_rules flat))
        → AllByRecursion (Holds bodies rows until) (program_rules p main (behaviour_of s e))
    from_flat s h =
        let rules = subst (λ rs. AllByRecursion (Held s) rs) flat_are (of_mapped (Holds bodies rows until) (mark_rule (flow_at s) (registers_at s)) (flat_rules flat) h) in
        let asked_rules = (tells (Held s)).to (all_first (Held s) (numbered_rules numbered) (zipped_rules (imports_in e) (entered_apps p main e)) rules)
        (all_second (Held s) (numbered_rules numbered) (zipped_rules (imports_in e) (entered_apps p main e)) rules) in
        subst (λ rs. AllByRecursion (Holds bodies rows until) rs) (sym (program-map (flow_at s) (registers_at s) (λ k. tt {0}) p main e))
        (to_mapped (Holds bodies rows until) (mark_rule (flow_at s) (registers_at s)) (program_rules p main e) asked_rules)

    into : (b : Behaviour) → Satisfies p main bodies rows until b → IsSolution flat bodies rows until (state_in b)
    into b h =
        let s = state_in b in
        let same : behaviour_of s e ≡ b = own p main e b expansion.text h.text expansion.flows expansion.imports in
        record {
          flow_count = sym (flow_places p main e b expansion.text h.text) ∙ sym flow_count;
          register_count = sym (import_places p main e b expansion.text h.text) ∙ app_count;
          timed = h.timed;
          rules = to_flat s (subst (λ (c : Behaviour). AllByRecursion (Holds bodies rows until) (program_rules p main c)) (sym same) h.rules);
        }

    onto : (s : State) → IsSolution flat bodies rows until s → (b : Behaviour) × Satisfies p main bodies rows until b × (state_in b ≡ s)
    onto s h =
        let b = behaviour_of s e in
        let imports : imports_in e ≡ range_with_len 0 (length s.registers) = expansion.imports ∙ ap (range_with_len 0) (app_count ∙ sym h.register_count) in
        let of = made p main e s expansion.text (expansion.flows ∙ ap (range_with_len 0) (sym flow_count ∙ sym h.flow_count)) imports in
        let own_flows : flows_in b ≡ s.flows = ap (λ (x : State). x.flows) of.1 in
        (b, record { text = of.0; timed = subst (λ (fs : List Timed). AllByRecursion (IsTimed until) fs) (sym own_flows) h.timed; rules = from_flat s h.rules }, of.1)

    once : (b c : Behaviour) → Satisfies p main bodies rows until b → Satisfies p main bodies rows until c → state_in b ≡ state_in c → b ≡ c
    once b c x y same = one_behaviour p main b c x.text y.text (ap (λ (s : State). s.flows) same) (ap (λ (s : State). s.registers) same)

    pub one_to_one : IsOneToOne (Satisfies p main bodies rows until) (IsSolution (flat_of p tys main e) bodies rows until) state_in
    one_to_one = record { into = into; onto = onto; once = once }
