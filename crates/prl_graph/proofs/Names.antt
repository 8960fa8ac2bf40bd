-- Names of tasks differ.
use Rattle.prl_base.proofs.Standard.{◌≡◌, ◌≢◌, ◌<◌, ◌≤◌, ◌+◌, ◌^◌, ℕ, true, false, List, [], ◌∷◌, ◌++◌, length, refl, sym, ◌∙◌, ap, subst, arith, cond, decimal, slice_index_or, list_all}
use Rattle.prl_base.proofs.Standard.{digits_value, and_parts, false≢true, decimal_is_IsNumeral, slice_get_within, get_or_from_slice_get}
use Rattle.prl_base.specs.Names.{IsName, is_word_byte, is_word_start}
use Rattle.prl_base.specs.declared.operators.Clock.{Clock}
use Rattle.prl_flow.specs.Programs.{FlatProgram, IsFlat, name_of}
use Rattle.prl_flow.proofs.Lists.{element_at}
use Rattle.prl_plan.specs.Vocabulary.{IsTaskName, no_task, task_at}
use Rattle.prl_plan.specs.declared.graphs.Kind.{Kind}
use Rattle.prl_plan.specs.declared.graphs.Task.{Task}
use Rattle.prl_plan.specs.declared.graphs.TaskGraph.{TaskGraph}
use Rattle.prl_plan.specs.declared.graphs.Kind.TheVariants as kinds
use Rattle.prl_values.specs.JobValues.{word_of}
use Rattle.prl_values.proofs.TaskNames.{apart, word_of_node}
use Rattle.prl_graph.specs.Vocabulary.{task_count, AreTasks, IsActuatorTask, IsSensorTask, IsTaskOf, sensor, node, actuator}
use Rattle.prl_graph.proofs.TaskFacts.{actuator_device, sensor_device}

-- a word has no `@`
word_alone : (bytes : List ℕ) → list_all is_word_byte bytes ≡ true → word_of bytes ≡ bytes
word_alone [] all = refl
word_alone (b ∷ bytes) all =
    let parts = and_parts (is_word_byte b) (list_all is_word_byte bytes) all in
    ap (λ t. cond t [] (b ∷ word_of bytes)) (apart is_word_byte refl b parts.0) ∙ ap (λ l. b ∷ l) (word_alone bytes parts.1)

word_of_name : (name : List ℕ) → IsName name → word_of name ≡ name
word_of_name [] is = absurd (false≢true is.0)
word_of_name (b ∷ bytes) is =
    let parts = and_parts (is_word_start b) (list_all is_word_byte bytes) is.0 in
    ap (λ t. cond t [] (b ∷ word_of bytes)) (apart is_word_start refl b parts.0) ∙ ap (λ l. b ∷ l) (word_alone bytes parts.1)

cancel_left : (xs ys zs : List ℕ) → xs ++ ys ≡ xs ++ zs → ys ≡ zs
cancel_left [] ys zs e = e
cancel_left (x ∷ xs) ys zs e = cancel_left xs ys zs (let f : xs ++ ys ≡ xs ++ zs = cc in f)

one_decimal : (a b : ℕ) → a < 2 ^ 64 → b < 2 ^ 64 → decimal a ≡ decimal b → a ≡ b
one_decimal a b small_a small_b same =
    sym (decimal_is_IsNumeral a small_a).1 ∙ ap (digits_value 10) same ∙ (decimal_is_IsNumeral b small_b).1

-- names of node tasks tell their numbers
one_number : (v w : List ℕ) (a b : ℕ) → IsName v → IsName w → a < 2 ^ 64 → b < 2 ^ 64 → v ++ 64 ∷ decimal a ≡ w ++ 64 ∷ decimal b → a ≡ b
one_number v w a b is_v is_w small_a small_b same =
    let words : v ≡ w = sym (word_of_node v (decimal a) is_v) ∙ ap word_of same ∙ word_of_node w (decimal b) is_w in
    let rest : 64 ∷ decimal a ≡ 64 ∷ decimal b = cancel_left w (64 ∷ decimal a) (64 ∷ decimal b) (subst (λ x. x ++ 64 ∷ decimal a ≡ w ++ 64 ∷ decimal b) words same) in
    one_decimal a b small_a small_b (let e : decimal a ≡ decimal b = cc in e)

longer : (v rest : List ℕ) → v ≡ v ++ 64 ∷ rest → ⊥
longer [] rest e = cc
longer (x ∷ v) rest e = longer v rest (let f : v ≡ v ++ 64 ∷ rest = cc in f)

-- a word is no name of a node task
no_node : (v w : List ℕ) (a : ℕ) → IsName v → IsName w → v ≡ w ++ 64 ∷ decimal a → ⊥
no_node v w a is_v is_w same = longer w (decimal a) (sym (sym (word_of_name v is_v) ∙ ap word_of same ∙ word_of_node w (decimal a) is_w) ∙ same)

-- the name of a task by its kind
name_by : (t : Task) (k : Kind) → t.kind ≡ k → IsTaskName t.kind t.name → IsTaskName k t.name
name_by t k same is = subst (λ x. IsTaskName x t.name) same is

module _ (p : FlatProgram) (clocks : List Clock) (flat : IsFlat p) where
  sensor_name : (i : ℕ) (t : Task) → IsSensorTask p clocks i t → t.name ≡ name_of p.in_devices i
  sensor_name i t is = ap (λ (x : Task). x.name) is.is

  actuator_name : (i : ℕ) (t : Task) → (is : IsActuatorTask p clocks i t) → t.name ≡ name_of p.out_devices is.number
  actuator_name i t is = ap (λ (x : Task). x.name) is.is

  differ : (i j : ℕ) (s t : Task) → task_count p ≤ 64 → i < j → IsTaskOf p clocks i s → IsTaskOf p clocks j t → IsTaskName s.kind s.name → IsTaskName t.kind t.name → s.name ≡ t.name → ⊥
  differ i j s t few before (sensor a) (sensor b) s_named t_named same =
      let number = flat.devices.1 i j (slice_index_or p.in_devices i ([], 0)) (slice_index_or p.in_devices j ([], 0)) (sensor_device p flat i a.flow a.found) (sensor_device p flat j b.flow b.found)
      (sym (sensor_name i s a) ∙ same ∙ sensor_name j t b) in
      omega arith
  differ i j s t few before (sensor a) (node b) s_named t_named same =
      let word = name_by t (kinds.Node b.number) (ap (λ (x : Task). x.kind) b.is) t_named in
      no_node s.name word.0 b.number (name_by s (kinds.Sensor i) (ap (λ (x : Task). x.kind) a.is) s_named) word.1 (same ∙ word.2)
  differ i j s t few before (sensor a) (actuator b) s_named t_named same =
      let number = flat.devices.1 i (length p.ins + b.number) (slice_index_or p.in_devices i ([], 0)) (slice_index_or p.out_devices b.number ([], 0)) (sensor_device p flat i a.flow a.found)
      (actuator_device p flat b.number b.flow b.found) (sym (sensor_name i s a) ∙ same ∙ actuator_name j t b) in
      let low = slice_get_within p.ins i a.flow a.found in
      omega arith
  differ i j s t few before (node a) (sensor b) s_named t_named same =
      let low = slice_get_within p.ins j b.flow b.found in
      let at = a.at in
      omega arith
  differ i j s t few before (node a) (node b) s_named t_named same =
      let v = name_by s (kinds.Node a.number) (ap (λ (x : Task). x.kind) a.is) s_named in
      let w = name_by t (kinds.Node b.number) (ap (λ (x : Task). x.kind) b.is) t_named in
      let low_a = slice_get_within p.apps a.number a.app a.found in
      let low_b = slice_get_within p.apps b.number b.app b.found in
      let number = one_number v.0 w.0 a.number b.number v.1 w.1 (omega arith) (omega arith) (sym v.2 ∙ same ∙ w.2) in
      let at_a = a.at in
      let at_b = b.at in
      omega arith
  differ i j s t few before (node a) (actuator b) s_named t_named same =
      let word = name_by s (kinds.Node a.number) (ap (λ (x : Task). x.kind) a.is) s_named in
      no_node t.name word.0 a.number (name_by t (kinds.Actuator b.number) (ap (λ (x : Task). x.kind) b.is) t_named) word.1 (sym same ∙ word.2)
  differ i j s t few before (actuator a) (sensor b) s_named t_named same =
      let low = slice_get_within p.ins j b.flow b.found in
      let at = a.at in
      omega arith
  differ i j s t few before (actuator a) (node b) s_named t_named same =
      let low = slice_get_within p.apps b.number b.app b.found in
      let at_a = a.at in
      let at_b = b.at in
      omega arith
  differ i j s t few before (actuator a) (actuator b) s_named t_named same =
      let number = flat.devices.1 (length p.ins + a.number) (length p.ins + b.number) (slice_index_or p.out_devices a.number ([], 0)) (slice_index_or p.out_devices b.number ([], 0))
      (actuator_device p flat a.number a.flow a.found) (actuator_device p flat b.number b.flow b.found) (sym (actuator_name i s a) ∙ same ∙ actuator_name j t b) in
      let at_a = a.at in
      let at_b = b.at in
      omega arith

  -- a task's name is right, since those of devices and applications are
  pub named_rightly : (i : ℕ) (t : Task) → IsTaskOf p clocks i t → IsTaskName t.kind t.name
  named_rightly i t (sensor a) =
      subst (λ (x : Task). IsTaskName x.kind x.name) (sym a.is)
      (flat.devices.0 i (slice_index_or p.in_devices i ([], 0)) (sensor_device p flat i a.flow a.found)).0
  named_rightly i t (node a) =
      subst (λ (x : Task). IsTaskName x.kind x.name) (sym a.is) (a.app.name, (flat.apps a.number a.app a.found).name, refl)
  named_rightly i t (actuator a) =
      subst (λ (x : Task). IsTaskName x.kind x.name) (sym a.is)
      (flat.devices.0 (length p.ins + a.number) (slice_index_or p.out_devices a.number ([], 0)) (actuator_device p flat a.number a.flow a.found)).0

  pub names_differ : (g : TaskGraph) → task_count p ≤ 64 → AreTasks p clocks g.tasks → (i j : ℕ) → i < j → j < length g.tasks → (task_at g i).name ≢ (task_at g j).name
  names_differ g few are i j before below same =
      let s = element_at g.tasks i (omega arith) in
      let t = element_at g.tasks j below in
      let t_is = get_or_from_slice_get g.tasks j t.0 no_task t.1 in
      differ i j s.0 t.0 few before (are.each i s.0 s.1) (are.each j t.0 t.1) (named_rightly i s.0 (are.each i s.0 s.1)) (named_rightly j t.0 (are.each j t.0 t.1))
      (sym (ap (λ (x : Task). x.name) (get_or_from_slice_get g.tasks i s.0 no_task s.1)) ∙ same ∙ ap (λ (x : Task). x.name) t_is)
