-- A program has one made table or one fault of making, and the table of a text is good or has one fault.
use Rattle.std.proofs.Common.{◌≡◌, ◌≢◌, List, Some, None, Ok, Err, Result, sym, ap, ◌∙◌, inl, inr, subst}
use Rattle.prl_plan.specs.Plans.{PlanView, IsPlan}
use Rattle.prl_plan.specs.declared.graphs.TaskGraph.{TaskGraph}
use Rattle.prl_tables.specs.Vocabulary.{IsFault, IsGood, entries_of}
use Rattle.prl_tables.specs.declared.reading.TableFault.{TableFault}
use Rattle.prl_overlaps.specs.declared.entries.Entry.{Entry}
use Rattle.prl_tables.specs.declared.reading.TableFault.TheVariants as checking
use Rattle.prl_table.specs.MakeFaults.{IsMade, IsMakeFault}
use Rattle.prl_table.specs.declared.making.MakeFault.{MakeFault}
use Rattle.prl_table.specs.declared.making.MakeFault.TheVariants as making
use Rattle.prl_stages.specs.declared.faults.InputFile.TheVariants as parts
use Rattle.prl_stages.specs.Vocabulary.{Fault, MakeRefusal, TableRefusal, Given, text_of, HasGraph, HasMadeTable, HasTable, IsTableFault, RefusesMade, RefusesTable, make_refusal, table_refusal}
use Rattle.prl_stages.specs.Vocabulary.{RunLaws}
use Rattle.prl_stages.specs.declared.faults.Fault.TheVariants as faults
use Rattle.prl_stages.proofs.OneRun.{one_plan}
use Rattle.prl_stages.proofs.Told.{some_some}

-- the laws of the crates below
pub record TableLaws : Type 0 where
  pub made_or_fault : (plan : PlanView) → IsPlan plan → (entries : List Entry) → IsMade plan entries → (fault : MakeFault) → fault ≢ making.Memory → IsMakeFault plan fault → ⊥
  pub one_make_fault : (plan : PlanView) → IsPlan plan → (a b : MakeFault) → a ≢ making.Memory → b ≢ making.Memory → IsMakeFault plan a → IsMakeFault plan b → a ≡ b
  pub good_or_fault : (plan : PlanView) (entries : List Entry) → IsGood plan entries → (fault : TableFault) → fault ≢ checking.Memory → IsFault plan entries fault → ⊥
  pub one_fault : (plan : PlanView) (entries : List Entry) (a b : TableFault) → a ≢ checking.Memory → b ≢ checking.Memory → IsFault plan entries a → IsFault plan entries b → a ≡ b

read_apart : {X F : Type 0} (r : Result X F) (x : X) (y : F) → r ≡ Ok x → r ≡ Err y → ⊥
read_apart r x y h k = cc

one_read : {X F : Type 0} (r : Result X F) (x y : X) → r ≡ Ok x → r ≡ Ok y → x ≡ y
one_read r x y h k = cc

one_cause : {X F : Type 0} (r : Result X F) (x y : F) → r ≡ Err x → r ≡ Err y → x ≡ y
one_cause r x y h k = cc

none_some : {X : Type 0} (x : X) → None ≡ Some x → ⊥
none_some x e = cc

-- what is told is no want of memory
made_told : (fault : MakeFault) (refusal : MakeRefusal) → make_refusal fault ≡ Some refusal → fault ≢ making.Memory
made_told fault refusal told is = none_some refusal (subst (λ (x : MakeFault). make_refusal x ≡ Some refusal) is told)

table_told : (graph : TaskGraph) (fault : TableFault) (refusal : TableRefusal) → table_refusal graph fault ≡ Some refusal → fault ≢ checking.Memory
table_told graph fault refusal told is = none_some refusal (subst (λ (x : TableFault). table_refusal graph x ≡ Some refusal) is told)

module _ (law : TableLaws) (runs : RunLaws) (g : Given) (one_graph : (a b : TaskGraph) → HasGraph g a → HasGraph g b → a ≡ b) where
  pub made_apart : (plan : PlanView) (entries : List Entry) (f : Fault) → HasMadeTable g plan entries → RefusesMade g f → ⊥
  made_apart plan entries f h k =
      let cause = subst (λ (p : PlanView). IsMakeFault p k.2) (one_plan runs g one_graph k.0 plan k.1 h.has_plan) k.3 in
      law.made_or_fault plan h.has_plan.is_plan entries h.made k.2 (made_told k.2 k.4 k.5) cause

  pub made_one : (a b : Fault) → RefusesMade g a → RefusesMade g b → a ≡ b
  made_one a b h k =
      let there = subst (λ (p : PlanView). IsMakeFault p k.2) (one_plan runs g one_graph k.0 h.0 k.1 h.1) k.3 in
      let cause : h.2 ≡ k.2 = law.one_make_fault h.0 h.1.is_plan h.2 k.2 (made_told h.2 h.4 h.5) (made_told k.2 k.4 k.5) h.3 there in
      let here : make_refusal h.2 ≡ Some k.4 = subst (λ (x : MakeFault). make_refusal x ≡ Some k.4) (sym cause) k.5 in
      h.6 ∙ ap faults.Made (some_some (make_refusal h.2) h.4 k.4 h.5 here) ∙ sym k.6

  -- a table that is read is no fault of reading, and one that is good none of checking
  good_apart : (plan : PlanView) (entries : List Entry) (cause : TableFault) → HasTable g plan entries → cause ≢ checking.Memory → IsTableFault plan (text_of g parts.Table) cause → ⊥
  good_apart plan entries cause h told k = elim k [
    | inl unread ↦ read_apart (entries_of plan.graph.hyper (text_of g parts.Table)) entries cause h.read unread
    | inr bad ↦
        let same = one_read (entries_of plan.graph.hyper (text_of g parts.Table)) bad.0 entries bad.1 h.read in
        law.good_or_fault plan entries h.good cause told (subst (λ (x : List Entry). IsFault plan x cause) same bad.2)
  ]

  -- a text has one fault
  one_table_fault : (plan : PlanView) (a b : TableFault) → a ≢ checking.Memory → b ≢ checking.Memory → IsTableFault plan (text_of g parts.Table) a
      → IsTableFault plan (text_of g parts.Table) b → a ≡ b
  one_table_fault plan a b h k s t =
      let read = entries_of plan.graph.hyper (text_of g parts.Table) in
      elim s [
        | inl u ↦ elim t [ inl v ↦ one_cause read a b u v | inr v ↦ absurd (read_apart read v.0 a v.1 u) ]
        | inr u ↦ elim t [
          | inl v ↦ absurd (read_apart read u.0 b u.1 v)
          | inr v ↦ law.one_fault plan u.0 a b h k u.2 (subst (λ (x : List Entry). IsFault plan x b) (one_read read v.0 u.0 v.1 u.1) v.2)
        ]
      ]

  pub table_apart : (plan : PlanView) (entries : List Entry) (f : Fault) → HasTable g plan entries → RefusesTable g f → ⊥
  table_apart plan entries f h k =
      let cause = subst (λ (p : PlanView). IsTableFault p (text_of g parts.Table) k.2) (one_plan runs g one_graph k.0 plan k.1 h.has_plan) k.3 in
      good_apart plan entries k.2 h (table_told k.0.graph k.2 k.4 k.5) cause

  pub table_one : (a b : Fault) → RefusesTable g a → RefusesTable g b → a ≡ b
  table_one a b h k =
      let plans = one_plan runs g one_graph k.0 h.0 k.1 h.1 in
      let there = subst (λ (p : PlanView). IsTableFault p (text_of g parts.Table) k.2) plans k.3 in
      let told : table_refusal h.0.graph k.2 ≡ Some k.4 = subst (λ (p : PlanView). table_refusal p.graph k.2 ≡ Some k.4) plans k.5 in
      let cause : h.2 ≡ k.2 = one_table_fault h.0 h.2 k.2 (table_told h.0.graph h.2 h.4 h.5) (table_told k.0.graph k.2 k.4 k.5) h.3 there in
      let here : table_refusal h.0.graph h.2 ≡ Some k.4 = subst (λ (x : TableFault). table_refusal h.0.graph x ≡ Some k.4) (sym cause) told in
      h.6 ∙ ap faults.Table (some_some (table_refusal h.0.graph h.2) h.4 k.4 h.5 here) ∙ sym k.6
