-- Where dues may stand, and what they bind.
use Rattle.prl_base.proofs.Standard.{◌≡◌, ◌<◌, ◌≤◌, ◌+◌, ℕ, Bool, true, false, List, length, set, slice_get, Some, None, refl, sym, ◌∙◌, ap, subst, arith, ⊎_elim, length-set, cases_lt}
use Rattle.prl_base.proofs.Standard.{slice_get_within, get_or-set_same}
use Rattle.prl_base.specs.declared.numbers.FlowNo.{FlowNo}
use Rattle.prl_base.specs.declared.operators.Clock.{Clock}
use Rattle.prl_flow.specs.declared.programs.Def.TheVariants as definitions
use Rattle.prl_flow.specs.Vocabulary.{FlatProgram, clock_of}
use Rattle.prl_flow.specs.declared.programs.Flow.{Flow}
use Rattle.prl_graph.specs.Dues.{AllowsDue, AreDuesAllowed, AreDuesInRange, CopiesOutput, IsDueOnNonTask, IsDueOutOfRange, IsMainInput, IsMainOutput, IsWithinPeriod, NotesDue, input, output, copy}
use Rattle.prl_graph.specs.code.Marks.{AreMarked, AreOutputMarks, IsBinding, IsLabelOf, IsMarked, IsMisplaced, IsPlaced, IsRanged, IsUnranged}
use Rattle.prl_graph.proofs.Lists.{mark_cases, mark_kept}

-- one output more
pub one_marked : (p : FlatProgram) (n : ℕ) (marks : List Bool) (flow : FlowNo) → AreMarked p n marks → slice_get p.outs n ≡ Some flow → flow.0 < length p.flows → AreMarked p (n + 1) (set marks flow.0 true)
one_marked p n marks flow are found below =
    let there : flow.0 < length marks = omega arith in
    record {
      count = length-set marks flow.0 true ∙ are.count;
      only = λ i h. ⊎_elim
          (λ same. (let e : n < n + 1 = omega arith in (n, e, subst (λ m. slice_get p.outs n ≡ Some (record { 0 = m })) (sym same) found)))
          (λ old. (let was = are.only i old in let low = was.1 in let e : was.0 < n + 1 = omega arith in (was.0, e, was.2)))
          (mark_cases marks flow.0 i h);
      all = λ i h. (let low = h.1 in ⊎_elim
          (λ less. mark_kept marks flow.0 i there (are.all i (h.0, less, h.2)))
          (λ not_less.
          (let last : h.0 ≡ n = omega arith in
          let same : flow ≡ record { 0 = i } = (let e : Some flow ≡ Some (record { 0 = i }) = sym found ∙ ap (slice_get p.outs) (sym last) ∙ h.2 in cc) in
          subst (λ (f : FlowNo). IsMarked (set marks flow.0 true) f.0) same (get_or-set_same marks flow.0 true false there)))
          (cases_lt h.0 n));
    }

pub marked_output : (p : FlatProgram) (marks : List Bool) (i : ℕ) → AreOutputMarks p marks → IsMarked marks i → IsMainOutput p i
marked_output p marks i are h = (let at = are.only i h in (at.0, at.2))

pub output_marked : (p : FlatProgram) (marks : List Bool) (i : ℕ) → AreOutputMarks p marks → IsMainOutput p i → IsMarked marks i
output_marked p marks i are out = are.all i (out.0, slice_get_within p.outs out.0 (record { 0 = i }) out.1, out.1)

-- where none of the three holds, no due may stand
pub nowhere_allowed : (p : FlatProgram) (i : ℕ) → (IsMainInput p i → ⊥) → (IsMainOutput p i → ⊥) → ((k : ℕ) → CopiesOutput p i k → ⊥) → AllowsDue p i → ⊥
nowhere_allowed p i no_input no_output no_copy (input h) = no_input h
nowhere_allowed p i no_input no_output no_copy (output h) = no_output h
nowhere_allowed p i no_input no_output no_copy (copy k h) = no_copy k h

-- a flow copies outputs of one application alone
pub one_copied : (p : FlatProgram) (i k l : ℕ) → CopiesOutput p i k → CopiesOutput p i l → l ≡ k
one_copied p i k l a b =
    let flow : a.flow ≡ b.flow = (let e : Some a.flow ≡ Some b.flow = sym a.found ∙ b.found in cc) in
    let of : a.of ≡ b.of = (let e : definitions.Copy a.of ≡ definitions.Copy b.of = sym a.copies ∙ ap (λ (f : Flow). f.def) flow ∙ b.copies in cc) in
    let there : slice_get p.flows b.of.0 ≡ Some a.output.0 = ap (λ (f : FlowNo). slice_get p.flows f.0) (sym of) ∙ a.output.1 in
    let same : a.output.0 ≡ b.output.0 = (let e : Some a.output.0 ≡ Some b.output.0 = sym there ∙ b.output.1 in cc) in
    cc

pub binding_is : (p : FlatProgram) (i k due : ℕ) (flow : Flow) → slice_get p.flows i ≡ Some flow → flow.due ≡ Some due → CopiesOutput p i k → (IsMainOutput p i → ⊥) → IsBinding p i k due
binding_is p i k due flow found noted copies local = record {
  binds = record { notes = record { flow = flow; found = found; noted = noted }; copies = copies; local = local };
  only = λ l other b. (
    one_copied p i k l copies b.copies,
    (let same : b.notes.flow ≡ flow = (let e : Some b.notes.flow ≡ Some flow = sym b.notes.found ∙ found in cc) in
        cc),
  );
}

-- a flow without a due binds none
pub no_due : (p : FlatProgram) (i due : ℕ) (flow : Flow) → slice_get p.flows i ≡ Some flow → flow.due ≡ None → NotesDue p i due → ⊥
no_due p i due flow found none notes =
    let same : notes.flow ≡ flow = (let e : Some notes.flow ≡ Some flow = sym notes.found ∙ found in cc) in
    cc

same_label : (p : FlatProgram) (i due : ℕ) (label : List ℕ) → (notes : NotesDue p i due) → IsLabelOf p i label → notes.flow.label ≡ label
same_label p i due label notes of =
    let same : notes.flow ≡ of.flow = (let e : Some notes.flow ≡ Some of.flow = sym notes.found ∙ of.found in cc) in
    ap (λ (f : Flow). f.label) same ∙ of.is

pub non_task : (p : FlatProgram) (i : ℕ) (label : List ℕ) → IsMisplaced p i → ((j : ℕ) → j < i → IsPlaced p j) → IsLabelOf p i label → IsDueOnNonTask p label
non_task p i label wrong lower of = record {
  index = i;
  due = wrong.due;
  notes = wrong.notes;
  named = same_label p i wrong.due label wrong.notes of;
  refused = wrong.refused;
  lowest = λ j other low notes. lower j low other notes;
}

pub out_of_range : (p : FlatProgram) (clocks : List Clock) (i due : ℕ) (label : List ℕ) → IsUnranged p clocks i due → ((j : ℕ) → j < i → IsRanged p clocks j) → IsLabelOf p i label
    → IsDueOutOfRange p clocks label due (clock_of clocks i).period
out_of_range p clocks i due label wrong lower of = record {
  index = i;
  notes = wrong.notes;
  named = same_label p i due label wrong.notes of;
  period_is = refl;
  refused = wrong.refused;
  lowest = λ j other low notes. lower j low other notes;
}

-- what holds of the due that a flow notes
pub of_noted : (p : FlatProgram) (clocks : List Clock) (i due : ℕ) (flow : Flow) → slice_get p.flows i ≡ Some flow → flow.due ≡ Some due → IsWithinPeriod clocks i due → IsRanged p clocks i
of_noted p clocks i due flow found noted within other notes =
    let same : notes.flow ≡ flow = (let e : Some notes.flow ≡ Some flow = sym notes.found ∙ found in cc) in
    let is : due ≡ other = cc in
    subst (λ d. IsWithinPeriod clocks i d) is within

-- all dues, where those of all flows are looked at
pub all_placed : (p : FlatProgram) (n : ℕ) → length p.flows ≤ n → ((j : ℕ) → j < n → IsPlaced p j) → AreDuesAllowed p
all_placed p n most each j due notes = (let low = slice_get_within p.flows j notes.flow notes.found in each j (omega arith) due notes)

pub all_ranged : (p : FlatProgram) (clocks : List Clock) (n : ℕ) → length p.flows ≤ n → ((j : ℕ) → j < n → IsRanged p clocks j) → AreDuesInRange p clocks
all_ranged p clocks n most each j due notes = (let low = slice_get_within p.flows j notes.flow notes.found in each j (omega arith) due notes)

pub misplaced_is : (p : FlatProgram) (i due : ℕ) (flow : Flow) → slice_get p.flows i ≡ Some flow → flow.due ≡ Some due → (AllowsDue p i → ⊥) → IsMisplaced p i
misplaced_is p i due flow found noted refused = record { due = due; notes = record { flow = flow; found = found; noted = noted }; refused = refused }

pub undue_placed : (p : FlatProgram) (i : ℕ) (flow : Flow) → slice_get p.flows i ≡ Some flow → flow.due ≡ None → IsPlaced p i
undue_placed p i flow found none due notes = absurd (no_due p i due flow found none notes)
