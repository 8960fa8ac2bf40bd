-- The texts of a command have one program, one main node, one flat program and one list of clocks.
use Rattle.std.proofs.Common.{◌≡◌, ℕ, List, Result, Ok, Err, refl, sym, ap, ◌∙◌, subst}
use Rattle.prl_base.specs.declared.operators.Clock.{Clock}
use Rattle.prl_base.specs.declared.values.Ty.{Ty}
use Rattle.prl_ast.specs.Trees.{ProgramTree}
use Rattle.prl_types.specs.Typing.{IsTyped, IsFault}
use Rattle.prl_types.specs.declared.faults.TypeFault.{TypeFault}
use Rattle.prl_clock.specs.Outcomes.{AreOnlyClocks}
use Rattle.prl_expand.specs.Vocabulary.{Expansion, IsExpansion, flat_of}
use Rattle.prl_flow.specs.Programs.{FlatProgram, IsFlat}
use Rattle.prl_stages.specs.declared.faults.InputFile.TheVariants as parts
use Rattle.prl_stages.specs.Vocabulary.{Given, text_of, IsProgram, IsMain, IsFlattened, HasClocks, PartLaws}

pub ok_ok : {A F : Type 0} (r : Result A F) (a b : A) → r ≡ Ok a → r ≡ Ok b → a ≡ b
ok_ok r a b h k = cc

pub err_err : {A F : Type 0} (r : Result A F) (a b : F) → r ≡ Err a → r ≡ Err b → a ≡ b
err_err r a b h k = cc

pub ok_err : {A F : Type 0} (r : Result A F) (a : A) (b : F) → r ≡ Ok a → r ≡ Err b → ⊥
ok_err r a b h k = cc

abbrev failed : TypeFault → Result (ℕ × List Ty) TypeFault
failed fault = Err fault

abbrev typed_as : ℕ × List Ty → Result (ℕ × List Ty) TypeFault
typed_as t = Ok t

err_same : (a b : TypeFault) → failed a ≡ failed b → a ≡ b
err_same a b e = cc

ok_main : (a b : ℕ × List Ty) → typed_as a ≡ typed_as b → a.0 ≡ b.0
ok_main a b e = cc

ok_types : (a b : ℕ × List Ty) → typed_as a ≡ typed_as b → a.1 ≡ b.1
ok_types a b e = cc

no_ok_err : (t : ℕ × List Ty) (fault : TypeFault) → typed_as t ≡ failed fault → ⊥
no_ok_err t fault e = cc

module _ (law : PartLaws) (g : Given) where
  pub typed_is_no_fault : (p : ProgramTree) (node : ℕ) (types : List Ty) (fault : TypeFault) → IsTyped p g.node node types → IsFault p g.node fault → ⊥
  typed_is_no_fault p node types fault typed h =
      no_ok_err (node, types) fault (law.one p g.node (Ok (node, types)) (Err fault) typed h)

  pub one_type_fault : (p : ProgramTree) (a b : TypeFault) → IsFault p g.node a → IsFault p g.node b → a ≡ b
  one_type_fault p a b h k = err_same a b (law.one p g.node (Err a) (Err b) h k)

  one_node : (p : ProgramTree) (a b : ℕ) (s t : List Ty) → IsTyped p g.node a s → IsTyped p g.node b t → a ≡ b
  one_node p a b s t h k =
      ok_main (a, s) (b, t) (law.one p g.node (Ok (a, s)) (Ok (b, t)) h k)

  pub one_program : (p q : ProgramTree) → IsProgram g p → IsProgram g q → p ≡ q
  one_program p q h k = ok_ok (Ok p) p q refl (law.programs (text_of g parts.Program) (Ok p) (Ok q) h.written k.written)

  pub one_main : (p : ProgramTree) (main : ℕ) (q : ProgramTree) (other : ℕ) → IsMain g p main → IsMain g q other → main ≡ other
  one_main p main q other h k =
      let same = one_program q p k.program h.program in
      let typed : IsTyped p g.node other k.types = subst (λ (x : ProgramTree). IsTyped x g.node other k.types) same k.typed in
      one_node p main other h.types k.types h.typed typed

  -- the types of a program's variables
  one_typing : (p : ProgramTree) (main : ℕ) (q : ProgramTree) (other : ℕ) (h : IsMain g p main) (k : IsMain g q other) → h.types ≡ k.types
  one_typing p main q other h k =
      let same = one_program q p k.program h.program in
      let typed : IsTyped p g.node other k.types = subst (λ (x : ProgramTree). IsTyped x g.node other k.types) same k.typed in
      ok_types (main, h.types) (other, k.types) (law.one p g.node (Ok (main, h.types)) (Ok (other, k.types)) h.typed typed)

  -- the expansion of one program
  pub one_expansion : (p : ProgramTree) (main : ℕ) (q : ProgramTree) (other : ℕ) (a b : Expansion) → IsMain g p main → IsMain g q other
      → IsExpansion p main a → IsExpansion q other b → a ≡ b
  one_expansion p main q other a b h k is are =
      let at : IsExpansion p other b = subst (λ (x : ProgramTree). IsExpansion x other b) (one_program q p k.program h.program) are in
      let here : IsExpansion p main b = subst (λ (x : ℕ). IsExpansion p x b) (one_main q other p main k h) at in
      law.expansions p main a b is here

  pub one_flat : (a b : FlatProgram) → IsFlattened g a → IsFlattened g b → a ≡ b
  one_flat a b h k =
      let programs = one_program h.program k.program h.is_main.program k.is_main.program in
      let mains = one_main h.program h.main k.program k.main h.is_main k.is_main in
      let types = one_typing h.program h.main k.program k.main h.is_main k.is_main in
      let expansions = one_expansion h.program h.main k.program k.main h.expanded.expansion k.expanded.expansion h.is_main k.is_main h.expanded.is k.expanded.is in
      h.expanded.flat_is
      ∙ (ap (λ (x : ProgramTree). flat_of x h.is_main.types h.main h.expanded.expansion) programs
      ∙ ap (λ (x : List Ty). flat_of k.program x h.main h.expanded.expansion) types
      ∙ ap (λ (x : ℕ). flat_of k.program k.is_main.types x h.expanded.expansion) mains
      ∙ ap (λ (x : Expansion). flat_of k.program k.is_main.types k.main x) expansions)
      ∙ sym k.expanded.flat_is

  pub is_flat : (flat : FlatProgram) → IsFlattened g flat → IsFlat flat
  is_flat flat h =
      let range = law.ranges (text_of g parts.Program) h.program h.is_main.program.written in
      subst IsFlat (sym h.expanded.flat_is)
      (law.formed h.program g.node h.main h.is_main.types h.expanded.expansion range h.is_main.typed h.expanded.is h.expanded.few)

  pub one_clocks : (p q : FlatProgram) (a b : List Clock) → HasClocks g p a → HasClocks g q b → a ≡ b
  one_clocks p q a b h k =
      let same = one_flat q p k.causal.flattened h.causal.flattened in
      let only : AreOnlyClocks p b = subst (λ (x : FlatProgram). AreOnlyClocks x b) same k.only in
      ok_ok (Ok a) a b refl (law.clocks p (is_flat p h.causal.flattened) (Ok a) (Ok b) h.only only)
