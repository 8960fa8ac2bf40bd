-- Uses lead from a flow back to it, or they do not.
use Rattle.prl_base.proofs.Standard.{◌≡◌, ◌<◌, ◌≤◌, ◌+◌, ◌⊎◌, ℕ, zero, suc, Bool, true, false, List, [], ◌∷◌, ◌++◌, length, set, get_or, slice_get, replicate, take, Some, refl, sym, ◌∙◌, subst, arith}
use Rattle.prl_base.proofs.Standard.{add-one, inl, inr, ⊎_elim, cases_lt, false≢true, length-replicate, take-length, count_by-le-length, get_or_from_slice_get}
use Rattle.prl_flow.specs.Vocabulary.{FlatProgram, Leads}
use Rattle.prl_flow.specs.declared.programs.App.{App}
use Rattle.prl_flow.specs.declared.programs.Arg.{Arg}
use Rattle.prl_flow.proofs.Lists.{element_at}
use Rattle.prl_causal.specs.Vocabulary.{Source, marked_count, Adds, IsList, IsUnderWay, AreArguments, AreSources, AreWithin, IsAmong, IsSource, Names, UsesBy}
use Rattle.prl_causal.specs.declared.sources.Source.TheVariants as sources
use Rattle.prl_causal.proofs.Runs.{no_marks, none_counted}
use Rattle.prl_causal.proofs.Searching.{adds_arguments, adds_marked, adds_next, adds_no_arguments, adds_none, adds_one, reached_within, search_begun, search_ended, search_goes_on, source_there, use_of_names}
use Rattle.prl_causal.proofs.Unplaced.{marked_or_not}

-- what is named can come to the list
record CanAdd (Named : ℕ → Type 0) (reached : List ℕ) (marks : List Bool) : Type 0 where
  reached' : List ℕ
  marks' : List Bool
  adds : Adds Named reached reached' marks marks'

add_one : (i : ℕ) (reached : List ℕ) (marks : List Bool) → IsList reached marks → i < length marks → CanAdd (λ j. i ≡ j) reached marks
add_one i reached marks list below =
    ⊎_elim
    (λ marked. record { reached' = reached; marks' = marks; adds = adds_marked i reached marks list marked })
    (λ clear. record { reached' = reached ++ i ∷ []; marks' = set marks i true; adds = adds_one i reached marks list below clear })
    (marked_or_not marks i)

add_some : (args : List Arg) (d : Arg) (m : ℕ) (reached : List ℕ) (marks : List Bool) → m ≤ length args → IsList reached marks → AreWithin args (length marks)
    → CanAdd (IsAmong (take m args)) reached marks
add_some args d zero reached marks low list within = record { reached' = reached; marks' = marks; adds = adds_no_arguments args reached marks list }
add_some args d (suc m) reached marks low list within =
    let below : m < length args = omega (arith, low) in
    let first = add_some args d m reached marks (omega (arith, low)) list within in
    let at : (arg : Arg) × (slice_get args m ≡ Some arg) = element_at args m below in
    let there : (get_or args m d).flow.0 < length first.marks' = rw ((get_or_from_slice_get args m at.0 d at.1), first.adds.same) (within m at.0 at.1) in
    let second = add_one (get_or args m d).flow.0 first.reached' first.marks' first.adds.list there in
    let both = adds_next args m d reached first.reached' second.reached' marks first.marks' second.marks' below first.adds second.adds in
    record {
      reached' = second.reached';
      marks' = second.marks';
      adds = subst (λ n. Adds (IsAmong (take n args)) reached second.reached' marks second.marks') (add-one m) both;
    }

add_all : (args : List Arg) (reached : List ℕ) (marks : List Bool) → IsList reached marks → AreWithin args (length marks) → CanAdd (IsAmong args) reached marks
add_all [] reached marks list within = record { reached' = reached; marks' = marks; adds = adds_no_arguments [] reached marks list }
add_all (d ∷ args) reached marks list within =
    let all : take (length (d ∷ args)) (d ∷ args) ≡ d ∷ args = take-length (d ∷ args) in
    subst (λ l. CanAdd (IsAmong l) reached marks) all (add_some (d ∷ args) d (length (d ∷ args)) reached marks (omega arith) list within)

module _ (p : FlatProgram) (all : List Source) (there : AreSources p all) where
  add_used : (s : Source) (reached : List ℕ) (marks : List Bool) → IsSource p s → ((j : ℕ) → Names p s j → j < length all) → length marks ≡ length all → IsList reached marks
      → CanAdd (Names p s) reached marks
  add_used sources.Nothing reached marks is within len list =
      record { reached' = reached; marks' = marks; adds = adds_none reached marks (Names p sources.Nothing) list (λ i named. named) }
  add_used (sources.Flow of) reached marks is within len list =
      let below : of.0 < length marks = rw len (within of.0 refl) in
      add_one of.0 reached marks list below
  add_used (sources.Arguments k) reached marks is within len list =
      let at : (app : App) × (slice_get p.apps k ≡ Some app) = element_at p.apps k is in
      let are : AreArguments p k at.0.args = record { app = at.0; found = at.1; are = refl } in
      let each : AreWithin at.0.args (length marks) =
      λ j arg found. rw len (within arg.flow.0 (record { app = at.0; applied = at.1; index = j; arg = arg; found = found; is = refl })) in
      let add = add_all at.0.args reached marks list each in
      record { reached' = add.reached'; marks' = add.marks'; adds = adds_arguments p k at.0.args reached add.reached' marks add.marks' are add.adds }

  add_at : (x : ℕ) (reached : List ℕ) (marks : List Bool) → x < length all → length marks ≡ length all → IsList reached marks
      → CanAdd (Names p (get_or all x sources.Nothing)) reached marks
  add_at x reached marks below len list =
      add_used (get_or all x sources.Nothing) reached marks (source_there p all sources.Nothing x there below)
      (λ j names. there.within x j (use_of_names p all sources.Nothing x j below names)) len list

  abbrev LeadsOrNot : ℕ → Type 0
  LeadsOrNot from = Leads (UsesBy p all) from from ⊎ (Leads (UsesBy p all) from from → ⊥)

  -- a search with so many steps left
  search_on : (steps from done : ℕ) (reached : List ℕ) (marks : List Bool) → length all < steps + done → IsUnderWay (UsesBy p all) (length all) from done reached marks → LeadsOrNot from
  search_on zero from done reached marks low way =
      absurd (let most : marked_count marks ≤ length marks = count_by-le-length (λ b. b) marks in
      let count = way.list.count in let few = way.few in let len = way.len in omega (arith, most, count, few, len, low))
  search_on (suc steps) from done reached marks low way =
      ⊎_elim
      (λ more.
      (let at : (x : ℕ) × (slice_get reached done ≡ Some x) = element_at reached done more in
      let below = reached_within (UsesBy p all) (length all) from done reached marks at.0 way at.1 in
      let add = add_at at.0 reached marks below way.len way.list in
      search_on steps from (done + 1) add.reached' add.marks' (omega (arith, low))
      (search_goes_on p all sources.Nothing from done at.0 reached add.reached' marks add.marks' way at.1 add.adds)))
      (λ over.
      (let end : length reached ≤ done = omega (arith, over) in
      ⊎_elim
      (λ marked. inl (way.led from marked))
      (λ clear. inr (λ leads. false≢true (sym clear ∙ search_ended (UsesBy p all) (length all) from done reached marks way end from leads)))
      (marked_or_not marks from)))
      (cases_lt done (length reached))

  pub leads_or_not : (from : ℕ) → from < length all → LeadsOrNot from
  leads_or_not from below =
      let n = length all in
      let marks = replicate n false in
      let len : length marks ≡ n = length-replicate n false in
      let none : IsList [] marks = record { count = none_counted n; marked = λ k x h. cc; listed = λ i h. absurd (no_marks n i h) } in
      let add = add_at from [] marks below len none in
      search_on (suc n) from 0 add.reached' add.marks' (omega arith)
      (search_begun p all sources.Nothing from add.reached' marks add.marks' below len none add.adds)
