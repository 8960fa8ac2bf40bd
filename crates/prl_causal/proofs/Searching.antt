-- Marks set for more flows, and what a search has marked in the end.
use Rattle.prl_base.proofs.Standard.{◌≡◌, ◌<◌, ◌≤◌, ◌+◌, ◌⊎◌, ℕ, Bool, true, false, List, [], ◌∷◌, ◌++◌, length, set, get_or, slice_get, Some, refl, sym, ◌∙◌, ap, subst, arith, inl, inr, ⊎_elim}
use Rattle.prl_base.proofs.Standard.{length-set, take, cases_lt, length_push, take_more, slice_get_within, slice_get-get_or}
use Rattle.prl_flow.specs.Vocabulary.{IsArgument, Leads, once, then, FlatProgram}
use Rattle.prl_flow.specs.declared.programs.Arg.{Arg}
use Rattle.prl_flow.proofs.Lists.{slice_get_push, element_at}
use Rattle.prl_causal.specs.Vocabulary.{Source, IsMarked, Adds, AreOpened, IsList, IsUnderWay, AreArguments, AreSources, IsAmong, IsSource, UsesBy, Names}
use Rattle.prl_causal.proofs.Lists.{push_cases, push_keeps, mark_set, mark_kept, mark_cases, mark_counted, marked_within}
use Rattle.prl_causal.proofs.Placing.{names_of_use}
use Rattle.prl_causal.proofs.Ways.{onward}

-- where all that is named is marked already, nothing is to do
adds_nothing : (reached : List ℕ) (marks : List Bool) (Named : ℕ → Type 0) → IsList reached marks → ((j : ℕ) → Named j → IsMarked marks j) → Adds Named reached reached marks marks
adds_nothing reached marks Named list all = record { list = list; same = refl; stays = λ k x h. h; kept = λ j h. h; only = λ j h. inl h; all = all }

pub adds_marked : (i : ℕ) (reached : List ℕ) (marks : List Bool) → IsList reached marks → IsMarked marks i → Adds (λ j. i ≡ j) reached reached marks marks
adds_marked i reached marks list is = adds_nothing reached marks (λ j. i ≡ j) list (λ j e. subst (λ x. IsMarked marks x) e is)

pub adds_none : (reached : List ℕ) (marks : List Bool) (Named : ℕ → Type 0) → IsList reached marks → ((i : ℕ) → Named i → ⊥) → Adds Named reached reached marks marks
adds_none reached marks Named list none = adds_nothing reached marks Named list (λ j e. absurd (none j e))

pub adds_one : (i : ℕ) (reached : List ℕ) (marks : List Bool) → IsList reached marks → i < length marks → get_or marks i false ≡ false
    → Adds (λ j. i ≡ j) reached (reached ++ i ∷ []) marks (set marks i true)
adds_one i reached marks list below clear = record {
  list = record {
    count = mark_counted marks i below clear ∙ ap (λ n. n + 1) list.count ∙ sym (length_push reached i);
    marked = λ k x h. ⊎_elim
        (λ old. mark_kept marks i x below (list.marked k x old))
        (λ last. subst (λ y. IsMarked (set marks i true) y) last.1 (mark_set marks i below))
        (push_cases reached i k x h);
    listed = λ j h. ⊎_elim
        (λ same. (length reached, subst (λ n. slice_get (reached ++ i ∷ []) (length reached) ≡ Some n) (sym same) (slice_get_push reached i)))
        (λ old. (let there = list.listed j old in (there.0, push_keeps reached i there.0 j there.1)))
        (mark_cases marks i j h);
  };
  same = length-set marks i true;
  stays = λ k x h. push_keeps reached i k x h;
  kept = λ j h. mark_kept marks i j below h;
  only = λ j h. ⊎_elim (λ same. inr (sym same)) (λ old. inl old) (mark_cases marks i j h);
  all = λ j e. subst (λ x. IsMarked (set marks i true) x) e (mark_set marks i below);
}

pub adds_then : (First Second Both : ℕ → Type 0) (reached reached' reached'' : List ℕ) (marks marks' marks'' : List Bool)
    → ((i : ℕ) → First i → Both i) → ((i : ℕ) → Second i → Both i) → ((i : ℕ) → Both i → First i ⊎ Second i)
    → Adds First reached reached' marks marks' → Adds Second reached' reached'' marks' marks'' → Adds Both reached reached'' marks marks''
adds_then First Second Both reached reached' reached'' marks marks' marks'' left right each first second = record {
  list = second.list;
  same = second.same ∙ first.same;
  stays = λ k x h. second.stays k x (first.stays k x h);
  kept = λ j h. second.kept j (first.kept j h);
  only = λ j h. ⊎_elim
      (λ a. ⊎_elim (λ old. inl old) (λ new. inr (left j new)) (first.only j a))
      (λ b. inr (right j b))
      (second.only j h);
  all = λ j is. ⊎_elim (λ a. second.kept j (first.all j a)) (λ b. second.all j b) (each j is);
}

pub adds_as : (Named Other : ℕ → Type 0) (reached reached' : List ℕ) (marks marks' : List Bool)
    → ((i : ℕ) → Named i → Other i) → ((i : ℕ) → Other i → Named i) → Adds Named reached reached' marks marks' → Adds Other reached reached' marks marks'
adds_as Named Other reached reached' marks marks' to from adds = record {
  list = adds.list;
  same = adds.same;
  stays = adds.stays;
  kept = adds.kept;
  only = λ j h. ⊎_elim (λ old. inl old) (λ new. inr (to j new)) (adds.only j h);
  all = λ j is. adds.all j (from j is);
}

among_none : (i : ℕ) → IsAmong [] i → ⊥
among_none i among = cc

pub adds_no_arguments : (args : List Arg) (reached : List ℕ) (marks : List Bool) → IsList reached marks → Adds (IsAmong (take 0 args)) reached reached marks marks
adds_no_arguments args reached marks list = adds_none reached marks (IsAmong []) list among_none

-- one more argument
pub adds_argument : (args : List Arg) (arg : Arg) (reached reached' reached'' : List ℕ) (marks marks' marks'' : List Bool)
    → Adds (IsAmong args) reached reached' marks marks' → Adds (λ i. arg.flow.0 ≡ i) reached' reached'' marks' marks'' → Adds (IsAmong (args ++ arg ∷ [])) reached reached'' marks marks''
adds_argument args arg reached reached' reached'' marks marks' marks'' first second =
    adds_then (IsAmong args) (λ i. arg.flow.0 ≡ i) (IsAmong (args ++ arg ∷ [])) reached reached' reached'' marks marks' marks''
    (λ i a. record { index = a.index; arg = a.arg; found = push_keeps args arg a.index a.arg a.found; is = a.is })
    (λ i e. record { index = length args; arg = arg; found = slice_get_push args arg; is = e })
    (λ i a. ⊎_elim
    (λ old. inl (record { index = a.index; arg = a.arg; found = old; is = a.is }))
    (λ last. inr (ap (λ x. x.flow.0) last.1 ∙ a.is))
    (push_cases args arg a.index a.arg a.found))
    first second

pub adds_next : (args : List Arg) (k : ℕ) (d : Arg) (reached reached' reached'' : List ℕ) (marks marks' marks'' : List Bool) → k < length args
    → Adds (IsAmong (take k args)) reached reached' marks marks' → Adds (λ i. (get_or args k d).flow.0 ≡ i) reached' reached'' marks' marks''
    → Adds (IsAmong (take (k + 1) args)) reached reached'' marks marks''
adds_next args k d reached reached' reached'' marks marks' marks'' below first second =
    rw (take_more args k d below) (adds_argument (take k args) (get_or args k d) reached reached' reached'' marks marks' marks'' first second)

-- what the list of sources says that a flow uses, it uses
pub use_of_names : (p : FlatProgram) (all : List Source) (d : Source) (i j : ℕ) → i < length all → Names p (get_or all i d) j → UsesBy p all i j
use_of_names p all d i j below names = record { source = get_or all i d; found = slice_get-get_or all i d below; names = names }

none_marked : (marks : List Bool) → IsList [] marks → (i : ℕ) → IsMarked marks i → ⊥
none_marked marks list i h = (let there = list.listed i h in cc (there.1))

pub search_begun : (p : FlatProgram) (all : List Source) (d : Source) (from : ℕ) (reached : List ℕ) (marks marks' : List Bool) → from < length all → length marks ≡ length all
    → IsList [] marks → Adds (Names p (get_or all from d)) [] reached marks marks' → IsUnderWay (UsesBy p all) (length all) from 0 reached marks'
search_begun p all d from reached marks marks' below len none adds = record {
  list = adds.list;
  len = adds.same ∙ len;
  few = omega arith;
  led = λ i h. ⊎_elim (λ old. absurd (none_marked marks none i old)) (λ named. once from i (use_of_names p all d from i below named)) (adds.only i h);
  first = λ i u. adds.all i (names_of_use p all d from i u);
  closed = λ k x low. absurd (omega arith);
}

pub search_goes_on : (p : FlatProgram) (all : List Source) (d : Source) (from done x : ℕ) (reached reached' : List ℕ) (marks marks' : List Bool)
    → IsUnderWay (UsesBy p all) (length all) from done reached marks → slice_get reached done ≡ Some x → Adds (Names p (get_or all x d)) reached reached' marks marks'
    → IsUnderWay (UsesBy p all) (length all) from (done + 1) reached' marks'
search_goes_on p all d from done x reached reached' marks marks' way at adds =
    let marked = way.list.marked done x at in
    let within = marked_within marks x marked in
    let below : x < length all = rw (sym way.len) within in
    let at' = adds.stays done x at in
    let low = slice_get_within reached' done x at' in
    record {
      list = adds.list;
      len = adds.same ∙ way.len;
      few = omega arith;
      led = λ i h. ⊎_elim (λ old. way.led i old)
          (λ named. onward (UsesBy p all) from x i (way.led x marked) (once x i (use_of_names p all d x i below named))) (adds.only i h);
      first = λ i u. adds.kept i (way.first i u);
      closed = λ k y small here i u. ⊎_elim
          (λ lower.
          (let few = way.few in
          let old = element_at reached k (omega arith) in
          let there = adds.stays k old.0 old.1 in
          let same : y ≡ old.0 = cc in
          adds.kept i (way.closed k old.0 lower old.1 i (subst (λ z. UsesBy p all z i) same u))))
          (λ last.
          (let equal : k ≡ done = omega arith in
          let here' = subst (λ m. slice_get reached' m ≡ Some y) equal here in
          let same : y ≡ x = cc in
          adds.all i (names_of_use p all d x i (subst (λ z. UsesBy p all z i) same u))))
          (cases_lt k done);
    }

-- where what is marked uses what is marked alone, ways from it stay there
pub all_reached : (U : ℕ → ℕ → Type 0) (marks : List Bool) → ((i : ℕ) → IsMarked marks i → (j : ℕ) → U i j → IsMarked marks j)
    → (i j : ℕ) → Leads U i j → ((k : ℕ) → U i k → IsMarked marks k) → IsMarked marks j
all_reached U marks closed i j (once a b u) first = first j u
all_reached U marks closed i j (then a b c u rest) first = all_reached U marks closed b j rest (closed b (first b u))

pub search_ended : (U : ℕ → ℕ → Type 0) (n from done : ℕ) (reached : List ℕ) (marks : List Bool) → IsUnderWay U n from done reached marks → length reached ≤ done
    → (j : ℕ) → Leads U from j → IsMarked marks j
search_ended U n from done reached marks way end j leads =
    all_reached U marks (λ i h k u.
    (let there = way.list.listed i h in
    let low = slice_get_within reached there.0 i there.1 in
    let lower : there.0 < done = omega arith in
    way.closed there.0 i lower there.1 k u))
    from j leads way.first

pub source_there : (p : FlatProgram) (all : List Source) (d : Source) (i : ℕ) → AreSources p all → i < length all → IsSource p (get_or all i d)
source_there p all d i are below = are.each i (get_or all i d) (slice_get-get_or all i d below)

pub reached_within : (U : ℕ → ℕ → Type 0) (n from done : ℕ) (reached : List ℕ) (marks : List Bool) (x : ℕ) → IsUnderWay U n from done reached marks → slice_get reached done ≡ Some x → x < n
reached_within U n from done reached marks x way at = (let below = marked_within marks x (way.list.marked done x at) in rw (sym way.len) below)

-- where all that is named is marked, nothing is to do
pub adds_known : (reached : List ℕ) (marks : List Bool) (Named : ℕ → Type 0) → IsList reached marks → ((i : ℕ) → Named i → IsMarked marks i) → Adds Named reached reached marks marks
adds_known reached marks Named list known = record {
  list = list;
  same = refl;
  stays = λ k x h. h;
  kept = λ j h. h;
  only = λ j h. inl h;
  all = known;
}

among_argument : (p : FlatProgram) (k : ℕ) (args : List Arg) → AreArguments p k args → (i : ℕ) → IsAmong args i → IsArgument p k i
among_argument p k args of i a =
    record { app = of.app; applied = of.found; index = a.index; arg = a.arg; found = subst (λ l. slice_get l a.index ≡ Some a.arg) (sym of.are) a.found; is = a.is }

argument_among : (p : FlatProgram) (k : ℕ) (args : List Arg) → AreArguments p k args → (i : ℕ) → IsArgument p k i → IsAmong args i
argument_among p k args of i a =
    let one : a.app ≡ of.app = cc in
    let list : a.app.args ≡ args = ap (λ x. x.args) one ∙ of.are in
    record { index = a.index; arg = a.arg; found = subst (λ l. slice_get l a.index ≡ Some a.arg) list a.found; is = a.is }

pub adds_arguments : (p : FlatProgram) (k : ℕ) (args : List Arg) (reached reached' : List ℕ) (marks marks' : List Bool) → AreArguments p k args
    → Adds (IsAmong args) reached reached' marks marks' → Adds (IsArgument p k) reached reached' marks marks'
adds_arguments p k args reached reached' marks marks' of adds =
    adds_as (IsAmong args) (IsArgument p k) reached reached' marks marks' (among_argument p k args of) (argument_among p k args of) adds

pub opened_kept : (p : FlatProgram) (Named : ℕ → Type 0) (reached reached' : List ℕ) (marks marks' opened : List Bool) → AreOpened p marks opened
    → Adds Named reached reached' marks marks' → AreOpened p marks' opened
opened_kept p Named reached reached' marks marks' opened are adds = record { marked = λ k h i a. adds.kept i (are.marked k h i a) }

pub opened_set : (p : FlatProgram) (k : ℕ) (reached reached' : List ℕ) (marks marks' opened : List Bool) → AreOpened p marks opened
    → Adds (IsArgument p k) reached reached' marks marks' → AreOpened p marks' (set opened k true)
opened_set p k reached reached' marks marks' opened are adds = record {
  marked = λ m h i a. ⊎_elim
      (λ same. adds.all i (subst (λ n. IsArgument p n i) same a))
      (λ old. adds.kept i (are.marked m old i a))
      (mark_cases opened k m h);
}
