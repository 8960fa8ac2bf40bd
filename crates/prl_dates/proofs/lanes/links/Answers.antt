use Rattle.prl_base.proofs.Standard.{◌≡◌, ◌+◌, ◌<◌, ◌++◌, w64, to_z, of_z, ℕ, List, [], ◌∷◌, length, get_or, Some, inl, inr, refl, sym, ap, subst, ◌∙◌, arith, ℤ, pos, slice_get, to_z-of_z}
use Rattle.prl_plan.specs.Graphs.{IsWellFormed}
use Rattle.prl_plan.specs.declared.graphs.TaskGraph.{TaskGraph}
use Rattle.prl_dates.specs.Vocabulary.{Link, jobs_of, IsGreatestBefore, AreGreatest, IsLinkOf}
use Rattle.prl_dates.proofs.LaneSteps.{got_pushed, are_near, near_fits, greatest_all}
use Rattle.prl_dates.proofs.lanes.links.Goals as goal

-- the number of a link fits
fits_here : (graph : TaskGraph) (good : IsWellFormed graph) (i j : ℕ) → i < length graph.tasks → j < length graph.tasks → (numbers : List ℤ) →
    AreGreatest graph i j (length graph.edges) numbers → (n : ℕ) → n < jobs_of graph j →
    to_z w64 (of_z w64 (get_or numbers n (pos 0))) ≡ get_or numbers n (pos 0)
fits_here graph good i j from to numbers are n below =
    to_z-of_z w64 (get_or numbers n (pos 0))
    (near_fits graph good i j n (get_or numbers n (pos 0)) from
    (are_near graph good i j n (get_or numbers n (pos 0)) from to below (greatest_all graph good i j numbers are n below)))

pub link_of-requires-clause-greatest : goal.link_of-requires-clause-greatest
link_of-requires-clause-greatest c =
    let graph = c.args.graph.now in
    let below : c.loop-n.n < jobs_of graph c.args.to.0 = omega (arith, c.requires.greatest.long) in
    subst (λ (z : ℤ). IsGreatestBefore graph c.args.from.0 c.args.to.0 (pos c.loop-n.n) z)
    (sym (fits_here graph c.requires.well c.args.from.0 c.args.to.0 c.requires.from c.requires.to c.args.numbers.now c.requires.greatest c.loop-n.n below))
    (greatest_all graph c.requires.well c.args.from.0 c.args.to.0 c.args.numbers.now c.requires.greatest c.loop-n.n below)

pub loop-n-preserved : goal.loop-n-preserved
loop-n-preserved c =
    let graph = c.args.graph.now in
    let below : c.loop-n.n < jobs_of graph c.args.to.0 = omega (arith, c.requires.greatest.long) in
    let here : IsLinkOf graph c.args.from.0 c.args.to.0 (pos c.loop-n.n) (get_or c.args.numbers.now c.loop-n.n (pos 0)) c.link_of.result =
    subst (λ (z : ℤ). IsLinkOf graph c.args.from.0 c.args.to.0 (pos c.loop-n.n) z c.link_of.result)
    (fits_here graph c.requires.well c.args.from.0 c.args.to.0 c.requires.from c.requires.to c.args.numbers.now c.requires.greatest c.loop-n.n below) c.link_of.ensures in
    record {
      long = ap (λ (xs : List Link). length xs) c.in_ok-push.ensures.items ∙ longer c.loop-n.links.items c.link_of.result ∙ ap (λ (k : ℕ). k + 1) c.loop-n.invariant.long;
      each = λ k link at.
          elim (got_pushed c.loop-n.links.items c.link_of.result link k (subst (λ (xs : List Link). slice_get xs k ≡ Some link) c.in_ok-push.ensures.items at)) [
            | inl old ↦ c.loop-n.invariant.each k link old
            | inr new ↦
                (let e : c.loop-n.n ≡ k = omega (arith, new.0, c.loop-n.invariant.long) in
                subst (λ (x : ℕ). IsLinkOf graph c.args.from.0 c.args.to.0 (pos x) (get_or c.args.numbers.now x (pos 0)) link) e
                (subst (λ (x : Link). IsLinkOf graph c.args.from.0 c.args.to.0 (pos c.loop-n.n) (get_or c.args.numbers.now c.loop-n.n (pos 0)) x) new.1 here))
          ];
    }
  where
    longer : {A : Type 0} (xs : List A) (x : A) → length (xs ++ x ∷ []) ≡ length xs + 1
    longer [] x = refl
    longer (y ∷ xs) x = omega (arith, longer xs x)
