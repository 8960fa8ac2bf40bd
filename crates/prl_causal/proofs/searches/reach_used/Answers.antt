use Rattle.std.proofs.Common.{◌≡◌, ℕ, Ok, Err}
use Rattle.std.specs.Result.{IfOk}
use Rattle.prl_causal.specs.code.Searches.{Adds, AreOpened}
use Rattle.prl_causal.proofs.Searching.{opened_kept}
use Rattle.prl_causal.proofs.searches.reach_used.Goals as goal

pub returns-in-Flow-clause-opened : goal.returns-in-Flow-clause-opened
returns-in-Flow-clause-opened c =
    let p = c.args.flat.now in
    let named = λ (i : ℕ). c.in-Flow.of.0 ≡ i in
    let reached = c.args.reached.now.items in
    let reached' = c.reach.new.reached.items in
    let marks = c.args.marks.now in
    let marks' = c.reach.new.marks in
    let opened = c.args.opened.now in
    elim c.reach.result as (λ r. IfOk r (λ done. Adds named reached reached' marks marks') → IfOk r (λ done. AreOpened p marks' opened)) [
      | Ok done ↦ λ h. opened_kept p named reached reached' marks marks' opened c.requires.search.opened h
      | Err e ↦ λ h. h
    ] c.reach.ensures
