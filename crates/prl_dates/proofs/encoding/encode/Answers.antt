use Rattle.prl_base.proofs.Standard.{◌≡◌, ◌+◌, ◌<◌, ◌≤◌, ℕ, List, length, sym, ap, subst, ◌∙◌, arith, slice_index, with_items_is}
use Rattle.prl_plan.specs.Vocabulary.{AreEncodedDates, task_at, HaveRoom, AreShortWindows}
use Rattle.prl_plan.specs.declared.tables.Window.{Window}
use Rattle.prl_dates.specs.Vocabulary.{Lane, jobs_of, jobs_before, AreFinal, IsFirstTable, AreUpperDates, LeaveAll, AreWindows}
use Rattle.prl_dates.specs.declared.bests.First.TheVariants as firsts
use Rattle.prl_dates.proofs.DateTables.{best_room, first_dates, dates_made, room_made, short_made}
use Rattle.prl_dates.proofs.Indices.{before_all}
use Rattle.prl_dates.proofs.encoding.encode.Goals as goal
use Rattle.prl_dates.proofs.encoding.encode.Goals.{After-as_mut_slice}

final : (c : After-as_mut_slice) → AreFinal c.args.graph.now c.in_ok-lanes.lanes.items c.in_ok-bests.bests.items
final c = subst (λ (xs : List Lane). AreFinal c.args.graph.now xs c.in_ok-bests.bests.items) c.as_slice.ensures.value c.in_ok-bests.ensures

pub lower_to_end-requires-clause-dates : goal.lower_to_end-requires-clause-dates
lower_to_end-requires-clause-dates c =
    let graph = c.args.graph.now in
    let lanes = c.in_ok-lanes.lanes.items in
    let bests = c.in_ok-bests.bests.items in
    let d = (goal.at.lower_to_end-requires-clause-dates c).After-as_mut_slice in
    subst (λ (xs : List ℕ). AreUpperDates graph xs c.as_mut_slice.result.now) (sym c.as_slice-4.ensures.value)
    (subst (λ (xs : List ℕ). AreUpperDates graph bests xs) (sym c.as_mut_slice.ensures.value)
    (first_dates graph c.requires lanes c.in_ok-lanes.ensures bests (final d) c.in_ok-tails.tails.items c.in_ok-tails.ensures (c.in_ok-tails.ensures.long ∙ before_all graph)))

pub windows-requires-clause-room : goal.windows-requires-clause-room
windows-requires-clause-room c =
    let graph = c.args.graph.now in
    let d = (goal.at.windows-requires-clause-room c).After-as_mut_slice in
    subst (λ (xs : List ℕ). (i p : ℕ) → i < length graph.tasks → p < jobs_of graph i → (task_at graph i).wcet ≤ slice_index xs (jobs_before graph i + p)) (sym c.as_slice-5.ensures.value)
    (best_room graph c.requires c.in_ok-lanes.lanes.items c.in_ok-lanes.ensures c.in_ok-bests.bests.items (final d))

pub returns-clause-dates : goal.returns-clause-dates
returns-clause-dates c =
    let graph = c.args.graph.now in
    let lanes = c.in_ok-lanes.lanes.items in
    let bests = c.in_ok-bests.bests.items in
    let tails = c.lower_to_end.new.dates in
    let d = (goal.at.returns-clause-dates c).After-as_mut_slice in
    let upper : AreUpperDates graph bests tails = subst (λ (xs : List ℕ). AreUpperDates graph xs tails) c.as_slice-4.ensures.value c.in_ok-lower_to_end.ensures.dates in
    let leave : LeaveAll graph lanes (length lanes) tails = subst (λ (xs : List Lane). LeaveAll graph xs (length xs) tails) c.as_slice-3.ensures.value c.in_ok-lower_to_end.ensures.asks in
    let long : length tails ≡ c.in_ok-tails.tails.len =
    (let u = upper.long in let t = c.in_ok-tails.ensures.long in let b = before_all graph in let o = c.in_ok-tails.tails.ok.0 in omega (arith, u, t, b, o)) in
    let same : c.as_slice-6.result.now ≡ tails = c.as_slice-6.ensures.value ∙ with_items_is c.in_ok-tails.tails tails long in
    let lists : AreWindows graph bests tails (length graph.tasks) c.in_ok-windows.windows =
    subst (λ (xs : List ℕ). AreWindows graph bests xs (length graph.tasks) c.in_ok-windows.windows) same
    (subst (λ (xs : List ℕ). AreWindows graph xs c.as_slice-6.result.now (length graph.tasks) c.in_ok-windows.windows) c.as_slice-5.ensures.value c.in_ok-windows.ensures) in
    subst (λ (ws : List (List Window)). AreEncodedDates graph ws × HaveRoom graph ws × AreShortWindows ws) (sym c.new.ensures) (
      dates_made graph c.requires lanes c.in_ok-lanes.ensures bests (final d) tails upper leave c.in_ok-windows.windows lists,
      room_made graph c.requires lanes c.in_ok-lanes.ensures bests (final d) tails upper leave c.in_ok-windows.windows lists,
      short_made graph c.requires lanes c.in_ok-lanes.ensures bests (final d) tails upper leave c.in_ok-windows.windows lists,
    )

pub returns-clause-narrow : goal.returns-clause-narrow
returns-clause-narrow c =
    let made = returns-clause-dates c in
    c.faults_tell_of_narrow_chains.ensures.room c.args.graph.now c.new.result made.0 made.1

pub bests-requires-clause-dues : goal.bests-requires-clause-dues
bests-requires-clause-dues c =
    subst (λ (xs : List ℕ). IsFirstTable c.args.graph.now firsts.Due (length c.args.graph.now.tasks) xs) (sym c.as_slice-2.ensures.value) c.in_ok-tails.ensures

pub lower_to_end-requires-clause-floor : goal.lower_to_end-requires-clause-floor
lower_to_end-requires-clause-floor c =
    let d = (goal.at.lower_to_end-requires-clause-floor c).After-as_mut_slice in
    let floor : LeaveAll c.args.graph.now c.in_ok-lanes.lanes.items (length c.in_ok-lanes.lanes.items) c.in_ok-bests.bests.items = λ l lane inside stands. (final d).still.asks l lane inside stands in
    subst (λ (xs : List ℕ). LeaveAll c.args.graph.now c.as_slice-3.result.now (length c.as_slice-3.result.now) xs) (sym c.as_slice-4.ensures.value)
    (subst (λ (xs : List Lane). LeaveAll c.args.graph.now xs (length xs) c.in_ok-bests.bests.items) (sym c.as_slice-3.ensures.value) floor)

pub windows-requires-clause-bests : goal.windows-requires-clause-bests
windows-requires-clause-bests c = ap (λ (xs : List ℕ). length xs) c.as_slice-5.ensures.value ∙ c.in_ok-bests.ensures.long
