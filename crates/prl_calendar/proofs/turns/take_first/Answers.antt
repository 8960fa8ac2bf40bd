use Rattle.prl_base.proofs.Standard.{◌≤◌, ◌∷◌, ◌∙◌, ℕ, List, ap, subst, Contains, IsNonDecreasingBy}
use Rattle.std.specs.List.{All}
use Rattle.prl_calendar.specs.Turns.{Turn, date_of}
use Rattle.prl_calendar.proofs.Queued.{front_is}
use Rattle.prl_calendar.proofs.turns.take_first.Goals as goal

pub returns-clause-some : goal.returns-clause-some
returns-clause-some c =
    let e : Turn = c.in_ok-first.field-0 in
    let rest : List Turn = c.pop_front.new.self.items in
    let items = c.in_ok-first.ensures.items in
    let there = subst (λ t. (h : ℕ) × Contains c.args.queue.now.items (record { 0 = (t, h) })) c.if-first-date.true c.in-Some.ensures.there in
    items ∙ ap (λ f. f ∷ rest) (front_is c.args.date e rest (subst (IsNonDecreasingBy date_of) items c.requires.order) (subst (All (λ f. c.args.date ≤ date_of f)) items c.requires.late)
    (subst (λ xs. (h : ℕ) × Contains xs (record { 0 = (c.args.date, h) })) items there))
