use Rattle.prl_base.proofs.Standard.{◌≡◌, ◌*◌, ℕ, List, length, sym, subst, arith}
use Rattle.prl_dates.specs.Vocabulary.{AreRounds, AreSettled}
use Rattle.prl_dates.proofs.Repeats.{raised, rounds_up, repeated, raised_is, settled_raised}
use Rattle.prl_dates.proofs.leaps.leap.Goals as goal

pub repeats-times-requires-clause-same : goal.repeats-times-requires-clause-same
repeats-times-requires-clause-same c = sym (rounds_up c.args.graph.now c.args.lanes.now c.args.rounds c.args.past.now c.args.now.now c.requires.rounds).0

pub repeats-times-requires-clause-up : goal.repeats-times-requires-clause-up
repeats-times-requires-clause-up c = (rounds_up c.args.graph.now c.args.lanes.now c.args.rounds c.args.past.now c.args.now.now c.requires.rounds).1

pub raise_times-requires-clause-same : goal.raise_times-requires-clause-same
raise_times-requires-clause-same c = sym (rounds_up c.args.graph.now c.args.lanes.now c.args.rounds c.args.past.now c.args.now.now c.requires.rounds).0

pub raise_times-requires-clause-up : goal.raise_times-requires-clause-up
raise_times-requires-clause-up c = (rounds_up c.args.graph.now c.args.lanes.now c.args.rounds c.args.past.now c.args.now.now c.requires.rounds).1

pub returns-clause-rounds : goal.returns-clause-rounds
returns-clause-rounds c =
    let graph = c.args.graph.now in
    let lanes = c.args.lanes.now in
    let past : List ℕ = c.args.past.now in
    let now : List ℕ = c.args.now.now in
    let times : ℕ = c.repeats-times.result in
    let same : length past ≡ length now = sym (rounds_up graph lanes c.args.rounds past now c.requires.rounds).0 in
    let is : c.raise_times.new.now ≡ raised times past now now = raised_is graph lanes past now c.raise_times.new.now times same c.raise_times.ensures.long c.raise_times.ensures.each in
    subst (λ (xs : List ℕ). AreRounds graph lanes (times * c.args.rounds) now xs) (sym is)
    (repeated graph lanes past now c.args.rounds c.requires.rounds times (c.repeats-times.ensures.repeats (omega (arith, c.if-times-eq0.false))))

pub returns-clause-settled : goal.returns-clause-settled
returns-clause-settled c = λ risen settled.
    (let graph = c.args.graph.now in
    let lanes = c.args.lanes.now in
    let past : List ℕ = c.args.past.now in
    let now : List ℕ = c.args.now.now in
    let times : ℕ = c.repeats-times.result in
    let up = rounds_up graph lanes c.args.rounds past now c.requires.rounds in
    let is : c.raise_times.new.now ≡ raised times past now now = raised_is graph lanes past now c.raise_times.new.now times (sym up.0) c.raise_times.ensures.long c.raise_times.ensures.each in
    subst (λ (xs : List ℕ). AreSettled graph lanes risen xs) (sym is)
    (settled_raised graph lanes past now (sym up.0) times (c.repeats-times.ensures.repeats (omega (arith, c.if-times-eq0.false))) up.1 risen settled))
