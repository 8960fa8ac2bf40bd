use Rattle.prl_base.proofs.Standard.{rules, vec_len, ◌≡◌, ◌≤◌, ◌==◌, ◌∙◌, Bool, true, false, ℕ, List, [], ◌∷◌, length, sym, ap, arith}
use Rattle.prl_dates.proofs.Rises.{lists_differ}
use Rattle.prl_dates.proofs.rounds.advance.Goals as goal

some_items : (xs : List ℕ) (empty : Bool) → empty ≡ (length xs == 0) → empty ≡ false → 1 ≤ length xs
some_items [] empty is filled = absurd (let e : ◌≡◌ {A = Bool} true false = sym is ∙ filled in cc)
some_items (x ∷ xs) empty is filled = omega arith

pub returns-clause-moves : goal.returns-clause-moves
returns-clause-moves c = λ some same.
    (let long : vec_len c.swap.new.x ≡ length c.swap.new.x.items = search rules in
    let filled : 1 ≤ length c.swap.new.x.items = some_items c.swap.new.x.items c.is_empty.result (c.is_empty.ensures ∙ ap (λ (n : ℕ). n == 0) long) some in
    let rose : 1 ≤ length c.round_listed.new.rises.items = omega (arith, filled, ap (λ v. length v.items) c.swap.ensures.x_after) in
    lists_differ c.args.now.now c.round_listed.new.next c.round_listed.new.rises.items c.in_ok-round_listed.ensures.lists rose (sym c.take_over.ensures ∙ same))
