use Rattle.std.proofs.Common.{◌≡◌, ◌∙◌, ◌++◌, ◌-◌, [], ◌∷◌, drop, get_or, ap, sym, arith}
use Rattle.prl_shown.specs.Shown.{character_len, escape, first_text, shown_from}
use Rattle.prl_shown.proofs.Showing.{begins_is, goes_on_is, joined, plain_is}
use Rattle.prl_shown.proofs.bytes.push_byte.Goals as goal

pub returns-then-left-gt0 : goal.returns-then-left-gt0
returns-then-left-gt0 c =
    let rest = c.args.rest.now in
    joined c.args.text.now.items c.push.new.self.items (get_or rest 0 0 ∷ []) (shown_from c.args.lines (c.args.left - 1) (drop 1 rest)) (shown_from c.args.lines c.args.left rest)
    c.in_ok-push.ensures.items (goes_on_is c.args.lines c.args.left rest 0 c.requires c.if-left-gt0.true)

pub returns-then-len-eq0 : goal.returns-then-len-eq0
returns-then-len-eq0 c =
    let rest = c.args.rest.now in
    let none : c.args.left ≡ 0 = omega (arith, c.if-left-gt0.false) in
    let len : character_len c.args.lines rest ≡ 0 = sym c.character_len-len.ensures ∙ c.if-len-eq0.true in
    joined c.args.text.now.items c.push_escape.new.text.items (escape (get_or rest 0 0)) (shown_from c.args.lines 0 (drop 1 rest)) (shown_from c.args.lines c.args.left rest)
    c.in_ok-push_escape.ensures
    (ap (λ n. shown_from c.args.lines n rest) none ∙ begins_is c.args.lines rest 0 c.requires ∙ ap (λ n. first_text n (get_or rest 0 0) ++ shown_from c.args.lines (n - 1) (drop 1 rest)) len)

pub returns : goal.returns
returns c =
    let rest = c.args.rest.now in
    let none : c.args.left ≡ 0 = omega (arith, c.if-left-gt0.false) in
    let e = c.character_len-len.ensures in
    joined c.args.text.now.items c.push-2.new.self.items (get_or rest 0 0 ∷ []) (shown_from c.args.lines (c.character_len-len.result - 1) (drop 1 rest)) (shown_from c.args.lines c.args.left rest)
    c.in_ok-push-2.ensures.items
    (ap (λ n. shown_from c.args.lines n rest) none ∙ begins_is c.args.lines rest 0 c.requires ∙ ap (λ n. first_text n (get_or rest 0 0) ++ shown_from c.args.lines (n - 1) (drop 1 rest)) (sym e)
    ∙ ap (λ t. t ++ shown_from c.args.lines (c.character_len-len.result - 1) (drop 1 rest)) (plain_is c.character_len-len.result (get_or rest 0 0) (omega (arith, c.if-len-eq0.false))))
