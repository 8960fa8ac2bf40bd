use Rattle.std.proofs.Common.{◌∙◌, sym}
use Rattle.prl_terms.proofs.Meeting.{apart_known, apart_both, known_meets, wanted_meets, found_meets, both_meet, same_meets}
use Rattle.prl_terms.proofs.solving.Marks.meet.Goals as goal

pub returns-in-Known-Known-clause-meets : goal.returns-in-Known-Known-clause-meets
returns-in-Known-Known-clause-meets c =
    known_meets c.args.self.now.marks.items c.args.rule c.in-Known-Known.wanted c.in-Known-Known.found c.equal.result c.requires.kept.settled
    record { wanted_is = sym c.mark.ensures ∙ c.in-Known-Known.is-0; found_is = sym c.mark-2.ensures ∙ c.in-Known-Known.is-1 }
    c.equal.ensures.same c.equal.ensures.other

pub returns-in-Known-Parameter-clause-meets : goal.returns-in-Known-Parameter-clause-meets
returns-in-Known-Parameter-clause-meets c =
    let e = sym c.mark-2.ensures ∙ c.in-Known-Parameter.is-1 in
    found_meets c.args.self.now.marks.items c.join.new.self.marks.items c.args.rule c.in-Known-Parameter.a _ c.join.result
    record { wanted_is = sym c.mark.ensures ∙ c.in-Known-Parameter.is-0; found_is = e }
    (apart_known c.requires.kept.settled c.args.rule.found c.in-Known-Parameter.a c.in-Known-Parameter.ty c.requires.fits.1 e)
    c.join.ensures.replaced c.join.ensures.memory

pub returns-in-Parameter-Known-clause-meets : goal.returns-in-Parameter-Known-clause-meets
returns-in-Parameter-Known-clause-meets c =
    let j = c.join-in-Parameter-Known in
    let e = sym c.mark.ensures ∙ c.in-Parameter-Known.is-0 in
    wanted_meets c.args.self.now.marks.items j.new.self.marks.items c.args.rule c.in-Parameter-Known.a _ j.result
    record { wanted_is = e; found_is = sym c.mark-2.ensures ∙ c.in-Parameter-Known.is-1 }
    (apart_known c.requires.kept.settled c.args.rule.wanted c.in-Parameter-Known.a c.in-Parameter-Known.ty c.requires.fits.0 e)
    j.ensures.replaced j.ensures.memory

pub returns-then-a-b-clause-meets : goal.returns-then-a-b-clause-meets
returns-then-a-b-clause-meets c =
    same_meets c.args.self.now.marks.items c.args.rule c.in-Parameter-Parameter.a c.in-Parameter-Parameter.b
    record { wanted_is = sym c.mark.ensures ∙ c.in-Parameter-Parameter.is-0; found_is = sym c.mark-2.ensures ∙ c.in-Parameter-Parameter.is-1 }
    c.if-a-b.true

pub returns-else-a-b-clause-meets : goal.returns-else-a-b-clause-meets
returns-else-a-b-clause-meets c =
    let e = sym c.mark.ensures ∙ c.in-Parameter-Parameter.is-0 in
    let f = sym c.mark-2.ensures ∙ c.in-Parameter-Parameter.is-1 in
    both_meet c.args.self.now.marks.items c.join_classes.new.self.marks.items c.args.rule c.in-Parameter-Parameter.a c.in-Parameter-Parameter.b c.join_classes.result
    record { wanted_is = e; found_is = f }
    (apart_both c.requires.kept.settled c.args.rule.wanted c.args.rule.found c.in-Parameter-Parameter.a c.in-Parameter-Parameter.b c.requires.fits.0 c.requires.fits.1 e f c.if-a-b.false)
    c.join_classes.ensures.joined c.join_classes.ensures.memory
