use Rattle.prl_edf.proofs.PieceLists.{given_longer, given_more}
use Rattle.prl_edf.proofs.pieces.give.Goals as goal

pub returns-in_ok-push-in-Some : goal.returns-in_ok-push-in-Some
returns-in_ok-push-in-Some c =
    let given = given_longer c.args.pieces.now.items c.push-then-goes_on.new.self.items c.pop.new.self.items c.in-Some.last c.args.piece
    c.in-Some.ensures.items c.requires.longest c.requires.after c.requires.some c.in_ok-push-in-Some.ensures.items (c.if-goes_on.ensures.yes) in
    record { run = given.run; longest = given.longest; after = given.after }

pub returns-in_ok-push-in-Some-3 : goal.returns-in_ok-push-in-Some-3
returns-in_ok-push-in-Some-3 c =
    let given = given_more c.args.pieces.now.items c.push-else-goes_on-2.new.self.items c.pop.new.self.items c.in-Some.last c.args.piece
    c.in-Some.ensures.items c.requires.longest c.requires.after c.requires.some
    c.push-else-goes_on.new.self.items c.in_ok-push-in-Some-2.ensures.items c.in_ok-push-in-Some-3.ensures.items (c.if-goes_on.ensures.no) in
    record { run = given.run; longest = given.longest; after = given.after }
