use Rattle.std.proofs.Common.{subst, sym, ◌∙◌}
use Rattle.std.proofs.lemmas.Bool.{false≢true}
use Rattle.branch_search.specs.inside.Choosing.{IsBestBefore}
use Rattle.branch_search.proofs.Betters.{best-first, best-kept, best-new, best-passed}
use Rattle.branch_search.proofs.trees.better_of.Goals as goal

pub returns-then-not-may_take : goal.returns-then-not-may_take
returns-then-not-may_take c =
    best-passed c.args.graph.now c.args.allowed.now c.args.cert.now c.args.marks.now c.args.colour c.args.place
    c.args.best (λ is. false≢true (sym c.if-not-may_take.true ∙ c.may_take.ensures.1 is)) c.requires.best

pub returns-in-Some : goal.returns-in-Some
returns-in-Some c =
    best-kept c.args.graph.now c.args.allowed.now c.args.cert.now c.args.marks.now c.args.colour c.args.place
    c.in-Some.other (c.is_no_less.ensures.yes c.if-is_no_less.true)
    (subst (IsBestBefore c.args.graph.now c.args.allowed.now c.args.cert.now c.args.marks.now c.args.colour
    c.args.place) c.in-Some.is c.requires.best)

pub returns-in_default : goal.returns-in_default
returns-in_default c =
    best-new c.args.graph.now c.args.allowed.now c.args.cert.now c.args.marks.now c.args.colour c.args.place
    c.in-Some.other (c.is_no_less.ensures.no c.if-is_no_less.false) (c.may_take.ensures.0 c.if-not-may_take.false)
    (subst (IsBestBefore c.args.graph.now c.args.allowed.now c.args.cert.now c.args.marks.now c.args.colour
    c.args.place) c.in-Some.is c.requires.best)

pub returns-in_default-2 : goal.returns-in_default-2
returns-in_default-2 c =
    best-first c.args.graph.now c.args.allowed.now c.args.cert.now c.args.marks.now c.args.colour c.args.place
    (c.may_take.ensures.0 c.if-not-may_take.false)
    (subst (IsBestBefore c.args.graph.now c.args.allowed.now c.args.cert.now c.args.marks.now c.args.colour
    c.args.place) c.in_default.is c.requires.best)
