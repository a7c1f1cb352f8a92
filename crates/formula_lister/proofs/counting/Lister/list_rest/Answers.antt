use Rattle.std.proofs.Common.{◌∷◌, [], List, ℕ, arith, slice_set, ap, ◌∙◌}
use Rattle.std.proofs.lemmas.Result.{on_ok_weaker}
use Rattle.formula_lister.specs.inside.Counting.{Completes, IsOne}
use Rattle.formula_lister.proofs.Gaining.{Gains-as, Overfills-as}
use Rattle.formula_lister.proofs.Pairs.{atoms_beside, Gains-unfit, IsOnly-fit}
use Rattle.formula_lister.proofs.counting.Lister.list_rest.Goals as goal

pub returns-then-rest-self-clause-gains : goal.returns-then-rest-self-clause-gains
returns-then-rest-self-clause-gains g c =
    Gains-unfit c.args.self.now.bounds c.args.self.now.sieve.now.rules.items c.args.next.now c.args.last.now
    c.args.chosen.now c.args.rest.now c.args.list.now.items c.requires.ready c.requires.level c.requires.within_limit
    c.requires.reached (λ within fits. absurd (omega (arith, fits)))

pub returns-then-atoms-last-clause-gains : goal.returns-then-atoms-last-clause-gains
returns-then-atoms-last-clause-gains g c =
    Gains-unfit c.args.self.now.bounds c.args.self.now.sieve.now.rules.items c.args.next.now c.args.last.now
    c.args.chosen.now c.args.rest.now c.args.list.now.items c.requires.ready c.requires.level c.requires.within_limit
    c.requires.reached (λ within fits. absurd (omega (arith, within)))

pub returns-clause-gains : goal.returns-clause-gains
returns-clause-gains g c =
    let bounds = c.args.self.now.bounds in
    let rules = c.args.self.now.sieve.now.rules.items in
    let next = c.args.next.now in
    let last = c.args.last.now in
    let further = slice_set c.args.chosen.now.formula next.place c.args.rest.now.count in
    let only =
    IsOnly-fit bounds rules next last c.args.chosen.now c.args.rest.now c.with.result c.requires.ready c.requires.level
    c.requires.within_limit c.requires.reached c.if-atoms-last.false c.if-rest-self.false
    (c.with.ensures ∙ ap (λ (f : List ℕ). slice_set f last.place (atoms_beside next c.args.rest.now))
    c.with-formula.ensures) in
    on_ok_weaker c.add.result
    (λ gains. Gains-as (IsOne rules c.with.result) (Completes bounds rules (last ∷ []) further) c.args.list.now.items
    c.add.new.list.items gains only.of_one only.one)
    c.add.ensures.gains

pub returns-clause-too_many : goal.returns-clause-too_many
returns-clause-too_many g c = λ fault.
    let bounds = c.args.self.now.bounds in
    let rules = c.args.self.now.sieve.now.rules.items in
    let next = c.args.next.now in
    let last = c.args.last.now in
    let only =
    IsOnly-fit bounds rules next last c.args.chosen.now c.args.rest.now c.with.result c.requires.ready c.requires.level
    c.requires.within_limit c.requires.reached c.if-atoms-last.false c.if-rest-self.false
    (c.with.ensures ∙ ap (λ (f : List ℕ). slice_set f last.place (atoms_beside next c.args.rest.now))
    c.with-formula.ensures) in
    Overfills-as (IsOne rules c.with.result)
    (Completes bounds rules (last ∷ []) (slice_set c.args.chosen.now.formula next.place c.args.rest.now.count))
    c.args.list.now.items (c.add.ensures.too_many fault) only.of_one
