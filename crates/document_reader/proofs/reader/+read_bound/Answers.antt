use Rattle.std.proofs.Common.{◌≡◌, List, [], ◌∷◌, subst, sym}
use Rattle.tree_certificate.specs.declared.bound.Bound.TheVariants.{Split}
use Rattle.tree_certificate.specs.BoundView.{bound_value}
use Rattle.tree_document.specs.Document.{bound_lines}
use Rattle.line_reader.specs.Head.{bound_head_line}
use Rattle.tree_document.specs.Line.{potentials_line, prices_line}
use Rattle.line_fields.specs.Need.{follow, need_bound, need_potentials}
use Rattle.line_reader.specs.Verdict.{Took, next_needs}
use Rattle.document_reader.proofs.Sequence.{last_stops, last_took}
use Rattle.document_reader.proofs.Sides.{TookSplit, both_took, second_stops}
use Rattle.document_reader.proofs.reader.+read_bound.Goals as goal

pub returns-in-Err-read_bound-2 : goal.returns-in-Err-read_bound-2
returns-in-Err-read_bound-2 t c =
    let head : TookSplit c.args.under c.in-Split.colour c.in-Split.edges.items c.args.bytes.now c.in-Ok.both.1.now =
    subst (λ line. Took (need_bound c.args.under ∷ []) (next_needs
    (follow (need_bound c.args.under) (bound_head_line c.args.under line))) (bound_head_line c.args.under line ∷ [])
    c.args.bytes.now c.in-Ok.both.1.now) c.in-Split.is c.in-Ok.ensures.taken in
    second_stops c.args.under c.in-Split.colour c.in-Split.edges.items c.args.bytes.now c.in-Ok.both.1.now
    c.in-Ok-read_bound.both.1.now c.in-Ok-read_bound.both.0 c.in-Err-read_bound-2.stop
    head c.in-Ok-read_bound.ensures c.in-Err-read_bound-2.ensures

pub returns-in_ok-second-in-Split : goal.returns-in_ok-second-in-Split
returns-in_ok-second-in-Split t c =
    let head : TookSplit c.args.under c.in-Split.colour c.in-Split.edges.items c.args.bytes.now c.in-Ok.both.1.now =
    subst (λ line. Took (need_bound c.args.under ∷ []) (next_needs
    (follow (need_bound c.args.under) (bound_head_line c.args.under line))) (bound_head_line c.args.under line ∷ [])
    c.args.bytes.now c.in-Ok.both.1.now) c.in-Split.is c.in-Ok.ensures.taken in
    let edges : c.in-Split.edges.items ≡ c.in_ok-edges-in-Split.edges = sym c.in_ok-edges-in-Split.ensures in
    let first : c.in-Ok-read_bound.both.0 ≡ c.in_ok-first-in-Split.first = sym c.in_ok-first-in-Split.ensures in
    let second : c.in-Ok-read_bound-2.both.0 ≡ c.in_ok-second-in-Split.second = sym c.in_ok-second-in-Split.ensures in
    subst (λ (lines : List _). Took (need_bound c.args.under ∷ []) [] lines c.args.bytes.now
    c.in-Ok-read_bound-2.both.1.now)
    (λ i. bound_lines c.args.under (bound_value (Split c.in-Split.colour (edges i) (first i) (second i))))
    (both_took c.args.under c.in-Split.colour c.in-Split.edges.items c.args.bytes.now c.in-Ok.both.1.now
    c.in-Ok-read_bound.both.1.now c.in-Ok-read_bound-2.both.1.now
    c.in-Ok-read_bound.both.0 c.in-Ok-read_bound-2.both.0 head c.in-Ok-read_bound.ensures c.in-Ok-read_bound-2.ensures)

pub returns-in-Err-read_potentials : goal.returns-in-Err-read_potentials
returns-in-Err-read_potentials t c =
    let under = need_bound c.args.under in
    last_stops (under ∷ []) (need_potentials ∷ []) (prices_line c.in-Prices.prices.items ∷ []) c.args.bytes.now
    c.in-Ok.both.1.now c.in-Err-read_potentials.stop
    (subst (λ line. Took (under ∷ []) (next_needs (follow under (bound_head_line c.args.under line)))
    (bound_head_line c.args.under line ∷ []) c.args.bytes.now c.in-Ok.both.1.now) c.in-Prices.is c.in-Ok.ensures.taken)
    c.in-Err-read_potentials.ensures.taken

pub returns-in-Ok-read_potentials : goal.returns-in-Ok-read_potentials
returns-in-Ok-read_potentials t c =
    let under = need_bound c.args.under in
    let cert = c.in-Ok-read_potentials.both.0 in
    let same : c.in-Prices.prices.items ≡ cert.prices = sym c.in-Ok-read_potentials.ensures.prices in
    subst (λ (lines : List _). Took (under ∷ []) [] lines c.args.bytes.now c.in-Ok-read_potentials.both.1.now)
    (λ i. prices_line (same i) ∷ potentials_line cert.potentials ∷ [])
    (last_took (under ∷ []) (need_potentials ∷ []) (prices_line c.in-Prices.prices.items ∷ [])
    (potentials_line cert.potentials ∷ []) c.args.bytes.now c.in-Ok.both.1.now
    c.in-Ok-read_potentials.both.1.now
    (subst (λ line. Took (under ∷ []) (next_needs (follow under (bound_head_line c.args.under line)))
    (bound_head_line c.args.under line ∷ []) c.args.bytes.now c.in-Ok.both.1.now) c.in-Prices.is c.in-Ok.ensures.taken)
    c.in-Ok-read_potentials.ensures.taken)
