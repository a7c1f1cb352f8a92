use Rattle.std.proofs.Common.{◌≡◌, ◌∙◌, ◌+◌, suc, sym, ap, arith}
use Rattle.std.specs.Str.{bytes_eq}
use Rattle.mgf_reader.specs.declared.fault.TheConstants.{KINDS}
use Rattle.mgf_reader.specs.Fault.{kind_text}
use Rattle.mgf_reader.proofs.KindOf.{find-past}
use Rattle.mgf_reader.proofs.fault.MgfKind.of_text.Goals as goal

pub loop-kind-preserved : goal.loop-kind-preserved
loop-kind-preserved c =
    let text = c.args.text.now in
    let fails = ap (λ word. bytes_eq word text) (sym (c.as_bytes.ensures.value ∙ c.text.ensures)) ∙ sym c.eq.ensures
    ∙ c.if-eq.false in
    let next : c.loop-kind.kind-index + 1 ≡ suc c.loop-kind.kind-index = omega arith in
    rw next (find-past (λ kind. bytes_eq (kind_text kind) text) KINDS c.loop-kind.kind-index _ (omega arith) fails
    ∙ c.loop-kind.invariant)
