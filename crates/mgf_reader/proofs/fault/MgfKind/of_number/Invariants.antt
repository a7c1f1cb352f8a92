use Rattle.std.proofs.Common.{◌≡◌, drop, nat_eq}
use Rattle.std.specs.List.{find}
use Rattle.mgf_reader.specs.declared.fault.TheConstants.{KINDS}
use Rattle.mgf_reader.specs.Fault.{kind_number, kind_of_number}
use Rattle.mgf_reader.proofs.fault.MgfKind.of_number.Given as goal

abbrev pub invariant-loop-kind : goal.invariant-loop-kind
invariant-loop-kind l = find (λ kind. nat_eq (kind_number kind) l.number) (drop l.kind-index KINDS)
    ≡ kind_of_number l.number
