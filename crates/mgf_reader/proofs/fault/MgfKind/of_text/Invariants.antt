use Rattle.std.proofs.Common.{◌≡◌, drop}
use Rattle.std.specs.List.{find}
use Rattle.std.specs.Str.{bytes_eq}
use Rattle.mgf_reader.specs.declared.fault.TheConstants.{KINDS}
use Rattle.mgf_reader.specs.Fault.{kind_text, kind_of_text}
use Rattle.mgf_reader.proofs.fault.MgfKind.of_text.Given as goal

abbrev pub invariant-loop-kind : goal.invariant-loop-kind
invariant-loop-kind l = find (λ kind. bytes_eq (kind_text kind) l.text) (drop l.kind-index KINDS) ≡ kind_of_text l.text
