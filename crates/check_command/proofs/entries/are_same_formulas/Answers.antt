use Rattle.std.specs.Str.{bytes_eq}
use Rattle.std.proofs.lemmas.Slice.Eq.{bytes_eq-Decides, slice_eq-Decides}
use Rattle.check_command.proofs.entries.are_same_formulas.Goals as goal

pub returns : goal.returns
returns c = slice_eq-Decides {E = bytes_eq} bytes_eq-Decides c.args.formulas.now c.args.others.now c.eq.result
    c.eq.ensures
