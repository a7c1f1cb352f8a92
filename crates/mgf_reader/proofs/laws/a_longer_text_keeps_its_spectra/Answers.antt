use Rattle.std.specs.Prelude.{◌++◌, List}
use Rattle.std.proofs.Common.{◌∙◌, ap, append_assoc}
use Rattle.mgf_reader.specs.Spectrum.{SpectrumValue}
use Rattle.mgf_reader.proofs.SoFar.{fault-goes, fault-ends, reading-breaks, reading-ends}
use Rattle.mgf_reader.proofs.laws.a_longer_text_keeps_its_spectra.Goals as goal

pub returns-clause-so_far : goal.returns-clause-so_far
returns-clause-so_far c text more spectra fault reads = reading-breaks text more spectra fault reads

pub returns-clause-whole : goal.returns-clause-whole
returns-clause-whole c text more spectra fault reads =
    let longer = reading-breaks text more spectra fault reads in
    let whole = reading-ends (text ++ more) longer.all longer.fault longer.reads in
    record {
      all = whole.all;
      fault = whole.fault;
      reads = whole.reads;
      part = (
        longer.part.0 ++ whole.part.0,
        whole.part.1 ∙ ap (λ (found : List SpectrumValue). found ++ whole.part.0) longer.part.1
            ∙ append_assoc spectra longer.part.0 whole.part.0,
      );
    }

pub returns-clause-fault : goal.returns-clause-fault
returns-clause-fault c text more spectra fault reads = (
  fault-goes text more spectra fault reads,
  fault-ends (text ++ more) spectra fault (fault-goes text more spectra fault reads),
)
