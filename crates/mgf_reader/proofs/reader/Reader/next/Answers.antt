use Rattle.std.proofs.Common.{◌≡◌, ◌∷◌, ◌++◌, [], List, Option, Some, None, MatchOption, sym, ap, subst, ◌∙◌}
use Rattle.std.specs.Option.{option_to_list}
use Rattle.mgf_reader.specs.Spectrum.{SpectrumValue}
use Rattle.mgf_reader.specs.Stands.{Stands}
use Rattle.mgf_reader.proofs.ReaderAnswers.{reader_of}
use Rattle.mgf_reader.proofs.TakesIn.{stands-taken}
use Rattle.mgf_reader.proofs.reader.Reader.next.Goals as goal

taken-list : (result : Option SpectrumValue) (old new : List SpectrumValue)
    → MatchOption result ((old ≡ []) × (new ≡ [])) (λ spectrum. old ≡ spectrum ∷ new)
    → old ≡ option_to_list result ++ new
taken-list None old new taken = taken.0 ∙ sym taken.1
taken-list (Some spectrum) old new taken = taken

pub returns-clause-stands : goal.returns-clause-stands
returns-clause-stands c = λ text out stands.
    let inside = c.self.inside in
    let taken = taken-list c.next.result inside.cutter.lines.waiting c.next.new.self.lines.waiting
    c.next.ensures.taken in
    stands-taken (reader_of inside.fed inside.ended inside.failed inside.cutter)
    (reader_of inside.fed inside.ended inside.failed c.next.new.self) text out (option_to_list c.next.result) taken
    (ap (reader_of inside.fed inside.ended inside.failed) c.next.ensures.others)
    (subst (λ r. Stands r text out) (sym c.self.view_is) stands)
