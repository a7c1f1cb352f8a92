use Rattle.check_command.proofs.IsDocumentPlace.{not_right}
use Rattle.entry_checker.proofs.IsEntryVerdict.{no_entry_place}
use Rattle.check_command.proofs.laws.a_rejected_document_is_not_right.Goals as goal

pub returns : goal.returns
returns c settings text spectra fault another document number place reads is right =
    not_right no_entry_place c.a_spectrum_has_one_outline.ensures c.a_text_is_read_one_way.ensures.whole settings text
    spectra
    fault another document number place reads is right
